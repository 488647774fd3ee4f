pub mod Checks
pub mod Faults
pub mod Nested
pub mod Putting
pub mod PuttingDates
