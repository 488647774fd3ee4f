pub mod Marks
pub mod Helpers
pub mod Dates
pub mod Prover
