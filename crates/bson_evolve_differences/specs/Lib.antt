pub mod Reasons
pub mod Mismatch
pub mod Differences
pub mod Reached
pub mod Views
pub mod Printed
pub mod Lists
