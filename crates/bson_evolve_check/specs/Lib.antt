pub mod Steps
pub mod Placing
pub mod Peels
pub mod Numbering
pub mod Meeting
pub mod Searching
pub mod Checks
pub mod Printed
