pub mod Steps
pub mod Written
pub mod Ways
pub mod Numbers
