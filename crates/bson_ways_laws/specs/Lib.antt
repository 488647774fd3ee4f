pub mod Ways
pub mod Simple
