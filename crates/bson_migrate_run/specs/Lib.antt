pub mod Number
pub mod Migrating
pub mod Step
pub mod Lines
pub mod Rows
