pub mod Recasts
pub mod Words
pub mod Rows
pub mod Migrates
pub mod Parts
