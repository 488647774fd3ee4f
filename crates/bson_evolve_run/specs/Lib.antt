pub mod Number
pub mod Lines
pub mod TwoShapes
pub mod Rows
