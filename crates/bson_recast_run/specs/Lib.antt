pub mod Number
pub mod Made
pub mod Pieces
pub mod PrintedLines
pub mod Making
pub mod Options
pub mod Digits
pub mod Rows
