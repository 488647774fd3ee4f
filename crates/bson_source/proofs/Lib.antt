pub mod Pieces
pub mod First
