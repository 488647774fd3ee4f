pub mod Writing
pub mod Halting
pub mod ContentsView
pub mod Binary
pub mod Decoding
pub mod Sorting
