pub mod Leaves
pub mod ListsMarked
pub mod Passes
