pub mod Leaves
pub mod Raw
pub mod Trees
