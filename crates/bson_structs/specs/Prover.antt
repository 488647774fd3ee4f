pub mod Stored
pub mod VariantsBack
