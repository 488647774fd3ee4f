pub mod FieldsAdded
pub mod FieldsLeft
pub mod Variants
pub mod Prover
