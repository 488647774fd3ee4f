pub mod Rawless
pub mod BuiltValues
