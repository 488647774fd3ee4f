pub mod ShapeOf
pub mod Laws
pub mod Sequences
pub mod Options
pub mod Maps
pub mod Structs
pub mod Prover
