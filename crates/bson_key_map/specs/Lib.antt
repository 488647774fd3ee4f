pub mod formers
pub mod Keys
pub mod Prover
pub mod Stored
