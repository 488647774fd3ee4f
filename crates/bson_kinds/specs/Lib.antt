pub mod Text
pub mod Piece
pub mod Kind
pub mod Reserved
pub mod Outcome
pub mod Places
pub mod Prover
