pub mod ListView
pub mod Listed
pub mod AcceptedView
pub mod Prover
