pub mod Gives
pub mod Answers
pub mod Made
pub mod Taking
pub mod Steps
pub mod MadeView
pub mod Prover
