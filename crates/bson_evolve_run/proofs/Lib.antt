pub mod WordLines
pub mod Answering
