pub mod Joined
pub mod TreeSteps
