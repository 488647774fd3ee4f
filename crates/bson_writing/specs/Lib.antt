pub mod Halting
pub mod Joined
pub mod Levels
