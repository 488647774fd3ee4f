pub mod Names
pub mod Parts
pub mod Left
mod TwoParts
mod Expressions
mod Law
mod Bounds
mod Given
pub mod Kept
