pub mod ShapeWords
pub mod OneShape
pub mod OneWord
pub mod Inputs
pub mod Prepares
pub mod Answered
