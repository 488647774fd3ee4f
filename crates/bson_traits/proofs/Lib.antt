pub mod ShapesMade
pub mod Steps
pub mod MapSteps
