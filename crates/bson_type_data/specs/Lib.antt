pub mod Answers
pub mod Scalars
pub mod Extended
pub mod Trees
