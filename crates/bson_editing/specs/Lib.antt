pub mod Literal
pub mod Plan
pub mod PlanView
pub mod Edited
pub mod AroundView
pub mod Answers
pub mod Settled
