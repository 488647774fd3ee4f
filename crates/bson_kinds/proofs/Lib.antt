pub mod Apart
pub mod Outcomes
pub mod Tests
pub mod Decisions
