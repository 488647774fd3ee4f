pub mod Again
pub mod Edits
pub mod Kept
pub mod InPlace
pub mod Twice
