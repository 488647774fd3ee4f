pub mod Moves
pub mod NumberViews
pub mod Plain
pub mod Present
pub mod Walks
