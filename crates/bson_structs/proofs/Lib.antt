pub mod Left
pub mod Added
