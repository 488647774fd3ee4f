pub mod Itself
pub mod Kept
pub mod Keys
pub mod Encoded
