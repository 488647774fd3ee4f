pub mod Documents
pub mod ReadBack
pub mod Lossy
