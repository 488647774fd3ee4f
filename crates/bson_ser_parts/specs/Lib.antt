pub mod Taking
pub mod Documents
pub mod Pairs
pub mod Variants
pub mod Places
pub mod Fronts
pub mod PlaceView
pub mod Values
