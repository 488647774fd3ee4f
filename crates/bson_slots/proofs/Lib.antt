pub mod Places
pub mod MarkedFields
pub mod Finished
pub mod Elements
pub mod NextParts
