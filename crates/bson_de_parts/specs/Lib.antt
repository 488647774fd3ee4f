pub mod AtKey
pub mod TreeContents
pub mod Enums
