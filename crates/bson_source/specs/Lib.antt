pub mod Taken
pub mod FirstDocument
pub mod FromSource
