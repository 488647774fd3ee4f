pub mod Framed
pub mod Typed
pub mod FromSource
