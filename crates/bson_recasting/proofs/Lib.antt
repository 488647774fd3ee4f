pub mod RecastErrors
mod AtOnce
pub mod Migrates
pub mod Again
