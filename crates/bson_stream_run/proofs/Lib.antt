pub mod Recast
pub mod Migrating
pub mod InParts
