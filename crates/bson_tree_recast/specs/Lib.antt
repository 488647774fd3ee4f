pub mod Recast
pub mod Printed
pub mod ByTree
pub mod Ways
