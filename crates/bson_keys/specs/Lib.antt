pub mod Hashes
pub mod KeysView
pub mod Met
pub mod New
pub mod Places
