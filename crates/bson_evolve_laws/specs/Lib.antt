pub mod Placed
pub mod Rows
pub mod Compatible
pub mod Places
pub mod First
pub mod PlainTest
