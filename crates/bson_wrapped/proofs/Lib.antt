pub mod DateBodies
pub mod Filled
pub mod Placed
pub mod Made
pub mod Numbers
