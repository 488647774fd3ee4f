pub mod Looks
pub mod Salvage
pub mod Window
pub mod Stops
pub mod Searches
pub mod Salvaged
pub mod Undamaged
pub mod Halted
