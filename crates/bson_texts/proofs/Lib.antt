pub mod Characters
pub mod Each
pub mod Loops
pub mod Mapped
pub mod MarkedLists
pub mod SlotsFilled
pub mod Texts
