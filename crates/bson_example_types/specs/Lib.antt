pub mod Names
pub mod Cat
pub mod Pet
pub mod Person
pub mod Pedigree
