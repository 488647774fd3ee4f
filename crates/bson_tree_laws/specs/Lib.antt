pub mod TreeSpell
pub mod Alike
