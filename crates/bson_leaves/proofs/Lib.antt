pub mod AnyRead
pub mod KeyedEntries
pub mod KeyTexts
pub mod NumberLeaves
pub mod Variants
