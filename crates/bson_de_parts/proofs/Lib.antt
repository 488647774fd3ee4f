pub mod ClosedStructs
pub mod FieldPlaces
pub mod Nulls
pub mod Parts
pub mod VariantContents
pub mod Variants
pub mod MapKeys
pub mod TreeElements
