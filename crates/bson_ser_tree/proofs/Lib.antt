pub mod Refusals
pub mod Pushed
pub mod Before
pub mod VariantContents
pub mod Arms
pub mod Joined
pub mod Taken
