pub mod Listing
pub mod Ends
pub mod Lone
pub mod Short
pub mod Sizes
