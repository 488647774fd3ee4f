pub mod Putting
pub mod FirstKeys
pub mod RawTrees
pub mod RawLeaves
pub mod OpenedPairs
pub mod WrappedIds
pub mod ReadIds
