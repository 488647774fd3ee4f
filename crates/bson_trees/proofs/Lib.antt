pub mod ExtendedLeaves
pub mod ReadKinds
pub mod TreeData
pub mod WrappedKinds
