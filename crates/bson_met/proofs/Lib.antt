pub mod Refusals
pub mod NodeKinds
pub mod Judging
pub mod Counts
pub mod NodeNulls
mod SeenAlike
mod Mending
