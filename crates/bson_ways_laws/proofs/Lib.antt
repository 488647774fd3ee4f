mod BothWays
mod Likes
mod LikeTrees
mod LikeReads
mod DocumentLike
mod Freed
mod GivenAlike
mod WaysUnrolled
pub mod TwoWays
mod Twins
mod QuietBytes
mod SimpleWrites
pub mod Simple
