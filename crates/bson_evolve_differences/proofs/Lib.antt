pub mod Adding
pub mod Nonempty
pub mod Walks
pub mod Reaching
pub mod Going
pub mod Sure
