pub mod Recast
pub mod ReadsUnrolled
pub mod Put
pub mod Free
pub mod Found
pub mod Run
