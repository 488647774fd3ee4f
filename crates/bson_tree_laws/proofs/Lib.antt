pub mod Puts
pub mod Wraps
pub mod Writers
pub mod Fitted
pub mod OneForm
pub mod Viewed
