mod RowBytes
mod NextRow
mod Sound
pub mod DigitsBack
mod LeadingOptions
pub mod AskedFor
mod RowsAsked
mod MadeRecast
mod RowsExpected
pub mod Headline
pub mod Settled
pub mod Again
