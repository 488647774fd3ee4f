pub mod DateTexts
pub mod Calendar
pub mod ReadBack
