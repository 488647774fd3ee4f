pub mod ParsedText
pub mod Viewed
pub mod Words
