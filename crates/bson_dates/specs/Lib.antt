pub mod DateText
pub mod DateFront
pub mod DatePrinted
