pub mod Reversed
pub mod SegmentTexts
pub mod Segments
