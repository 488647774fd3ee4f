pub mod RawValueView
pub mod FirstKeyView
pub mod BodyView
pub mod Putting
pub mod BuiltView
