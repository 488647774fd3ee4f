pub mod Place
pub mod Indexes
pub mod FieldSlots
pub mod SlotsView
pub mod NextValue
pub mod FieldsRead
