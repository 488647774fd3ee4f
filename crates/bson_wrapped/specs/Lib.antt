pub mod Bodies
pub mod Data
pub mod Fields
