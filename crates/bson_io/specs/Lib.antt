pub mod Ends
pub mod SteadySource
pub mod SteadySink
pub mod Memory
pub mod Adapters
pub mod Buffered
pub mod Output
