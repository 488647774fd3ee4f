pub mod RawView
pub mod View
pub mod Borrowed
pub mod MarkedView
pub mod Access
pub mod Prover
