pub mod Listing
pub mod Again
pub mod Settled
pub mod WholeFiles
pub mod LinesExpected
