-- For the contracts of functions inside this crate and their proofs; no public contract cites it.
pub mod Listed
