pub mod Join
pub mod Inferred
pub mod Above
pub mod Encodings
pub mod Recasts
