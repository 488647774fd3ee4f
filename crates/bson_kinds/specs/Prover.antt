-- What the prover asks for and no definition needs: how it stores a kind. Nothing here says what anything means.
pub mod Stored
pub mod KindBytes
