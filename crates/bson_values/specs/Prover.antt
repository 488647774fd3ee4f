-- What the prover asks for and no definition needs: that `==` decides equality. Nothing here says what anything means.
pub mod Decided
