-- What the prover asks for and no definition needs: how it stores a pair. Nothing here says what anything means.
pub mod Codes
