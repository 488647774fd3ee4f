-- What the prover asks for and no definition needs: how it stores an element, a walk and a cut. Nothing here says what anything means.
pub mod Stored
