-- What the prover asks for and no definition needs: how what a writer has made is told apart. Nothing here says what anything means.
pub mod StoredMade
