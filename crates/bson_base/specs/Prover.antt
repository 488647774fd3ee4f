-- What the prover asks for and no definition needs: how it stores a tree, and that `==` decides equality. Nothing here says what anything means.
pub mod StoredTree
pub mod Decided
pub mod StoredRegex
