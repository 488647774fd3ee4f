-- What the prover asks for and no definition needs: how it stores a form, that the shapes inside a shape are smaller, that `==` decides
-- equality, and what a search knows while it runs. Nothing here says what anything means.
pub mod StoredForm
pub mod ShapeFalls
pub mod Decided
pub mod Search
