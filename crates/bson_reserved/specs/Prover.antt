-- What the prover asks for and no definition needs: how large a value is, by which a caller's recursion ends. Nothing here says what anything means.
pub mod Sized
