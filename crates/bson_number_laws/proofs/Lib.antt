pub mod TameTrees
pub mod Numbers
pub mod GivenNumbers
pub mod RawNumbers
pub mod ReadNumbers
pub mod Documents
