pub mod Answers
pub mod Next
pub mod Due
pub mod Turn
pub mod Streamed
pub mod Closing
pub mod Halted
