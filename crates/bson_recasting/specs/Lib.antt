pub mod Recasting
pub mod RefusedLines
