pub mod Operands
pub mod Digits
pub mod CommandLine
