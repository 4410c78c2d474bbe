pub mod Burden
pub mod Grouping
pub mod Kinds
pub mod Judging
