pub mod CommandLineLemmas
pub mod DigitLaws
