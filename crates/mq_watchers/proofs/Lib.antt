pub mod JudgingLaws
pub mod BurdenLaws
