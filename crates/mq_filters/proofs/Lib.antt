pub mod LiteralLaws
pub mod NearLaws
pub mod PatternLaws
pub mod StandLaws
