pub mod CoverageLaws
pub mod JudgeLaws
pub mod StayLaws
pub mod RunnerLaws
pub mod GatheringLaws
pub mod WatchingLaws
pub mod TellingLaws
