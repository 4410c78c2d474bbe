pub mod ProgramLemmas
pub mod ReviewingLemmas
pub mod PacketLaws
pub mod MessageLaws
pub mod BeginningLaws
pub mod ConvertingLaws
pub mod LapseLaws
pub mod InquiringLemmas
