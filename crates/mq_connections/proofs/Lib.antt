pub mod AtPlaceLaws
pub mod ByteFaultLaws
pub mod ByteTallyLaws
mod ClocksLaws
mod DutiesLaws
mod DutyLaws
pub mod FindLaws
pub mod HarmlessLaws
pub mod HarmlessTestsLaws
pub mod JudgeLaws
mod LaterLaws
mod MannersLaws
pub mod TallyLaws
mod TermsLaws
mod UnfinishedLaws
pub mod WatchLaws
