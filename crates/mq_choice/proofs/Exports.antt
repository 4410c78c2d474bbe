-- The laws on choices that the crates above cite.
pub use Rattle.mq_choice.proofs.ChosenLaws.{kept_chosen, usual_chosen, wants_all, wants_timed, wants_usual}
