use Rattle.std.proofs.Common.{◌≡◌, ap₂, sym}
use Rattle.mq_choice.specs.Choices.{wants_further}
use Rattle.mq_choice.proofs.ChosenLaws.{both, wants_all}
use Rattle.mq_choice.proofs.choice.Choice.further.Goals as goal

pub returns-in-All : goal.returns-in-All
returns-in-All c = rw (c.in-All.is) (sym wants_all)

pub returns-in-Listed : goal.returns-in-Listed
unfolding wants_further
returns-in-Listed c = rw (c.in-Listed.is) (ap₂ both c.has_any_on_request.ensures c.has_any_on_times.ensures)
