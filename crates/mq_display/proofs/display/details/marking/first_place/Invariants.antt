use Rattle.std.proofs.Common.{◌≡◌, None}
use Rattle.mq_display.specs.Marking.{first_place, is_wrong}
use Rattle.mq_display.proofs.display.details.marking.first_place.Given as goal

abbrev pub invariant-loop-place : goal.invariant-loop-place
invariant-loop-place l = first_place (is_wrong l.rule l.text) l.place ≡ None
