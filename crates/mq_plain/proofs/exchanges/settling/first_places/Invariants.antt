use Rattle.std.proofs.Common.{length, take}
use Rattle.std.specs.Prelude.{reverse}
use Rattle.mq_rules.specs.Moments.{note, IsPlaced}
use Rattle.mq_plain.specs.Shown.{IsShown}
use Rattle.mq_plain.specs.Unanswered.{is_first_in}
use Rattle.mq_plain.proofs.exchanges.settling.first_places.Given as goal

-- the places are those among the events so far
abbrev pub invariant-loop-i : goal.invariant-loop-i
invariant-loop-i g l = IsPlaced (reverse l.before) → IsShown (λ m. is_first_in g.X.Exchange.exchange l.slots (length m.past) (note m)) (reverse (take l.i l.before)) l.places.items
