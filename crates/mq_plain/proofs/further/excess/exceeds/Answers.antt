use Rattle.std.proofs.Common.{sym, ap, ◌∙◌}
use Rattle.std.specs.Prelude.{reverse}
use Rattle.mq_plain.specs.Excess.{room_after}
use Rattle.mq_plain.proofs.ExcessLaws.{exceeds-left, exceeds-none}
use Rattle.mq_plain.proofs.further.excess.exceeds.Goals as goal

pub returns-in-Some : goal.returns-in-Some
returns-in-Some c =
    c.exceeds_earlier.ensures
    ∙ exceeds-left c.args.event.now (reverse c.args.before.now) c.args.most c.in-Some.room (ap (room_after c.args.most) (sym c.counts_one.ensures) ∙ sym c.room_after.ensures ∙ c.in-Some.is)

pub returns-in-None : goal.returns-in-None
returns-in-None c = exceeds-none c.args.event.now (reverse c.args.before.now) c.args.most (ap (room_after c.args.most) (sym c.counts_one.ensures) ∙ sym c.room_after.ensures ∙ c.in-None.is)
