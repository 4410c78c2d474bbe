use Rattle.std.proofs.Common.{sym, ap, ◌∙◌, Ok, Err}
use Rattle.mq_ffi.specs.declared.answer.Trouble.TheVariants as troubles
use Rattle.mq_ffi.proofs.LivingLaws.{counted_places, places_or_absent, refused_places}
use Rattle.mq_ffi.proofs.live.Live.places.Goals as goal

pub returns-then-is_some : goal.returns-then-is_some
returns-then-is_some c = refused_places c.args.rule c.args.self.now (sym c.is_some.ensures ∙ c.if-is_some.true)

pub returns-in-Some : goal.returns-in-Some
returns-in-Some c =
    counted_places c.args.rule c.args.self.now c.places.result (Ok c.in-Some.places) (sym c.is_some.ensures ∙ c.if-is_some.false)
    (λ log. c.places.ensures.counted log) (sym (ap places_or_absent c.in-Some.is))

pub returns-in-None : goal.returns-in-None
returns-in-None c =
    counted_places c.args.rule c.args.self.now c.places.result (Err troubles.Absent) (sym c.is_some.ensures ∙ c.if-is_some.false)
    (λ log. c.places.ensures.counted log) (sym (ap places_or_absent c.in-None.is))
