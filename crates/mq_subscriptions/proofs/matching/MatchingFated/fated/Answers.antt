use Rattle.std.proofs.Common.{◌&&◌, ap, sym, ◌∙◌}
use Rattle.mq_rules.specs.Under.{seen}
use Rattle.mq_subscriptions.specs.Concerns.{has_delivery}
use Rattle.mq_subscriptions.proofs.matching.MatchingFated.fated.Goals as goal

pub returns-clause-agrees : goal.returns-clause-agrees
returns-clause-agrees g c = rw (sym c.as_ref-event.ensures) c.take_event.ensures.agrees

pub returns-clause-grows : goal.returns-clause-grows
returns-clause-grows g c = rw (sym c.as_ref-event.ensures) c.take_event.ensures.grows

pub returns-clause-memory : goal.returns-clause-memory
returns-clause-memory g c = rw (sym c.as_ref-event.ensures) c.take_event.ensures.memory

pub returns-then-not-self-clause-agrees : goal.returns-then-not-self-clause-agrees
returns-then-not-self-clause-agrees g c = λ tested past under q.
    (c.passes.ensures tested c.args.fate c.args.decided (seen c.args.at (g.E.Noted.note c.args.event.now)) past (ap (λ b. b && has_delivery (g.E.Noted.note c.args.event.now)) (sym q.0 ∙ c.if-not-self.true)) under q).stays

pub returns-then-not-self-clause-grows : goal.returns-then-not-self-clause-grows
returns-then-not-self-clause-grows g c = λ tested past under q.
    (c.passes.ensures tested c.args.fate c.args.decided (seen c.args.at (g.E.Noted.note c.args.event.now)) past (ap (λ b. b && has_delivery (g.E.Noted.note c.args.event.now)) (sym q.0 ∙ c.if-not-self.true)) under q).shows c.args.faults.now
