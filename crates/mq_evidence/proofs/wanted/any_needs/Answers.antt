use Rattle.std.proofs.Common.{◌||◌, ap, sym, ◌∙◌}
use Rattle.std.specs.List.{list_any}
use Rattle.mq_evidence.specs.Trailing.{needs}
use Rattle.mq_evidence.proofs.wanted.any_needs.Goals as goal

pub loop-key-init : goal.loop-key-init
loop-key-init c = ap (list_any (λ f. needs c.args.need f.0.rule)) (c.into_iter-key-iterator.ensures.into_iter_gives ∙ c.iter-key-items.ensures.rest)

pub loop-key-preserved : goal.loop-key-preserved
loop-key-preserved c =
    sym (ap (λ b. b || list_any (λ f. needs c.args.need f.0.rule) c.next.new.self) (sym c.needs.ensures ∙ c.if-needs.false))
    ∙ ap (list_any (λ f. needs c.args.need f.0.rule)) (sym c.in-Some.ensures.steps)
    ∙ c.loop-key.invariant

pub returns-then-needs : goal.returns-then-needs
returns-then-needs c =
    sym (ap (λ b. b || list_any (λ f. needs c.args.need f.0.rule) c.next.new.self) (sym c.needs.ensures ∙ c.if-needs.true))
    ∙ ap (list_any (λ f. needs c.args.need f.0.rule)) (sym c.in-Some.ensures.steps)
    ∙ c.loop-key.invariant

pub returns : goal.returns
returns c = ap (list_any (λ f. needs c.args.need f.0.rule)) (sym c.in-None.ensures.steps.0) ∙ c.loop-key.invariant
