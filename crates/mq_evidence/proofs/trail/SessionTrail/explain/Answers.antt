use Rattle.std.proofs.Common.{ap, sym, ◌∙◌, Some, None}
use Rattle.std.specs.List.{list_any}
use Rattle.std.specs.Option.{option_or}
use Rattle.mq_rules.specs.declared.rule.Rule.{Rule}
use Rattle.mq_rules.specs.declared.fault.Fault.{Fault}
use Rattle.mq_rules.specs.declared.faults.FaultKey.{FaultKey}
use Rattle.mq_rules.specs.Words.{only}
use Rattle.mq_rules.specs.Moments.{newest}
use Rattle.mq_rules.specs.Under.{seen}
use Rattle.mq_rules.specs.declared.evidence.Evidence.{Evidence}
use Rattle.mq_evidence.specs.Evidence.{found, reason}
use Rattle.mq_evidence.specs.Findings.{found_at}
use Rattle.mq_evidence.specs.Trailing.{is_explained, finds}
use Rattle.mq_evidence.proofs.TrailLaws.{explained-more, explained-none, explained-rest}
use Rattle.mq_evidence.proofs.trail.SessionTrail.explain.Goals as goal

pub loop-key-init : goal.loop-key-init
loop-key-init c = λ tested fate past is trail k r.
    ap (λ fs. option_or (only (list_any (is_explained (finds c.args.self.now) k r) fs) (Some (found (reason tested.role r) (Some fate) None (newest (seen c.args.at c.args.note.now) past)))) (found_at c.args.findings.now k r))
    (c.into_iter-key-iterator.ensures.into_iter_gives ∙ c.at-key-items.ensures.rest)

pub loop-key-preserved : goal.loop-key-preserved
loop-key-preserved c = λ tested fate past is trail k r.
    let ev : Rule → Evidence = λ rule. found (reason tested.role rule) (Some fate) None (newest (seen c.args.at c.args.note.now) past) in
    let f : FaultKey × Fault = (c.in-Some.key.now, c.in-Some.field-0-1.now) in
    explained-rest (finds c.args.self.now) ev f c.next.new.self (found_at c.loop-key.findings k r) (found_at c.loop-key.findings k r) k r
    (explained-none (finds c.args.self.now) ev f (found_at c.loop-key.findings k r) k r (sym c.in_default.is ∙ c.in_ok-found.ensures tested fate past is trail))
    ∙ ap (λ fs. option_or (only (list_any (is_explained (finds c.args.self.now) k r) fs) (Some (ev r))) (found_at c.loop-key.findings k r)) (sym c.in-Some.ensures.steps)
    ∙ c.loop-key.invariant tested fate past is trail k r

pub loop-key-preserved-in-Continue-branch-2 : goal.loop-key-preserved-in-Continue-branch-2
loop-key-preserved-in-Continue-branch-2 c = λ tested fate past is trail k r.
    let ev : Rule → Evidence = λ rule. found (reason tested.role rule) (Some fate) None (newest (seen c.args.at c.args.note.now) past) in
    let f : FaultKey × Fault = (c.in-Some.key.now, c.in-Some.field-0-1.now) in
    explained-rest (finds c.args.self.now) ev f c.next.new.self (found_at c.loop-key.findings k r) (found_at c.add.new.self k r) k r
    (c.in_ok-add.ensures k r ∙ explained-more (finds c.args.self.now) ev f c.in-Some-found.evidence (found_at c.loop-key.findings k r) k r (sym c.in-Some-found.is ∙ c.in_ok-found.ensures tested fate past is trail))
    ∙ ap (λ fs. option_or (only (list_any (is_explained (finds c.args.self.now) k r) fs) (Some (ev r))) (found_at c.loop-key.findings k r)) (sym c.in-Some.ensures.steps)
    ∙ c.loop-key.invariant tested fate past is trail k r

pub returns : goal.returns
returns c = λ tested fate past is trail k r.
    ap (λ fs. option_or (only (list_any (is_explained (finds c.args.self.now) k r) fs) (Some (found (reason tested.role r) (Some fate) None (newest (seen c.args.at c.args.note.now) past)))) (found_at c.loop-key.findings k r)) (sym c.in-None.ensures.steps.0)
    ∙ c.loop-key.invariant tested fate past is trail k r
