use Rattle.std.proofs.Common.{ap, sym, ◌∙◌, Some, None}
use Rattle.std.specs.List.{list_any}
use Rattle.std.specs.Option.{option_or}
use Rattle.mq_rules.specs.declared.rule.Rule.{Rule}
use Rattle.mq_rules.specs.declared.fault.Fault.{Fault}
use Rattle.mq_rules.specs.declared.faults.FaultKey.{FaultKey}
use Rattle.mq_rules.specs.Words.{only}
use Rattle.mq_rules.specs.Moments.{newest}
use Rattle.mq_rules.specs.Under.{seen}
use Rattle.mq_rules.specs.declared.evidence.Evidence.{Evidence}
use Rattle.mq_evidence.specs.Evidence.{found, reason}
use Rattle.mq_evidence.specs.Findings.{found_at}
use Rattle.mq_evidence.specs.Trailing.{is_explained}
use Rattle.mq_evidence.specs.ConnectionTrails.{is_on_connection}
use Rattle.mq_evidence.proofs.TrailLaws.{explained-more, explained-none, explained-rest}
use Rattle.mq_evidence.proofs.connection_trail.ConnectionTrail.explain.Goals as goal

pub loop-key-init : goal.loop-key-init
loop-key-init c = λ tested past trail k r.
    ap (λ fs. option_or (only (list_any (is_explained (is_on_connection tested.role) k r) fs) (Some (found (reason tested.role r) None None (newest (seen c.args.at c.args.note.now) past)))) (found_at c.args.findings.now k r))
    (c.into_iter-key-iterator.ensures.into_iter_gives ∙ c.at-key-items.ensures.rest)

pub loop-key-preserved : goal.loop-key-preserved
loop-key-preserved c = λ tested past trail k r.
    let ev : Rule → Evidence = λ rule. found (reason tested.role rule) None None (newest (seen c.args.at c.args.note.now) past) in
    let f : FaultKey × Fault = (c.in-Some.key.now, c.in-Some.field-0-1.now) in
    explained-rest (is_on_connection tested.role) ev f c.next.new.self (found_at c.loop-key.findings k r) (found_at c.loop-key.findings k r) k r
    (explained-none (is_on_connection tested.role) ev f (found_at c.loop-key.findings k r) k r (sym c.in_default.is ∙ c.find.ensures tested past trail))
    ∙ ap (λ fs. option_or (only (list_any (is_explained (is_on_connection tested.role) k r) fs) (Some (ev r))) (found_at c.loop-key.findings k r)) (sym c.in-Some.ensures.steps)
    ∙ c.loop-key.invariant tested past trail k r

pub loop-key-preserved-in-Continue-1 : goal.loop-key-preserved-in-Continue-1
loop-key-preserved-in-Continue-1 c = λ tested past trail k r.
    let ev : Rule → Evidence = λ rule. found (reason tested.role rule) None None (newest (seen c.args.at c.args.note.now) past) in
    let f : FaultKey × Fault = (c.in-Some.key.now, c.in-Some.field-0-1.now) in
    explained-rest (is_on_connection tested.role) ev f c.next.new.self (found_at c.loop-key.findings k r) (found_at c.add.new.self k r) k r
    (c.in_ok-add.ensures k r ∙ explained-more (is_on_connection tested.role) ev f c.in-Some-find.evidence (found_at c.loop-key.findings k r) k r (sym c.in-Some-find.is ∙ c.find.ensures tested past trail))
    ∙ ap (λ fs. option_or (only (list_any (is_explained (is_on_connection tested.role) k r) fs) (Some (ev r))) (found_at c.loop-key.findings k r)) (sym c.in-Some.ensures.steps)
    ∙ c.loop-key.invariant tested past trail k r

pub returns : goal.returns
returns c = λ tested past trail k r.
    ap (λ fs. option_or (only (list_any (is_explained (is_on_connection tested.role) k r) fs) (Some (found (reason tested.role r) None None (newest (seen c.args.at c.args.note.now) past)))) (found_at c.loop-key.findings k r)) (sym c.in-None.ensures.steps.0)
    ∙ c.loop-key.invariant tested past trail k r
