use Rattle.std.proofs.Common.{◌≡◌, ap, sym, ◌∙◌, Some, None}
use denote.Enum.Bare.{same_true}
use Rattle.mq_rules.specs.contracts.rule.Rule.{the_type}
use Rattle.mq_rules.specs.declared.rule.Rule.TheVariants.{B02}
use Rattle.mq_rules.specs.Words.{only}
use Rattle.mq_rules.specs.Moments.{newest}
use Rattle.mq_rules.specs.Under.{seen}
use Rattle.mq_evidence.specs.Evidence.{found, reason}
use Rattle.mq_evidence.specs.Trailing.{finds}
use Rattle.mq_evidence.proofs.trail.SessionTrail.find.Goals as goal

pub returns-then-eq : goal.returns-then-eq
returns-then-eq c = λ tested fate past is trail.
    let same : c.args.rule ≡ B02 = same_true the_type tt c.args.rule B02 (sym c.eq.ensures ∙ c.if-eq.true) in
    c.in_ok-evidence.ensures tested c.args.at fate past trail
    ∙ ap (λ r. only (finds c.args.self.now r) (Some (found (reason tested.role r) (Some fate) None (newest (seen c.args.at c.args.note.now) past)))) (sym same)

pub returns : goal.returns
returns c = λ tested fate past is trail. c.find_at_once.ensures tested fate past (sym c.eq.ensures ∙ c.if-eq.false) is trail
