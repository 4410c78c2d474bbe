use Rattle.std.proofs.Common.{ap, sym, subst, ◌∙◌, ◌∷◌, Some, None, cond, length}
use Rattle.std.specs.Prelude.{is_some}
use Rattle.std.specs.Option.{option_or}
use Rattle.std.specs.FinMap.{entries}
use Rattle.mq_rules.specs.Connections.{latest_fate}
use Rattle.mq_rules.specs.Moments.{newest}
use Rattle.mq_rules.specs.Under.{seen, fate_before}
use Rattle.mq_evidence.specs.Evidence.{found, reason}
use Rattle.mq_evidence.specs.Findings.{found_at}
use Rattle.mq_evidence.specs.declared.wanted.Need.TheVariants.{Standing, Asked}
use Rattle.mq_evidence.specs.Trailing.{explained_at, finds, any_needs, IsTrail, IsExplained}
use Rattle.mq_evidence.proofs.ExplainLaws.{enough-found, explained-next}
use Rattle.mq_evidence.proofs.NextLaws.{next-longer}
use Rattle.mq_evidence.proofs.explaining.Explaining.take.Goals as goal

pub returns-clause-agrees : goal.returns-clause-agrees
returns-clause-agrees c = λ tested decided past under before.
    let f = c.args.fate in
    let e = seen c.args.at c.args.note.now in
    let old = c.args.self.now in
    let same = c.in_ok-explain.ensures.same in
    record {
      trail_is = c.in_ok-take.ensures.agrees tested decided past under (subst (λ t. IsTrail t tested (fate_before tested f e past) past) (sym same.1) before.trail_is);
      enough = c.in_ok-take.ensures.keeps ∙ ap (λ t. is_some t.subscriptions) same.1 ∙ before.enough ∙ ap (any_needs Standing) (sym same.0);
      enough_asked = c.in_ok-take.ensures.keeps_asked ∙ ap (λ t. is_some t.matching) same.1 ∙ before.enough_asked ∙ ap (any_needs Asked) (sym same.0);
      next_is = next-longer c.explain.new.self.next c.explain.new.self.wanted e past (c.in_ok-explain.ensures.next (length past) under.follows.placed.0 before.next_is);
      explained = subst (λ w. IsExplained w (found_at c.explain.new.self.findings) tested (Some f) (e ∷ past)) (sym same.0)
          (explained-next tested f e past old.wanted (finds old.trail) (found_at old.findings) (found_at c.explain.new.self.findings) (enough-found old.trail old.wanted before.enough before.enough_asked) before.explained
          (λ shut k r.
          c.in_ok-explain.ensures.closed shut tested f past under.follows.placed.0 before.next_is (subst (λ o. IsTrail old.trail tested o past) (ap (λ b. cond b (latest_fate tested.role past) (Some f)) shut) before.trail_is) k r
          ∙ ap (λ p. option_or (explained_at (finds old.trail) (entries old.wanted) p k r (found (reason tested.role r) (Some f) None (newest e past))) (found_at old.findings k r)) under.follows.placed.0)
          c.in_ok-explain.ensures.opened);
    }
