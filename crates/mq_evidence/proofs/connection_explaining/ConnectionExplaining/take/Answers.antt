use Rattle.std.proofs.Common.{ap, sym, subst, ◌∙◌, ◌∷◌, None, length}
use Rattle.std.specs.Option.{option_or}
use Rattle.std.specs.FinMap.{entries}
use Rattle.mq_rules.specs.Moments.{newest}
use Rattle.mq_rules.specs.Under.{seen}
use Rattle.mq_evidence.specs.Evidence.{found, reason}
use Rattle.mq_evidence.specs.Findings.{found_at}
use Rattle.mq_evidence.specs.Trailing.{explained_at}
use Rattle.mq_evidence.specs.ConnectionTrails.{is_on_connection, IsConnectionTrail, IsConnectionExplained}
use Rattle.mq_evidence.proofs.ConnectionLaws.{connection-explained-next}
use Rattle.mq_evidence.proofs.NextLaws.{next-longer}
use Rattle.mq_evidence.proofs.connection_explaining.ConnectionExplaining.take.Goals as goal

pub returns-clause-agrees : goal.returns-clause-agrees
returns-clause-agrees c = λ tested past is before.
    let e = seen c.args.at c.args.note.now in
    let old = c.args.self.now in
    let same = c.in_ok-explain.ensures.same in
    record {
      trail_is = c.take.ensures tested past is (subst (λ t. IsConnectionTrail t tested past) (sym same.1) before.trail_is);
      next_is = next-longer c.explain.new.self.next c.explain.new.self.wanted e past (c.in_ok-explain.ensures.next (length past) is before.next_is);
      explained = subst (λ w. IsConnectionExplained w (found_at c.explain.new.self.findings) tested (e ∷ past)) (sym same.0)
          (connection-explained-next tested e past old.wanted (found_at old.findings) (found_at c.explain.new.self.findings) before.explained
          (λ k r. c.in_ok-explain.ensures.explains tested past is before.next_is before.trail_is k r
          ∙ ap (λ p. option_or (explained_at (is_on_connection tested.role) (entries old.wanted) p k r (found (reason tested.role r) None None (newest e past))) (found_at old.findings k r)) is));
    }
