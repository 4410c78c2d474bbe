use Rattle.std.proofs.Common.{nat_eq, false, sym, subst, ◌∷◌}
use Rattle.indexmap.specs.IndexMap.{get}
use Rattle.mq_rules.specs.Under.{turns_with}
use Rattle.mq_subscriptions.specs.declared.matching.verdicts.Verdicts.{Verdicts}
use Rattle.mq_subscriptions.specs.Verdicts.{nothing, Blames}
use Rattle.mq_subscriptions.proofs.BesideLaws.{beside-next, idle-judged, idle-beside, idle-takes, idle-event}
use Rattle.mq_subscriptions.proofs.BlamingLaws.{gains-six}
use Rattle.mq_subscriptions.proofs.MatchingLaws.{subscriptions-next}
use Rattle.mq_subscriptions.proofs.VerdictLaws.{blames, say}
use Rattle.mq_subscriptions.proofs.matching.MatchingSelective.passes.Goals as goal

pub returns : goal.returns
returns c = λ tested fate at e past h under q.
    let s = c.args.self.now in
    let on = under.follows.on_connections.0 in
    let topics = get nat_eq s.topics in
    record {
      stays = (
        q.0,
        q.1,
        λ is.
            let idle = idle-judged tested e.note s.bound h q.0 is in (
              subscriptions-next tested fate e past on s.subscriptions s.subscriptions (idle-takes fate e.note idle s.subscriptions) (q.2 is).0,
              beside-next tested fate e past on s.sharing s.sharing s.unclear s.unclear s.refusing s.refusing topics topics (idle-beside fate e.note idle s.sharing s.unclear s.refusing topics) (q.2 is).1,
            ),
      );
      shows = λ m. gains-six (λ k r. turns_with tested fate e past k r) nothing e.place at tested (e ∷ past)
          (subst (λ (v : Verdicts). Blames (λ k r. turns_with tested fate e past k r) v e.place at tested (e ∷ past))
          (sym (idle-event s.bound fate s.unclear (say tested fate s.subscriptions s.sharing s.unclear s.refusing topics e past on false) topics e.note (idle-judged tested e.note s.bound h q.0)))
          (blames tested fate s.subscriptions s.sharing s.unclear s.refusing topics e past on s.bound q.0 (λ is. (q.2 is).1) at under)) m;
    }
