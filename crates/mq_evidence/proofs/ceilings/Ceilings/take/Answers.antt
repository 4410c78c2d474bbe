use Rattle.std.proofs.Common.{◌≡◌, ◌||◌, ◌&&◌, ◌++◌, ℕ, List, [], false, cond, unwrap_or, nat_eq, ap, sym, ◌∙◌}
use Rattle.std.specs.List.{cons_option, list_any}
use Rattle.indexmap.specs.IndexMap.{get, values}
use Rattle.mq_rules.specs.Notes.{is_open, received_subscription, sent_grant}
use Rattle.mq_evidence.specs.Subscribed.{answers}
use Rattle.mq_evidence.specs.Ceilings.{settles, asks_under}
use Rattle.mq_evidence.specs.Settling.{passes, any_passes, holds}
use Rattle.mq_evidence.specs.Unsettled.{Unsettled}
use Rattle.mq_evidence.proofs.CeilingLaws.{settled-next, asked-next, values-are}
use Rattle.mq_evidence.proofs.ceilings.Ceilings.take.Goals as goal

pub returns : goal.returns
returns c = λ e past ms comes within before.
    let turn = c.args.turn in
    let was : ℕ → List Unsettled = λ i. unwrap_or (get nat_eq c.args.self.now.waiting i) [] in
    let begun : ℕ → List Unsettled = λ i. unwrap_or (get nat_eq c.begin.new.self.waiting i) [] in
    let left : ℕ → List Unsettled = λ i. unwrap_or (get nat_eq c.take_grant.new.waiting i) [] in
    let opened : c.is_open.result ≡ is_open e.note = c.is_open.ensures ∙ ap is_open (sym comes.same) in
    record {
      settled_are = λ q.
          settled-next e past ms turn.begins turn.inside within (passes q) (holds q c.args.self.now.settled) (holds q c.begin.new.self.settled) (holds q c.take_grant.new.settled) was begun
          (before.settled_are q) before.waiting_are
          (c.in_ok-begin.ensures.settled q
          ∙ ap (λ b. cond turn.begins false (holds q c.args.self.now.settled || (b && list_any (list_any (any_passes q)) (values c.args.self.now.waiting)))) opened
          ∙ ap (λ b. cond turn.begins false (holds q c.args.self.now.settled || (is_open e.note && b))) (values-are (any_passes q) c.args.self.now.waiting.entries past ms before.apart before.waiting_are))
          (λ i. c.in_ok-begin.ensures.waiting i ∙ ap (λ b. cond (turn.begins || b) [] (was i)) opened)
          (c.in_ok-take_grant.ensures.settled q ∙ ap (λ n. holds q c.begin.new.self.settled || settles (passes q) (sent_grant n) begun) (sym comes.same));
      apart = c.in_ok-take_request.ensures.apart (c.in_ok-take_grant.ensures.apart (c.in_ok-begin.ensures.apart before.apart));
      waiting_are = asked-next e past ms turn.begins turn.inside within was begun left (λ i. unwrap_or (get nat_eq c.take_request.new.waiting i) []) before.waiting_are
          (λ i. c.in_ok-begin.ensures.waiting i ∙ ap (λ b. cond (turn.begins || b) [] (was i)) opened)
          (λ i. c.in_ok-take_grant.ensures.waiting i ∙ ap (λ n. cond (answers i (sent_grant n)) [] (begun i)) (sym comes.same))
          (λ i. c.in_ok-take_request.ensures.waiting i
          ∙ ap (λ n. left i ++ cons_option (asks_under i turn.position turn.inside (received_subscription n)) []) (sym comes.same)
          ∙ ap (λ at. left i ++ cons_option (asks_under i at turn.inside (received_subscription e.note)) []) (sym comes.at));
    }
