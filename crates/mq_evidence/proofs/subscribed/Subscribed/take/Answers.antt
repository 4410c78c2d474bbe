use Rattle.std.proofs.Common.{◌+◌, ◌-◌, ◌||◌, ◌++◌, ℕ, List, [], cond, unwrap_or, nat_eq, ap, sym, ◌∙◌}
use Rattle.std.specs.List.{cons_option}
use Rattle.indexmap.specs.IndexMap.{get, get_by_text}
use Rattle.mq_rules.specs.Notes.{is_open, received_subscription, sent_grant}
use Rattle.mq_evidence.specs.Subscribed.{lost, answers, named, asked, asks}
use Rattle.mq_evidence.proofs.SubscribedLaws.{counts-next, waiting-next}
use Rattle.mq_evidence.proofs.subscribed.Subscribed.take.Goals as goal

pub returns : goal.returns
returns c = λ e past ms comes within before.
    let turn = c.args.turn in
    let was : ℕ → List (List (List ℕ)) = λ i. unwrap_or (get nat_eq c.args.self.now.waiting i) [] in
    let begun : ℕ → List (List (List ℕ)) = λ i. unwrap_or (get nat_eq c.begin.new.self.waiting i) [] in
    let left : ℕ → List (List (List ℕ)) = λ i. unwrap_or (get nat_eq c.take_grant.new.waiting i) [] in
    record {
      counts_are = counts-next e past ms turn.begins turn.inside within (λ f. unwrap_or (get_by_text c.args.self.now.counts f) 0) (λ f. unwrap_or (get_by_text c.begin.new.self.counts f) 0) (λ f. unwrap_or (get_by_text c.take_grant.new.counts f) 0)
          (λ f. unwrap_or (get_by_text c.take_request.new.counts f) 0) was begun before.counts_are before.waiting_are c.begin.ensures.counts
          (λ i. c.begin.ensures.waiting i ∙ ap (λ b. cond (turn.begins || b) [] (was i)) (c.is_open.ensures ∙ ap is_open (sym comes.same)))
          (λ f. c.in_ok-take_grant.ensures.counts f ∙ ap (λ n. unwrap_or (get_by_text c.begin.new.self.counts f) 0 - lost f (sent_grant n) begun) (sym comes.same))
          (λ f. c.in_ok-take_request.ensures.counts f ∙ ap (λ n. named f (asked turn.inside (received_subscription n)) + unwrap_or (get_by_text c.take_grant.new.counts f) 0) (sym comes.same));
      positive = c.in_ok-take_request.ensures.positive (c.in_ok-take_grant.ensures.positive (c.begin.ensures.positive before.positive));
      waiting_are = waiting-next e past ms turn.begins turn.inside within was begun left (λ i. unwrap_or (get nat_eq c.take_request.new.waiting i) []) before.waiting_are
          (λ i. c.begin.ensures.waiting i ∙ ap (λ b. cond (turn.begins || b) [] (was i)) (c.is_open.ensures ∙ ap is_open (sym comes.same)))
          (λ i. c.in_ok-take_grant.ensures.waiting i ∙ ap (λ n. cond (answers i (sent_grant n)) [] (begun i)) (sym comes.same))
          (λ i. c.in_ok-take_request.ensures.waiting i ∙ ap (λ n. left i ++ cons_option (asks i turn.inside (received_subscription n)) []) (sym comes.same));
    }
