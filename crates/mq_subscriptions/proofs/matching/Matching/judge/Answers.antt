use Rattle.std.proofs.Common.{rules, ◌≡◌, ℕ, List, true, false, cond, nat_eq, ap, sym, ◌∙◌}
use Rattle.indexmap.specs.IndexMap.{get}
use Rattle.mq_rules.specs.declared.packet_note.PublishNote.{PublishNote}
use Rattle.mq_rules.specs.Connections.{accepts}
use Rattle.mq_subscriptions.specs.declared.matching.verdicts.Verdicts.{Verdicts}
use Rattle.mq_subscriptions.specs.Verdicts.{nothing, of_note, said_of, takes_by}
use Rattle.mq_subscriptions.proofs.matching.Matching.judge.Goals as goal

pub returns : goal.returns
returns c = λ matching premise.
    let s = c.args.self.now in
    let bound : s.bound ≡ true = search rules in
    let accepted : accepts c.args.fate ≡ true = search rules in
    let clear : s.unclear ≡ false = search rules in
    let inner : Verdicts = of_note (λ (p : PublishNote) (topic : List ℕ). said_of c.args.wide s.sharing (takes_by s.refusing) p (matching topic)) (get nat_eq s.topics) c.args.note.now in
    c.judge_note.ensures matching (premise bound accepted)
    ∙ sym (
    ap (λ b. cond b (cond (accepts c.args.fate) (cond s.unclear nothing inner) nothing) nothing) bound
    ∙ ap (λ b. cond b (cond s.unclear nothing inner) nothing) accepted
    ∙ ap (λ b. cond b nothing inner) clear)
