use Rattle.std.proofs.Common.{rules, ◌≡◌, [], ◌∷◌, ◌++◌, cond, None, sym, ap, ◌∙◌, true, false, length}
use Rattle.std.specs.Prelude.{reverse}
use Rattle.std.proofs.lemmas.List.{reverse-append, length-reverse}
use Rattle.mq_rules.specs.Notes.{is_open}
use Rattle.mq_plain.specs.Tables.{at}
use Rattle.mq_plain.specs.Unanswered.{first_index}
use Rattle.mq_plain.proofs.UnansweredLaws.{first_back, first_back-step, only_here}
use Rattle.mq_plain.proofs.exchanges.unanswered.unanswered.Goals as goal

pub returns-then-is_open : goal.returns-then-is_open
returns-then-is_open g c = λ i.
    let x = g.X.Exchange.exchange in
    let e = c.in-Some.event.now in
    let rest = c.in-Some.rest.now in
    let slot = at c.take_answer.new.slots i in
    let parts : c.loop-event.earlier.now ≡ rest ++ e ∷ [] = search rules in
    let front : reverse c.loop-event.earlier.now ≡ e ∷ reverse rest = ap reverse parts ∙ reverse-append rest (e ∷ []) in
    let opens : is_open e.note ≡ true = search rules in
    sym (only_here slot)
    ∙ sym (ap (λ b. first_back slot (cond b None (first_index x i (reverse rest)))) opens)
    ∙ first_back-step x i (length rest) (at c.loop-event.slots i) (at c.take_cause.new.slots i) slot e (reverse rest) (sym (length-reverse rest)) (c.take_cause.ensures i) (c.take_answer.ensures i)
    ∙ sym (ap (λ es. first_back (at c.loop-event.slots i) (first_index x i es)) front)
    ∙ c.loop-event.invariant i

pub loop-event-preserved : goal.loop-event-preserved
loop-event-preserved g c = λ i.
    let x = g.X.Exchange.exchange in
    let e = c.in-Some.event.now in
    let rest = c.in-Some.rest.now in
    let slot = at c.take_answer.new.slots i in
    let parts : c.loop-event.earlier.now ≡ rest ++ e ∷ [] = search rules in
    let front : reverse c.loop-event.earlier.now ≡ e ∷ reverse rest = ap reverse parts ∙ reverse-append rest (e ∷ []) in
    let opens : is_open e.note ≡ false = search rules in
    sym (ap (λ b. first_back slot (cond b None (first_index x i (reverse rest)))) opens)
    ∙ first_back-step x i (length rest) (at c.loop-event.slots i) (at c.take_cause.new.slots i) slot e (reverse rest) (sym (length-reverse rest)) (c.take_cause.ensures i) (c.take_answer.ensures i)
    ∙ sym (ap (λ es. first_back (at c.loop-event.slots i) (first_index x i es)) front)
    ∙ c.loop-event.invariant i
