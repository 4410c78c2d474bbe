use Rattle.std.proofs.Common.{rules, ◌≡◌, ◌||◌, [], ◌∷◌, ◌++◌, sym, ap, ◌∙◌, true, false}
use Rattle.std.specs.Prelude.{reverse}
use Rattle.std.proofs.lemmas.List.{reverse-append}
use Rattle.mq_rules.specs.Words.{is_id}
use Rattle.mq_rules.specs.Notes.{is_open}
use Rattle.mq_rules.specs.Moments.{note, some}
use Rattle.mq_rules.specs.Connections.{connection}
use Rattle.mq_plain.specs.Owing.{sends_under}
use Rattle.mq_plain.specs.Tables.{at}
use Rattle.mq_plain.proofs.SentAgainLaws.{again-start, again-open, again-on}
use Rattle.mq_plain.proofs.owing.sent_again.Goals as goal

pub loop-event-init : goal.loop-event-init
loop-event-init c = λ i. again-start i (reverse c.args.before.now) (at c.in_ok-again.again i) (c.in_ok-again.ensures i)

pub returns-then-is_open : goal.returns-then-is_open
returns-then-is_open c = λ i.
    let e = c.in-Some.event.now in
    let rest = c.in-Some.rest.now in
    let parts : c.loop-event.earlier.now ≡ rest ++ e ∷ [] = search rules in
    let front : reverse c.loop-event.earlier.now ≡ e ∷ reverse rest = ap reverse parts ∙ reverse-append rest (e ∷ []) in
    let opens : is_open e.note ≡ true = search rules in
    again-open i e (reverse rest) (at c.loop-event.again i) (at c.mark.new.marked i) (at c.mark-in-Some.new.marked i) (is_id i c.sent_pubrel.result)
    (c.mark.ensures i ∙ ap (λ o. is_id i o || at c.loop-event.again i) c.delivery.ensures) (c.mark-in-Some.ensures i) (ap (is_id i) c.sent_pubrel.ensures) opens
    ∙ ap (λ es. at c.loop-event.again i || some (λ m. sends_under i (note m)) (connection es)) (sym front) ∙ c.loop-event.invariant i

pub loop-event-preserved : goal.loop-event-preserved
loop-event-preserved c = λ i.
    let e = c.in-Some.event.now in
    let rest = c.in-Some.rest.now in
    let parts : c.loop-event.earlier.now ≡ rest ++ e ∷ [] = search rules in
    let front : reverse c.loop-event.earlier.now ≡ e ∷ reverse rest = ap reverse parts ∙ reverse-append rest (e ∷ []) in
    let opens : is_open e.note ≡ false = search rules in
    again-on i e (reverse rest) (at c.loop-event.again i) (at c.mark.new.marked i) (at c.mark-in-Some.new.marked i) (is_id i c.sent_pubrel.result)
    (c.mark.ensures i ∙ ap (λ o. is_id i o || at c.loop-event.again i) c.delivery.ensures) (c.mark-in-Some.ensures i) (ap (is_id i) c.sent_pubrel.ensures) opens
    ∙ ap (λ es. at c.loop-event.again i || some (λ m. sends_under i (note m)) (connection es)) (sym front) ∙ c.loop-event.invariant i
