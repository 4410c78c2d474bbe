use Rattle.std.proofs.Common.{rules, ℕ, Bool, ◌≡◌, [], ◌∷◌, ◌++◌, refl, sym, ap, ◌∙◌}
use Rattle.std.specs.Prelude.{reverse}
use Rattle.std.proofs.lemmas.List.{reverse-append}
use Rattle.mq_plain.specs.Tables.{at}
use Rattle.mq_plain.proofs.LookbackLaws.{no_events}
use Rattle.mq_plain.proofs.ResendOrderLaws.{overtaken_back, overtaken_all, back_stops, back_hits, back_begins, back_goes}
use Rattle.mq_plain.proofs.resends.order.is_passed.Goals as goal

pub loop-event-init : goal.loop-event-init
loop-event-init c = refl

pub returns-then-opens_it : goal.returns-then-opens_it
returns-then-opens_it c = λ none now.
    let e = c.in-Some.event.now in
    let rest = c.in-Some.rest.now in
    let met : ℕ → Bool = λ o. at c.loop-event.resent o in
    let parts : c.loop-event.earlier.now ≡ rest ++ e ∷ [] = search rules in
    let front : reverse c.loop-event.earlier.now ≡ e ∷ reverse rest = ap reverse parts ∙ reverse-append rest (e ∷ []) in
    sym (ap (λ es. overtaken_back c.args.role c.args.identifier c.loop-event.fate c.loop-event.is_on met es) front
    ∙ back_stops c.args.role c.args.identifier c.loop-event.fate c.loop-event.is_on met e (reverse rest) c.is_accepted-is_in.result c.opens_it.result
    c.is_accepted-is_in.ensures c.opens_it.ensures c.if-opens_it.true)
    ∙ c.loop-event.invariant
    ∙ overtaken_all c.args.role c.args.identifier c.args.fate (λ o. at c.args.resent.now o) (reverse c.args.before.now) none now

pub returns-then-opens_resent : goal.returns-then-opens_resent
returns-then-opens_resent c = λ none now.
    let e = c.in-Some.event.now in
    let rest = c.in-Some.rest.now in
    let met : ℕ → Bool = λ o. at c.loop-event.resent o in
    let parts : c.loop-event.earlier.now ≡ rest ++ e ∷ [] = search rules in
    let front : reverse c.loop-event.earlier.now ≡ e ∷ reverse rest = ap reverse parts ∙ reverse-append rest (e ∷ []) in
    sym (ap (λ es. overtaken_back c.args.role c.args.identifier c.loop-event.fate c.loop-event.is_on met es) front
    ∙ back_hits c.args.role c.args.identifier c.loop-event.fate c.loop-event.is_on met e (reverse rest) c.is_accepted-is_in.result c.opens_it.result c.opens_resent.result
    c.is_accepted-is_in.ensures c.opens_it.ensures c.if-opens_it.false c.opens_resent.ensures c.if-opens_resent.true)
    ∙ c.loop-event.invariant
    ∙ overtaken_all c.args.role c.args.identifier c.args.fate (λ o. at c.args.resent.now o) (reverse c.args.before.now) none now

pub returns-then-begins_at : goal.returns-then-begins_at
returns-then-begins_at c = λ none now.
    let e = c.in-Some.event.now in
    let rest = c.in-Some.rest.now in
    let met : ℕ → Bool = λ o. at c.loop-event.resent o in
    let parts : c.loop-event.earlier.now ≡ rest ++ e ∷ [] = search rules in
    let front : reverse c.loop-event.earlier.now ≡ e ∷ reverse rest = ap reverse parts ∙ reverse-append rest (e ∷ []) in
    sym (ap (λ es. overtaken_back c.args.role c.args.identifier c.loop-event.fate c.loop-event.is_on met es) front
    ∙ back_begins c.args.role c.args.identifier c.loop-event.fate c.loop-event.is_on met e (reverse rest) c.is_accepted-is_in.result c.opens_it.result c.opens_resent.result c.begins_at.result
    c.is_accepted-is_in.ensures c.opens_it.ensures c.if-opens_it.false c.opens_resent.ensures c.if-opens_resent.false c.begins_at.ensures c.if-begins_at.true)
    ∙ c.loop-event.invariant
    ∙ overtaken_all c.args.role c.args.identifier c.args.fate (λ o. at c.args.resent.now o) (reverse c.args.before.now) none now

pub loop-event-preserved : goal.loop-event-preserved
loop-event-preserved c =
    let e = c.in-Some.event.now in
    let rest = c.in-Some.rest.now in
    let met : ℕ → Bool = λ o. at c.loop-event.resent o in
    let parts : c.loop-event.earlier.now ≡ rest ++ e ∷ [] = search rules in
    let front : reverse c.loop-event.earlier.now ≡ e ∷ reverse rest = ap reverse parts ∙ reverse-append rest (e ∷ []) in
    sym (ap (λ es. overtaken_back c.args.role c.args.identifier c.loop-event.fate c.loop-event.is_on met es) front
    ∙ back_goes c.args.role c.args.identifier c.loop-event.fate c.fate_before-fate.result c.loop-event.is_on c.is_on_before-is_on.result met (λ o. at c.forget_closed.new.resent o)
    (λ o. at c.keep_resent.new.resent o) e (reverse rest) c.is_accepted-is_in.result c.opens_it.result c.opens_resent.result c.begins_at.result
    c.is_accepted-is_in.ensures c.opens_it.ensures c.if-opens_it.false c.opens_resent.ensures c.if-opens_resent.false c.begins_at.ensures c.if-begins_at.false
    c.forget_closed.ensures c.keep_resent.ensures c.is_on_before-is_on.ensures c.fate_before-fate.ensures)
    ∙ c.loop-event.invariant

pub returns : goal.returns
returns c = λ none now.
    let met : ℕ → Bool = λ o. at c.loop-event.resent o in
    let over : c.loop-event.earlier.now ≡ [] = no_events c.loop-event.earlier.now (search rules) in
    sym (ap (λ es. overtaken_back c.args.role c.args.identifier c.loop-event.fate c.loop-event.is_on met (reverse es)) over)
    ∙ c.loop-event.invariant
    ∙ overtaken_all c.args.role c.args.identifier c.args.fate (λ o. at c.args.resent.now o) (reverse c.args.before.now) none now
