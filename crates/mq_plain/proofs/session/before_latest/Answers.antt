use Rattle.std.proofs.Common.{rules, ◌≡◌, ◌+◌, [], ◌∷◌, ◌++◌, true, false, cond, length, Some, sym, ap, ◌∙◌, arith}
use Rattle.std.specs.Prelude.{reverse}
use Rattle.std.proofs.lemmas.List.{reverse-append, length-append}
use Rattle.mq_rules.specs.Notes.{is_open}
use Rattle.mq_rules.specs.Passing.{before_latest}
use Rattle.mq_plain.proofs.LookbackLaws.{no_events}
use Rattle.mq_plain.proofs.session.before_latest.Goals as goal

pub loop-event-preserved : goal.loop-event-preserved
loop-event-preserved c =
    let e = c.in-Some.event.now in
    let rest = c.in-Some.rest.now in
    let parts : c.loop-event.earlier.now ≡ rest ++ e ∷ [] = search rules in
    let front : reverse c.loop-event.earlier.now ≡ e ∷ reverse rest = ap reverse parts ∙ reverse-append rest (e ∷ []) in
    let closed : is_open e.note ≡ false = search rules in
    let longer : length c.loop-event.earlier.now ≡ length rest + 1 = ap length parts ∙ length-append rest (e ∷ []) in
    let was = c.loop-event.invariant.1 in
    (sym (ap before_latest front ∙ ap (λ b. cond b (Some (reverse rest)) (before_latest (reverse rest))) closed) ∙ c.loop-event.invariant.0, omega (arith, longer, was))

pub returns-then-is_open-clause-exact : goal.returns-then-is_open-clause-exact
returns-then-is_open-clause-exact c =
    let e = c.in-Some.event.now in
    let rest = c.in-Some.rest.now in
    let parts : c.loop-event.earlier.now ≡ rest ++ e ∷ [] = search rules in
    let front : reverse c.loop-event.earlier.now ≡ e ∷ reverse rest = ap reverse parts ∙ reverse-append rest (e ∷ []) in
    let opens : is_open e.note ≡ true = search rules in
    sym (ap before_latest front ∙ ap (λ b. cond b (Some (reverse rest)) (before_latest (reverse rest))) opens) ∙ c.loop-event.invariant.0

pub returns-then-is_open-clause-fewer : goal.returns-then-is_open-clause-fewer
returns-then-is_open-clause-fewer c =
    let e = c.in-Some.event.now in
    let rest = c.in-Some.rest.now in
    let parts : c.loop-event.earlier.now ≡ rest ++ e ∷ [] = search rules in
    let longer : length c.loop-event.earlier.now ≡ length rest + 1 = ap length parts ∙ length-append rest (e ∷ []) in
    let was = c.loop-event.invariant.1 in
    omega (arith, longer, was)

pub returns-clause-exact : goal.returns-clause-exact
returns-clause-exact c =
    let none : c.loop-event.earlier.now ≡ [] = no_events c.loop-event.earlier.now (search rules) in
    sym (ap (λ es. before_latest (reverse es)) none) ∙ c.loop-event.invariant.0
