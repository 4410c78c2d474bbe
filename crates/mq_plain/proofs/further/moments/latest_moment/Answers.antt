use Rattle.std.proofs.Common.{rules, ◌≡◌, [], ◌∷◌, ◌++◌, sym, ap, ◌∙◌, true, false}
use Rattle.std.specs.Prelude.{reverse}
use Rattle.std.proofs.lemmas.List.{reverse-append}
use Rattle.mq_rules.specs.Notes.{is_open}
use Rattle.mq_rules.specs.Moments.{newest, latest}
use Rattle.mq_rules.specs.Connections.{connection}
use Rattle.mq_plain.proofs.SilenceLaws.{latest-here, latest-open, latest-on}
use Rattle.mq_plain.proofs.further.moments.latest_moment.Goals as goal

pub returns-then-passes : goal.returns-then-passes
returns-then-passes g c =
    let e = c.in-Some.event.now in
    let rest = c.in-Some.rest.now in
    let test = g.T.MomentTest.test c.args.test.now in
    let parts : c.loop-event.earlier.now ≡ rest ++ e ∷ [] = search rules in
    let front : reverse c.loop-event.earlier.now ≡ e ∷ reverse rest = ap reverse parts ∙ reverse-append rest (e ∷ []) in
    let passes : test (newest e (reverse rest)) ≡ true = search rules in
    sym (ap (λ es. latest test (connection es)) front ∙ latest-here test e (reverse rest) passes) ∙ c.loop-event.invariant

pub returns-then-is_open : goal.returns-then-is_open
returns-then-is_open g c =
    let e = c.in-Some.event.now in
    let rest = c.in-Some.rest.now in
    let test = g.T.MomentTest.test c.args.test.now in
    let parts : c.loop-event.earlier.now ≡ rest ++ e ∷ [] = search rules in
    let front : reverse c.loop-event.earlier.now ≡ e ∷ reverse rest = ap reverse parts ∙ reverse-append rest (e ∷ []) in
    let fails : test (newest e (reverse rest)) ≡ false = search rules in
    let opens : is_open e.note ≡ true = search rules in
    sym (ap (λ es. latest test (connection es)) front ∙ latest-open test e (reverse rest) fails opens) ∙ c.loop-event.invariant

pub loop-event-preserved : goal.loop-event-preserved
loop-event-preserved g c =
    let e = c.in-Some.event.now in
    let rest = c.in-Some.rest.now in
    let test = g.T.MomentTest.test c.args.test.now in
    let parts : c.loop-event.earlier.now ≡ rest ++ e ∷ [] = search rules in
    let front : reverse c.loop-event.earlier.now ≡ e ∷ reverse rest = ap reverse parts ∙ reverse-append rest (e ∷ []) in
    let fails : test (newest e (reverse rest)) ≡ false = search rules in
    let opens : is_open e.note ≡ false = search rules in
    sym (ap (λ es. latest test (connection es)) front ∙ latest-on test e (reverse rest) fails opens) ∙ c.loop-event.invariant
