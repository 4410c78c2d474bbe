use Rattle.std.proofs.Common.{rules, ◌≡◌, [], ◌∷◌, ◌++◌, sym, ap, ◌∙◌, true, false}
use Rattle.std.specs.Prelude.{reverse}
use Rattle.std.proofs.lemmas.List.{reverse-append}
use Rattle.mq_rules.specs.Notes.{is_open}
use Rattle.mq_rules.specs.Moments.{newest, since}
use Rattle.mq_rules.specs.Connections.{connection}
use Rattle.mq_plain.proofs.LookbackLaws.{over_at_open}
use Rattle.mq_plain.proofs.SilenceLaws.{since-moments}
use Rattle.mq_plain.proofs.further.moments.since_moment.Goals as goal

pub returns-then-is_open : goal.returns-then-is_open
returns-then-is_open g c =
    let e = c.in-Some.event.now in
    let rest = c.in-Some.rest.now in
    let starts = g.S.MomentTest.test c.args.starts.now in
    let ends = g.E.MomentTest.test c.args.ends.now in
    let parts : c.loop-event.earlier.now ≡ rest ++ e ∷ [] = search rules in
    let front : reverse c.loop-event.earlier.now ≡ e ∷ reverse rest = ap reverse parts ∙ reverse-append rest (e ∷ []) in
    let begun : starts (newest e (reverse rest)) ≡ false = search rules in
    let ended : ends (newest e (reverse rest)) ≡ false = search rules in
    let opens : is_open e.note ≡ true = search rules in
    sym (ap (λ es. since starts ends (connection es)) front ∙ since-moments starts ends e (reverse rest)
    ∙ over_at_open (starts (newest e (reverse rest))) (ends (newest e (reverse rest))) (is_open e.note) (since starts ends (connection (reverse rest))) begun ended opens)
    ∙ c.loop-event.invariant
