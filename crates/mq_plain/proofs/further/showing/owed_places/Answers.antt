use Rattle.std.proofs.Common.{rules, ◌≡◌, [], ◌∷◌, ◌++◌, sym, ap, subst, ◌∙◌, true, false}
use Rattle.std.specs.Prelude.{reverse}
use Rattle.std.proofs.lemmas.List.{reverse-append}
use Rattle.mq_rules.specs.Notes.{is_open}
use Rattle.mq_rules.specs.Connections.{begun}
use Rattle.mq_plain.specs.Owed.{owed_on}
use Rattle.mq_plain.proofs.LookbackLaws.{no_events}
use Rattle.mq_plain.proofs.OwedLaws.{LeadsTo, leads-start, leads-end, leads-on, leads-open}
use Rattle.mq_plain.proofs.further.showing.owed_places.Goals as goal

pub loop-event-init : goal.loop-event-init
loop-event-init g c = λ placed.
    let whole = reverse c.args.before.now in
    let owed = owed_on g.T.LaterStatement.owing (begun whole) in
    let none : c.new-places.result.items ≡ [] = search rules in
    subst (λ places. LeadsTo owed whole whole places) (sym none) (leads-start owed whole placed)

pub loop-event-preserved : goal.loop-event-preserved
loop-event-preserved g c = λ placed.
    let e = c.in-Some.event.now in
    let rest = c.in-Some.rest.now in
    let whole = reverse c.args.before.now in
    let owes = g.T.LaterStatement.owing in
    let parts : c.loop-event.earlier.now ≡ rest ++ e ∷ [] = search rules in
    let front : reverse c.loop-event.earlier.now ≡ e ∷ reverse rest = ap reverse parts ∙ reverse-append rest (e ∷ []) in
    let closed : is_open e.note ≡ false = search rules in
    leads-on owes whole e (reverse rest) c.loop-event.places.items c.add_owed.new.places.items
    (subst (λ left. LeadsTo (owed_on owes (begun whole)) whole left c.loop-event.places.items) front (c.loop-event.invariant placed))
    c.in_ok-add_owed.ensures closed

pub returns-then-is_open : goal.returns-then-is_open
returns-then-is_open g c = λ placed.
    let e = c.in-Some.event.now in
    let rest = c.in-Some.rest.now in
    let whole = reverse c.args.before.now in
    let owes = g.T.LaterStatement.owing in
    let parts : c.loop-event.earlier.now ≡ rest ++ e ∷ [] = search rules in
    let front : reverse c.loop-event.earlier.now ≡ e ∷ reverse rest = ap reverse parts ∙ reverse-append rest (e ∷ []) in
    let opens : is_open e.note ≡ true = search rules in
    leads-open owes whole e (reverse rest) c.loop-event.places.items c.add_owed.new.places.items
    (subst (λ left. LeadsTo (owed_on owes (begun whole)) whole left c.loop-event.places.items) front (c.loop-event.invariant placed))
    c.in_ok-add_owed.ensures opens

pub returns : goal.returns
returns g c = λ placed.
    let whole = reverse c.args.before.now in
    let owed = owed_on g.T.LaterStatement.owing (begun whole) in
    let none : c.loop-event.earlier.now ≡ [] = no_events c.loop-event.earlier.now (search rules) in
    leads-end owed whole c.loop-event.places.items
    (subst (λ left. LeadsTo owed whole left c.loop-event.places.items) (ap reverse none) (c.loop-event.invariant placed))
