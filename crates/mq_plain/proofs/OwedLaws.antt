-- What a REST shows that is still owed on its connection: the places that looking back finds, and what they are to a statement.
use Rattle.std.proofs.Common.{◌≡◌, ℕ, ◌<◌, ◌==◌, Bool, true, false, cond, ◌&&◌, List, [], ◌∷◌, ◌++◌, append-nil, append_assoc, Option, Some, None, refl, ap, sym, ◌∙◌, subst, arith}
use Rattle.std.proofs.lemmas.Bool.{eq-eqb}
use Rattle.std.proofs.lemmas.List.Elements.{All-nil}
use Rattle.mq_log.specs.declared.place.Place3.{Place3}
use Rattle.mq_rules.specs.declared.role.Tested.{Tested}
use Rattle.mq_rules.specs.declared.rule.Rule.{Rule}
use Rattle.mq_rules.specs.declared.note.Seen.{Seen}
use Rattle.mq_rules.specs.Words.{is_some_and}
use Rattle.mq_rules.specs.Notes.{is_open, is_rest}
use Rattle.mq_rules.specs.Moments.{Moment, newest, note, moment, IsPlaced}
use Rattle.mq_rules.specs.Connections.{begun, number}
use Rattle.mq_rules.specs.Rules.{binds}
use Rattle.mq_rules.specs.Statements.{statement, by_later}
use Rattle.mq_rules.specs.Steps.{shows, turns}
use Rattle.mq_rules.specs.Faults.{offset_of}
use Rattle.mq_rules.proofs.Exports.{and_false, differ, begun-closed, begun-open-of-given as begun-opened, number-within, rest-opens-nothing}
use Rattle.mq_plain.specs.Owed.{owed_on}
use Rattle.mq_plain.specs.Shown.{IsShown}
use Rattle.mq_plain.proofs.JudgedLaws.{IsPlain}
use Rattle.mq_plain.proofs.ShowingLaws.{shown-start, shown-front, shown-same}

-- ---- looking back over the latest connection of a log

-- These places, with those that the events show which are left to look at, are those that the whole log shows.
pub record LeadsTo (test : Moment → Bool) (whole left : List Seen) (places : List Place3) : Type 0 where
  pub placed : IsPlaced left
  pub same : begun left ≡ begun whole
  pub each : (older : List Place3) → IsShown test left older → IsShown test whole (places ++ older)

pub leads-start : (test : Moment → Bool) (whole : List Seen) → IsPlaced whole → LeadsTo test whole whole []
leads-start test whole placed = record { placed = placed; same = refl; each = λ older shown. shown }

pub leads-end : (test : Moment → Bool) (whole : List Seen) (places : List Place3) → LeadsTo test whole [] places → IsShown test whole places
leads-end test whole places leads = subst (IsShown test whole) (append-nil places) (leads.each [] (shown-start test))

-- one event further back
leads-step : (owes : Moment → Bool) (whole : List Seen) (e : Seen) (past : List Seen) (places new : List Place3) → LeadsTo (owed_on owes (begun whole)) whole (e ∷ past) places
    → new ≡ cond (owes (newest e past)) (places ++ e.place ∷ []) places → (older : List Place3) → IsShown (owed_on owes (begun whole)) past older → IsShown (owed_on owes (begun whole)) whole (new ++ older)
leads-step owes whole e past places new leads grown older shown = subst (λ ps. IsShown (owed_on owes (begun whole)) whole (ps ++ older)) (sym grown) (go (owes (newest e past)) refl)
  where
    test : Moment → Bool
    test = owed_on owes (begun whole)

    here : (begun whole == number (newest e past)) ≡ true
    here = eq-eqb (begun whole) (number (newest e past)) (sym leads.same)

    go : (b : Bool) → owes (newest e past) ≡ b → IsShown test whole (cond b (places ++ e.place ∷ []) places ++ older)
    go true is = subst (IsShown test whole) (sym (append_assoc places (e.place ∷ []) older))
        (leads.each (e.place ∷ older) (shown-front test e past older leads.placed.0 (ap (λ b. b && owes (newest e past)) here ∙ is) shown))
    go false is = leads.each older (shown-same test e past older (ap (λ b. (begun whole == number (newest e past)) && b) is ∙ and_false (begun whole == number (newest e past))) shown)

pub leads-on : (owes : Moment → Bool) (whole : List Seen) (e : Seen) (past : List Seen) (places new : List Place3) → LeadsTo (owed_on owes (begun whole)) whole (e ∷ past) places
    → new ≡ cond (owes (newest e past)) (places ++ e.place ∷ []) places → is_open e.note ≡ false → LeadsTo (owed_on owes (begun whole)) whole past new
leads-on owes whole e past places new leads grown closed = record {
  placed = leads.placed.1;
  same = sym (begun-closed e past closed) ∙ leads.same;
  each = leads-step owes whole e past places new leads grown;
}

-- a log shows nothing of a connection that comes after it
none-later : (owes : Moment → Bool) (c : ℕ) (past : List Seen) → begun past < c → IsShown (owed_on owes c) past []
none-later owes c past later = record { each = λ k. go k (moment past k) refl; own = All-nil _ }
  where
    go : (k : ℕ) (o : Option Moment) → moment past k ≡ o → false ≡ is_some_and (owed_on owes c) o
    go k None at = refl
    go k (Some m) at =
        let within = number-within past k m at in
        sym (ap (λ b. b && owes m) (differ c (number m) (λ same. absurd (omega arith))))

pub leads-open : (owes : Moment → Bool) (whole : List Seen) (e : Seen) (past : List Seen) (places new : List Place3) → LeadsTo (owed_on owes (begun whole)) whole (e ∷ past) places
    → new ≡ cond (owes (newest e past)) (places ++ e.place ∷ []) places → is_open e.note ≡ true → IsShown (owed_on owes (begun whole)) whole new
leads-open owes whole e past places new leads grown opens =
    let more = begun-opened e past opens in
    let same = leads.same in
    subst (IsShown (owed_on owes (begun whole)) whole) (append-nil new)
    (leads-step owes whole e past places new leads grown [] (none-later owes (begun whole) past (omega arith)))

-- ---- a statement that a later REST of the connection shows

pub later-plain : (tested : Tested) (rule : Rule) (shows_it : Moment → Moment → Bool) → statement tested.role rule ≡ by_later shows_it → IsPlain tested rule
later-plain tested rule shows_it says = record { offset = λ m. ap (λ s. offset_of s m) says }

-- b that it binds, x that the moments are of one connection, o that something is owed, r and d that a REST shows it as due
turned : (b x o r d : Bool) → (b && (x && (o && (r && d)))) ≡ ((b && (r && d)) && (x && o))
turned false x o r d = refl
turned true true true r d = last (r && d)
  where
    last : (a : Bool) → a ≡ (a && true)
    last true = refl
    last false = refl
turned true true false r d = sym (and_false (r && d))
turned true false o r d = sym (and_false (r && d))

pub later-at : (tested : Tested) (rule : Rule) (shows_it : Moment → Moment → Bool) (owes due : Moment → Bool) (e : Seen) (past : List Seen) (bound showing : Bool) → statement tested.role rule ≡ by_later shows_it
    → ((t m : Moment) → shows_it t m ≡ (owes m && (is_rest (note t) && due t))) → bound ≡ binds rule tested → showing ≡ (bound && (is_rest e.note && due (newest e past)))
    → (k : ℕ) → turns tested e past k rule ≡ (showing && is_some_and (owed_on owes (begun past)) (moment past k))
unfolding turns
later-at tested rule shows_it owes due e past bound showing says parts binds_it is k =
    ap (λ s. binds rule tested && shows tested.role s e past k) says
    ∙ go (moment past k)
    ∙ ap (λ b. (b && (is_rest e.note && due (newest e past))) && is_some_and (owed_on owes (begun past)) (moment past k)) (sym binds_it)
    ∙ ap (λ b. b && is_some_and (owed_on owes (begun past)) (moment past k)) (sym is)
  where
    -- a REST is on the connection of the events before it
    there : (m : Moment) (b o r d : Bool) → is_rest e.note ≡ r → ((b && (r && d)) && ((begun (e ∷ past) == number m) && o)) ≡ ((b && (r && d)) && ((begun past == number m) && o))
    there m false o r d h = refl
    there m true o false d h = refl
    there m true o true d h = ap (λ n. d && ((n == number m) && o)) (begun-closed e past (rest-opens-nothing e.note h))

    go : (o : Option Moment) → (binds rule tested && is_some_and (λ m. (begun (e ∷ past) == number m) && shows_it (newest e past) m) o)
        ≡ ((binds rule tested && (is_rest e.note && due (newest e past))) && is_some_and (owed_on owes (begun past)) o)
    go None = and_false (binds rule tested) ∙ sym (and_false (binds rule tested && (is_rest e.note && due (newest e past))))
    go (Some m) =
        ap (λ s. binds rule tested && ((begun (e ∷ past) == number m) && s)) (parts (newest e past) m)
        ∙ turned (binds rule tested) (begun (e ∷ past) == number m) (owes m) (is_rest e.note) (due (newest e past))
        ∙ there m (binds rule tested) (owes m) (is_rest e.note) (due (newest e past)) refl
