-- Moments and REST on the latest connection.
use Rattle.std.proofs.Common.{◌≡◌, ℕ, ◌≤◌, arith, Bool, true, false, cond, ◌&&◌, List, [], ◌∷◌, length, Option, Some, None, refl, ap, sym, subst, ◌∙◌, ◌==◌, inl, inr, not}
use Rattle.std.specs.Option.{option_or}
use Rattle.mq_rules.specs.declared.role.Tested.{Tested}
use Rattle.mq_rules.specs.declared.fate.Fate.{Fate}
use Rattle.mq_rules.specs.declared.note.Seen.{Seen}
use Rattle.mq_rules.specs.Notes.{is_open, is_rest}
use Rattle.mq_rules.specs.Moments.{Moment, newest, note, moments, some, Among, position, IsDescending}
use Rattle.mq_rules.specs.Connections.{connection, accepts, latest_fate, begun, number, accepted, ends_binding, is_binding}
use Rattle.mq_rules.proofs.Exports.{connection-newest as connection-next, differ, latest_fate-same, option_or-none, moments-descend, there, those-descend, rest-opens-nothing, rest-gives}
use Rattle.mq_rules.specs.Under.{IsUnder}
use Rattle.std.proofs.lemmas.Bool.{eqb-true, eq-eqb}
use Rattle.mq_rules.specs.Words.{is_some_and, is_id}

-- no more moments are on a connection than there are events
pub connection-most : (past : List Seen) → length (connection past) ≤ length past
connection-most [] = omega arith
connection-most (e ∷ past) = subst (λ (ms : List Moment). length ms ≤ length (e ∷ past)) (sym (connection-next e past)) (go (is_open e.note) (connection-most past))
  where
    go : (b : Bool) → length (connection past) ≤ length past → length (newest e past ∷ cond b [] (connection past)) ≤ length (e ∷ past)
    go true h = omega arith
    go false h = omega arith

-- no moment is on a later connection than the latest
pub numbers : (past : List Seen) (m : Moment) → Among m (moments past) → number m ≤ begun past
numbers [] m h = absurd h
numbers (e ∷ past) m (inl same) = let at : number m ≡ begun (e ∷ past) = ap number same in omega arith
numbers (e ∷ past) m (inr there) = let le = numbers past m there in omega arith

-- the moments on it, the latest first
pub connection-descends : (past : List Seen) → IsDescending (connection past)
connection-descends past = those-descend (λ m. number m == begun past) (moments past) (moments-descend past)

-- what is under an identifier
pub held : (test : ℕ → Bool) (o : Option ℕ) → is_some_and test o ≡ true → (i : ℕ) × (o ≡ Some i) × (test i ≡ true)
held test None h = absurd (cc)
held test (Some i) h = (i, refl, h)

pub named : (i : ℕ) (o : Option ℕ) → is_id i o ≡ true → o ≡ Some i
named i None h = absurd (cc)
named i (Some j) h = ap Some (sym (eqb-true i j h))

-- a REST binds by the fate that its connection is taken to have, where that is decided
pub binding-under : (tested : Tested) (f : Fate) (at : ℕ) (e : Seen) (past : List Seen) → IsUnder tested f at e past
    → is_binding tested.role (newest e past) ≡ (is_rest e.note && ((at == e.place.position) && (accepts f && not (some ends_binding (connection past)))))
unfolding is_binding
binding-under tested f at e past under = go (is_rest e.note) refl
  where
    decided : (o : Option Fate) → latest_fate tested.role past ≡ o → latest_fate tested.role (e ∷ past) ≡ o → accepted o ≡ ((at == e.place.position) && accepts f)
    decided None was now = ap (λ b. b && accepts f) (sym (differ at e.place.position (λ is. let l = under.later now in absurd (omega arith))))
    decided (Some g) was now =
        let fits = under.fits g now in
        ap accepts fits.0 ∙ ap (λ b. b && accepts f) (sym (eq-eqb at e.place.position fits.1))

    and-last : (a b c : Bool) → ((a && b) && c) ≡ (a && (b && c))
    and-last true b c = refl
    and-last false b c = refl

    go : (b : Bool) → is_rest e.note ≡ b → (b && (accepted (latest_fate tested.role past) && not (some ends_binding (connection past)))) ≡ (b && ((at == e.place.position) && (accepts f && not (some ends_binding (connection past)))))
    go false h = refl
    go true h =
        let now : latest_fate tested.role (e ∷ past) ≡ latest_fate tested.role past =
        latest_fate-same tested.role e past (rest-opens-nothing e.note h) ∙ ap (option_or (latest_fate tested.role past)) (rest-gives tested.role e past h) ∙ option_or-none (latest_fate tested.role past) in
        ap (λ b. b && not (some ends_binding (connection past))) (decided (latest_fate tested.role past) refl now)
        ∙ and-last (at == e.place.position) (accepts f) (not (some ends_binding (connection past)))
