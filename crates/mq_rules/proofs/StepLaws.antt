-- What fails with one event more: once for each shape of statement, over any predicate.
use Rattle.std.proofs.Common.{◌≡◌, ℕ, ◌+◌, ◌<◌, ◌≤◌, ◌==◌, nat_lt, Bool, true, false, cond, ◌&&◌, ◌||◌, List, [], ◌∷◌, length, Option, Some, None, is_some, refl, ap, sym, ◌∙◌, arith}
use Rattle.std.proofs.lemmas.Bool.{eqb-true, eq-eqb, lt-ltb, ltb-true}
use Rattle.std.specs.Option.{option_or}
use Rattle.mq_rules.specs.declared.role.Role.{Role}
use Rattle.mq_rules.specs.declared.role.Tested.{Tested}
use Rattle.mq_rules.specs.declared.fate.Fate.{Fate}
use Rattle.mq_rules.specs.declared.rule.Rule.{Rule}
use Rattle.mq_rules.specs.declared.note.Seen.{Seen}
use Rattle.mq_rules.specs.Words.{is_some_and}
use Rattle.mq_rules.specs.Moments.{Moment, newest, position, moments, moment, is_next, is_after, some}
use Rattle.mq_rules.specs.Connections.{number, fate, gives_fate, is_beside, is_binding}
use Rattle.mq_rules.specs.Rules.{binds}
use Rattle.mq_rules.specs.Statements.{Statement, on_bytes, on_past, in_session, at_release, at_rest, by_later, statement, breaks_bytes, is_so_under, where_accepted, is_so, fails}
use Rattle.mq_rules.specs.Steps.{given, shows_under, shows, turns}
use Rattle.mq_rules.proofs.FateLaws.{fate-next}
use Rattle.mq_rules.proofs.BoolLaws.{and_false, or_false, and-over, or-last, or-turn, not_true, differ}

-- ---- the moment of a position

-- a position past the end has no moment
pub moment-beyond : (log : List Seen) (k : ℕ) → length log < k → moment log k ≡ None
moment-beyond [] k h = refl
moment-beyond (e ∷ past) k h =
    let lt : length past < k = omega arith in
    ap (λ b. cond b (Some (newest e past)) (moment past k)) (differ k (length past + 1) (λ q. omega arith)) ∙ moment-beyond past k lt

-- nor has the next one, yet
pub moment-next : (past : List Seen) (k : ℕ) → is_next past k ≡ true → moment past k ≡ None
moment-next past k t = let at : k ≡ length past + 1 = eqb-true k (length past + 1) t in moment-beyond past k (omega arith)

-- what comes later leaves a moment as it is
pub moment-older : (e : Seen) (past : List Seen) (k : ℕ) → is_next past k ≡ false → moment (e ∷ past) k ≡ moment past k
moment-older e past k t = ap (λ b. cond b (Some (newest e past)) (moment past k)) t

pub moment-stays : (e : Seen) (past : List Seen) (k : ℕ) (m : Moment) → moment past k ≡ Some m → moment (e ∷ past) k ≡ Some m
moment-stays e past k m at = moment-older e past k (not_true (is_next past k) (λ t. let none : moment past k ≡ None = moment-next past k t in absurd (cc))) ∙ at

-- the newest event's moment
pub moment-newest : (e : Seen) (past : List Seen) → moment (e ∷ past) (length past + 1) ≡ Some (newest e past)
moment-newest e past = ap (λ b. cond b (Some (newest e past)) (moment past (length past + 1))) (eq-eqb (length past + 1) (length past + 1) refl)

-- it stands in the log
pub moment-within : (log : List Seen) (k : ℕ) (m : Moment) → moment log k ≡ Some m → position m ≤ length log
moment-within [] k m h = absurd (cc)
moment-within (e ∷ past) k m h = go (is_next past k) h (moment-within past k m)
  where
    go : (b : Bool) → cond b (Some (newest e past)) (moment past k) ≡ Some m → (moment past k ≡ Some m → position m ≤ length past) → position m ≤ length (e ∷ past)
    go true h rest = let same : newest e past ≡ m = cc in let at : length past + 1 ≡ position m = ap position same in omega arith
    go false h rest = let le : position m ≤ length past = rest h in omega arith

-- ---- fates

-- a connection's fate with one event more
pub fate-step : (role : Role) (c : ℕ) (e : Seen) (past : List Seen) → fate role c (e ∷ past) ≡ option_or (fate role c past) (cond (number (newest e past) == c) (gives_fate role (newest e past)) None)
fate-step role c e past = fate-next role c e past

-- once decided, it stays
pub fate-kept : (role : Role) (c : ℕ) (f : Fate) (e : Seen) (past : List Seen) → fate role c past ≡ Some f → fate role c (e ∷ past) ≡ Some f
fate-kept role c f e past h = fate-step role c e past ∙ ap (λ o. option_or o (cond (number (newest e past) == c) (gives_fate role (newest e past)) None)) h

-- ---- each shape

-- what is asked of a position's moment is asked of the newest event too
one-more : (test : Moment → Bool) (e : Seen) (past : List Seen) (k : ℕ) → is_some_and test (moment (e ∷ past) k) ≡ (is_some_and test (moment past k) || (is_next past k && test (newest e past)))
one-more test e past k = go (is_next past k) refl
  where
    go : (b : Bool) → is_next past k ≡ b → is_some_and test (cond b (Some (newest e past)) (moment past k)) ≡ (is_some_and test (moment past k) || (b && test (newest e past)))
    go true t = ap (λ o. is_some_and test o || test (newest e past)) (sym (moment-next past k t))
    go false t = sym (or_false (is_some_and test (moment past k)))

-- what is false under a fate was so already, or the event gives that fate
under-step : (role : Role) (breaks : Fate → Moment → Bool) (e : Seen) (past : List Seen) (o : Option Moment)
    → is_some_and (λ m. is_so_under breaks m (fate role (number m) (e ∷ past))) o
    ≡ (is_some_and (λ m. is_so_under breaks m (fate role (number m) past)) o || is_some_and (λ m. is_so_under breaks m (given role e past (number m))) o)
under-step role breaks e past None = refl
under-step role breaks e past (Some m) = go (fate role (number m) past) refl
  where
    now : Option Fate
    now = fate role (number m) (e ∷ past)

    go : (o : Option Fate) → fate role (number m) past ≡ o → is_so_under breaks m now ≡ (is_so_under breaks m o || is_so_under breaks m (cond (is_some o) None now))
    go None is = refl
    go (Some f) is = ap (is_so_under breaks m) (fate-kept role (number m) f e past is) ∙ sym (or_false (breaks f m))

fated-step : (role : Role) (breaks : Fate → Moment → Bool) (e : Seen) (past : List Seen) (k : ℕ)
    → is_some_and (λ m. is_so_under breaks m (fate role (number m) (e ∷ past))) (moment (e ∷ past) k)
    ≡ (is_some_and (λ m. is_so_under breaks m (fate role (number m) past)) (moment past k) || shows_under role breaks e past k)
fated-step role breaks e past k =
    one-more now e past k
    ∙ ap (λ b. b || (is_next past k && now (newest e past))) (under-step role breaks e past (moment past k))
    ∙ or-last (is_some_and old (moment past k)) (is_next past k && now (newest e past)) (is_some_and gives (moment past k))
  where
    now : Moment → Bool
    now m = is_so_under breaks m (fate role (number m) (e ∷ past))

    old : Moment → Bool
    old m = is_so_under breaks m (fate role (number m) past)

    gives : Moment → Bool
    gives m = is_so_under breaks m (given role e past (number m))

-- no moment of a log stands after its end
none-after : (m : Moment) (test : Moment → Bool) (log : List Seen) → length log < position m + 1 → some (λ t. is_after t m && test t) (moments log) ≡ false
none-after m test [] h = refl
none-after m test (e ∷ past) h =
    ap (λ b. (b && test (newest e past)) || some (λ t. is_after t m && test t) (moments past)) (not_true (nat_lt (position m) (length past + 1)) (λ t. let lt : position m < length past + 1 = ltb-true (position m) (length past + 1) t in omega arith))
    ∙ none-after m test past (omega arith)

-- a later moment shows what it shows of an earlier one
later-step : (test : Moment → Moment → Bool) (e : Seen) (past : List Seen) (k : ℕ)
    → is_some_and (λ m. some (λ t. is_after t m && test t m) (moments (e ∷ past))) (moment (e ∷ past) k)
    ≡ (is_some_and (λ m. some (λ t. is_after t m && test t m) (moments past)) (moment past k) || is_some_and (test (newest e past)) (moment past k))
later-step test e past k = go (is_next past k) refl (moment past k) refl
  where
    old : Moment → Bool
    old m = some (λ t. is_after t m && test t m) (moments past)

    now : Moment → Bool
    now m = some (λ t. is_after t m && test t m) (moments (e ∷ past))

    shown : Option Moment → Bool
    shown o = is_some_and old o || is_some_and (test (newest e past)) o

    -- nothing stands after the newest event
    last : now (newest e past) ≡ false
    last =
        ap (λ b. (b && test (newest e past) (newest e past)) || old (newest e past)) (not_true (nat_lt (length past + 1) (length past + 1)) (λ t. let lt : length past + 1 < length past + 1 = ltb-true (length past + 1) (length past + 1) t in omega arith))
        ∙ none-after (newest e past) (λ t. test t (newest e past)) past (omega arith)

    earlier : (o : Option Moment) → moment past k ≡ o → is_some_and now o ≡ shown o
    earlier None at = refl
    earlier (Some m) at =
        let le : position m ≤ length past = moment-within past k m at in
        ap (λ b. (b && test (newest e past) m) || old m) (lt-ltb (position m) (length past + 1) (omega arith))
        ∙ or-turn (test (newest e past) m) (old m)

    go : (b : Bool) → is_next past k ≡ b → (o : Option Moment) → moment past k ≡ o → is_some_and now (cond b (Some (newest e past)) o) ≡ shown o
    go true t o at = last ∙ sym (ap shown (sym at ∙ moment-next past k t))
    go false t o at = earlier o at

-- a later REST that binds
pub rest-step : (role : Role) (test : Moment → Moment → Bool) (e : Seen) (past : List Seen) (k : ℕ)
    → is_some_and (λ m. some (λ t. is_after t m && (is_binding role t && test t m)) (moments (e ∷ past))) (moment (e ∷ past) k)
    ≡ (is_some_and (λ m. some (λ t. is_after t m && (is_binding role t && test t m)) (moments past)) (moment past k) || (is_binding role (newest e past) && is_some_and (test (newest e past)) (moment past k)))
rest-step role test e past k =
    later-step (λ t m. is_binding role t && test t m) e past k
    ∙ ap (λ b. is_some_and (λ m. some (λ t. is_after t m && (is_binding role t && test t m)) (moments past)) (moment past k) || b) (outside (moment past k))
  where
    outside : (o : Option Moment) → is_some_and (λ m. is_binding role (newest e past) && test (newest e past) m) o ≡ (is_binding role (newest e past) && is_some_and (test (newest e past)) o)
    outside None = sym (and_false (is_binding role (newest e past)))
    outside (Some m) = refl

-- a statement of any shape
pub false-step : (role : Role) (s : Statement) (e : Seen) (past : List Seen) (k : ℕ)
    → is_so role (λ c. fate role c (e ∷ past)) s (e ∷ past) k ≡ (is_so role (λ c. fate role c past) s past k || shows role s e past k)
false-step role (on_bytes rule) e past k = one-more (breaks_bytes rule) e past k
false-step role (on_past breaks) e past k = one-more breaks e past k
false-step role (in_session breaks) e past k = fated-step role (where_accepted breaks) e past k
false-step role (at_release breaks) e past k = fated-step role breaks e past k
false-step role (at_rest test) e past k = rest-step role test e past k
false-step role (by_later test) e past k = later-step (λ t m. is_beside t m && test t m) e past k

-- ---- what fails

-- what fails with one event more failed already, or turns out to fail
pub fails-step : (tested : Tested) (e : Seen) (past : List Seen) (k : ℕ) (rule : Rule) → fails tested (e ∷ past) k rule ≡ (fails tested past k rule || turns tested e past k rule)
unfolding fails turns
fails-step tested e past k rule =
    ap (λ b. binds rule tested && b) (false-step tested.role (statement tested.role rule) e past k)
    ∙ and-over (binds rule tested) (is_so tested.role (λ c. fate tested.role c past) (statement tested.role rule) past k) (shows tested.role (statement tested.role rule) e past k)

-- what fails in a beginning of the log fails in the log
pub fails-kept : (tested : Tested) (past : List Seen) (e : Seen) (k : ℕ) (rule : Rule) → fails tested past k rule ≡ true → fails tested (e ∷ past) k rule ≡ true
fails-kept tested past e k rule h = fails-step tested e past k rule ∙ ap (λ b. b || turns tested e past k rule) h

-- a position without a moment has nothing that fails
pub false-nowhere : (role : Role) (fates : ℕ → Option Fate) (s : Statement) (log : List Seen) (k : ℕ) → moment log k ≡ None → is_so role fates s log k ≡ false
false-nowhere role fates (on_bytes rule) log k none = ap (is_some_and (breaks_bytes rule)) none
false-nowhere role fates (on_past breaks) log k none = ap (is_some_and breaks) none
false-nowhere role fates (in_session breaks) log k none = ap (is_some_and (λ m. is_so_under (where_accepted breaks) m (fates (number m)))) none
false-nowhere role fates (at_release breaks) log k none = ap (is_some_and (λ m. is_so_under breaks m (fates (number m)))) none
false-nowhere role fates (at_rest test) log k none = ap (is_some_and (λ m. some (λ t. is_after t m && (is_binding role t && test t m)) (moments log))) none
false-nowhere role fates (by_later test) log k none = ap (is_some_and (λ m. some (λ t. is_after t m && (is_beside t m && test t m)) (moments log))) none

pub fails-nowhere : (tested : Tested) (log : List Seen) (k : ℕ) (rule : Rule) → moment log k ≡ None → fails tested log k rule ≡ false
unfolding fails
fails-nowhere tested log k rule none =
    ap (λ b. binds rule tested && b) (false-nowhere tested.role (λ c. fate tested.role c log) (statement tested.role rule) log k none) ∙ and_false (binds rule tested)
