-- Openers that were passed over, looked for connection by connection.
use Rattle.std.proofs.Common.{◌≡◌, ℕ, ◌+◌, ◌<◌, ◌≤◌, nat_lt, Bool, true, false, cond, ◌&&◌, ◌||◌, not, List, [], ◌∷◌, length, Option, Some, None, refl, ap, ◌∙◌, arith}
use Rattle.std.proofs.lemmas.Bool.{le-ltb, lt-ltb}
use Rattle.mq_rules.specs.declared.role.Role.{Role}
use Rattle.mq_rules.specs.declared.fate.Fate.{Fate}
use Rattle.mq_rules.specs.declared.note.Seen.{Seen}
use Rattle.std.specs.Prelude.{option_map}
use Rattle.mq_rules.specs.Words.{is_some_and}
use Rattle.mq_rules.specs.Notes.{is_open}
use Rattle.mq_rules.specs.Moments.{Moment, position, some}
use Rattle.mq_rules.specs.Connections.{connection, latest_fate, resumed}
use Rattle.mq_rules.specs.Identifiers.{announces_bound, sends_again, is_passed_over}
use Rattle.mq_rules.specs.Passing.{opened_at, before_latest}
use Rattle.mq_rules.proofs.Exports.{and_false, earlier_over, or_false, passed-none, passed_over-back, passed_over-is}

abbrev over_on : Role → ℕ → Option Fate → List Seen → Bool
over_on role i f past = resumed f && (announces_bound role (connection past) && not (some (sends_again i) (connection past)))

-- ---- the OPEN of the latest connection

opened-none : (past : List Seen) → before_latest past ≡ None → opened_at past ≡ 0
opened-none [] h = refl
opened-none (e ∷ past) h = go (is_open e.note) h (opened-none past)
  where
    go : (b : Bool) → cond b (Some past) (before_latest past) ≡ None → (before_latest past ≡ None → opened_at past ≡ 0) → cond b (length past + 1) (opened_at past) ≡ 0
    go true h before = absurd (cc)
    go false h before = before h

opened-some : (past rest : List Seen) → before_latest past ≡ Some rest → opened_at past ≡ length rest + 1
opened-some [] rest h = absurd (cc)
opened-some (e ∷ past) rest h = go (is_open e.note) h (opened-some past rest)
  where
    go : (b : Bool) → cond b (Some past) (before_latest past) ≡ Some rest → (before_latest past ≡ Some rest → opened_at past ≡ length rest + 1) → cond b (length past + 1) (opened_at past) ≡ length rest + 1
    go true h before = let same : past ≡ rest = cc in ap (λ (es : List Seen). length es + 1) same
    go false h before = before h

-- ---- one connection further back

pub over-none : (role : Role) (taken : Option Fate) (i : ℕ) (past : List Seen) (k : Moment) → before_latest past ≡ None → is_passed_over role taken i past k ≡ false
over-none role taken i past k h =
    passed_over-back role taken i past k
    ∙ ap (λ o. earlier_over role i k o || (nat_lt (position k) (opened_at past) && over_on role i taken past)) h
    ∙ ap (λ n. nat_lt (position k) n && over_on role i taken past) (opened-none past h)
    ∙ ap (λ b. b && over_on role i taken past) (le-ltb (position k) 0 (omega arith))

over-some : (role : Role) (taken : Option Fate) (i : ℕ) (past rest : List Seen) (k : Moment) → before_latest past ≡ Some rest
    → is_passed_over role taken i past k ≡ (is_passed_over role (latest_fate role rest) i rest k || (nat_lt (position k) (length rest + 1) && over_on role i taken past))
over-some role taken i past rest k h =
    passed_over-back role taken i past k
    ∙ ap (λ o. earlier_over role i k o || (nat_lt (position k) (opened_at past) && over_on role i taken past)) h
    ∙ ap (λ n. is_passed_over role (latest_fate role rest) i rest k || (nat_lt (position k) n && over_on role i taken past)) (opened-some past rest h)

-- no earlier connection begins after it
late-none : (role : Role) (taken : Option Fate) (i : ℕ) (past : List Seen) (k : Moment) → length past ≤ length k.past → is_passed_over role taken i past k ≡ false
late-none role taken i past k late = passed_over-is role taken i past k
    ∙ ap (λ b. b || (nat_lt (position k) (opened_at past) && over_on role i taken past)) (passed-none role i (position k) past (omega (arith, late)))
    ∙ ap (λ b. b && over_on role i taken past) (le-ltb (position k) (opened_at past) (let w = opened-length past in omega (arith, late, w)))
  where
    opened-length : (es : List Seen) → opened_at es ≤ length es
    opened-length [] = omega arith
    opened-length (e ∷ es) = go (is_open e.note) (opened-length es)
      where
        go : (b : Bool) → opened_at es ≤ length es → cond b (length es + 1) (opened_at es) ≤ length (e ∷ es)
        go true h = omega arith
        go false h = omega (arith, h)

-- where this connection doesn't begin after it, none does
pub over-stops : (role : Role) (taken : Option Fate) (i : ℕ) (past rest : List Seen) (k : Moment) → before_latest past ≡ Some rest → length rest ≤ length k.past → is_passed_over role taken i past k ≡ false
over-stops role taken i past rest k h late =
    over-some role taken i past rest k h
    ∙ ap (λ b. b || (nat_lt (position k) (length rest + 1) && over_on role i taken past)) (late-none role (latest_fate role rest) i rest k late)
    ∙ ap (λ b. b && over_on role i taken past) (le-ltb (position k) (length rest + 1) (omega (arith, late)))

-- where it does, it passes over or not
pub over-here : (role : Role) (taken : Option Fate) (i : ℕ) (past rest : List Seen) (k : Moment) → before_latest past ≡ Some rest → length k.past < length rest → over_on role i taken past ≡ true → is_passed_over role taken i past k ≡ true
over-here role taken i past rest k h before here =
    over-some role taken i past rest k h
    ∙ ap (λ b. is_passed_over role (latest_fate role rest) i rest k || (b && over_on role i taken past)) (lt-ltb (position k) (length rest + 1) (omega (arith, before)))
    ∙ ap (λ b. is_passed_over role (latest_fate role rest) i rest k || b) here ∙ or_true (is_passed_over role (latest_fate role rest) i rest k)
  where
    or_true : (b : Bool) → (b || true) ≡ true
    or_true true = refl
    or_true false = refl

pub over-back : (role : Role) (taken : Option Fate) (i : ℕ) (past rest : List Seen) (k : Moment) → before_latest past ≡ Some rest → over_on role i taken past ≡ false
    → is_passed_over role taken i past k ≡ is_passed_over role (latest_fate role rest) i rest k
over-back role taken i past rest k h here =
    over-some role taken i past rest k h
    ∙ ap (λ b. is_passed_over role (latest_fate role rest) i rest k || (nat_lt (position k) (length rest + 1) && b)) here
    ∙ ap (λ b. is_passed_over role (latest_fate role rest) i rest k || b) (and_false (nat_lt (position k) (length rest + 1))) ∙ or_false (is_passed_over role (latest_fate role rest) i rest k)

-- ---- the latest opener

pub latest-over : (over : Moment → Bool) (l : Option Moment) (n : ℕ) (r : Bool) → option_map (λ m. length m.past) l ≡ Some n → ((k : Moment) → length k.past ≡ n → r ≡ over k) → r ≡ is_some_and over l
latest-over over None n r h each = absurd (cc)
latest-over over (Some k) n r h each = let same : length k.past ≡ n = cc in each k same

pub latest-nothing : (over : Moment → Bool) (l : Option Moment) → option_map (λ m. length m.past) l ≡ None → is_some_and over l ≡ false
latest-nothing over None h = refl
latest-nothing over (Some k) h = absurd (cc)
