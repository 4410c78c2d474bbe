-- What is kept of the causes that wait for their answers, for E1O to E3O: of each identifier the first one.
use Rattle.std.specs.Prelude.{ℕ, ◌≡◌, ◌<◌, ◌==◌, ◌⊎◌, ◌&&◌, Bool, false, not, nat_eq, is_some, cond, List, [], ◌∷◌, Option, Some, None, option_map}
use Rattle.std.specs.Ordering.{nat_cmp}
use Rattle.std.specs.Map.{remove_entry}
use Rattle.std.specs.BTreeMap.{insert_entry, is_at}
use Rattle.mq_rules.specs.ByIdentifier.{kept}
use Rattle.mq_rules.specs.Words.{is_some_and}
use Rattle.mq_rules.specs.Moments.{Moment, position, note, is_unended, Among, IsDescending}
use Rattle.mq_rules.specs.Exchanges.{Exchange, answers}
use Rattle.mq_evidence.specs.declared.unanswered.Unanswered.{Unanswered}
use Rattle.mq_evidence.specs.Evidence.{earliest}
use Rattle.mq_evidence.specs.Stretches.{Stretches}
use Rattle.mq_evidence.specs.Exchange.{exchange_of}

-- the earliest cause among these that waits for its answer, and whose identifier passes the test
abbrev pub first_among : Exchange → (ℕ → Bool) → List Moment → Option Moment
first_among x test ms = earliest (λ j. is_some_and (λ i. test i && is_unended j (answers x i) ms) (x.cause (note j))) ms

-- that of any identifier but this one
abbrev pub first_but : Exchange → ℕ → List Moment → Option Moment
first_but x i ms = first_among x (λ other. not (other == i)) ms

-- ---- a line: positions, each with an identifier

abbrev pub Line : Type 0
Line = List (ℕ × ℕ)

-- the first position whose identifier passes the test
abbrev pub first_of : (ℕ → Bool) → Line → Option ℕ
first_of test [] = None
first_of test (e ∷ es) = cond (test e.1) (Some e.0) (first_of test es)

-- the first position; and that, or the second one if the identifier of the first is this one
abbrev pub head_of : Line → Option ℕ
head_of [] = None
head_of (e ∷ es) = Some e.0

abbrev pub other_of : ℕ → Line → Option ℕ
other_of i [] = None
other_of i (e ∷ es) = cond (e.1 == i) (head_of es) (Some e.0)

-- the line without this position, if there is one
abbrev pub left_of : Option ℕ → Line → Line
left_of None es = es
left_of (Some p) es = remove_entry (is_at (nat_cmp p)) es

-- the line with a position more under this identifier, if there is one and it has none
abbrev pub joined : (ℕ → Option ℕ) → Option ℕ → ℕ → Line → Line
joined at None p es = es
joined at (Some i) p es = cond (is_some (at i)) es (insert_entry nat_cmp es p i)

-- the pair is in the line
abbrev pub Within : ℕ × ℕ → Line → Type 0
Within d [] = ⊥
Within d (e ∷ es) = (d ≡ e) ⊎ Within d es

-- Each pair has a greater position than those before it, and another identifier.
abbrev pub IsLine : Line → Type 0
IsLine [] = Unit {0}
IsLine (e ∷ es) = ((d : ℕ × ℕ) → Within d es → (e.0 < d.0) × ((d.1 == e.1) ≡ false)) × IsLine es

-- ---- what is kept

-- The line has the first cause of each identifier that waits for its answer, and each identifier leads to it.
pub record IsInOrder (x : Exchange) (at : ℕ → Option ℕ) (es : Line) (ms : List Moment) : Type 0 where
  pub firsts_are : (i : ℕ) → at i ≡ first_of (nat_eq i) es
  pub line_is : IsLine es
  pub within : (n : ℕ) → ((m : Moment) → Among m ms → position m < n) → (d : ℕ × ℕ) → Within d es → d.0 < n
  pub waiting_are : (test : ℕ → Bool) → first_of test es ≡ option_map position (first_among x test ms)

-- It is about this exchange, and these stretches lead to what is kept, if each moment on the connection has a later position than those before it.
pub record IsUnanswered (x : Exchange) (u : Unanswered) (seen : Stretches) : Type 0 where
  pub about : exchange_of u.exchange ≡ x
  pub in_order : IsDescending seen.connection → IsInOrder x (kept u.firsts) u.order.entries seen.connection
