-- What is kept of PUBLISHes that are sent again on a connection, for S05.
use Rattle.std.specs.Prelude.{ℕ, ◌≡◌, nat_lt, Bool, true, cond, List, Option, Some, None, option_map, unwrap_or}
use Rattle.std.specs.List.{find}
use Rattle.std.specs.List.Sorted.{IsNonDecreasingBy}
use Rattle.std.specs.Option.{option_and_then}
use Rattle.mq_rules.specs.declared.role.Role.{Role}
use Rattle.mq_rules.specs.declared.fate.Fate.{Fate}
use Rattle.mq_rules.specs.declared.note.Note.{Note}
use Rattle.mq_rules.specs.declared.note.Seen.{Seen}
use Rattle.mq_rules.specs.Words.{is_some_and}
use Rattle.mq_rules.specs.Notes.{opener_of, closer_of, resend_of}
use Rattle.mq_rules.specs.Moments.{Moment, position, note}
use Rattle.mq_rules.specs.Connections.{connection, session}
use Rattle.mq_rules.specs.declared.evidence.Evidence.{Evidence}
use Rattle.mq_rules.specs.declared.evidence.Numbers.TheVariants.{Two}
use Rattle.mq_rules.specs.Evidence.{nothing}
use Rattle.mq_evidence.specs.declared.overtaking.Overtaking.{Overtaking}
use Rattle.mq_evidence.specs.declared.overtaking.Resend.{Resend}
use Rattle.mq_evidence.specs.Evidence.{earliest}
use Rattle.mq_evidence.specs.Stretches.{has_id, unended}

-- where what this event sends again was first sent, if it is open after these moments of its session
abbrev pub opened_under : Note → List Moment → Option ℕ
opened_under n ms = option_and_then (λ i. option_map position (unended (has_id opener_of i) (has_id closer_of i) ms)) (resend_of n)

-- the same at a moment, where its connection has this fate
abbrev pub opened_at : Role → Option Fate → Moment → Option ℕ
opened_at role f j = opened_under (note j) (session role f j.past)

-- what is sent again was first sent after this position
abbrev pub is_after : Role → Option Fate → ℕ → Moment → Bool
is_after role f n j = is_some_and (nat_lt n) (opened_at role f j)

abbrev pub is_later : ℕ → Resend → Bool
is_later n r = nat_lt n r.opened

-- it was first sent before this position, or there is none
abbrev pub is_above : Option Resend → ℕ → Bool
is_above None n = true
is_above (Some r) n = nat_lt r.opened n

-- what is sent again at a position, if it is open and was first sent after another one
abbrev pub later_one : ℕ → ℕ → Option ℕ → Option Resend
later_one n p None = None
later_one n p (Some o) = cond (nat_lt n o) (Some (record { position = p; opened = o })) None

-- what is sent again at this moment
abbrev pub resend_at : Role → Option Fate → Moment → Resend
resend_at role f j = record { position = position j; opened = unwrap_or (opened_at role f j) 0 }

-- the evidence by it, for what was first sent at a position
abbrev pub by_resend : Option Resend → ℕ → Evidence
by_resend None n = nothing
by_resend (Some r) n = record { because = Some r.position; numbers = Two r.opened n }

-- These events lead to what is kept: of all that was first sent after a position, it leads to what was sent again first.
pub record IsOvertaking (x : Overtaking) (role : Role) (f : Option Fate) (past : List Seen) : Type 0 where
  pub rising : IsNonDecreasingBy (λ r. r.opened) x.resends.items
  pub first_are : (n : ℕ) → find (is_later n) x.resends.items ≡ option_map (resend_at role f) (earliest (is_after role f n) (connection past))
