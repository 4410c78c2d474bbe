-- A log that is told event by event.
use Rattle.std.proofs.Common.{◌≡◌, ℕ, ◌+◌, ◌<◌, Bool, true, false, cond, ◌&&◌, ◌||◌, not, ◌⊎◌, inl, inr, List, [], ◌∷◌, length, Option, Some, None, Result, Ok, Err, OnOk, OnErr, refl, ap, sym, ◌∙◌, subst, get_or, take, drop}
use Rattle.std.specs.Prelude.{reverse}
use Rattle.std.specs.Option.{option_or}
use mathlib.Core.List.{reverse_aux}
use denote.Enum.Bare.{same_true}
use Rattle.mq_rules.specs.contracts.rule.Rule.{the_type}
use Rattle.mq_rules.specs.declared.role.Role.{Role}
use Rattle.mq_rules.specs.declared.role.Tested.{Tested}
use Rattle.mq_rules.specs.declared.fate.Fate.{Fate}
use Rattle.mq_rules.specs.declared.rule.Rule.{Rule}
use Rattle.mq_rules.specs.declared.rule.Rule.TheVariants.{W01}
use Rattle.mq_rules.specs.declared.fault.Fault.{Fault}
use Rattle.mq_rules.specs.declared.note.Seen.{Seen}
use Rattle.mq_rules.specs.Moments.{moment, IsPlaced}
use Rattle.mq_rules.specs.Connections.{latest_fate, AreOnConnections}
use Rattle.mq_rules.specs.Words.{is_some_and}
use Rattle.mq_rules.specs.Statements.{Statement, on_bytes, on_past, in_session, at_release, at_rest, by_later, statement, is_by_bytes, is_by_past, is_by_later, is_on_bytes, is_on_past, is_on_clock, is_on_further, is_on_later}
use Rattle.mq_rules.specs.Rules.{is_further, is_on_times}
use Rattle.mq_rules.specs.Occasions.{places}
use Rattle.mq_rules.specs.Steps.{turns}
use Rattle.mq_rules.specs.FaultKeys.{FaultMap, fault_at}
use Rattle.mq_rules.specs.Faults.{reported, fault_in}
use Rattle.mq_rules.proofs.Exports.{and_false, beginning, fault_in-start, fault_in-step, newest-first, or_parts}
use Rattle.mq_rules.specs.Under.{is_by_session, is_on_session, IsInTurn, Follows}
use Rattle.mq_rules.specs.Growing.{added, Gains, GainsWithin, news, GrowsBy, GrowsByWithin}
use Rattle.mq_watchers.specs.Judging.{IsWhole}
use Rattle.mq_fates.specs.Holding.{turns_session}
use Rattle.mq_watchers.specs.Grouping.{of_sessions}

tails : (P : List Seen → Type 0) → ((e : Seen) (past : List Seen) → P (e ∷ past) → P past) → (later past : List Seen) → P (reverse_aux later past) → P past
tails P tail [] past h = h
tails P tail (e ∷ later) past h = tail e past (tails P tail later (e ∷ past) h)

front : (P : List Seen → Type 0) → ((e : Seen) (past : List Seen) → P (e ∷ past) → P past) → (seen : List Seen) (i : ℕ) (e : Seen) → i < length seen → e ≡ get_or seen i e → P (reverse seen) → P (e ∷ reverse (take i seen))
front P tail seen i e lt is h = subst P (newest-first seen i e lt is) (tails P tail (drop (i + 1) seen) (reverse (take (i + 1) seen)) (subst P (sym (beginning seen (i + 1))) h))

pub follows-at : (tested : Tested) (seen : List Seen) (i : ℕ) (e : Seen) → i < length seen → e ≡ get_or seen i e → IsPlaced (reverse seen) → IsInTurn tested.role (reverse seen) → AreOnConnections (reverse seen) → Follows tested e (reverse (take i seen))
follows-at tested seen i e lt is placed turn connected = record {
  placed = front IsPlaced (λ e past h. h.1) seen i e lt is placed;
  in_turn = front (IsInTurn tested.role) (λ e past h. h.1) seen i e lt is turn;
  on_connections = front AreOnConnections (λ e past h. h.1) seen i e lt is connected;
}

-- the faults of a watcher of whole logs grow by what turns out to fail
pub whole-grows : (takes : Option Fate → Seen → List Seen → Type 0) (adds : Seen → List Seen → ℕ → Rule → Bool) (chosen : Rule → Bool) (tested : Tested) (e : Seen) (past : List Seen) (old new : FaultMap)
    → IsWhole takes adds chosen tested → Gains (adds e past) tested (e ∷ past) (length past + 1) old new → GrowsBy chosen tested e past old new
whole-grows takes adds chosen tested e past old new w g = record {
  each = λ k r. g.each k r ∙ ap (λ b. option_or (fault_at old k r) (cond b (Some (reported tested.role (moment (e ∷ past) k) r (length past + 1))) None)) (w.added e past k r);
}

pub whole-within : (takes : Option Fate → Seen → List Seen → Type 0) (adds : Seen → List Seen → ℕ → Rule → Bool) (chosen : Rule → Bool) (tested : Tested) (e : Seen) (past : List Seen) (old new : FaultMap)
    → IsWhole takes adds chosen tested → GainsWithin (adds e past) tested (e ∷ past) (length past + 1) old new → GrowsByWithin chosen tested e past old new
whole-within takes adds chosen tested e past old new w g = record { each = λ k r. go k r (g.each k r) }
  where
    go : (k : ℕ) (r : Rule) → (fault_at new k r ≡ fault_at old k r) ⊎ (fault_at new k r ≡ option_or (fault_at old k r) (added (adds e past) tested (e ∷ past) (length past + 1) k r))
        → (fault_at new k r ≡ fault_at old k r) ⊎ (fault_at new k r ≡ option_or (fault_at old k r) (news chosen tested e past k r))
    go k r (inl h) = inl h
    go k r (inr h) = inr (h ∙ ap (λ b. option_or (fault_at old k r) (cond b (Some (reported tested.role (moment (e ∷ past) k) r (length past + 1))) None)) (w.added e past k r))

-- ---- the watchers of all statements on sessions

-- they judge exactly the statements on sessions
sessions-all : (role : Role) (r : Rule) → of_sessions r ≡ is_by_session (statement role r)
sessions-all role W01 = refl
sessions-all role _ = refl

joined : (s t : Bool) → (s && (s && t)) ≡ (s && t)
joined true t = refl
joined false t = refl

pub sessions-whole : (tested : Tested) (e : Seen) (past : List Seen) (k : ℕ) (r : Rule) → (of_sessions r && turns_session tested e past k r) ≡ (is_on_session tested r && turns tested e past k r)
sessions-whole tested e past k r = ap (λ b. b && turns_session tested e past k r) (sessions-all tested.role r) ∙ joined (is_on_session tested r) (turns tested e past k r)

-- ---- the watchers of all statements

-- what each watcher adds
abbrev pub turns_by_all : Tested → Seen → List Seen → ℕ → Rule → Bool
turns_by_all tested e past k r =
    (is_on_bytes tested r && turns tested e past k r) || ((is_on_past tested r && turns tested e past k r) || ((is_on_further tested r && turns tested e past k r) || ((is_on_later tested r && turns tested e past k r) || ((is_on_clock tested r && turns tested e past k r) || (of_sessions r && turns_session tested e past k r)))))

-- each statement is watched by one of the six; f says whether it is a further one, and o whether it is on times
any_of : (s : Statement) (f o t : Bool) → ((is_by_bytes s && t) || (((is_by_past s && not f) && t) || (((is_by_past s && (f && not o)) && t) || ((is_by_later s && t) || (((is_by_past s && o) && t) || (is_by_session s && t)))))) ≡ t
any_of (on_bytes rule) f o true = refl
any_of (on_bytes rule) f o false = refl
any_of (on_past breaks) true true true = refl
any_of (on_past breaks) true true false = refl
any_of (on_past breaks) true false true = refl
any_of (on_past breaks) true false false = refl
any_of (on_past breaks) false true true = refl
any_of (on_past breaks) false true false = refl
any_of (on_past breaks) false false true = refl
any_of (on_past breaks) false false false = refl
any_of (in_session breaks) f o true = refl
any_of (in_session breaks) f o false = refl
any_of (at_release breaks) f o true = refl
any_of (at_release breaks) f o false = refl
any_of (at_rest test) f o true = refl
any_of (at_rest test) f o false = refl
any_of (by_later test) f o true = refl
any_of (by_later test) f o false = refl

pub all-turns : (tested : Tested) (e : Seen) (past : List Seen) (k : ℕ) (r : Rule) → turns_by_all tested e past k r ≡ turns tested e past k r
all-turns tested e past k r =
    ap (λ b. (is_on_bytes tested r && turns tested e past k r) || ((is_on_past tested r && turns tested e past k r) || ((is_on_further tested r && turns tested e past k r) || ((is_on_later tested r && turns tested e past k r) || ((is_on_clock tested r && turns tested e past k r) || b))))) (sessions-whole tested e past k r)
    ∙ any_of (statement tested.role r) (is_further r) (is_on_times r) (turns tested e past k r)

-- what follows from what holds after an Ok, and from what holds after an error
pub on_ok : {A E : Type 0} (r : Result A E) (P Q : Type 0) → (P → Q) → OnOk r P → OnOk r Q
on_ok (Ok a) P Q f p = f p
on_ok (Err e) P Q f p = p

pub on_error : {A E : Type 0} (r : Result A E) (P Q : Type 0) → (P → Q) → OnErr r P → OnErr r Q
on_error (Ok a) P Q f p = p
on_error (Err e) P Q f p = f p

-- ---- where a statement's places are counted

there : (s : Statement) → is_by_session s ≡ true → is_by_bytes s ≡ false
there (on_bytes rule) h = absurd (cc)
there (on_past breaks) h = absurd (cc)
there (in_session breaks) h = refl
there (at_release breaks) h = refl
there (at_rest test) h = refl
there (by_later test) h = refl

-- those on sessions are
pub counted-session : (tested : Tested) (r : Rule) (past : List Seen) (n : ℕ) → of_sessions r ≡ true → n ≡ places tested past r → Some n ≡ cond (is_on_bytes tested r) None (Some (places tested past r))
counted-session tested r past n on is =
    ap Some is ∙ ap (λ (b : Bool). cond b None (Some (places tested past r))) (sym (there (statement tested.role r) (sym (sessions-all tested.role r) ∙ on)))

elsewhere : (s : Statement) (f o : Bool) → is_by_session s ≡ false → (n : ℕ)
    → option_or (cond (is_by_later s) (Some n) None) (option_or (cond (is_by_past s && o) (Some n) None) (option_or (cond (is_by_past s && (f && not o)) (Some n) None) (cond (is_by_past s && not f) (Some n) None))) ≡ cond (is_by_bytes s) None (Some n)
elsewhere (on_bytes rule) f o h n = refl
elsewhere (on_past breaks) f true h n = refl
elsewhere (on_past breaks) true false h n = refl
elsewhere (on_past breaks) false false h n = refl
elsewhere (in_session breaks) f o h n = absurd (cc)
elsewhere (at_release breaks) f o h n = absurd (cc)
elsewhere (at_rest test) f o h n = absurd (cc)
elsewhere (by_later test) f o h n = refl

-- any other is one that a later event shows, or on the past of a connection, a further one on times, a further one or not, or on a packet's bytes
pub counted-past : (tested : Tested) (r : Rule) (past : List Seen) → of_sessions r ≡ false
    → option_or (cond (is_on_later tested r) (Some (places tested past r)) None)
    (option_or (cond (is_on_clock tested r) (Some (places tested past r)) None) (option_or (cond (is_on_further tested r) (Some (places tested past r)) None) (cond (is_on_past tested r) (Some (places tested past r)) None)))
    ≡ cond (is_on_bytes tested r) None (Some (places tested past r))
counted-past tested r past off = elsewhere (statement tested.role r) (is_further r) (is_on_times r) (sym (sessions-all tested.role r) ∙ off) (places tested past r)
