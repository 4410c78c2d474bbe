-- Which of S01 to S05 an event puts to the test, by what is kept of the identifiers in use.
use Rattle.std.specs.Prelude.{ℕ, ◌≡◌, refl, nat_eq, nat_lt, length, Bool, true, ◌&&◌, ◌||◌, not, List, Option, is_some}
use Rattle.std.specs.Option.{option_or}
use Rattle.std.specs.List.{list_any}
use Rattle.mq_rules.specs.KeptOrder.{value_under, values_of}
use Rattle.mq_rules.specs.declared.role.Role.{Role}
use Rattle.mq_rules.specs.declared.role.Tested.{Tested}
use Rattle.mq_rules.specs.declared.fate.Fate.{Fate}
use Rattle.mq_rules.specs.declared.rule.Rule.{Rule}
use Rattle.mq_rules.specs.declared.rule.Rule.TheVariants.{S01, S02, S03, S04, S05, S06}
use Rattle.mq_rules.specs.declared.note.Note.{Note}
use Rattle.mq_rules.specs.declared.note.Seen.{Seen}
use Rattle.mq_rules.specs.Words.{is_some_and}
use Rattle.mq_rules.specs.Notes.{resend_of, sent_as, pubrel_in}
use Rattle.mq_rules.specs.Connections.{accepts, is_unasked, surprises}
use Rattle.mq_rules.specs.Identifiers.{taken_by}
use Rattle.mq_rules.specs.Rules.{same_rule}
use Rattle.mq_rules.specs.Occasions.{occasion, places_under}
use Rattle.mq_inflight.specs.declared.inflight.Inflight.{Inflight}
use Rattle.mq_inflight.specs.declared.inflight.asking.AtOncePlaces.{AtOncePlaces}
use Rattle.mq_fates.specs.Knowing.{excused}
use Rattle.mq_inflight.specs.Resending.{passed_since}
use Rattle.mq_fates.specs.Placings.{is_on_sessions, on_either, on_one}
use Rattle.mq_inflight.specs.Using.{is_taken, past_pubrel, is_at_once, is_inflight}

-- some identifier is among these
abbrev pub has_any : List ℕ → Bool
has_any is = nat_lt 0 (length is)

-- something is in use: a SUBSCRIBE or an UNSUBSCRIBE waits for its answer, or something is open that can't have been discarded
abbrev pub any_used : Inflight → Fate → Bool
any_used s f = (has_any s.subscribing.keys || has_any s.unsubscribing.keys) || list_any (is_taken (passed_since f s.bounds s.opened s.bounded)) (values_of (value_under s.entries))

-- S01: an identifier is taken while something is in use.
abbrev pub tries_taking : Inflight → Fate → Bool → Note → Bool
tries_taking s f known n = excused (is_unasked f) known (accepts f && (is_some (taken_by s.role n) && any_used s f))

-- S02: a PUBLISH is sent again, and none was cut off.
abbrev pub tries_resending : Inflight → Fate → Bool → Note → Bool
tries_resending s f known n = excused (surprises f) known (accepts f && (is_some (resend_of n) && not (s.earlier.cut_on_void || s.earlier.cut)))

-- S03: a PUBLISH is sent again.
abbrev pub tries_repeating : Fate → Note → Bool
tries_repeating f n = accepts f && is_some (resend_of n)

-- S04: what is open by a PUBLISH of QoS 2, and whose PUBREL was sent since, is sent again.
abbrev pub tries_released : Inflight → Fate → Note → Bool
tries_released s f n = accepts f && is_some_and (past_pubrel (value_under s.entries)) (option_or (resend_of n) (sent_as pubrel_in n))

-- S05: what is open is sent again, after another PUBLISH was on the connection that was open then.
abbrev pub tries_ordering : Inflight → Fate → Note → Bool
tries_ordering s f n = s.ordered && (accepts f && (is_some_and (λ i. is_some (value_under s.entries i)) (resend_of n) && nat_lt 0 s.resent))

-- the counts are those of these events, where their latest connection is taken to have this fate
pub record CountsAtOnce (p : AtOncePlaces) (tested : Tested) (taken : Option Fate) (past : List Seen) : Type 0 where
  pub taking : p.taking ≡ places_under tested taken past S01
  pub resending : p.resending ≡ places_under tested taken past S02
  pub repeating : p.repeating ≡ places_under tested taken past S03
  pub released : p.released ≡ places_under tested taken past S04
  pub ordering : p.ordering ≡ places_under tested taken past S05

-- each of S01 to S05 is put to the test on sessions
pub on_at_once : (role : Role) (rule : Rule) → is_at_once rule ≡ true → is_on_sessions (occasion role rule) ≡ true
on_at_once role rule = on_either (same_rule rule S01) (same_rule rule S02 || (same_rule rule S03 || (same_rule rule S04 || same_rule rule S05))) there (on_one role S01 rule refl)
    (on_either (same_rule rule S02) (same_rule rule S03 || (same_rule rule S04 || same_rule rule S05)) there (on_one role S02 rule refl)
    (on_either (same_rule rule S03) (same_rule rule S04 || same_rule rule S05) there (on_one role S03 rule refl)
    (on_either (same_rule rule S04) (same_rule rule S05) there (on_one role S04 rule refl) (on_one role S05 rule refl))))
  where
    there : Bool
    there = is_on_sessions (occasion role rule)

-- and so is S06
pub on_inflight : (role : Role) (rule : Rule) → is_inflight rule ≡ true → is_on_sessions (occasion role rule) ≡ true
on_inflight role rule = on_either (is_at_once rule) (same_rule rule S06) (is_on_sessions (occasion role rule)) (on_at_once role rule) (on_one role S06 rule refl)
