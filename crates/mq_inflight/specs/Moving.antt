-- Events whose packets have no properties, by what they do to Packet Identifiers (MQTT 5.0, sections 2.2.1 and 4.3).
use Rattle.std.specs.Prelude.{ℕ, ◌≡◌, ◌<◌, ◌+◌, ◌-◌, nat_eq, nat_lt, length, Bool, true, false, ◌&&◌, ◌||◌, not, cond, List, ◌∷◌, Option, None, is_some}
use Rattle.std.specs.Option.{option_or}
use Rattle.mq_rules.specs.KeptOrder.{value_under}
use Rattle.indexmap.specs.IndexSet.{contains}
use Rattle.mq_log.specs.declared.place.Place3.{Place3}
use Rattle.mq_rules.specs.declared.role.Role.{Role}
use Rattle.mq_rules.specs.declared.role.Tested.{Tested}
use Rattle.mq_rules.specs.declared.note.Note.{Note}
use Rattle.mq_rules.specs.declared.note.Seen.{Seen}
use Rattle.mq_rules.specs.Words.{is_some_and, is_id}
use Rattle.mq_rules.specs.Notes.{is_open, is_boundary, is_rest, closer_of, delivery_of, opener_of, resend_of, sent_as, received_as, pubrel_in, accepting_pubrec_in, subscribe_in, suback_in, unsubscribe_in, unsuback_in}
use Rattle.mq_rules.specs.Connections.{latest_fate, resumes}
use Rattle.mq_rules.specs.Identifiers.{taken_by}
use Rattle.mq_rules.specs.FaultKeys.{FaultMap}
use Rattle.mq_rules.specs.Under.{seen, turns_known}
use Rattle.mq_rules.specs.Growing.{Gains, GainsWithin}
use Rattle.mq_inflight.specs.declared.inflight.Inflight.{Inflight}
use Rattle.mq_inflight.specs.declared.inflight.entry.Entry.{Entry}
use Rattle.mq_inflight.specs.Opened.{sends_exactly_once, sends_retained, opened_if, closed_if, confirmed_if, released_if}
use Rattle.mq_fates.specs.Taking.{ends_by, announced}
use Rattle.mq_inflight.specs.Quotas.{may_count}
use Rattle.mq_inflight.specs.Resending.{bounds_by}
use Rattle.mq_inflight.specs.Using.{is_inflight, IsUsing}

-- All that an event does to identifiers: it opens the first, with QoS 2 or not, and with RETAIN 0; sets the second free; sends a PUBREL under the third; and receives a PUBREC below 0x80 under
-- the last.
pub record Moves (n : Note) (opener : Option ℕ) (exactly_once : Bool) (closer pubrel pubrec : Option ℕ) : Type 0 where
  pub closed : is_open n ≡ false
  pub inside : is_boundary n ≡ false
  pub awake : is_rest n ≡ false
  pub unended : ends_by n ≡ false
  pub delivers : delivery_of n ≡ opener
  pub opens : opener_of n ≡ opener
  pub quality : is_some opener ≡ true → sends_exactly_once n ≡ exactly_once
  pub plain : sends_retained n ≡ false
  pub closes : closer_of n ≡ closer
  pub releases : sent_as pubrel_in n ≡ pubrel
  pub confirms : received_as accepting_pubrec_in n ≡ pubrec
  pub resends : resend_of n ≡ None
  pub takes : (role : Role) → taken_by role n ≡ opener
  pub subscribe : sent_as subscribe_in n ≡ None
  pub suback : received_as suback_in n ≡ None
  pub unsubscribe : sent_as unsubscribe_in n ≡ None
  pub unsuback : received_as unsuback_in n ≡ None
  pub room : (role : Role) → announced role n ≡ None
  pub bounds : (role : Role) → bounds_by role n ≡ None

-- what such an event leaves as it is
pub record KeepsOthers (old new : Inflight) : Type 0 where
  pub role : new.role ≡ old.role
  pub fate : new.fate ≡ old.fate
  pub ordered : new.ordered ≡ old.ordered
  pub void : new.void ≡ old.void
  pub earlier : new.earlier ≡ old.earlier
  pub subscribing : new.subscribing ≡ old.subscribing
  pub unsubscribing : new.unsubscribing ≡ old.unsubscribing
  pub resent : new.resent ≡ old.resent
  pub ended : new.ended ≡ old.ended
  pub opened : new.opened ≡ old.opened
  pub peer : new.peer ≡ old.peer
  pub bounds : new.bounds ≡ old.bounds
  pub bounded : new.bounded ≡ old.bounded

-- an identifier for which a PUBREC below 0x80 comes is open, and wasn't sent again since this OPEN
abbrev pub untouched : ℕ → (ℕ → Option Entry) → Option ℕ → Bool
untouched opened entry pubrec = is_some_and (λ i. is_some_and (λ o. nat_lt o.sent opened) (entry i)) pubrec

-- how many are in flight after it
abbrev pub moved : Bool → Option ℕ → Option ℕ → ℕ → ℕ
moved counted opener closer old = cond counted (cond (is_some opener) (old + 1) (cond (is_some closer) (old - 1) old)) old

-- what is kept after it
pub record IsMoved (place : Place3) (opener : Option ℕ) (exactly_once : Bool) (closer pubrel pubrec : Option ℕ) (old new : Inflight) : Type 0 where
  pub others : KeepsOthers old new
  pub entries : (i : ℕ) → value_under new.entries i
      ≡ opened_if (is_id i opener) exactly_once false place (closed_if (is_id i closer) (confirmed_if (is_id i pubrec) (released_if (is_id i pubrel) old.bounded place.position (value_under old.entries i))))
  pub stray : (i : ℕ) → contains nat_eq new.stray i ≡ (not (is_id i closer) && contains nat_eq old.stray i)
  pub unanswered : (i : ℕ) → contains nat_eq new.unanswered i ≡ cond (resumes old.fate) (is_id i (option_or opener pubrel) || (not (is_id i closer) && contains nat_eq old.unanswered i)) (contains nat_eq old.unanswered i)
  pub flying : old.in_flight < place.position → new.in_flight ≡ moved (may_count old.role old.peer) opener closer old.in_flight
  pub again : new.again ≡ record { all = old.again.all && not (untouched old.opened (value_under old.entries) pubrec); confirmed = old.again.confirmed && not (untouched old.opened (value_under old.entries) pubrec) }

-- The law of a step, with an event that has this note and after which the faults are these.
pub record IsStep (at : Place3) (n : Note) (new : Inflight) (tested : Tested) (past : List Seen) (before after : FaultMap) : Type 0 where
  pub agrees : IsUsing new tested (latest_fate tested.role (seen at n ∷ past)) (seen at n ∷ past)
  pub grows : Gains (λ k r. is_inflight r && turns_known tested (seen at n) past k r) tested (seen at n ∷ past) (length past + 1) before after

-- The same where memory ran out.
pub record IsWithin (at : Place3) (n : Note) (tested : Tested) (past : List Seen) (before after : FaultMap) : Type 0 where
  pub grows : GainsWithin (λ k r. is_inflight r && turns_known tested (seen at n) past k r) tested (seen at n ∷ past) (length past + 1) before after
