-- S07.
use Rattle.std.proofs.Common.{◌≡◌, ℕ, ◌+◌, ◌-◌, ◌<◌, ◌≤◌, arith, Bool, true, false, cond, ◌&&◌, nat_le, List, [], ◌∷◌, length, Option, Some, None, refl, ap, sym, subst, ◌∙◌}
use Rattle.std.specs.Prelude.{is_some, unwrap_or}
use Rattle.std.specs.Option.{option_or, option_and_then}
use Rattle.mq_rules.specs.declared.role.Role.{Role}
use Rattle.mq_rules.specs.declared.role.Role.TheVariants.{Client, Server}
use Rattle.mq_rules.specs.declared.role.Further.{Further}
use Rattle.mq_rules.specs.declared.role.Tested.{Tested}
use Rattle.mq_rules.specs.declared.fate.Fate.{Fate}
use Rattle.mq_rules.specs.declared.rule.Rule.TheVariants.{S07}
use Rattle.mq_rules.specs.declared.note.Note.{Note}
use Rattle.mq_rules.specs.declared.note.Note.TheVariants as notes
use Rattle.mq_rules.specs.declared.note.Seen.{Seen}
use Rattle.mq_rules.specs.declared.packet_note.ConnectNote.{ConnectNote}
use Rattle.mq_rules.specs.declared.packet_note.ConnackNote.{ConnackNote}
use Rattle.mq_rules.specs.Notes.{is_open, connect_of, connack_of, delivery_of, closer_of}
use Rattle.mq_rules.specs.Moments.{Moment, newest, note, those, is_next}
use Rattle.mq_rules.specs.Connections.{connection, accepts, first_connect, first_connack}
use Rattle.mq_rules.specs.Pasts.{peer_receive_maximum}
use Rattle.mq_rules.specs.Identifiers.{is_delivery, is_closer, counts, breaks_S07, applies_S07}
use Rattle.mq_rules.specs.Counter.{in_flight}
use Rattle.mq_rules.specs.Rules.{binds, found_line, line_of, lines, same_rule}
use Rattle.mq_rules.specs.Statements.{statement}
use Rattle.mq_rules.specs.Faults.{offset_of}
use Rattle.mq_rules.specs.FaultKeys.{FaultMap}
use Rattle.mq_rules.proofs.Exports.{S07-before, connection-newest as connection-next, first_found-next, S07-tried}
use Rattle.mq_inflight.specs.declared.quota.Quota.{Quota}
use Rattle.mq_rules.specs.Under.{IsUnder, turns_with, fate_before}
use Rattle.mq_rules.specs.Growing.{Gains}
use Rattle.mq_fates.specs.Taking.{connect_room, connack_room, announced}
use Rattle.mq_inflight.specs.Quotas.{peer_room, may_count, flown, exceeds, quota_after, IsQuota, uses_up}
use Rattle.mq_fates.specs.Judgements.{judged_by}
use Rattle.mq_fates.proofs.Exports.{session-turns_with, gains_judged, connection-most, counted-session}
use Rattle.mq_rules.specs.Occasions.{places_under}

pub binds-S07 : (role : Role) (releases : Bool) (further : Further) → binds S07 (record { role = role; releases = releases; further = further }) ≡ true
unfolding line_of found_line lines
binds-S07 Client releases further = refl
binds-S07 Server releases further = refl

no_offset-S07 : (tested : Tested) (m : Option Moment) → offset_of (statement tested.role S07) m ≡ None
no_offset-S07 tested m = refl

-- what is kept says whether the next event counts, and up to how many
pub counts-kept : (role : Role) (e : Seen) (past : List Seen) → counts role (newest e past) ≡ may_count role (peer_room role past)
counts-kept Client e past = go (first_connack Client (connection past))
  where
    go : (o : Option ConnackNote) → is_some o ≡ is_some (connack_room o)
    go None = refl
    go (Some a) = refl
counts-kept Server e past = refl

pub room-kept : (role : Role) (e : Seen) (past : List Seen) → peer_receive_maximum role (newest e past) ≡ unwrap_or (peer_room role past) 65535
room-kept Client e past = go (first_connack Client (connection past))
  where
    go : (o : Option ConnackNote) → unwrap_or (option_and_then (λ a. a.receive_maximum) o) 65535 ≡ unwrap_or (connack_room o) 65535
    go None = refl
    go (Some a) = refl
room-kept Server e past = go (first_connect Server (connection past))
  where
    go : (o : Option ConnectNote) → unwrap_or (option_and_then (λ c. c.receive_maximum) o) 65535 ≡ unwrap_or (connect_room o) 65535
    go None = refl
    go (Some c) = refl

-- the peer
pub peer-next : (role : Role) (e : Seen) (past : List Seen) → peer_room role (e ∷ past) ≡ option_or (cond (is_open e.note) None (peer_room role past)) (announced role e.note)
peer-next Client e past = ap connack_room (first_found-next (connack_of Client) e past) ∙ go (is_open e.note) (first_connack Client (connection past)) (connack_of Client e.note)
  where
    go : (b : Bool) (o p : Option ConnackNote) → connack_room (option_or (cond b None o) p) ≡ option_or (cond b None (connack_room o)) (connack_room p)
    go true o p = refl
    go false None p = refl
    go false (Some a) p = refl
peer-next Server e past = ap connect_room (first_found-next (connect_of Server) e past) ∙ go (is_open e.note) (first_connect Server (connection past)) (connect_of Server e.note)
  where
    go : (b : Bool) (o p : Option ConnectNote) → connect_room (option_or (cond b None o) p) ≡ option_or (cond b None (connect_room o)) (connect_room p)
    go true o p = refl
    go false None p = refl
    go false (Some a) p = refl

-- the counter
open-idle : (n : Note) → is_open n ≡ true → (is_some (delivery_of n) ≡ false) × (is_some (closer_of n) ≡ false)
open-idle notes.Open h = (refl, refl)
open-idle _ h = absurd (cc)

pub flown-next : (role : Role) (e : Seen) (past : List Seen) → in_flight (those (counts role) (connection (e ∷ past))) ≡ flown (may_count role (peer_room role past)) e.note (in_flight (those (counts role) (connection past)))
flown-next role e past =
    ap (λ ms. in_flight (those (counts role) ms)) (connection-next e past)
    ∙ ap (λ b. in_flight (cond b (newest e past ∷ those (counts role) (cond (is_open e.note) [] (connection past))) (those (counts role) (cond (is_open e.note) [] (connection past))))) (counts-kept role e past)
    ∙ go (is_open e.note) refl (may_count role (peer_room role past))
  where
    go : (b : Bool) → is_open e.note ≡ b → (c : Bool) → in_flight (cond c (newest e past ∷ those (counts role) (cond b [] (connection past))) (those (counts role) (cond b [] (connection past))))
        ≡ cond b 0 (cond c (cond (is_some (delivery_of e.note)) (in_flight (those (counts role) (connection past)) + 1) (cond (is_some (closer_of e.note)) (in_flight (those (counts role) (connection past)) - 1) (in_flight (those (counts role) (connection past)))))
        (in_flight (those (counts role) (connection past))))
    go true h true = let idle = open-idle e.note h in ap (λ d. cond d 1 (cond (is_some (closer_of e.note)) 0 0)) idle.0 ∙ ap (λ c. cond c 0 0) idle.1
    go true h false = refl
    go false h true = refl
    go false h false = refl

-- it never counts more than the events
in_flight-most : (ms : List Moment) → in_flight ms ≤ length ms
in_flight-most [] = omega arith
in_flight-most (m ∷ ms) = go (is_delivery m) (is_closer m) (in_flight-most ms)
  where
    go : (d c : Bool) → in_flight ms ≤ length ms → cond d (in_flight ms + 1) (cond c (in_flight ms - 1) (in_flight ms)) ≤ length (m ∷ ms)
    go true c h = omega arith
    go false true h = omega arith
    go false false h = omega arith

those-most : (test : Moment → Bool) (ms : List Moment) → length (those test ms) ≤ length ms
those-most test [] = omega arith
those-most test (m ∷ ms) = go (test m) (those-most test ms)
  where
    go : (b : Bool) → length (those test ms) ≤ length ms → length (cond b (m ∷ those test ms) (those test ms)) ≤ length (m ∷ ms)
    go true h = omega arith
    go false h = omega arith

pub flying-most : (role : Role) (past : List Seen) → in_flight (those (counts role) (connection past)) ≤ length past
flying-most role past =
    let a = in_flight-most (those (counts role) (connection past)) in
    let b = those-most (counts role) (connection past) in
    let c = connection-most past in
    omega arith

-- the pairs
pub S07-turns : (tested : Tested) (f : Fate) (e : Seen) (past : List Seen) (k : ℕ)
    → turns_with tested f e past k S07 ≡ (is_next past k && exceeds f e.note tested.role (peer_room tested.role past) (in_flight (those (counts tested.role) (connection past))))
S07-turns tested f e past k =
    session-turns_with tested S07 (λ f. breaks_S07 tested.role) refl f e past k
    ∙ ap (λ b. is_next past k && (b && (accepts f && breaks_S07 tested.role (newest e past)))) (binds-S07 tested.role tested.releases tested.further)
    ∙ ap (λ b. is_next past k && (accepts f && b)) (S07-before tested.role (newest e past))
    ∙ ap (λ c. is_next past k && (accepts f && (is_some (delivery_of e.note) && (c && nat_le (peer_receive_maximum tested.role (newest e past)) (in_flight (those (counts tested.role) (connection past))))))) (counts-kept tested.role e past)
    ∙ ap (λ n. is_next past k && (accepts f && (is_some (delivery_of e.note) && (may_count tested.role (peer_room tested.role past) && nat_le n (in_flight (those (counts tested.role) (connection past))))))) (room-kept tested.role e past)

-- there are fewer in flight than events
pub flying-below : (tested : Tested) (old : Quota) (taken : Option Fate) (f : Fate) (e : Seen) (past : List Seen) (at : ℕ) → IsQuota old tested taken past → IsUnder tested f at e past → old.in_flight < e.place.position
flying-below tested old taken f e past at q under = let a = flying-most tested.role past in let b = q.flying in let c = under.follows.placed.0 in omega arith

-- what is kept after one more event
pub quota-next : (tested : Tested) (old : Quota) (taken : Option Fate) (f : Fate) (e : Seen) (past : List Seen) (peer : Option ℕ) (flying at : ℕ) → IsQuota old tested taken past
    → IsUnder tested f at e past → peer ≡ option_or (cond (is_open e.note) None old.peer) (announced old.role e.note) → (old.in_flight < e.place.position → flying ≡ flown (may_count old.role old.peer) e.note old.in_flight)
    → IsQuota (record { role = old.role; fate = f; peer = peer; in_flight = flying }) tested (Some f) (e ∷ past)
quota-next tested old taken f e past peer flying at q under p n = record {
  same_role = q.same_role;
  same_fate = refl;
  same_peer = p ∙ ap (λ o. option_or (cond (is_open e.note) None o) (announced old.role e.note)) q.same_peer
      ∙ ap (λ r. option_or (cond (is_open e.note) None (peer_room tested.role past)) (announced r e.note)) q.same_role ∙ sym (peer-next tested.role e past);
  flying = n below ∙ ap (λ r. flown (may_count r old.peer) e.note old.in_flight) q.same_role ∙ ap (λ o. flown (may_count tested.role o) e.note old.in_flight) q.same_peer
      ∙ ap (flown (may_count tested.role (peer_room tested.role past)) e.note) q.flying ∙ sym (flown-next tested.role e past);
}
  where
    below : old.in_flight < e.place.position
    below = flying-below tested old taken f e past at q under

pub quota-gains : (tested : Tested) (old : Quota) (f : Fate) (taken : Option Fate) (at : ℕ) (e : Seen) (past : List Seen) (m : FaultMap) (b : Bool) → IsUnder tested f at e past → IsQuota old tested taken past
    → b ≡ exceeds f e.note old.role old.peer old.in_flight
    → Gains (λ k r. same_rule r S07 && turns_with tested f e past k r) tested (e ∷ past) at m (judged_by b S07 e.place at m)
quota-gains tested old f taken at e past m b under q is =
    gains_judged tested S07 f e past at m b (no_offset-S07 tested) under.follows.placed.0
    (λ k. S07-turns tested f e past k ∙ ap (λ b. is_next past k && b) (sym same))
  where
    same : b ≡ exceeds f e.note tested.role (peer_room tested.role past) (in_flight (those (counts tested.role) (connection past)))
    same = is ∙ ap (λ r. exceeds f e.note r old.peer old.in_flight) q.same_role ∙ ap (λ o. exceeds f e.note tested.role o old.in_flight) q.same_peer ∙ ap (exceeds f e.note tested.role (peer_room tested.role past)) q.flying

-- what is kept after an event, where it is known whether that is a PUBLISH that counts
pub quota-taken : (tested : Tested) (old : Quota) (taken : Option Fate) (f : Fate) (at : ℕ) (e : Seen) (past : List Seen) (delivers : Bool) (new : Quota) → IsQuota old tested taken past → IsUnder tested f at e past
    → delivers ≡ is_some (delivery_of e.note) → (old.in_flight < e.place.position → delivers ≡ is_some (delivery_of e.note) → new ≡ quota_after old f e.note) → IsQuota new tested (Some f) (e ∷ past)
quota-taken tested old taken f at e past delivers new q under is kept =
    subst (λ s. IsQuota s tested (Some f) (e ∷ past)) (sym (kept (flying-below tested old taken f e past at q under) is))
    (quota-next tested old taken f e past (quota_after old f e.note).peer (quota_after old f e.note).in_flight at q under refl (λ below. refl))

-- the faults after it
pub quota-gained : (tested : Tested) (old : Quota) (taken : Option Fate) (f : Fate) (at : ℕ) (e : Seen) (past : List Seen) (delivers : Bool) (before after : FaultMap) → IsQuota old tested taken past → IsUnder tested f at e past
    → delivers ≡ is_some (delivery_of e.note) → after ≡ judged_by (accepts f && (delivers && (may_count old.role old.peer && nat_le (unwrap_or old.peer 65535) old.in_flight))) S07 e.place at before
    → Gains (λ k r. same_rule r S07 && turns_with tested f e past k r) tested (e ∷ past) at before after
quota-gained tested old taken f at e past delivers before after q under is judged =
    subst (λ (m : FaultMap). Gains (λ k r. same_rule r S07 && turns_with tested f e past k r) tested (e ∷ past) at before m) (sym judged)
    (quota-gains tested old f taken at e past before (past-it delivers) under q (ap past-it is))
  where
    past-it : Bool → Bool
    past-it t = accepts f && (t && (may_count old.role old.peer && nat_le (unwrap_or old.peer 65535) old.in_flight))

-- ---- how often it is put to the test

pub quota-places : (tested : Tested) (kept : Quota) (taken : Option Fate) (f : Fate) (at : ℕ) (e : Seen) (past : List Seen) (here : Bool) (old new : ℕ) → IsQuota kept tested taken past → IsUnder tested f at e past
    → old ≡ places_under tested (fate_before tested f e past) past S07 → (kept.in_flight < e.place.position → here ≡ uses_up f e.note kept.role kept.peer kept.in_flight)
    → (old < e.place.position → new ≡ cond here 1 0 + old) → new ≡ places_under tested (Some f) (e ∷ past) S07
quota-places tested kept taken f at e past here old new q under was is more =
    counted-session tested S07 (λ f. applies_S07 tested.role) refl f at e past here old new under was same more
  where
    flying : ℕ
    flying = in_flight (those (counts tested.role) (connection past))

    same : here ≡ (binds S07 tested && (accepts f && applies_S07 tested.role (newest e past)))
    same =
        let kept_is = q.flying in
        let most = flying-most tested.role past in
        let placed = under.follows.placed.0 in
        is (omega arith)
        ∙ ap (λ r. uses_up f e.note r kept.peer kept.in_flight) q.same_role
        ∙ ap (λ p. uses_up f e.note tested.role p kept.in_flight) q.same_peer
        ∙ ap (uses_up f e.note tested.role (peer_room tested.role past)) q.flying
        ∙ ap (λ n. accepts f && (is_some (delivery_of e.note) && (may_count tested.role (peer_room tested.role past) && nat_le n (flying + 1)))) (sym (room-kept tested.role e past))
        ∙ ap (λ c. accepts f && (is_some (delivery_of e.note) && (c && nat_le (peer_receive_maximum tested.role (newest e past)) (flying + 1)))) (sym (counts-kept tested.role e past))
        ∙ ap (λ b. accepts f && b) (sym (S07-tried tested.role (newest e past)))
        ∙ ap (λ b. b && (accepts f && applies_S07 tested.role (newest e past))) (sym (binds-S07 tested.role tested.releases tested.further))
