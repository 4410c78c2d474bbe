-- B01 and B02.
use Rattle.std.proofs.Common.{◌≡◌, ℕ, ◌==◌, nat_le, Bool, true, false, cond, ◌&&◌, ◌||◌, not, List, ◌∷◌, length, Option, Some, None, refl, ap, sym, ◌∙◌}
use Rattle.std.specs.Option.{option_and_then}
use Rattle.std.specs.List.{list_any}
use Rattle.mq_topic.specs.Matching.{matches}
use Rattle.mq_rules.specs.declared.role.Role.{Role}
use Rattle.mq_rules.specs.declared.role.Role.TheVariants.{Client, Server}
use Rattle.mq_rules.specs.declared.role.Further.{Further}
use Rattle.mq_rules.specs.declared.role.Tested.{Tested}
use Rattle.mq_rules.specs.declared.fate.Fate.{Fate}
use Rattle.mq_rules.specs.declared.rule.Rule.TheVariants.{B01, B02}
use Rattle.mq_rules.specs.declared.note.Note.{Note}
use Rattle.mq_rules.specs.declared.note.Note.TheVariants as notes
use Rattle.mq_rules.specs.declared.note.Seen.{Seen}
use Rattle.mq_rules.specs.declared.packet_note.PublishNote.{PublishNote}
use Rattle.mq_rules.specs.Words.{is_some_and, only}
use Rattle.mq_rules.specs.Notes.{is_open, sent_publish, qos_number}
use Rattle.mq_rules.specs.Moments.{Moment, newest, is_next, some}
use Rattle.mq_rules.specs.Connections.{connection, is_connected, latest_fate, accepts, session, needs_connection, IsOnConnection}
use Rattle.mq_rules.specs.Subscriptions.{Standing, standing_at, asks_to_share, topic_of, last_set, is_delivered_so, breaks_B01, breaks_B02}
use Rattle.mq_rules.specs.Rules.{binds, found_line, line_of, lines, same_rule}
use Rattle.mq_rules.specs.Statements.{statement}
use Rattle.mq_rules.specs.Faults.{offset_of}
use Rattle.mq_rules.specs.FaultKeys.{FaultMap}
use Rattle.mq_rules.specs.Under.{IsUnder, fate_before, turns_with}
use Rattle.mq_rules.specs.Growing.{Gains, GainsWithin}
use Rattle.mq_rules.proofs.Exports.{gains_either, on_open-connected, within_either_second, within_nothing}
use Rattle.mq_fates.specs.Judgements.{judged_by}
use Rattle.mq_subscriptions.specs.Standings.{Waits, IsStanding, any_kept, topic_kept, judged_topic, delivers_so, is_unasked, is_above}
use Rattle.mq_fates.proofs.Exports.{session-turns_with, gains_judged}
use Rattle.mq_subscriptions.proofs.StandingLaws.{standing-kept, standing-named}

pub binds-B02 : (role : Role) (releases : Bool) (further : Further) → binds B02 (record { role = role; releases = releases; further = further }) ≡ binds B01 (record { role = role; releases = releases; further = further })
unfolding line_of found_line lines
binds-B02 Client releases further = refl
binds-B02 Server releases further = refl

no_offset-B01 : (tested : Tested) (m : Option Moment) → offset_of (statement tested.role B01) m ≡ None
no_offset-B01 tested m = refl

no_offset-B02 : (tested : Tested) (m : Option Moment) → offset_of (statement tested.role B02) m ≡ None
no_offset-B02 tested m = refl

-- an OPEN sends nothing
opens-silent : (n : Note) → is_open n ≡ true → sent_publish n ≡ None
opens-silent notes.Open h = refl
opens-silent _ h = absurd (cc)

-- a PUBLISH is sent on a connection that is open
publish-needs : (n : Note) (p : PublishNote) → sent_publish n ≡ Some p → needs_connection n ≡ true
publish-needs (notes.Sent item) p h = refl
publish-needs _ p h = absurd (cc)

-- a delivery, judged by what is kept
pub delivered : (tested : Tested) (fate f : Fate) (settled : List Standing) (waiting : List Waits) (sharing : Bool) (topics : ℕ → Option (List ℕ)) (e : Seen) (past : List Seen) (t u : PublishNote → List ℕ → Bool)
    → IsOnConnection e past → IsStanding fate settled waiting sharing topics tested (fate_before tested f e past) past
    → (IsStanding fate settled waiting sharing topics tested (Some f) past → (p : PublishNote) (topic : List ℕ) → t p topic ≡ u p topic)
    → is_delivered_so tested.role f (newest e past) t ≡ delivers_so e.note sharing topics u
delivered tested fate f settled waiting sharing topics e past t u on s same = go (is_open e.note) refl s
  where
    same_topic : (p : PublishNote) → is_connected past ≡ true → (s : IsStanding fate settled waiting sharing topics tested (Some f) past) → topic_of (newest e past) p ≡ topic_kept topics p
    same_topic p connected s = ap (λ o. cond (length p.topic == 0) o (Some p.topic)) (by p.topic_alias)
      where
        by : (o : Option ℕ) → option_and_then (λ alias. last_set alias (connection past)) o ≡ option_and_then topics o
        by None = refl
        by (Some alias) = ap (last_set alias) (sym (on_open-connected past connected)) ∙ sym (s.topics_are alias)

    judged : (p : PublishNote) (a b : Bool) (o : Option (List ℕ)) → ((topic : List ℕ) → t p topic ≡ u p topic) → (a && (b && is_some_and (t p) o)) ≡ is_some_and (u p) (only a (only b o))
    judged p true true None h = refl
    judged p true true (Some topic) h = h topic
    judged p true false o h = refl
    judged p false b o h = refl

    closed : IsStanding fate settled waiting sharing topics tested (Some f) past → (o : Option PublishNote) → sent_publish e.note ≡ o
        → is_some_and (λ p. not p.duplicate && (not (some asks_to_share (session tested.role (Some f) past)) && is_some_and (t p) (topic_of (newest e past) p))) o ≡ is_some_and (λ p. is_some_and (u p) (judged_topic sharing topics p)) o
    closed s None h = refl
    closed s (Some p) h =
        ap (λ b. not p.duplicate && (not b && is_some_and (t p) (topic_of (newest e past) p))) (sym s.is_sharing)
        ∙ ap (λ o. not p.duplicate && (not sharing && is_some_and (t p) o)) (same_topic p (on (publish-needs e.note p h)) s)
        ∙ judged p (not p.duplicate) (not sharing) (topic_kept topics p) (same s p)

    go : (b : Bool) → is_open e.note ≡ b → IsStanding fate settled waiting sharing topics tested (cond b (latest_fate tested.role past) (Some f)) past → is_delivered_so tested.role f (newest e past) t ≡ delivers_so e.note sharing topics u
    go true h s =
        ap (is_some_and (λ p. not p.duplicate && (not (some asks_to_share (session tested.role (Some f) past)) && is_some_and (t p) (topic_of (newest e past) p)))) (opens-silent e.note h)
        ∙ sym (ap (is_some_and (λ p. is_some_and (u p) (judged_topic sharing topics p))) (opens-silent e.note h))
    go false h s = closed s (sent_publish e.note) refl

pub B01-gains : (tested : Tested) (fate f : Fate) (settled : List Standing) (waiting : List Waits) (sharing : Bool) (topics : ℕ → Option (List ℕ)) (at : ℕ) (e : Seen) (past : List Seen) (m : FaultMap) (bound b : Bool) → IsUnder tested f at e past
    → IsStanding fate settled waiting sharing topics tested (fate_before tested f e past) past → bound ≡ binds B01 tested → b ≡ (bound && (accepts f && delivers_so e.note sharing topics (λ p. is_unasked settled waiting)))
    → Gains (λ k r. same_rule r B01 && turns_with tested f e past k r) tested (e ∷ past) at m (judged_by b B01 e.place at m)
unfolding breaks_B01
B01-gains tested fate f settled waiting sharing topics at e past m bound b under s judged is =
    gains_judged tested B01 f e past at m b (no_offset-B01 tested) under.follows.placed.0 (λ k.
    session-turns_with tested B01 (breaks_B01 tested.role) refl f e past k
    ∙ ap (λ t. is_next past k && (binds B01 tested && (accepts f && t)))
    (delivered tested fate f settled waiting sharing topics e past (λ p topic. not (list_any (λ s. matches s.filter topic) (standing_at tested.role f (newest e past)))) (λ p. is_unasked settled waiting) under.follows.on_connections.0 s
    (λ same p topic. ap not (standing-named tested fate settled waiting sharing topics (Some f) e past (λ filter. matches filter topic) same)))
    ∙ ap (λ t. is_next past k && (t && (accepts f && delivers_so e.note sharing topics (λ p. is_unasked settled waiting)))) (sym judged)
    ∙ ap (λ t. is_next past k && t) (sym is))

pub B02-gains : (tested : Tested) (fate f : Fate) (settled : List Standing) (waiting : List Waits) (sharing : Bool) (topics : ℕ → Option (List ℕ)) (at : ℕ) (e : Seen) (past : List Seen) (m : FaultMap) (bound b : Bool) → IsUnder tested f at e past
    → IsStanding fate settled waiting sharing topics tested (fate_before tested f e past) past → bound ≡ binds B01 tested → b ≡ (bound && (accepts f && delivers_so e.note sharing topics (λ p. is_above settled waiting p.qos)))
    → Gains (λ k r. same_rule r B02 && turns_with tested f e past k r) tested (e ∷ past) at m (judged_by b B02 e.place at m)
unfolding breaks_B02
B02-gains tested fate f settled waiting sharing topics at e past m bound b under s judged is =
    gains_judged tested B02 f e past at m b (no_offset-B02 tested) under.follows.placed.0 (λ k.
    session-turns_with tested B02 (breaks_B02 tested.role) refl f e past k
    ∙ ap (λ t. is_next past k && (binds B02 tested && (accepts f && t)))
    (delivered tested fate f settled waiting sharing topics e past
    (λ p topic. list_any (λ s. matches s.filter topic) (standing_at tested.role f (newest e past)) && not (list_any (λ s. matches s.filter topic && nat_le (qos_number p.qos) s.ceiling) (standing_at tested.role f (newest e past))))
    (λ p. is_above settled waiting p.qos) under.follows.on_connections.0 s
    (λ same p topic. ap (λ b. b && not (list_any (λ s. matches s.filter topic && nat_le (qos_number p.qos) s.ceiling) (standing_at tested.role f (newest e past)))) (standing-named tested fate settled waiting sharing topics (Some f) e past (λ filter. matches filter topic) same)
    ∙ ap (λ b. any_kept (λ s. matches s.filter topic) settled waiting && not b) (standing-kept tested fate settled waiting sharing topics (Some f) e past (λ filter. matches filter topic) (qos_number p.qos) same)))
    ∙ ap (λ t. is_next past k && (t && (accepts f && delivers_so e.note sharing topics (λ p. is_above settled waiting p.qos)))) (binds-B02 tested.role tested.releases tested.further ∙ sym judged)
    ∙ ap (λ t. is_next past k && t) (sym is))

-- both, one after the other; and the first alone, where memory ran out at the second
pub delivery-gains : (tested : Tested) (fate f : Fate) (settled : List Standing) (waiting : List Waits) (sharing : Bool) (topics : ℕ → Option (List ℕ)) (at : ℕ) (e : Seen) (past : List Seen) (m : FaultMap) (bound a b : Bool) → IsUnder tested f at e past
    → IsStanding fate settled waiting sharing topics tested (fate_before tested f e past) past → bound ≡ binds B01 tested
    → a ≡ (bound && (accepts f && delivers_so e.note sharing topics (λ p. is_unasked settled waiting))) → b ≡ (bound && (accepts f && delivers_so e.note sharing topics (λ p. is_above settled waiting p.qos)))
    → Gains (λ k r. (same_rule r B01 || same_rule r B02) && turns_with tested f e past k r) tested (e ∷ past) at m (judged_by b B02 e.place at (judged_by a B01 e.place at m))
delivery-gains tested fate f settled waiting sharing topics at e past m bound a b under s judged unasked above =
    let first : FaultMap = judged_by a B01 e.place at m in
    gains_either (λ r. same_rule r B01) (λ r. same_rule r B02) (λ k r. turns_with tested f e past k r) tested (e ∷ past) at m first (judged_by b B02 e.place at first)
    (B01-gains tested fate f settled waiting sharing topics at e past m bound a under s judged unasked)
    (B02-gains tested fate f settled waiting sharing topics at e past first bound b under s judged above)

pub delivery-within : (tested : Tested) (fate f : Fate) (settled : List Standing) (waiting : List Waits) (sharing : Bool) (topics : ℕ → Option (List ℕ)) (at : ℕ) (e : Seen) (past : List Seen) (m : FaultMap) (bound a : Bool) → IsUnder tested f at e past
    → IsStanding fate settled waiting sharing topics tested (fate_before tested f e past) past → bound ≡ binds B01 tested
    → a ≡ (bound && (accepts f && delivers_so e.note sharing topics (λ p. is_unasked settled waiting)))
    → GainsWithin (λ k r. (same_rule r B01 || same_rule r B02) && turns_with tested f e past k r) tested (e ∷ past) at m (judged_by a B01 e.place at m)
delivery-within tested fate f settled waiting sharing topics at e past m bound a under s judged unasked =
    let first : FaultMap = judged_by a B01 e.place at m in
    within_either_second (λ r. same_rule r B01) (λ r. same_rule r B02) (λ k r. turns_with tested f e past k r) tested (e ∷ past) at m first first
    (B01-gains tested fate f settled waiting sharing topics at e past m bound a under s judged unasked)
    (within_nothing (λ k r. same_rule r B02 && turns_with tested f e past k r) tested (e ∷ past) at first first refl)
