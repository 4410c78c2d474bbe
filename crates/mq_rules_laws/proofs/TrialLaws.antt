-- Statements on a packet's bytes are put to the test wherever they are false.
use Rattle.std.proofs.Common.{◌≡◌, ℕ, ◌+◌, ◌==◌, Bool, true, false, cond, List, [], ◌∷◌, length, map, Option, Some, refl}
use Rattle.std.proofs.lemmas.List.{length-map}
use denote.Enum.Bare.{sameb}
use Rattle.mq_packet.specs.declared.rule.PacketRule.{PacketRule}
use Rattle.mq_packet.specs.contracts.rule.PacketRule.{the_type}
use Rattle.mq_log.specs.Events.{Event, Placed, packet, bad, lost, opened, closed, rested, released, sent, received}
use Rattle.mq_rules.specs.declared.role.Role.{Role}
use Rattle.mq_rules.specs.declared.role.Tested.{Tested}
use Rattle.mq_rules.specs.declared.fate.Fate.{Fate}
use Rattle.mq_rules.specs.declared.rule.Rule.{Rule}
use Rattle.mq_rules.specs.Words.{is_some_and}
use Rattle.mq_rules.specs.Notes.{note_of, sent_fault, seen}
use Rattle.mq_rules.specs.Moments.{newest, moment}
use Rattle.mq_rules.specs.Rules.{binds}
use Rattle.mq_rules.specs.Connections.{fate}
use Rattle.mq_rules.specs.Statements.{Statement, on_bytes, on_past, in_session, at_release, at_rest, by_later, statement, breaks_bytes, is_by_bytes, is_on_bytes, is_so, fails}
use Rattle.mq_rules.specs.Trials.{tried_by, item_sent, tries_statement, event_of, applies_bytes, places_bytes}
use Rattle.mq_rules.proofs.Exports.{and_true, both_true}

-- one event
broken-tried : (rule : PacketRule) (e : Event) → is_some_and (λ fault. sameb the_type rule fault.rule) (sent_fault (note_of e)) ≡ true → is_some_and (tried_by rule) (item_sent e) ≡ true
broken-tried rule (sent (packet size entry)) h = absurd (cc)
broken-tried rule (sent (bad bytes broken at)) h = h
broken-tried rule (sent lost) h = h
broken-tried rule (received item) h = absurd (cc)
broken-tried rule opened h = absurd (cc)
broken-tried rule (closed unfinished) h = absurd (cc)
broken-tried rule rested h = absurd (cc)
broken-tried rule (released identifier) h = absurd (cc)

by-place : (rule : PacketRule) (here : Bool) (p : Placed) (past : List Placed) (k : ℕ) → (is_some_and (breaks_bytes rule) (moment (map seen past) k) ≡ true → is_some_and (tries_statement (on_bytes rule)) (event_of past k) ≡ true)
    → is_some_and (breaks_bytes rule) (cond here (Some (newest (seen p) (map seen past))) (moment (map seen past) k)) ≡ true → is_some_and (tries_statement (on_bytes rule)) (cond here (Some p.event) (event_of past k)) ≡ true
unfolding breaks_bytes
by-place rule true p past k later h = broken-tried rule p.event h
by-place rule false p past k later h = later h

-- the event at a position
at-tried : (rule : PacketRule) (events : List Placed) (k : ℕ) → is_some_and (breaks_bytes rule) (moment (map seen events) k) ≡ true → is_some_and (tries_statement (on_bytes rule)) (event_of events k) ≡ true
at-tried rule [] k h = absurd (cc)
at-tried rule (p ∷ past) k h = by-place rule (k == length past + 1) p past k (at-tried rule past k) (rw (length-map past seen) at h)

-- a statement of any shape
so-tried : (role : Role) (fates : ℕ → Option Fate) (s : Statement) (events : List Placed) (k : ℕ) → is_by_bytes s ≡ true → is_so role fates s (map seen events) k ≡ true → is_some_and (tries_statement s) (event_of events k) ≡ true
so-tried role fates (on_bytes rule) events k bytes h = at-tried rule events k h
so-tried role fates (on_past breaks) events k bytes h = absurd (cc)
so-tried role fates (in_session breaks) events k bytes h = absurd (cc)
so-tried role fates (at_release breaks) events k bytes h = absurd (cc)
so-tried role fates (at_rest shows) events k bytes h = absurd (cc)
so-tried role fates (by_later shows) events k bytes h = absurd (cc)

pub fails-tried : (tested : Tested) (events : List Placed) (k : ℕ) (rule : Rule) → is_on_bytes tested rule ≡ true → fails tested (map seen events) k rule ≡ true → applies_bytes tested events k rule ≡ true
unfolding fails applies_bytes
fails-tried tested events k rule bytes h =
    let fates : ℕ → Option Fate = λ c. fate tested.role c (map seen events) in
    let p = both_true (binds rule tested) (is_so tested.role fates (statement tested.role rule) (map seen events) k) h in
    and_true (binds rule tested) (is_some_and (tries_statement (statement tested.role rule)) (event_of events k)) p.0 (so-tried tested.role fates (statement tested.role rule) events k bytes p.1)

-- ---- how many

-- one that doesn't bind the tested end
pub bytes-unbound : (tested : Tested) (events : List Placed) (rule : Rule) → binds rule tested ≡ false → places_bytes tested events rule ≡ 0
unfolding places_bytes
bytes-unbound tested [] rule free = refl
bytes-unbound tested (p ∷ past) rule free = rw (free, bytes-unbound tested past rule free) refl
