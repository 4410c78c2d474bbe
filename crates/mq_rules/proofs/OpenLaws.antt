-- In a log that isn't refused what happens only on an open connection comes where one is open.
use Rattle.std.proofs.Common.{◌≡◌, ℕ, ◌+◌, ◌<◌, ◌≤◌, ◌==◌, Bool, true, false, cond, nat_lt, List, [], ◌∷◌, ◌++◌, length, Option, Some, None, refl, sym, ◌∙◌, ap, subst, arith, length-append}
use Rattle.std.specs.Prelude.{is_some, ◌&&◌, ◌||◌, not, if◌then◌else◌, option_map, slice_index}
use Rattle.std.proofs.lemmas.Bool.{ltb-true, ltb-false, le-ltb, eqb-true}
use Rattle.std.specs.Int.{w16, from_be_bytes}
use Rattle.std.proofs.Common.{drop}
use Rattle.mq_log.specs.declared.kind.RecordKind.{RecordKind}
use Rattle.mq_log.specs.declared.kind.RecordKind.TheVariants as kinds
use Rattle.mq_log.specs.declared.header.Header.{Header}
use Rattle.mq_log.specs.Framing.{kind_of, kind_named, head_length, record_size}
use Rattle.mq_log.specs.Connections.{begins_connection, ends_connection}
use Rattle.mq_log.specs.Events.{UnfinishedPackets, Item, Event, event_by, item_at, opened, closed, rested, released, sent, received}
use Rattle.mq_log.specs.Refusals.{Situation, conditions, header_refusal, record_refusal, refusal_at, refused, is_first, needs_connection as needs_open}
use Rattle.mq_log.specs.Context.{Context, ahead_of, unfinished_of, context, situated, so_far_for, refusal_for, event_for, after, after_header, after_part, with_completed, fresh}
use Rattle.mq_log.proofs.Exports.{refusal-kept, at_context}
use Rattle.mq_log.proofs.Exports.{context-grow, context-nothing}
use Rattle.mq_rules.specs.declared.note.Seen.{Seen}
use Rattle.mq_rules.specs.Notes.{note_of, seen_in}
use Rattle.mq_rules.specs.Connections.{needs_connection, AreOnConnections}
use Rattle.mq_rules.proofs.OrderLaws.{along, none_applies, connected_context, seen_with, moment_so, seen-kept, seen-header, unrefused-grow}
use Rattle.mq_rules.proofs.TurnLaws.{event-is, no-part, header-completed, part-completed}

-- ---- the record of what needs an open connection begins while one is open

abbrev is_close_kind : Option RecordKind → Bool
is_close_kind (Some kinds.Close) = true
is_close_kind _ = false

-- What holds between two bytes of it; the CLOSE itself, at the last byte of its head, closes the connection.
abbrev IsHeld : Context → Type 0
IsHeld c = needs_open (kind_of c.part) ≡ true → (is_close_kind (kind_of c.part) ≡ true → length c.part < ahead_of c) → c.connected ≡ true

not-closed : (limit : ℕ) (s : Situation) → record_refusal limit s ≡ None → (is_first s && (needs_open (kind_of s.part) && not s.connected)) ≡ false
unfolding record_refusal
not-closed limit s h = (none_applies (conditions limit s) h).1.1.1.0

-- the bytes so far of the record, the next one included
before : (limit : ℕ) (c : Context) (byte : ℕ) → 8 ≤ c.at → refusal_for limit c byte ≡ None → IsHeld c
    → needs_open (kind_of (c.part ++ byte ∷ [])) ≡ true → (is_close_kind (kind_of (c.part ++ byte ∷ [])) ≡ true → length (c.part ++ byte ∷ []) ≤ ahead_of c) → c.connected ≡ true
unfolding refusal_for situated kind_of
before limit c byte long unrefused held needs short = go c.part refl needs short
  where
    after_head : record_refusal limit (situated c byte) ≡ None
    after_head = sym (ap (λ b. if b then header_refusal c.at byte else record_refusal limit (situated c byte)) (le-ltb c.at 8 long)) ∙ unrefused

    opened_before : (length (c.part ++ byte ∷ []) == 1) ≡ true → needs_open (kind_of (c.part ++ byte ∷ [])) ≡ true → (b : Bool) → c.connected ≡ b → b ≡ true
    opened_before one needs true is = refl
    opened_before one needs false is = absurd (let none = not-closed limit (situated c byte) after_head in
        let bad : (true && (true && not false)) ≡ false = sym (ap (λ b. b && (needs_open (kind_of (c.part ++ byte ∷ [])) && not c.connected)) one ∙ ap (λ b. true && (b && not c.connected)) needs ∙ ap (λ b. true && (true && not b)) is) ∙ none in cc)

    go : (p : List ℕ) → c.part ≡ p → needs_open (kind_of (c.part ++ byte ∷ [])) ≡ true → (is_close_kind (kind_of (c.part ++ byte ∷ [])) ≡ true → length (c.part ++ byte ∷ []) ≤ ahead_of c) → c.connected ≡ true
    go [] is needs short = opened_before (ap (λ p. length (p ++ byte ∷ []) == 1) is) needs c.connected refl
    go (q ∷ qs) is needs short =
        let l = length-append c.part (byte ∷ []) in
        let same : kind_of c.part ≡ kind_of (c.part ++ byte ∷ []) = ap (λ p. kind_named (slice_index p 0)) is ∙ sym (ap (λ p. kind_named (slice_index (p ++ byte ∷ []) 0)) is) in
        held (ap needs_open same ∙ needs) (λ closes. let most = short (sym (ap is_close_kind same) ∙ closes) in omega arith)

-- ---- the event

-- the record of an event that needs an open connection needs one
needs-event : (unfinished : UnfinishedPackets) (ahead : ℕ) (k : Option RecordKind) (part so_far : List ℕ) (event : Event) → event_by unfinished ahead k part so_far ≡ Some event → needs_connection (note_of event) ≡ true
    → (needs_open k ≡ true) × (is_close_kind k ≡ true → length part ≤ ahead)
needs-event unfinished ahead (Some kinds.Sent) part so_far event is h = (refl, λ closes. absurd (cc))
needs-event unfinished ahead (Some kinds.Recv) part so_far event is h = (refl, λ closes. absurd (cc))
needs-event unfinished ahead (Some kinds.Rest) part so_far event is h = (refl, λ closes. absurd (cc))
needs-event unfinished ahead (Some kinds.Close) part so_far event is h = (refl, λ closes. go (length part == ahead) refl is)
  where
    go : (b : Bool) → (length part == ahead) ≡ b → (if b then Some (closed unfinished) else None) ≡ Some event → length part ≤ ahead
    go true t e = let five : length part ≡ ahead = eqb-true (length part) ahead t in omega arith
    go false t e = absurd (cc)
needs-event unfinished ahead (Some kinds.Open) part so_far event is h = absurd (go (length part == ahead) is)
  where
    go : (b : Bool) → (if b then Some opened else None) ≡ Some event → ⊥
    go true e = let same : opened ≡ event = cc in let bad : needs_connection (note_of opened) ≡ true = ap (λ (x : Event). needs_connection (note_of x)) same ∙ h in cc
    go false e = cc
needs-event unfinished ahead (Some kinds.Release) part so_far event is h = absurd (go (from_be_bytes w16 (drop ahead part)) (length part == ahead + 2) is)
  where
    go : (n : ℕ) (b : Bool) → (if b then Some (released n) else None) ≡ Some event → ⊥
    go n true e = let same : released n ≡ event = cc in let bad : needs_connection (note_of (released n)) ≡ true = ap (λ (x : Event). needs_connection (note_of x)) same ∙ h in cc
    go n false e = cc
needs-event unfinished ahead None part so_far event is h = absurd (cc)

-- it comes where a connection is open
comes-open : (limit : ℕ) (c : Context) (byte : ℕ) (event : Event) → 8 ≤ c.at → refusal_for limit c byte ≡ None → IsHeld c → event_for c byte ≡ Some event → needs_connection (note_of event) ≡ true → c.connected ≡ true
comes-open limit c byte event long unrefused held is h =
    let p = needs-event (unfinished_of c) (ahead_of c) (kind_of (c.part ++ byte ∷ [])) (c.part ++ byte ∷ []) (so_far_for c byte) event (sym (event-is c byte long) ∙ is) h in
    before limit c byte long unrefused held p.0 p.1

-- ---- the connection stays open within a record

-- an event other than that of a CLOSE
goes-on : (unfinished : UnfinishedPackets) (ahead : ℕ) (k : Option RecordKind) (part so_far : List ℕ) (event : Event) → event_by unfinished ahead k part so_far ≡ Some event → (is_close_kind k ≡ true → length part < ahead) → ends_connection event ≡ false
goes-on unfinished ahead (Some kinds.Open) part so_far event is short = go (length part == ahead) is
  where
    go : (b : Bool) → (if b then Some opened else None) ≡ Some event → ends_connection event ≡ false
    go true e = let same : opened ≡ event = cc in sym (ap ends_connection same)
    go false e = absurd (cc)
goes-on unfinished ahead (Some kinds.Close) part so_far event is short = let less = short refl in go (length part == ahead) refl less is
  where
    go : (b : Bool) → (length part == ahead) ≡ b → length part < ahead → (if b then Some (closed unfinished) else None) ≡ Some event → ends_connection event ≡ false
    go true t less e = absurd (let five : length part ≡ ahead = eqb-true (length part) ahead t in omega arith)
    go false t less e = absurd (cc)
goes-on unfinished ahead (Some kinds.Rest) part so_far event is short = go (length part == ahead) is
  where
    go : (b : Bool) → (if b then Some rested else None) ≡ Some event → ends_connection event ≡ false
    go true e = let same : rested ≡ event = cc in sym (ap ends_connection same)
    go false e = absurd (cc)
goes-on unfinished ahead (Some kinds.Release) part so_far event is short = go (from_be_bytes w16 (drop ahead part)) (length part == ahead + 2) is
  where
    go : (n : ℕ) (b : Bool) → (if b then Some (released n) else None) ≡ Some event → ends_connection event ≡ false
    go n true e = let same : released n ≡ event = cc in sym (ap ends_connection same)
    go n false e = absurd (cc)
goes-on unfinished ahead (Some kinds.Sent) part so_far event is short = go (item_at so_far) is
  where
    go : (o : Option Item) → option_map sent o ≡ Some event → ends_connection event ≡ false
    go None e = absurd (cc)
    go (Some i) e = let same : sent i ≡ event = cc in sym (ap ends_connection same)
goes-on unfinished ahead (Some kinds.Recv) part so_far event is short = go (item_at so_far) is
  where
    go : (o : Option Item) → option_map received o ≡ Some event → ends_connection event ≡ false
    go None e = absurd (cc)
    go (Some i) e = let same : received i ≡ event = cc in sym (ap ends_connection same)
goes-on unfinished ahead None part so_far event is short = absurd (cc)

still-open : (c : Context) (o : Option Event) → c.connected ≡ true → ((event : Event) → o ≡ Some event → ends_connection event ≡ false) → (with_completed c o).connected ≡ true
still-open c None open_before stays = open_before
still-open c (Some event) open_before stays = ap (λ b. begins_connection event || (not b && c.connected)) (stays event refl) ∙ ap (λ b. begins_connection event || b) open_before ∙ or_true (begins_connection event)
  where
    or_true : (b : Bool) → (b || true) ≡ true
    or_true true = refl
    or_true false = refl

no-kind : needs_open (kind_of []) ≡ false
unfolding kind_of
no-kind = refl

held-next : (limit : ℕ) (c : Context) (byte : ℕ) → 8 ≤ c.at → refusal_for limit c byte ≡ None → IsHeld c → IsHeld (after c byte)
unfolding after
held-next limit c byte long unrefused held = subst IsHeld (sym whole) inner
  where
    new : Context
    new = with_completed (after_part c (c.part ++ byte ∷ []) byte) (event_for c byte)

    whole : after c byte ≡ new
    whole = ap (λ b. if b then after_header c byte else with_completed (after_part c (c.part ++ byte ∷ []) byte) (event_for c byte)) (le-ltb c.at 8 long)

    by_size : (b : Bool) → is_some (record_size (ahead_of c) (c.part ++ byte ∷ [])) ≡ b → needs_open (kind_of (cond b [] (c.part ++ byte ∷ []))) ≡ true
        → (is_close_kind (kind_of (cond b [] (c.part ++ byte ∷ []))) ≡ true → length (cond b [] (c.part ++ byte ∷ [])) < ahead_of c) → new.connected ≡ true
    by_size true is needs short = absurd (let bad : needs_open (kind_of []) ≡ false = no-kind in cc)
    by_size false is needs short =
        still-open (after_part c (c.part ++ byte ∷ []) byte) (event_for c byte)
        (before limit c byte long unrefused held needs (λ closes. let less = short closes in omega arith))
        (λ event here. goes-on (unfinished_of c) (ahead_of c) (kind_of (c.part ++ byte ∷ [])) (c.part ++ byte ∷ []) (so_far_for c byte) event (sym (event-is c byte long) ∙ here) short)

    inner : IsHeld new
    inner needs short =
        let same : new.part ≡ cond (is_some (record_size (ahead_of c) (c.part ++ byte ∷ []))) [] (c.part ++ byte ∷ []) = part-completed (after_part c (c.part ++ byte ∷ []) byte) (event_for c byte) in
        let ahead : ahead_of new ≡ ahead_of c = ap (λ (t : Header). head_length t.version) (header-completed (after_part c (c.part ++ byte ∷ []) byte) (event_for c byte)) in
        by_size (is_some (record_size (ahead_of c) (c.part ++ byte ∷ []))) refl (ap (λ p. needs_open (kind_of p)) (sym same) ∙ needs)
        (λ closes. subst (λ (p : List ℕ). length p < ahead_of c) same (subst (λ n. length new.part < n) ahead (short (ap (λ p. is_close_kind (kind_of p)) same ∙ closes))))

-- ---- along the log

-- what holds between two bytes of the log
record IsOpen (seen : List Seen) (c : Context) : Type 0 where
  on_connections : AreOnConnections seen
  held : IsHeld c

header-held : (log : List ℕ) → length log ≤ 8 → IsHeld (context log)
header-held log short needs closes = absurd (let bad : needs_open (kind_of []) ≡ true = ap (λ p. needs_open (kind_of p)) (sym (no-part log short)) ∙ needs in let none = no-kind in cc)

on_put : (limit : ℕ) (log : List ℕ) (byte moment : ℕ) (o : Option Event) → 8 ≤ (context log).at → refusal_for limit (context log) byte ≡ None → event_for (context log) byte ≡ o
    → AreOnConnections (seen_in log) → IsHeld (context log) → AreOnConnections (seen_with (context log) moment o (seen_in log))
on_put limit log byte moment None long unrefused is on held = on
on_put limit log byte moment (Some event) long unrefused is on held = ((λ h. sym (connected_context log) ∙ comes-open limit (context log) byte event long unrefused held is h), on)

open_step : (limit : ℕ) (log : List ℕ) (byte : ℕ) (b : Bool) → nat_lt (length log) 8 ≡ b → refusal_at limit log byte ≡ None
    → IsOpen (seen_in log) (context log) → IsOpen (seen_in (log ++ byte ∷ [])) (context (log ++ byte ∷ []))
open_step limit log byte true is unrefused t =
    let l = length-append log (byte ∷ []) in
    let short = ltb-true (length log) 8 is in
    record {
      on_connections = subst AreOnConnections (sym (seen-header (log ++ byte ∷ []) (omega arith))) tt;
      held = header-held (log ++ byte ∷ []) (omega arith);
    }
open_step limit log byte false is unrefused t =
    let long = ltb-false (length log) 8 is in
    let at : 8 ≤ (context log).at = subst (λ (n : ℕ). 8 ≤ n) (sym (at_context log)) long in
    let fits = sym (refusal-kept limit log byte) ∙ unrefused in
    record {
      on_connections = subst AreOnConnections (sym (seen-kept log byte)) (on_put limit log byte (moment_so log byte) (event_for (context log) byte) at fits refl t.on_connections t.held);
      held = subst IsHeld (sym (context-grow log byte)) (held-next limit (context log) byte at fits t.held);
    }

-- a log that isn't refused
pub on_connections : (limit : ℕ) (bytes : List ℕ) → refused limit bytes ≡ None → AreOnConnections (seen_in bytes)
on_connections limit bytes unrefused = (along (λ log. refused limit log ≡ None → IsOpen (seen_in log) (context log))
    (λ unrefused. record { on_connections = subst AreOnConnections (sym (seen-header [] (omega arith))) tt; held = subst IsHeld (sym context-nothing) nothing })
    (λ log byte earlier unrefused.
    let parts = unrefused-grow limit log byte unrefused in
    open_step limit log byte (nat_lt (length log) 8) refl parts.1 (earlier parts.0))
    bytes unrefused).on_connections
  where
    nothing : IsHeld fresh
    nothing needs short = absurd (let bad : needs_open (kind_of []) ≡ false = no-kind in cc)
