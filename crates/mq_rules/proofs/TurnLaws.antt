-- In a log that isn't refused each connection is decided before the next one begins.
use Rattle.std.proofs.Common.{◌≡◌, ℕ, ◌+◌, ◌<◌, ◌≤◌, ◌==◌, Bool, true, false, cond, nat_lt, List, [], ◌∷◌, ◌++◌, length, Option, Some, None, refl, sym, ◌∙◌, ap, subst, arith, length-append}
use Rattle.std.specs.Prelude.{is_some, ◌&&◌, if◌then◌else◌, option_map, slice_index}
use Rattle.std.proofs.lemmas.Bool.{ltb-true, ltb-false, le-ltb, eqb-true}
use Rattle.std.specs.Int.{w16, from_be_bytes}
use Rattle.std.proofs.Common.{drop}
use Rattle.mq_log.specs.declared.kind.RecordKind.{RecordKind}
use Rattle.mq_log.specs.declared.kind.RecordKind.TheVariants as kinds
use Rattle.mq_log.specs.declared.header.Header.{Header}
use Rattle.mq_log.specs.Pieces.{Pieces}
use Rattle.mq_log.specs.Framing.{kind_of, kind_named, head_length, record_size}
use Rattle.mq_log.specs.Events.{UnfinishedPackets, Item, Event, event_by, event_in, item_at, opened, closed, rested, released, sent, received}
use Rattle.mq_log.specs.Refusals.{Situation, conditions, header_refusal, record_refusal, refusal_at, refused, is_open_kind, is_first}
use Rattle.mq_log.specs.Context.{Context, ahead_of, unfinished_of, context, situated, so_far_for, refusal_for, event_for, after, after_header, after_part, with_completed, fresh}
use Rattle.mq_log.proofs.Exports.{refusal-kept, header-unchanged, at_context}
use Rattle.mq_log.proofs.Exports.{context-grow, context-nothing, part_context}
use Rattle.mq_log.proofs.Exports.{records-header}
use Rattle.mq_rules.specs.declared.role.Role.{Role}
use Rattle.mq_rules.specs.declared.note.Seen.{Seen}
use Rattle.mq_rules.specs.Notes.{tested_by, note_of, seen_in, is_open}
use Rattle.mq_rules.specs.Rules.{none_further}
use Rattle.mq_rules.proofs.FateLaws.{closed-decided}
use Rattle.mq_rules.proofs.OrderLaws.{along, none_applies, connected_context, seen_with, moment_so, seen-kept, seen-header, unrefused-grow, role_of}
use Rattle.mq_rules.specs.Under.{IsInTurn}

-- ---- the record of an OPEN begins while no connection is open

-- what holds between two bytes of it
abbrev IsFree : Context → Type 0
IsFree c = is_open_kind (kind_of c.part) ≡ true → length c.part < ahead_of c → c.connected ≡ false

not-nested : (limit : ℕ) (s : Situation) → record_refusal limit s ≡ None → (is_first s && (is_open_kind (kind_of s.part) && s.connected)) ≡ false
unfolding record_refusal
not-nested limit s h = (none_applies (conditions limit s) h).1.1.0

-- the bytes so far of the record, the next one included
before : (limit : ℕ) (c : Context) (byte : ℕ) → 8 ≤ c.at → refusal_for limit c byte ≡ None → IsFree c
    → is_open_kind (kind_of (c.part ++ byte ∷ [])) ≡ true → length (c.part ++ byte ∷ []) ≤ ahead_of c → c.connected ≡ false
unfolding refusal_for situated kind_of
before limit c byte long unrefused free opens short = go c.part refl opens short
  where
    after_head : record_refusal limit (situated c byte) ≡ None
    after_head = sym (ap (λ b. if b then header_refusal c.at byte else record_refusal limit (situated c byte)) (le-ltb c.at 8 long)) ∙ unrefused

    nested : (length (c.part ++ byte ∷ []) == 1) ≡ true → is_open_kind (kind_of (c.part ++ byte ∷ [])) ≡ true → (b : Bool) → c.connected ≡ b → b ≡ false
    nested one opens false is = refl
    nested one opens true is = absurd (let none = not-nested limit (situated c byte) after_head in
        let bad : (true && (true && true)) ≡ false = sym (ap (λ b. b && (is_open_kind (kind_of (c.part ++ byte ∷ [])) && c.connected)) one ∙ ap (λ b. true && (b && c.connected)) opens ∙ ap (λ b. true && (true && b)) is) ∙ none in cc)

    go : (p : List ℕ) → c.part ≡ p → is_open_kind (kind_of (c.part ++ byte ∷ [])) ≡ true → length (c.part ++ byte ∷ []) ≤ ahead_of c → c.connected ≡ false
    go [] is opens short = nested (ap (λ p. length (p ++ byte ∷ []) == 1) is) opens c.connected refl
    go (q ∷ qs) is opens short =
        let l = length-append c.part (byte ∷ []) in
        free (ap (λ p. is_open_kind (kind_named (slice_index p 0))) is ∙ sym (ap (λ p. is_open_kind (kind_named (slice_index (p ++ byte ∷ []) 0))) is) ∙ opens) (omega arith)

-- ---- an OPEN

open-event : (unfinished : UnfinishedPackets) (ahead : ℕ) (k : Option RecordKind) (part so_far : List ℕ) (event : Event) → event_by unfinished ahead k part so_far ≡ Some event → is_open (note_of event) ≡ true → (is_open_kind k ≡ true) × (length part ≡ ahead)
open-event unfinished ahead (Some kinds.Open) part so_far event is h = (refl, go (length part == ahead) refl is)
  where
    go : (b : Bool) → (length part == ahead) ≡ b → (if b then Some opened else None) ≡ Some event → length part ≡ ahead
    go true t e = eqb-true (length part) ahead t
    go false t e = absurd (cc)
open-event unfinished ahead (Some kinds.Close) part so_far event is h = absurd (go (length part == ahead) is)
  where
    go : (b : Bool) → (if b then Some (closed unfinished) else None) ≡ Some event → ⊥
    go true e = let same : closed unfinished ≡ event = cc in let bad : is_open (note_of (closed unfinished)) ≡ true = ap (λ (x : Event). is_open (note_of x)) same ∙ h in cc
    go false e = cc
open-event unfinished ahead (Some kinds.Rest) part so_far event is h = absurd (go (length part == ahead) is)
  where
    go : (b : Bool) → (if b then Some rested else None) ≡ Some event → ⊥
    go true e = let same : rested ≡ event = cc in let bad : is_open (note_of rested) ≡ true = ap (λ (x : Event). is_open (note_of x)) same ∙ h in cc
    go false e = cc
open-event unfinished ahead (Some kinds.Release) part so_far event is h = absurd (go (from_be_bytes w16 (drop ahead part)) (length part == ahead + 2) is)
  where
    go : (n : ℕ) (b : Bool) → (if b then Some (released n) else None) ≡ Some event → ⊥
    go n true e = let same : released n ≡ event = cc in let bad : is_open (note_of (released n)) ≡ true = ap (λ (x : Event). is_open (note_of x)) same ∙ h in cc
    go n false e = cc
open-event unfinished ahead (Some kinds.Sent) part so_far event is h = absurd (go (item_at so_far) is)
  where
    go : (o : Option Item) → option_map sent o ≡ Some event → ⊥
    go None e = cc
    go (Some i) e = let same : sent i ≡ event = cc in let bad : is_open (note_of (sent i)) ≡ true = ap (λ (x : Event). is_open (note_of x)) same ∙ h in cc
open-event unfinished ahead (Some kinds.Recv) part so_far event is h = absurd (go (item_at so_far) is)
  where
    go : (o : Option Item) → option_map received o ≡ Some event → ⊥
    go None e = cc
    go (Some i) e = let same : received i ≡ event = cc in let bad : is_open (note_of (received i)) ≡ true = ap (λ (x : Event). is_open (note_of x)) same ∙ h in cc
open-event unfinished ahead None part so_far event is h = absurd (cc)

-- where the record of an OPEN isn't whole, nothing has come of it
open-quiet : (unfinished : UnfinishedPackets) (ahead : ℕ) (k : Option RecordKind) (part so_far : List ℕ) → is_open_kind k ≡ true → length part < ahead → event_by unfinished ahead k part so_far ≡ None
open-quiet unfinished ahead (Some kinds.Open) part so_far h lt = go (length part == ahead) refl
  where
    go : (b : Bool) → (length part == ahead) ≡ b → (if b then Some opened else None) ≡ None
    go true t = absurd (let n : length part ≡ ahead = eqb-true (length part) ahead t in omega arith)
    go false t = refl
open-quiet unfinished ahead (Some kinds.Close) part so_far h lt = absurd (cc)
open-quiet unfinished ahead (Some kinds.Rest) part so_far h lt = absurd (cc)
open-quiet unfinished ahead (Some kinds.Release) part so_far h lt = absurd (cc)
open-quiet unfinished ahead (Some kinds.Sent) part so_far h lt = absurd (cc)
open-quiet unfinished ahead (Some kinds.Recv) part so_far h lt = absurd (cc)
open-quiet unfinished ahead None part so_far h lt = absurd (cc)

pub event-is : (c : Context) (byte : ℕ) → 8 ≤ c.at → event_for c byte ≡ event_by (unfinished_of c) (ahead_of c) (kind_of (c.part ++ byte ∷ [])) (c.part ++ byte ∷ []) (so_far_for c byte)
unfolding event_for event_in
event-is c byte long = ap (λ b. if b then None else event_by (unfinished_of c) (ahead_of c) (kind_of (c.part ++ byte ∷ [])) (c.part ++ byte ∷ []) (so_far_for c byte)) (le-ltb c.at 8 long)

-- the OPEN comes where no connection is open
opens-free : (limit : ℕ) (c : Context) (byte : ℕ) (event : Event) → 8 ≤ c.at → refusal_for limit c byte ≡ None → IsFree c → event_for c byte ≡ Some event → is_open (note_of event) ≡ true → c.connected ≡ false
opens-free limit c byte event long unrefused free is h =
    let p = open-event (unfinished_of c) (ahead_of c) (kind_of (c.part ++ byte ∷ [])) (c.part ++ byte ∷ []) (so_far_for c byte) event (sym (event-is c byte long) ∙ is) h in
    let n = p.1 in
    before limit c byte long unrefused free p.0 (omega arith)

connected-none : (c : Context) (o : Option Event) → o ≡ None → (with_completed c o).connected ≡ c.connected
connected-none c o h = ap (λ o. (with_completed c o).connected) h

pub header-completed : (c : Context) (o : Option Event) → (with_completed c o).header ≡ c.header
header-completed c None = refl
header-completed c (Some event) = refl

pub part-completed : (c : Context) (o : Option Event) → (with_completed c o).part ≡ c.part
part-completed c None = refl
part-completed c (Some event) = refl

no-kind : is_open_kind (kind_of []) ≡ false
unfolding kind_of
no-kind = refl

free-next : (limit : ℕ) (c : Context) (byte : ℕ) → 8 ≤ c.at → refusal_for limit c byte ≡ None → IsFree c → IsFree (after c byte)
unfolding after
free-next limit c byte long unrefused free = subst IsFree (sym whole) inner
  where
    part : List ℕ
    part = c.part ++ byte ∷ []

    new : Context
    new = with_completed (after_part c (c.part ++ byte ∷ []) byte) (event_for c byte)

    whole : after c byte ≡ new
    whole = ap (λ b. if b then after_header c byte else with_completed (after_part c (c.part ++ byte ∷ []) byte) (event_for c byte)) (le-ltb c.at 8 long)

    by_size : (b : Bool) → is_some (record_size (ahead_of c) (c.part ++ byte ∷ [])) ≡ b → is_open_kind (kind_of (cond b [] (c.part ++ byte ∷ []))) ≡ true → length (cond b [] (c.part ++ byte ∷ [])) < ahead_of c → new.connected ≡ false
    by_size true is opens lt = absurd (let bad : is_open_kind (kind_of []) ≡ false = no-kind in cc)
    by_size false is opens lt =
        connected-none (after_part c (c.part ++ byte ∷ []) byte) (event_for c byte) (event-is c byte long ∙ open-quiet (unfinished_of c) (ahead_of c) (kind_of (c.part ++ byte ∷ [])) (c.part ++ byte ∷ []) (so_far_for c byte) opens lt)
        ∙ before limit c byte long unrefused free opens (omega arith)

    inner : IsFree new
    inner opens lt =
        let same : new.part ≡ cond (is_some (record_size (ahead_of c) (c.part ++ byte ∷ []))) [] (c.part ++ byte ∷ []) = part-completed (after_part c (c.part ++ byte ∷ []) byte) (event_for c byte) in
        let ahead : ahead_of new ≡ ahead_of c = ap (λ (t : Header). head_length t.version) (header-completed (after_part c (c.part ++ byte ∷ []) byte) (event_for c byte)) in
        by_size (is_some (record_size (ahead_of c) (c.part ++ byte ∷ []))) refl (ap (λ p. is_open_kind (kind_of p)) (sym same) ∙ opens) (subst (λ (p : List ℕ). length p < ahead_of c) same (subst (λ n. length new.part < n) ahead lt))

-- ---- along the log

-- what holds between two bytes of the log
pub record IsTurned (role : Role) (seen : List Seen) (c : Context) : Type 0 where
  pub in_turn : IsInTurn role seen
  pub free : IsFree c

-- in a header no record has begun
pub no-part : (log : List ℕ) → length log ≤ 8 → (context log).part ≡ []
no-part log short = part_context log ∙ ap (λ (p : Pieces). p.rest) (records-header log short)

header-free : (log : List ℕ) → length log ≤ 8 → IsFree (context log)
header-free log short opens lt = absurd (let bad : is_open_kind (kind_of []) ≡ true = ap (λ p. is_open_kind (kind_of p)) (sym (no-part log short)) ∙ opens in let none = no-kind in cc)

turned_put : (limit : ℕ) (log : List ℕ) (byte moment : ℕ) (o : Option Event) → 8 ≤ (context log).at → refusal_for limit (context log) byte ≡ None → event_for (context log) byte ≡ o
    → (role : Role) → IsInTurn role (seen_in log) → IsFree (context log) → IsInTurn role (seen_with (context log) moment o (seen_in log))
turned_put limit log byte moment None long unrefused is role turn free = turn
turned_put limit log byte moment (Some event) long unrefused is role turn free =
    ((λ h. closed-decided role (seen_in log) (sym (connected_context log) ∙ opens-free limit (context log) byte event long unrefused free is h)), turn)

turned_step : (role : Role) (limit : ℕ) (log : List ℕ) (byte : ℕ) (b : Bool) → nat_lt (length log) 8 ≡ b → refusal_at limit log byte ≡ None
    → IsTurned role (seen_in log) (context log) → IsTurned role (seen_in (log ++ byte ∷ [])) (context (log ++ byte ∷ []))
turned_step role limit log byte true is unrefused t =
    let l = length-append log (byte ∷ []) in
    let short = ltb-true (length log) 8 is in
    record {
      in_turn = subst (IsInTurn role) (sym (seen-header (log ++ byte ∷ []) (omega arith))) tt;
      free = header-free (log ++ byte ∷ []) (omega arith);
    }
turned_step role limit log byte false is unrefused t =
    let long = ltb-false (length log) 8 is in
    let at : 8 ≤ (context log).at = subst (λ (n : ℕ). 8 ≤ n) (sym (at_context log)) long in
    let fits = sym (refusal-kept limit log byte) ∙ unrefused in
    record {
      in_turn = subst (IsInTurn role) (sym (seen-kept log byte)) (turned_put limit log byte (moment_so log byte) (event_for (context log) byte) at fits refl role t.in_turn t.free);
      free = subst IsFree (sym (context-grow log byte)) (free-next limit (context log) byte at fits t.free);
    }

-- A log that isn't refused. Whichever end is tested, a CLOSE decides a connection.
pub turned_for : (role : Role) (limit : ℕ) (bytes : List ℕ) → refused limit bytes ≡ None → IsInTurn role (seen_in bytes)
turned_for role limit bytes unrefused = (along (λ log. refused limit log ≡ None → IsTurned role (seen_in log) (context log))
    (λ unrefused. record { in_turn = subst (IsInTurn role) (sym (seen-header [] (omega arith))) tt; free = subst IsFree (sym context-nothing) nothing })
    (λ log byte before unrefused.
    let parts = unrefused-grow limit log byte unrefused in
    turned_step role limit log byte (nat_lt (length log) 8) refl parts.1 (before parts.0))
    bytes unrefused).in_turn
  where
    nothing : IsFree fresh
    nothing opens lt = refl

pub turned : (limit : ℕ) (bytes : List ℕ) → refused limit bytes ≡ None → IsInTurn (tested_by none_further bytes).role (seen_in bytes)
turned limit bytes = turned_for (tested_by none_further bytes).role limit bytes
