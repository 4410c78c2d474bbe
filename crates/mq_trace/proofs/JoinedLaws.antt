-- The items of the events of one direction of a connection are what its stream of packets holds.
use Rattle.std.proofs.Common.{◌≡◌, ℕ, ◌+◌, ◌<◌, ◌≤◌, Bool, true, false, cond, ◌&&◌, nat_lt, List, [], ◌∷◌, ◌++◌, length, drop, reverse, Option, Some, None, is_some, refl, sym, ◌∙◌, ap, subst, arith, append_assoc, length-append}
use Rattle.std.specs.Prelude.{◌==◌, if◌then◌else◌, option_map}
use Rattle.std.specs.Int.{w16, from_be_bytes}
use Rattle.std.proofs.lemmas.List.{append-nil, reverse-append, reverse-reverse, drop-append-le, drop_all}
use Rattle.std.proofs.lemmas.Bool.{eq-eqb, ne_eqb, eqb-true, eqb-false, le-ltb, lt-ltb, ltb-true, ltb-false}
use Rattle.mq_packet.specs.Stream.{frame_size, is_lost}
use Rattle.mq_packet.proofs.Exports.{is_lost_stays, lost_no_frame}
use Rattle.mq_log.specs.declared.kind.RecordKind.{RecordKind}
use Rattle.mq_log.specs.declared.kind.RecordKind.TheVariants as kinds
use Rattle.mq_log.specs.declared.kind.Direction.{Direction}
use Rattle.mq_log.specs.declared.kind.Direction.TheVariants as directions
use Rattle.mq_log.specs.Pieces.{Pieces, pieces}
use Rattle.mq_log.specs.Framing.{kind_of, direction_of, opens, if_direction, header_by, record_size, records, begun_records, begun_with, carried, stream, ahead_in, length_end, moment_in}
use Rattle.mq_log.specs.Events.{UnfinishedPackets, Item, Event, Placed, lost, opened, closed, rested, sent, received, released, item_at, packet_with, event_by, event_in, events}
use Rattle.mq_log.specs.Connections.{begins_connection}
use Rattle.mq_log.specs.Context.{Context, ahead_of, unfinished_of, context, so_far_by, so_far_for, event_for, placed_with, placed_for, put}
use Rattle.mq_trace.specs.Joined.{opened_records, joined, if_some, frame_item, frame_items, stream_items, opened_events, directed_item, connection_items}
use Rattle.mq_log.proofs.Exports.{grown, pieces-grow, nothing_cut}
use Rattle.mq_log.proofs.Exports.{head_least, ahead-unchanged, body_byte, if_direction-nothing, if_direction-append, kind_of-append, begun-grow, begun-header, rest-grow, record_size-is}
use Rattle.mq_log.proofs.Exports.{frame_settles, nothing_lost}
use Rattle.mq_log.proofs.Exports.{part_context, at_context, so_far_kept_by, events-kept, events-header}
use Rattle.mq_trace.proofs.FlowLaws.{nothing_item, item_by}
use Rattle.mq_trace.proofs.LiftLaws.{opens_none}

-- by the newest byte of a log
pub along : (P : List ℕ → Type 0) → P [] → ((log : List ℕ) (byte : ℕ) → P log → P (log ++ byte ∷ [])) → (log : List ℕ) → P log
along P start step log = subst P (reverse-reverse log) (back (reverse log))
  where
    back : (bytes : List ℕ) → P (reverse bytes)
    back [] = start
    back (byte ∷ bytes) = subst P (sym (reverse-append (byte ∷ []) bytes)) (step (reverse bytes) byte (back bytes))

-- A stream holds one item more where one byte more completes it.
frame_items-append : (a b : List (List ℕ)) → frame_items (a ++ b) ≡ frame_items a ++ frame_items b
frame_items-append [] b = refl
frame_items-append (frame ∷ a) b =
    ap (λ l. if_some (frame_item frame) ++ l) (frame_items-append a b) ∙ sym (append_assoc (if_some (frame_item frame)) (frame_items a) (frame_items b))

held_by : (p : Pieces) (byte : ℕ) (b : Bool) → is_lost p.rest ≡ b → (l : Bool) → is_lost (p.rest ++ byte ∷ []) ≡ l → (o : Option ℕ) → frame_size (p.rest ++ byte ∷ []) ≡ o
    → stream_items (grown o p byte) ≡ (frame_items p.whole ++ cond b (lost ∷ []) []) ++ if_some (item_at (cond b [] (p.rest ++ byte ∷ [])))
held_by p byte true is false was o frame = let stays = is_lost_stays p.rest (byte ∷ []) is in absurd (cc)
held_by p byte b is true was (Some size) frame = let none = lost_no_frame (p.rest ++ byte ∷ []) was in absurd (cc)
held_by p byte true is true was None frame =
    ap (λ t. frame_items p.whole ++ cond t (lost ∷ []) []) was
    ∙ sym (append-nil (frame_items p.whole ++ lost ∷ []))
    ∙ ap (λ o. (frame_items p.whole ++ lost ∷ []) ++ if_some o) (sym nothing_item)
held_by p byte false is true was None frame =
    ap (λ t. frame_items p.whole ++ cond t (lost ∷ []) []) was
    ∙ ap (λ l. l ++ lost ∷ []) (sym (append-nil (frame_items p.whole)))
    ∙ ap (λ o. (frame_items p.whole ++ []) ++ if_some o) (sym (item_by (p.rest ++ byte ∷ []) true None was frame))
held_by p byte false is false was None frame =
    ap (λ t. frame_items p.whole ++ cond t (lost ∷ []) []) was
    ∙ sym (append-nil (frame_items p.whole ++ []))
    ∙ ap (λ o. (frame_items p.whole ++ []) ++ if_some o) (sym (item_by (p.rest ++ byte ∷ []) false None was frame))
held_by p byte false is false was (Some size) frame =
    let so_far : List ℕ = p.rest ++ byte ∷ [] in
    ap (λ t. frame_items (p.whole ++ so_far ∷ []) ++ cond t (lost ∷ []) []) nothing_lost
    ∙ append-nil (frame_items (p.whole ++ so_far ∷ []))
    ∙ frame_items-append p.whole (so_far ∷ [])
    ∙ ap (λ l. frame_items p.whole ++ l) (append-nil (if_some (frame_item so_far)))
    ∙ ap (λ l. l ++ if_some (frame_item so_far)) (sym (append-nil (frame_items p.whole)))
    ∙ ap (λ o. (frame_items p.whole ++ []) ++ if_some o) (sym (item_by so_far false (Some size) was frame))

stream_more : (bytes : List ℕ) (byte : ℕ) → stream_items (stream (bytes ++ byte ∷ [])) ≡ stream_items (stream bytes) ++ if_some (item_at (packet_with bytes byte))
unfolding stream
stream_more bytes byte =
    let p : Pieces = pieces frame_size bytes in
    ap stream_items (pieces-grow frame_size frame_settles bytes byte)
    ∙ held_by p byte (is_lost p.rest) refl (is_lost (p.rest ++ byte ∷ [])) refl (frame_size (p.rest ++ byte ∷ [])) refl

stream_nothing : stream_items (stream []) ≡ []
unfolding stream
stream_nothing = ap stream_items (nothing_cut frame_size frame_settles) ∙ ap (λ t. cond t (lost ∷ []) []) nothing_lost

-- On the newest connection a direction carried what framing says that it carried.
opened_more : (part : List ℕ) (before : List (List ℕ)) → opened_records before ≤ opened_records (part ∷ before)
opened_more part before = by (opens (kind_of part))
  where
    by : (o : Bool) → opened_records before ≤ cond o (opened_records before + 1) (opened_records before)
    by true = omega arith
    by false = omega arith

unbegun : (ahead number : ℕ) (direction : Direction) (parts : List (List ℕ)) → opened_records parts < number → joined ahead number direction parts ≡ []
unbegun ahead number direction [] less = refl
unbegun ahead number direction (part ∷ before) less =
    let more = opened_more part before in
    let other : (opened_records (part ∷ before) == number) ≡ false = ne_eqb (opened_records (part ∷ before)) number (λ same. (omega arith)) in
    ap (λ l. l ++ cond (opened_records (part ∷ before) == number) (if_direction direction (direction_of (kind_of part)) (drop ahead part)) []) (unbegun ahead number direction before (omega arith))
    ∙ ap (λ t. cond t (if_direction direction (direction_of (kind_of part)) (drop ahead part)) []) other

opening_carries_none : (kind : Option RecordKind) (direction : Direction) (bytes : List ℕ) → opens kind ≡ true → if_direction direction (direction_of kind) bytes ≡ []
opening_carries_none (Some kinds.Open) directions.Sent bytes is = refl
opening_carries_none (Some kinds.Open) directions.Recv bytes is = refl
opening_carries_none None direction bytes is = absurd (cc)
opening_carries_none (Some kinds.Sent) direction bytes is = absurd (cc)
opening_carries_none (Some kinds.Recv) direction bytes is = absurd (cc)
opening_carries_none (Some kinds.Close) direction bytes is = absurd (cc)
opening_carries_none (Some kinds.Rest) direction bytes is = absurd (cc)
opening_carries_none (Some kinds.Release) direction bytes is = absurd (cc)

newest_by : (ahead : ℕ) (direction : Direction) (part : List ℕ) (before : List (List ℕ)) (o : Bool) → opens (kind_of part) ≡ o → joined ahead (opened_records before) direction before ≡ carried ahead direction before
    → joined ahead (cond o (opened_records before + 1) (opened_records before)) direction before ++ if_direction direction (direction_of (kind_of part)) (drop ahead part)
    ≡ cond o [] (carried ahead direction before ++ if_direction direction (direction_of (kind_of part)) (drop ahead part))
newest_by ahead direction part before true is same =
    ap (λ l. l ++ if_direction direction (direction_of (kind_of part)) (drop ahead part)) (unbegun ahead (opened_records before + 1) direction before (omega arith))
    ∙ opening_carries_none (kind_of part) direction (drop ahead part) is
newest_by ahead direction part before false is same = ap (λ l. l ++ if_direction direction (direction_of (kind_of part)) (drop ahead part)) same

pub newest : (ahead : ℕ) (direction : Direction) (parts : List (List ℕ)) → joined ahead (opened_records parts) direction parts ≡ carried ahead direction parts
unfolding carried
newest ahead direction [] = refl
newest ahead direction (part ∷ before) =
    let n : ℕ = opened_records (part ∷ before) in
    let body : List ℕ = if_direction direction (direction_of (kind_of part)) (drop ahead part) in
    ap (λ t. joined ahead n direction before ++ cond t body []) (eq-eqb n n refl)
    ∙ newest_by ahead direction part before (opens (kind_of part)) refl (newest ahead direction before)

-- What a direction of a connection carried, with one byte of the log more.
body_more : (ahead r : ℕ) (rest : List ℕ) (byte : ℕ) (b : Bool) → nat_lt ahead (length ((r ∷ rest) ++ byte ∷ [])) ≡ b → drop ahead ((r ∷ rest) ++ byte ∷ []) ≡ drop ahead (r ∷ rest) ++ cond b (byte ∷ []) []
body_more ahead r rest byte true is =
    let l = length-append (r ∷ rest) (byte ∷ []) in
    let long = ltb-true ahead (length ((r ∷ rest) ++ byte ∷ [])) is in
    drop-append-le ahead (r ∷ rest) (byte ∷ []) (omega arith)
body_more ahead r rest byte false is =
    let l = length-append (r ∷ rest) (byte ∷ []) in
    let short = ltb-false ahead (length ((r ∷ rest) ++ byte ∷ [])) is in
    drop_all ahead ((r ∷ rest) ++ byte ∷ []) short ∙ sym (ap (λ bytes. bytes ++ []) (drop_all ahead (r ∷ rest) (omega arith)))

sent_on : (direction : Direction) (carries : Option Direction) (byte : ℕ) (b : Bool) → if_direction direction carries (cond b (byte ∷ []) []) ≡ cond b (if_direction direction carries (byte ∷ [])) []
sent_on direction carries byte true = refl
sent_on direction carries byte false = if_direction-nothing direction carries

body_grown : (ahead : ℕ) (direction : Direction) (r : ℕ) (rest : List ℕ) (byte : ℕ)
    → if_direction direction (direction_of (kind_of ((r ∷ rest) ++ byte ∷ []))) (drop ahead ((r ∷ rest) ++ byte ∷ [])) ≡ if_direction direction (direction_of (kind_of (r ∷ rest))) (drop ahead (r ∷ rest)) ++ body_byte ahead direction ((r ∷ rest) ++ byte ∷ []) byte
body_grown ahead direction r rest byte =
    let part : List ℕ = (r ∷ rest) ++ byte ∷ [] in
    let carries : Option Direction = direction_of (kind_of part) in
    let b : Bool = nat_lt ahead (length part) in
    ap (if_direction direction carries) (body_more ahead r rest byte b refl)
    ∙ if_direction-append direction carries (drop ahead (r ∷ rest)) (cond b (byte ∷ []) [])
    ∙ ap (λ l. if_direction direction carries (drop ahead (r ∷ rest)) ++ l) (sent_on direction carries byte b)
    ∙ ap (λ k. if_direction direction (direction_of k) (drop ahead (r ∷ rest)) ++ cond b (if_direction direction carries (byte ∷ [])) []) (kind_of-append (r ∷ rest) (byte ∷ []) (omega arith))

split_by : (t : Bool) (j a b : List ℕ) → j ++ cond t (a ++ b) [] ≡ (j ++ cond t a []) ++ cond t b []
split_by true j a b = sym (append_assoc j a b)
split_by false j a b = sym (append-nil (j ++ []))

joined_grown : (ahead : ℕ) → length_end ≤ ahead → (number : ℕ) (direction : Direction) (rest : List ℕ) (byte : ℕ) (whole : List (List ℕ))
    → joined ahead number direction ((rest ++ byte ∷ []) ∷ whole)
    ≡ joined ahead number direction (begun_with rest whole) ++ cond (opened_records ((rest ++ byte ∷ []) ∷ whole) == number) (body_byte ahead direction (rest ++ byte ∷ []) byte) []
joined_grown ahead least number direction [] byte whole =
    let o = opened_records ((byte ∷ []) ∷ whole) == number in
    let w = direction_of (kind_of (byte ∷ [])) in
    ap (λ bytes. joined ahead number direction whole ++ cond o (if_direction direction w bytes) []) (drop_all ahead (byte ∷ []) (omega arith))
    ∙ ap (λ bytes. joined ahead number direction whole ++ cond o bytes []) (if_direction-nothing direction w)
    ∙ ap (λ b. joined ahead number direction whole ++ cond o (cond b (if_direction direction w (byte ∷ [])) []) []) (sym (le-ltb ahead 1 (omega arith)))
joined_grown ahead least number direction (r ∷ rest) byte whole =
    let old : List ℕ = r ∷ rest in
    let part : List ℕ = (r ∷ rest) ++ byte ∷ [] in
    let n : opened_records (part ∷ whole) ≡ opened_records (old ∷ whole)
    = ap (λ k. cond (opens k) (opened_records whole + 1) (opened_records whole)) (kind_of-append (r ∷ rest) (byte ∷ []) (omega arith)) in
    let before : List ℕ = if_direction direction (direction_of (kind_of old)) (drop ahead old) in
    ap (λ bytes. joined ahead number direction whole ++ cond (opened_records (part ∷ whole) == number) bytes []) (body_grown ahead direction r rest byte)
    ∙ split_by (opened_records (part ∷ whole) == number) (joined ahead number direction whole) before (body_byte ahead direction part byte)
    ∙ ap (λ m. (joined ahead number direction whole ++ cond (m == number) before []) ++ cond (opened_records (part ∷ whole) == number) (body_byte ahead direction part byte) []) n

joined_more : (number : ℕ) (direction : Direction) (log : List ℕ) (byte : ℕ) → 8 ≤ length log
    → joined (ahead_in (log ++ byte ∷ [])) number direction (begun_records (log ++ byte ∷ []))
    ≡ joined (ahead_in log) number direction (begun_records log) ++ cond (opened_records (begun_records (log ++ byte ∷ [])) == number) (body_byte (ahead_in log) direction ((records log).rest ++ byte ∷ []) byte) []
unfolding begun_records
joined_more number direction log byte h =
    ap (λ n. joined n number direction (begun_records (log ++ byte ∷ []))) (ahead-unchanged log byte h)
    ∙ ap (joined (ahead_in log) number direction) (begun-grow log byte h)
    ∙ joined_grown (ahead_in log) (head_least (header_by log).version) number direction (records log).rest byte (reverse (records log).whole)
    ∙ ap (λ parts. joined (ahead_in log) number direction (begun_with (records log).rest (reverse (records log).whole)) ++ cond (opened_records parts == number) (body_byte (ahead_in log) direction ((records log).rest ++ byte ∷ []) byte) [])
    (sym (begun-grow log byte h))

-- As many events as records begin a connection, but for an OPEN whose head isn't whole.
abbrev opening : ℕ → List (List ℕ) → ℕ
opening ahead [] = 0
opening ahead (part ∷ before) = cond (opens (kind_of part) && nat_lt (length part) ahead) 1 0

abbrev begins_some : Option Event → Bool
begins_some None = false
begins_some (Some event) = begins_connection event

begins_by : (unfinished : UnfinishedPackets) (ahead : ℕ) (kind : Option RecordKind) (part so_far : List ℕ) → begins_some (event_by unfinished ahead kind part so_far) ≡ (opens kind && (length part == ahead))
begins_by unfinished ahead None part so_far = refl
begins_by unfinished ahead (Some kinds.Open) part so_far = by (length part == ahead)
  where
    by : (t : Bool) → begins_some (if t then Some opened else None) ≡ t
    by true = refl
    by false = refl
begins_by unfinished ahead (Some kinds.Close) part so_far = by (length part == ahead)
  where
    by : (t : Bool) → begins_some (if t then Some (closed unfinished) else None) ≡ false
    by true = refl
    by false = refl
begins_by unfinished ahead (Some kinds.Rest) part so_far = by (length part == ahead)
  where
    by : (t : Bool) → begins_some (if t then Some rested else None) ≡ false
    by true = refl
    by false = refl
begins_by unfinished ahead (Some kinds.Release) part so_far = by (length part == ahead + 2) (from_be_bytes w16 (drop ahead part))
  where
    by : (t : Bool) (n : ℕ) → begins_some (if t then Some (released n) else None) ≡ false
    by true n = refl
    by false n = refl
begins_by unfinished ahead (Some kinds.Sent) part so_far = by (item_at so_far)
  where
    by : (item : Option Item) → begins_some (option_map sent item) ≡ false
    by None = refl
    by (Some item) = refl
begins_by unfinished ahead (Some kinds.Recv) part so_far = by (item_at so_far)
  where
    by : (item : Option Item) → begins_some (option_map received item) ≡ false
    by None = refl
    by (Some item) = refl

-- the event of a byte after the header
event_is : (log : List ℕ) (byte : ℕ) → 8 ≤ length log
    → event_for (context log) byte ≡ event_by (unfinished_of (context log)) (ahead_in log) (kind_of ((records log).rest ++ byte ∷ [])) ((records log).rest ++ byte ∷ []) (so_far_for (context log) byte)
unfolding event_for event_in context
event_is log byte h =
    let so_far : List ℕ = so_far_for (context log) byte in
    ap (λ n. if nat_lt n 8 then None else event_in (unfinished_of (context log)) (ahead_in log) ((context log).part ++ byte ∷ []) so_far) (at_context log)
    ∙ ap (λ t. if t then None else event_in (unfinished_of (context log)) (ahead_in log) ((context log).part ++ byte ∷ []) so_far) (le-ltb (length log) 8 h)
    ∙ ap (λ p. event_by (unfinished_of (context log)) (ahead_in log) (kind_of (p ++ byte ∷ [])) (p ++ byte ∷ []) so_far) (part_context log)

opened_put : (c : Context) (moment : ℕ) (o : Option Event) (past : List Placed) → opened_events (put (placed_with c moment o) past) ≡ cond (begins_some o) (opened_events past + 1) (opened_events past)
opened_put c moment None past = refl
opened_put c moment (Some event) past = refl

-- the moment of that byte's record
abbrev moment_so : List ℕ → ℕ → ℕ
moment_so log byte = moment_in (ahead_of (context log)) ((context log).part ++ byte ∷ [])

events_more : (log : List ℕ) (byte : ℕ) → events (log ++ byte ∷ []) ≡ put (placed_with (context log) (moment_so log byte) (event_for (context log) byte)) (events log)
unfolding placed_for
events_more log byte = events-kept log byte

opened_more_events : (log : List ℕ) (byte : ℕ) → 8 ≤ length log
    → opened_events (events (log ++ byte ∷ []))
    ≡ cond (opens (kind_of ((records log).rest ++ byte ∷ [])) && (length ((records log).rest ++ byte ∷ []) == ahead_in log)) (opened_events (events log) + 1) (opened_events (events log))
opened_more_events log byte h =
    let part : List ℕ = (records log).rest ++ byte ∷ [] in
    let m : ℕ = opened_events (events log) in
    ap opened_events (events_more log byte)
    ∙ opened_put (context log) (moment_so log byte) (event_for (context log) byte) (events log)
    ∙ ap (λ o. cond (begins_some o) (m + 1) m) (event_is log byte h)
    ∙ ap (λ t. cond t (m + 1) m) (begins_by (unfinished_of (context log)) (ahead_in log) (kind_of part) part (so_far_for (context log) byte))

opened_step : (ahead : ℕ) (o : Bool) (n m w : ℕ) → m + cond (o && nat_lt n ahead) 1 0 ≡ cond o (w + 1) w → cond (o && (n + 1 == ahead)) (m + 1) m + cond (o && nat_lt (n + 1) ahead) 1 0 ≡ cond o (w + 1) w
opened_step ahead false n m w e = e
opened_step ahead true n m w e = by (n + 1 == ahead) refl
  where
    later : (t : Bool) → nat_lt n ahead ≡ t → (n + 1 ≡ ahead → ⊥) → nat_lt (n + 1) ahead ≡ t
    later true is other = let less : n < ahead = ltb-true n ahead is in lt-ltb (n + 1) ahead (omega (arith, other))
    later false is other = let more : ahead ≤ n = ltb-false n ahead is in le-ltb (n + 1) ahead (omega arith)

    by : (t : Bool) → (n + 1 == ahead) ≡ t → cond t (m + 1) m + cond (nat_lt (n + 1) ahead) 1 0 ≡ w + 1
    by true is =
        let five : n + 1 ≡ ahead = eqb-true (n + 1) ahead is in
        let early : nat_lt n ahead ≡ true = lt-ltb n ahead (omega arith) in
        let was : m + 1 ≡ w + 1 = ap (λ t. m + cond t 1 0) (sym early) ∙ e in
        ap (λ t. (m + 1) + cond t 1 0) (le-ltb (n + 1) ahead (omega arith)) ∙ (let last : (m + 1) + 0 ≡ w + 1 = omega (arith, was) in last)
    by false is = ap (λ t. m + cond t 1 0) (later (nat_lt n ahead) refl (eqb-false (n + 1) ahead is)) ∙ e

first_opened : (o : Bool) (m w : ℕ) → m ≡ w → cond (o && false) (m + 1) m + cond (o && true) 1 0 ≡ cond o (w + 1) w
first_opened true m w e = ap (λ n. n + 1) e
first_opened false m w e = let same : m + 0 ≡ w = omega (arith, e) in same

opened_grown : (ahead : ℕ) → length_end ≤ ahead → (rest : List ℕ) (byte m : ℕ) (whole : List (List ℕ)) → m + opening ahead (begun_with rest whole) ≡ opened_records (begun_with rest whole)
    → (rest ≡ [] → opening ahead (begun_with rest whole) ≡ 0)
    → cond (opens (kind_of (rest ++ byte ∷ [])) && (length (rest ++ byte ∷ []) == ahead)) (m + 1) m + opening ahead ((rest ++ byte ∷ []) ∷ whole) ≡ opened_records ((rest ++ byte ∷ []) ∷ whole)
opened_grown ahead least [] byte m whole e settled =
    let none : opening ahead whole ≡ 0 = settled refl in
    let was : m ≡ opened_records whole = omega (arith, e, none) in
    let o = opens (kind_of (byte ∷ [])) in
    ap (λ t. cond (o && t) (m + 1) m + cond (o && nat_lt 1 ahead) 1 0) (ne_eqb 1 ahead (λ same. (omega arith)))
    ∙ ap (λ t. cond (o && false) (m + 1) m + cond (o && t) 1 0) (lt-ltb 1 ahead (omega arith))
    ∙ first_opened o m (opened_records whole) was
opened_grown ahead least (r ∷ rest) byte m whole e settled =
    let old : List ℕ = r ∷ rest in
    let part : List ℕ = (r ∷ rest) ++ byte ∷ [] in
    let w : ℕ = opened_records whole in
    let kind : kind_of part ≡ kind_of old = kind_of-append (r ∷ rest) (byte ∷ []) (omega arith) in
    let long : length part ≡ length old + 1 = length-append (r ∷ rest) (byte ∷ []) in
    subst (λ n. cond (opens (kind_of part) && (n == ahead)) (m + 1) m + cond (opens (kind_of part) && nat_lt n ahead) 1 0 ≡ cond (opens (kind_of part)) (w + 1) w) (sym long)
    (subst (λ k. cond (opens k && (length old + 1 == ahead)) (m + 1) m + cond (opens k && nat_lt (length old + 1) ahead) 1 0 ≡ cond (opens k) (w + 1) w) (sym kind)
    (opened_step ahead (opens (kind_of old)) (length old) m w e))

settled_by : (ahead : ℕ) → length_end ≤ ahead → (part : List ℕ) (whole : List (List ℕ)) (o : Option ℕ) → record_size ahead part ≡ o → 0 < length part → cond (is_some o) [] part ≡ [] → opening ahead (part ∷ whole) ≡ 0
settled_by ahead least part whole None e some none = let l : length part ≡ 0 = ap length none in absurd (omega arith)
settled_by ahead least part whole (Some n) e some none =
    let within = (record_size-is ahead least part n e).within in
    let long : nat_lt (length part) ahead ≡ false = le-ltb (length part) ahead (omega (arith, within)) in
    ap (λ t. cond (opens (kind_of part) && t) 1 0) long ∙ nothing (opens (kind_of part))
  where
    nothing : (o : Bool) → cond {A = ℕ} (o && false) 1 0 ≡ 0
    nothing true = refl
    nothing false = refl

record Opened (log : List ℕ) : Type 0 where
  same : opened_events (events log) + opening (ahead_in log) (begun_records log) ≡ opened_records (begun_records log)
  settled : (records log).rest ≡ [] → opening (ahead_in log) (begun_records log) ≡ 0

opened_header : (log : List ℕ) → length log ≤ 8 → Opened log
opened_header log h = record {
  same = subst (λ (l : List Placed). opened_events l + opening (ahead_in log) (begun_records log) ≡ opened_records (begun_records log)) (sym (events-header log h))
      (subst (λ (b : List (List ℕ)). 0 + opening (ahead_in log) b ≡ opened_records b) (sym (begun-header log h)) refl);
  settled = λ none. ap (opening (ahead_in log)) (begun-header log h);
}

opened_on : (log : List ℕ) (byte : ℕ) → Opened log → 8 ≤ length log → Opened (log ++ byte ∷ [])
unfolding begun_records
opened_on log byte before h =
    let rest : List ℕ = (records log).rest in
    let part : List ℕ = (records log).rest ++ byte ∷ [] in
    let whole : List (List ℕ) = reverse (records log).whole in
    let l = length-append (records log).rest (byte ∷ []) in
    record {
      same = ap (λ n. opened_events (events (log ++ byte ∷ [])) + opening n (begun_records (log ++ byte ∷ []))) (ahead-unchanged log byte h)
          ∙ ap (λ (b : List (List ℕ)). opened_events (events (log ++ byte ∷ [])) + opening (ahead_in log) b) (begun-grow log byte h)
          ∙ ap (λ m. m + opening (ahead_in log) (part ∷ whole)) (opened_more_events log byte h)
          ∙ opened_grown (ahead_in log) (head_least (header_by log).version) rest byte (opened_events (events log)) whole before.same before.settled
          ∙ ap opened_records (sym (begun-grow log byte h));
      settled = λ none. ap (λ n. opening n (begun_records (log ++ byte ∷ []))) (ahead-unchanged log byte h)
          ∙ ap (opening (ahead_in log)) (begun-grow log byte h)
          ∙ settled_by (ahead_in log) (head_least (header_by log).version) part whole (record_size (ahead_in log) part) refl (omega arith) (sym (rest-grow log byte h) ∙ none);
    }

opened_always : (log : List ℕ) → Opened log
opened_always = along Opened (opened_header [] (omega arith)) (λ log byte before. by_length log byte before (nat_lt (length log) 8) refl)
  where
    by_length : (log : List ℕ) (byte : ℕ) → Opened log → (b : Bool) → nat_lt (length log) 8 ≡ b → Opened (log ++ byte ∷ [])
    by_length log byte before true is =
        let l = length-append log (byte ∷ []) in
        let short = ltb-true (length log) 8 is in
        opened_header (log ++ byte ∷ []) (omega arith)
    by_length log byte before false is = opened_on log byte before (ltb-false (length log) 8 is)

-- the same number of both where the newest record opens nothing
opened_kept : (rest : List ℕ) (byte : ℕ) (whole : List (List ℕ)) → opens (kind_of (rest ++ byte ∷ [])) ≡ false → opened_records ((rest ++ byte ∷ []) ∷ whole) ≡ opened_records (begun_with rest whole)
opened_kept [] byte whole is = ap (λ t. cond t (opened_records whole + 1) (opened_records whole)) is
opened_kept (r ∷ rest) byte whole is = ap (λ k. cond (opens k) (opened_records whole + 1) (opened_records whole)) (kind_of-append (r ∷ rest) (byte ∷ []) (omega arith))

-- the items of an event that go this way
abbrev event_items : Direction → Option Event → List Item
event_items direction None = []
event_items direction (Some event) = if_some (directed_item direction event)

abbrev items_if : Direction → Option Direction → List Item → List Item
items_if directions.Sent (Some directions.Sent) items = items
items_if directions.Recv (Some directions.Recv) items = items
items_if _ _ items = []

marks_nothing : (direction : Direction) (event : Event) (items : List Item) (t : Bool) → directed_item direction event ≡ None → event_items direction (if t then Some event else None) ≡ items_if direction None items
marks_nothing directions.Sent event items true none = ap if_some none
marks_nothing directions.Recv event items true none = ap if_some none
marks_nothing directions.Sent event items false none = refl
marks_nothing directions.Recv event items false none = refl

event_items_by : (unfinished : UnfinishedPackets) (ahead : ℕ) (kind : Option RecordKind) (direction : Direction) (part so_far : List ℕ) → event_items direction (event_by unfinished ahead kind part so_far) ≡ items_if direction (direction_of kind) (if_some (item_at so_far))
event_items_by unfinished ahead None directions.Sent part so_far = refl
event_items_by unfinished ahead None directions.Recv part so_far = refl
event_items_by unfinished ahead (Some kinds.Open) directions.Sent part so_far = marks_nothing directions.Sent opened (if_some (item_at so_far)) (length part == ahead) refl
event_items_by unfinished ahead (Some kinds.Open) directions.Recv part so_far = marks_nothing directions.Recv opened (if_some (item_at so_far)) (length part == ahead) refl
event_items_by unfinished ahead (Some kinds.Close) directions.Sent part so_far = marks_nothing directions.Sent (closed unfinished) (if_some (item_at so_far)) (length part == ahead) refl
event_items_by unfinished ahead (Some kinds.Close) directions.Recv part so_far = marks_nothing directions.Recv (closed unfinished) (if_some (item_at so_far)) (length part == ahead) refl
event_items_by unfinished ahead (Some kinds.Rest) directions.Sent part so_far = marks_nothing directions.Sent rested (if_some (item_at so_far)) (length part == ahead) refl
event_items_by unfinished ahead (Some kinds.Rest) directions.Recv part so_far = marks_nothing directions.Recv rested (if_some (item_at so_far)) (length part == ahead) refl
event_items_by unfinished ahead (Some kinds.Release) directions.Sent part so_far = marks_nothing directions.Sent (released (from_be_bytes w16 (drop ahead part))) (if_some (item_at so_far)) (length part == ahead + 2) refl
event_items_by unfinished ahead (Some kinds.Release) directions.Recv part so_far = marks_nothing directions.Recv (released (from_be_bytes w16 (drop ahead part))) (if_some (item_at so_far)) (length part == ahead + 2) refl
event_items_by unfinished ahead (Some kinds.Sent) direction part so_far = by direction (item_at so_far)
  where
    by : (direction : Direction) (item : Option Item) → event_items direction (option_map sent item) ≡ items_if direction (Some directions.Sent) (if_some item)
    by directions.Sent None = refl
    by directions.Sent (Some item) = refl
    by directions.Recv None = refl
    by directions.Recv (Some item) = refl
event_items_by unfinished ahead (Some kinds.Recv) direction part so_far = by direction (item_at so_far)
  where
    by : (direction : Direction) (item : Option Item) → event_items direction (option_map received item) ≡ items_if direction (Some directions.Recv) (if_some item)
    by directions.Sent None = refl
    by directions.Sent (Some item) = refl
    by directions.Recv None = refl
    by directions.Recv (Some item) = refl

nothing_put : {A : Type 0} (items : List A) (t : Bool) → items ++ cond t [] [] ≡ items
nothing_put items true = append-nil items
nothing_put items false = append-nil items

items_put : (number : ℕ) (direction : Direction) (c : Context) (moment : ℕ) (o : Option Event) (past : List Placed)
    → connection_items number direction (put (placed_with c moment o) past) ≡ connection_items number direction past ++ cond (opened_events (put (placed_with c moment o) past) == number) (event_items direction o) []
items_put number direction c moment None past = sym (nothing_put (connection_items number direction past) (opened_events past == number))
items_put number direction c moment (Some event) past = refl

items_more : (number : ℕ) (direction : Direction) (log : List ℕ) (byte : ℕ) → 8 ≤ length log
    → connection_items number direction (events (log ++ byte ∷ []))
    ≡ connection_items number direction (events log) ++ cond (opened_events (events (log ++ byte ∷ [])) == number)
    (items_if direction (direction_of (kind_of ((records log).rest ++ byte ∷ []))) (if_some (item_at (so_far_for (context log) byte)))) []
items_more number direction log byte h =
    let part : List ℕ = (records log).rest ++ byte ∷ [] in
    let before : List Item = connection_items number direction (events log) in
    let o : Option Event = event_for (context log) byte in
    ap (connection_items number direction) (events_more log byte)
    ∙ items_put number direction (context log) (moment_so log byte) o (events log)
    ∙ ap (λ (l : List Placed). before ++ cond (opened_events l == number) (event_items direction o) []) (sym (events_more log byte))
    ∙ ap (λ e. before ++ cond (opened_events (events (log ++ byte ∷ [])) == number) (event_items direction e) []) (event_is log byte h)
    ∙ ap (λ items. before ++ cond (opened_events (events (log ++ byte ∷ [])) == number) items []) (event_items_by (unfinished_of (context log)) (ahead_in log) (kind_of part) direction part (so_far_for (context log) byte))

-- a byte of a record, by whether it is one of its body, and which way that goes
module _ (number : ℕ) (direction : Direction) (log : List ℕ) (byte : ℕ) (past_header : 8 ≤ length log) where
  abbrev part : List ℕ
  part = (records log).rest ++ byte ∷ []

  abbrev carried_so : List ℕ
  carried_so = joined (ahead_in log) number direction (begun_records log)

  abbrev m : ℕ
  m = opened_events (events (log ++ byte ∷ []))

  abbrev n : ℕ
  n = opened_records (begun_records (log ++ byte ∷ []))

  abbrev item_so : Option Item
  item_so = item_at (so_far_for (context log) byte)

  so_far_is : so_far_for (context log) byte ≡ cond (nat_lt (ahead_in log) (length part)) (so_far_by (direction_of (kind_of part)) (context log) byte) []
  unfolding so_far_for context
  so_far_is = ap (λ p. cond (nat_lt (ahead_in log) (length (p ++ byte ∷ []))) (so_far_by (direction_of (kind_of (p ++ byte ∷ []))) (context log) byte) []) (part_context log)

  same_number : opens (kind_of part) ≡ false → m ≡ n
  same_number is =
      let both : m + opening (ahead_in (log ++ byte ∷ [])) (begun_records (log ++ byte ∷ [])) ≡ n = (opened_always (log ++ byte ∷ [])).same in
      let none : opening (ahead_in (log ++ byte ∷ [])) (begun_records (log ++ byte ∷ [])) ≡ 0
      = ap (opening (ahead_in (log ++ byte ∷ []))) (begun-grow log byte past_header) ∙ ap (λ t. cond (t && nat_lt (length part) (ahead_in (log ++ byte ∷ []))) 1 0) is in
      omega (arith, both, none)

  newest_carried : opens (kind_of part) ≡ false → n ≡ number → carried_so ≡ carried (ahead_in log) direction (begun_records log)
  unfolding begun_records
  newest_carried is same =
      let kept : n ≡ opened_records (begun_records log) = ap opened_records (begun-grow log byte past_header) ∙ opened_kept (records log).rest byte (reverse (records log).whole) is in
      ap (λ k. joined (ahead_in log) k direction (begun_records log)) (sym same ∙ kept) ∙ newest (ahead_in log) direction (begun_records log)

  item_goes : nat_lt (ahead_in log) (length part) ≡ true → direction_of (kind_of part) ≡ Some direction → carried_so ≡ carried (ahead_in log) direction (begun_records log) → item_so ≡ item_at (packet_with carried_so byte)
  item_goes g w is =
      ap item_at (so_far_is
      ∙ ap (λ t. cond t (so_far_by (direction_of (kind_of part)) (context log) byte) []) g
      ∙ ap (λ o. so_far_by o (context log) byte) w
      ∙ sym (so_far_kept_by (Some direction) log byte)
      ∙ ap (λ bytes. packet_with bytes byte) (sym is))

  -- a byte of this direction, on some connection
  own_byte : (t : Bool) → (n == number) ≡ t → nat_lt (ahead_in log) (length part) ≡ true → direction_of (kind_of part) ≡ Some direction
      → stream_items (stream carried_so) ++ cond (m == number) (if_some item_so) [] ≡ stream_items (stream (carried_so ++ cond (n == number) (byte ∷ []) []))
  own_byte true is g w =
      let opens_nothing = opens_none (kind_of part) direction w in
      let carried_is = newest_carried opens_nothing (eqb-true n number is) in
      ap (λ k. stream_items (stream carried_so) ++ cond (k == number) (if_some item_so) []) (same_number opens_nothing)
      ∙ ap (λ t. stream_items (stream carried_so) ++ cond t (if_some item_so) []) is
      ∙ ap (λ o. stream_items (stream carried_so) ++ if_some o) (item_goes g w carried_is)
      ∙ sym (stream_more carried_so byte)
      ∙ ap (λ t. stream_items (stream (carried_so ++ cond t (byte ∷ []) []))) (sym is)
  own_byte false is g w =
      let opens_nothing = opens_none (kind_of part) direction w in
      ap (λ k. stream_items (stream carried_so) ++ cond (k == number) (if_some item_so) []) (same_number opens_nothing)
      ∙ ap (λ t. stream_items (stream carried_so) ++ cond t (if_some item_so) []) is
      ∙ append-nil (stream_items (stream carried_so))
      ∙ ap (λ bytes. stream_items (stream bytes)) (sym (append-nil carried_so))
      ∙ ap (λ t. stream_items (stream (carried_so ++ cond t (byte ∷ []) []))) (sym is)

  -- a byte that this direction doesn't carry
  other_byte : stream_items (stream carried_so) ++ cond (m == number) [] [] ≡ stream_items (stream (carried_so ++ cond (n == number) [] []))
  other_byte = nothing_put (stream_items (stream carried_so)) (m == number) ∙ ap (λ bytes. stream_items (stream bytes)) (sym (nothing_put carried_so (n == number)))

  byte_goes : (g : Bool) → nat_lt (ahead_in log) (length part) ≡ g → (each : Direction) → each ≡ direction → (w : Option Direction) → direction_of (kind_of part) ≡ w
      → stream_items (stream carried_so) ++ cond (m == number) (items_if each w (if_some item_so)) [] ≡ stream_items (stream (carried_so ++ cond (n == number) (cond g (if_direction each w (byte ∷ [])) []) []))
  byte_goes false g each same w is =
      let none : item_so ≡ None = ap item_at (so_far_is ∙ ap (λ t. cond t (so_far_by (direction_of (kind_of part)) (context log) byte) []) g) ∙ nothing_item in
      ap (λ o. stream_items (stream carried_so) ++ cond (m == number) (items_if each w (if_some o)) []) none
      ∙ ap (λ items. stream_items (stream carried_so) ++ cond (m == number) items []) (items_if_nothing each w)
      ∙ other_byte
    where
      items_if_nothing : (each : Direction) (w : Option Direction) → items_if each w [] ≡ []
      items_if_nothing directions.Sent None = refl
      items_if_nothing directions.Sent (Some directions.Sent) = refl
      items_if_nothing directions.Sent (Some directions.Recv) = refl
      items_if_nothing directions.Recv None = refl
      items_if_nothing directions.Recv (Some directions.Sent) = refl
      items_if_nothing directions.Recv (Some directions.Recv) = refl
  byte_goes true g directions.Sent same None is = other_byte
  byte_goes true g directions.Sent same (Some directions.Recv) is = other_byte
  byte_goes true g directions.Recv same None is = other_byte
  byte_goes true g directions.Recv same (Some directions.Sent) is = other_byte
  byte_goes true g directions.Sent same (Some directions.Sent) is = own_byte (n == number) refl g (is ∙ ap Some same)
  byte_goes true g directions.Recv same (Some directions.Recv) is = own_byte (n == number) refl g (is ∙ ap Some same)

  byte_more : connection_items number direction (events log) ≡ stream_items (stream carried_so) → connection_items number direction (events (log ++ byte ∷ [])) ≡ stream_items (stream (joined (ahead_in (log ++ byte ∷ [])) number direction (begun_records (log ++ byte ∷ []))))
  byte_more before =
      items_more number direction log byte past_header
      ∙ ap (λ items. items ++ cond (m == number) (items_if direction (direction_of (kind_of part)) (if_some item_so)) []) before
      ∙ byte_goes (nat_lt (ahead_in log) (length part)) refl direction refl (direction_of (kind_of part)) refl
      ∙ ap (λ bytes. stream_items (stream bytes)) (sym (joined_more number direction log byte past_header))

-- Nothing is on a connection in a header.
header_items : (number : ℕ) (direction : Direction) (log : List ℕ) → length log ≤ 8 → connection_items number direction (events log) ≡ stream_items (stream (joined (ahead_in log) number direction (begun_records log)))
header_items number direction log h =
    ap (connection_items number direction) (events-header log h) ∙ sym (ap (λ parts. stream_items (stream (joined (ahead_in log) number direction parts))) (begun-header log h) ∙ stream_nothing)

pub items-are : (number : ℕ) (direction : Direction) (log : List ℕ) → connection_items number direction (events log) ≡ stream_items (stream (joined (ahead_in log) number direction (begun_records log)))
items-are number direction log =
    along (λ l. connection_items number direction (events l) ≡ stream_items (stream (joined (ahead_in l) number direction (begun_records l)))) (header_items number direction [] (omega arith))
    (λ l byte before. by_length l byte before (nat_lt (length l) 8) refl) log
  where
    by_length : (l : List ℕ) (byte : ℕ) → connection_items number direction (events l) ≡ stream_items (stream (joined (ahead_in l) number direction (begun_records l))) → (b : Bool) → nat_lt (length l) 8 ≡ b
        → connection_items number direction (events (l ++ byte ∷ [])) ≡ stream_items (stream (joined (ahead_in (l ++ byte ∷ [])) number direction (begun_records (l ++ byte ∷ []))))
    by_length l byte before true is =
        let more = length-append l (byte ∷ []) in
        let short = ltb-true (length l) 8 is in
        header_items number direction (l ++ byte ∷ []) (omega arith)
    by_length l byte before false is = byte_more number direction l byte (ltb-false (length l) 8 is) before
