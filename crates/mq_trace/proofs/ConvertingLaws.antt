-- A log of version 1 that isn't refused keeps its events in version 2, and isn't refused there.
use Rattle.std.proofs.Common.{◌≡◌, ℕ, ◌+◌, ◌<◌, ◌≤◌, Bool, true, false, cond, ◌&&◌, nat_lt, List, [], ◌∷◌, ◌++◌, length, take, drop, reverse, Option, Some, None, is_some, refl, sym, ◌∙◌, ap, subst, arith, length-append, append_assoc, append-nil}
use Rattle.std.specs.Prelude.{◌==◌, ◌||◌, ◌-◌, nat_le, not, if◌then◌else◌, slice_index, is_none}
use Rattle.std.specs.Int.{w16, from_be_bytes}
use Rattle.std.specs.List.{flat_map}
use Rattle.std.specs.Option.{option_or}
use Rattle.std.proofs.lemmas.Bool.{ltb-true, ltb-false, le-ltb, lt-ltb, le-leb, lt-leb, leb-true, leb-false, eqb-true, eqb-false, eq-eqb, ne_eqb}
use Rattle.std.proofs.lemmas.List.Concat.{flat_map-append}
use Rattle.std.proofs.lemmas.List.{take-append-drop, take-append-le, drop-append-le, length-take-le, length-drop, reverse-append, reverse-reverse, get_or_append_left, get_or-append_right}
use Rattle.mq_packet.specs.Stream.{fixed_header_of, frame_size}
use Rattle.mq_log.specs.declared.kind.RecordKind.{RecordKind}
use Rattle.mq_log.specs.declared.kind.RecordKind.TheVariants as kinds
use Rattle.mq_log.specs.declared.kind.Direction.{Direction}
use Rattle.mq_log.specs.declared.kind.Direction.TheVariants as directions
use Rattle.mq_log.specs.declared.header.Header.{Header}
use Rattle.mq_log.specs.declared.refusal.Refusal.{Refusal}
use Rattle.mq_log.specs.declared.refusal.Refusal.TheVariants as refusals
use Rattle.mq_log.specs.Pieces.{Pieces}
use Rattle.mq_log.specs.Framing.{header_by, kind_named, kind_of, body_length, head_length, longest_body, length_end, moment_in, record_size, records, ahead_in, opens, direction_of, begun_with, begun_records, if_direction, carried}
use Rattle.mq_log.specs.Events.{UnfinishedPackets, Event, opened, closed, rested, released, event_by, event_in, events, read_frame}
use Rattle.mq_log.specs.Refusals.{situation, header_refusal, record_refusal, refusal_at, refused, first_that_applies, conditions, allows_length, is_open_kind, needs_connection, is_release_kind, is_too_large, is_other_version, is_cut_short}
use Rattle.mq_log.specs.Connections.{is_too_early}
use Rattle.mq_log.specs.Context.{StreamState, Context, state_of, fresh, ahead_of, unfinished_of, emptied, context, so_far_by, so_far_for, situated, refusal_for, event_for, placed_with, placed_for, put, state_by, state_then, with_completed, after_header, after_part, after}
use Rattle.mq_trace.specs.Runs.{after_bytes, refused_in, events_by}
use Rattle.mq_trace.specs.Converting.{first_version_refusal, record_conditions, unconverted_at, unconverted_back, unconverted, copied_back, copied, no_moment, with_moment, second_header, timed, converted}
use Rattle.mq_log.proofs.Exports.{grown}
use Rattle.mq_log.proofs.Exports.{header-unchanged, records-grow, records-header}
use Rattle.mq_log.proofs.Exports.{refused-grow, context-grow, refusal-kept, events-kept, events-header, context-header, header_context, part_context, at_context}
use Rattle.mq_trace.proofs.RunLaws.{context_run, refused_run, events_run, after_bytes_append, refused_append, events_append, put_front}
use Rattle.mq_trace.proofs.MomentLaws.{head_with, head_without, moment_none}
use Rattle.mq_trace.proofs.StepLaws.{first_refusal, first_event, first_after, middle_refusal, middle_event, middle_after, middles_after, middles_events, middles_refused, longer_by, both_none, placed_none, AllowedAmong, head_packet, headed_record}
use Rattle.mq_trace.proofs.WithMomentLaws.{added, with_body, with_drop, with_few, with_grown, with_kind, with_long, with_time}
use Rattle.mq_log.proofs.Exports.{state-nothing}
use Rattle.mq_trace.proofs.JoinedLaws.{along}

-- ---- lists of conditions

-- no condition of these lines applies
NoneApplies : List (Bool × Refusal) → Type 0
NoneApplies [] = Unit {0}
NoneApplies (line ∷ lines) = (line.0 ≡ false) × NoneApplies lines

none_applies : (lines : List (Bool × Refusal)) → first_that_applies lines ≡ None → NoneApplies lines
unfolding NoneApplies
none_applies [] h = tt
none_applies (line ∷ lines) h = go (none_applies lines) line.0 line.1 refl h
  where
    go : (first_that_applies lines ≡ None → NoneApplies lines) → (b : Bool) (r : Refusal) → line.0 ≡ b → cond b (Some r) (first_that_applies lines) ≡ None → (line.0 ≡ false) × NoneApplies lines
    go others true r is e = absurd (cc)
    go others false r is e = (is, others e)

all_false : (lines : List (Bool × Refusal)) → NoneApplies lines → first_that_applies lines ≡ None
unfolding NoneApplies
all_false [] h = refl
all_false (line ∷ lines) h = ap (λ b. cond b (Some line.1) (first_that_applies lines)) h.0 ∙ all_false lines h.1

first_of_two : (a b : Bool) → (a || b) ≡ false → a ≡ false
first_of_two true b e = e
first_of_two false b e = refl

pub option_parts : {A : Type 0} (a b : Option A) → option_or a b ≡ None → (a ≡ None) × (b ≡ None)
option_parts None b e = (refl, e)
option_parts (Some x) b e = absurd (cc)

-- A length that version 1 allows is allowed in version 2.
allows_more : (kind : Option RecordKind) (n : ℕ) → allows_length 1 kind n ≡ true → allows_length 2 kind n ≡ true
unfolding longest_body
allows_more None n e = refl
allows_more (Some kinds.Sent) n e = let fits = leb-true n 1048576 e in le-leb n 16777216 (omega arith)
allows_more (Some kinds.Recv) n e = let fits = leb-true n 1048576 e in le-leb n 16777216 (omega arith)
allows_more (Some kinds.Release) n e = e
allows_more (Some kinds.Open) n e = e
allows_more (Some kinds.Close) n e = e
allows_more (Some kinds.Rest) n e = e

-- by the newest byte of a log, from one that is there on
along_from : (P : List ℕ → Type 0) → ((log : List ℕ) (byte : ℕ) → 8 ≤ length log → P log → P (log ++ byte ∷ [])) → (log rest : List ℕ) → 8 ≤ length log → P log → P (log ++ rest)
along_from P step log [] h start = subst P (sym (append-nil log)) start
along_from P step log (byte ∷ rest) h start =
    let l = length-append log (byte ∷ []) in
    subst P (append_assoc log (byte ∷ []) rest) (along_from P step (log ++ byte ∷ []) rest (omega arith) (step log byte h start))

-- ---- a record in both versions does the same

same_eight : (n m : ℕ) → (n + 8 == m + 8) ≡ (n == m)
same_eight n m = by (n == m) refl
  where
    by : (t : Bool) → (n == m) ≡ t → (n + 8 == m + 8) ≡ t
    by true is = let same = eqb-true n m is in eq-eqb (n + 8) (m + 8) (omega arith)
    by false is = let other = eqb-false n m is in ne_eqb (n + 8) (m + 8) (λ e. other (omega arith))

below_eight : (n m : ℕ) → nat_le (n + 8) (m + 8) ≡ nat_le n m
below_eight n m = by (nat_le n m) refl
  where
    by : (t : Bool) → nat_le n m ≡ t → nat_le (n + 8) (m + 8) ≡ t
    by true is = let fits = leb-true n m is in le-leb (n + 8) (m + 8) (omega arith)
    by false is = let over = leb-false n m is in lt-leb (n + 8) (m + 8) (omega arith)

with_event : (unfinished : UnfinishedPackets) (q so_far : List ℕ) → length_end ≤ length q → event_in unfinished 13 (with_moment q) so_far ≡ event_in unfinished 5 q so_far
unfolding event_in
with_event unfinished q so_far h = ap (λ k. event_by unfinished 13 k (with_moment q) so_far) (with_kind q h) ∙ by (kind_of q)
  where
    ends : (length (with_moment q) == 13) ≡ (length q == 5)
    ends = ap (λ n. n == 13) (with_long q h) ∙ same_eight (length q) 5

    ends_two : (length (with_moment q) == 15) ≡ (length q == 7)
    ends_two = ap (λ n. n == 15) (with_long q h) ∙ same_eight (length q) 7

    by : (kind : Option RecordKind) → event_by unfinished 13 kind (with_moment q) so_far ≡ event_by unfinished 5 kind q so_far
    by None = refl
    by (Some kinds.Open) = ap (λ b. if b then Some opened else None) ends
    by (Some kinds.Close) = ap (λ b. if b then Some (closed unfinished) else None) ends
    by (Some kinds.Rest) = ap (λ b. if b then Some rested else None) ends
    by (Some kinds.Release) =
        ap (λ b. if b then Some (released (from_be_bytes w16 (drop 13 (with_moment q)))) else None) ends_two
        ∙ ap (λ (l : List ℕ). if length q == 7 then Some (released (from_be_bytes w16 l)) else None) (with_drop q h)
    by (Some kinds.Sent) = refl
    by (Some kinds.Recv) = refl

with_record : (q : List ℕ) → length_end ≤ length q → is_some (record_size 13 (with_moment q)) ≡ is_some (record_size 5 q)
with_record q h =
    let l = with_long q h in
    let more : 13 + body_length q ≡ (5 + body_length q) + 8 = omega arith in
    headed_record 13 (with_moment q) (omega arith)
    ∙ ap (λ n. nat_le (13 + n) (length (with_moment q))) (with_body q h)
    ∙ ap (λ n. nat_le n (length (with_moment q))) more
    ∙ ap (nat_le ((5 + body_length q) + 8)) l
    ∙ below_eight (5 + body_length q) (length q)
    ∙ sym (headed_record 5 q h)

-- a direction after a byte of it
with_state : (direction : Direction) (state : StreamState) (q : List ℕ) (b : ℕ) → length_end < length q → state_then 13 direction state (with_moment q) b ≡ state_then 5 direction state q b
unfolding state_then
with_state direction state q b h =
    let l = with_long q (omega arith) in
    ap (λ k. cond (opens k) emptied (cond (nat_lt 13 (length (with_moment q))) (state_by direction (direction_of k) state b) state)) (with_kind q (omega arith))
    ∙ ap (λ t. cond (opens (kind_of q)) emptied (cond t (state_by direction (direction_of (kind_of q)) state b) state)) (lt-ltb 13 (length (with_moment q)) (omega arith) ∙ sym (lt-ltb 5 (length q) h))

-- and after the last byte of a head
head_state : (ahead : ℕ) (direction : Direction) (state : StreamState) (q : List ℕ) (b : ℕ) → length q ≡ ahead → state_then ahead direction state q b ≡ cond (opens (kind_of q)) emptied state
unfolding state_then
head_state ahead direction state q b h = ap (λ t. cond (opens (kind_of q)) emptied (cond t (state_by direction (direction_of (kind_of q)) state b) state)) (le-ltb ahead (length q) (omega arith))

-- ---- what is kept of a log, and of the same log in version 2

-- what is kept of it in version 2, where so many bytes of that came
abbrev lifted : Context → ℕ → Context
lifted c n = record c { at = n; header = record { version = 2; server = c.header.server; releases = c.header.releases }; part = with_moment c.part }

-- the same but for the moment
abbrev plain : Context → ℕ → Context
plain c n = record c { at = n; header = record { version = 2; server = c.header.server; releases = c.header.releases } }

lifted_few : (c : Context) (n : ℕ) → length c.part < length_end → lifted c n ≡ plain c n
lifted_few c n h = ap (λ (l : List ℕ). record (plain c n) { part = l }) (with_few c.part h)

two_ahead : head_length 2 ≡ 13
two_ahead = head_with 2 refl

-- the tests of a byte of a record
tests : ℕ → Context → List ℕ → List ℕ → Bool → Bool → Option Event → List (Bool × Refusal)
tests limit c part so_far first whole event =
    (first && is_none (kind_of part), refusals.Kind c.at)
    ∷ (whole && not (allows_length c.header.version (kind_of part) (body_length part)), refusals.Length c.at)
    ∷ (first && (is_open_kind (kind_of part) && c.connected), refusals.Nested c.at)
    ∷ (first && (needs_connection (kind_of part) && not c.connected), refusals.NotOpen c.at)
    ∷ (first && (is_release_kind (kind_of part) && not c.header.releases), refusals.ReleaseUnrecorded c.at)
    ∷ (is_too_large limit so_far (fixed_header_of so_far), refusals.TooLarge c.at)
    ∷ (is_some (frame_size so_far) && is_other_version (read_frame so_far), refusals.OtherVersion c.at)
    ∷ (is_too_early c.header.server c.connected c.connack_seen (c.events - c.before_open) event, refusals.TooManyEarly c.at)
    ∷ ((first && nat_lt 4294967295 (c.records + 1)) || (is_some event && nat_le 4294967295 c.events), refusals.TooLong c.at)
    ∷ []

tested : (limit : ℕ) (c : Context) (b : ℕ) → 8 ≤ c.at
    → refusal_for limit c b ≡ first_that_applies (tests limit c (c.part ++ b ∷ []) (so_far_for c b) (length (c.part ++ b ∷ []) == 1) (length (c.part ++ b ∷ []) == 5) (event_in (unfinished_of c) (ahead_of c) (c.part ++ b ∷ []) (so_far_for c b)))
unfolding refusal_for record_refusal situated tests
tested limit c b h = ap (λ t. if t then header_refusal c.at b else record_refusal limit (situated c b)) (le-ltb c.at 8 h)

or_second : (a b : Bool) → (a || b) ≡ false → b ≡ false
or_second true b e = absurd (cc)
or_second false b e = e

-- Where none applies in version 1, none does after the length in version 2.
carried_tests : (limit : ℕ) (c d : Context) (q so_far : List ℕ) (first whole : Bool) (event : Option Event)
    → d.connected ≡ c.connected → d.connack_seen ≡ c.connack_seen → d.events ≡ c.events → d.before_open ≡ c.before_open → d.header.server ≡ c.header.server
    → NoneApplies (tests limit c q so_far first whole event) → NoneApplies (tests limit d (with_moment q) so_far false false event)
unfolding NoneApplies tests
carried_tests limit c d q so_far first whole event connected seen count before server none = (
  refl,
  (
    refl,
    (
      refl,
      (
        refl,
        (
          refl,
          (
            none.1.1.1.1.1.0,
            (
              none.1.1.1.1.1.1.0,
              (
                ap (λ t. is_too_early t d.connected d.connack_seen (d.events - d.before_open) event) server
                    ∙ ap (λ t. is_too_early c.header.server t d.connack_seen (d.events - d.before_open) event) connected
                    ∙ ap (λ t. is_too_early c.header.server c.connected t (d.events - d.before_open) event) seen
                    ∙ ap (λ n. is_too_early c.header.server c.connected c.connack_seen (n - d.before_open) event) count
                    ∙ ap (λ n. is_too_early c.header.server c.connected c.connack_seen (c.events - n) event) before
                    ∙ none.1.1.1.1.1.1.1.0,
                (ap (λ n. is_some event && nat_le 4294967295 n) count ∙ or_second (first && nat_lt 4294967295 (c.records + 1)) (is_some event && nat_le 4294967295 c.events) none.1.1.1.1.1.1.1.1.0, tt),
              ),
            ),
          ),
        ),
      ),
    ),
  ),
)

-- what a byte of a record makes of what is kept, from the answers to what is asked of it
abbrev built : Context → Bool → List ℕ → StreamState → StreamState → Option Event → Context
built c whole part s r event = with_completed (record c {
  at = c.at + 1;
  part = cond whole [] part;
  records = cond whole (c.records + 1) c.records;
  sent = s;
  recv = r;
}) event

built_by : (c : Context) (b : ℕ) → 8 ≤ c.at → after c b ≡ built c (is_some (record_size (ahead_of c) (c.part ++ b ∷ []))) (c.part ++ b ∷ []) (state_then (ahead_of c) directions.Sent c.sent (c.part ++ b ∷ []) b)
    (state_then (ahead_of c) directions.Recv c.recv (c.part ++ b ∷ []) b) (event_for c b)
unfolding after
built_by c b h = ap (λ t. if t then after_header c b else with_completed (after_part c (c.part ++ b ∷ []) b) (event_for c b)) (le-ltb c.at 8 h)

built_lifted : (c : Context) (n : ℕ) (whole : Bool) (q : List ℕ) (s r : StreamState) (event : Option Event) → built (lifted c n) whole (with_moment q) s r event ≡ lifted (built c whole q s r event) (n + 1)
unfolding with_moment
built_lifted c n true q s r None = refl
built_lifted c n true q s r (Some event) = refl
built_lifted c n false q s r None = refl
built_lifted c n false q s r (Some event) = refl

event_known : (c : Context) (b : ℕ) → 8 ≤ c.at → event_for c b ≡ event_in (unfinished_of c) (ahead_of c) (c.part ++ b ∷ []) (so_far_for c b)
unfolding event_for
event_known c b h = ap (λ t. if t then None else event_in (unfinished_of c) (ahead_of c) (c.part ++ b ∷ []) (so_far_for c b)) (le-ltb c.at 8 h)

placed_same : (c d : Context) (event : Option Event) → d.events ≡ c.events → d.records ≡ c.records → placed_with d 0 event ≡ placed_with c 0 event
placed_same c d None events records = refl
placed_same c d (Some event) events records =
    ap (λ n. Some (record { place = record { position = n + 1; record_no = d.records + 1; moment = 0 }; event = event })) events
    ∙ ap (λ n. Some (record { place = record { position = c.events + 1; record_no = n + 1; moment = 0 }; event = event })) records

-- What some bytes do in version 2 is what this byte does in version 1.
record IsAlike (limit : ℕ) (c : Context) (n b : ℕ) (bytes : List ℕ) : Type 0 where
  next : ℕ
  long : 8 ≤ next
  kept : after_bytes (lifted c n) bytes ≡ lifted (after c b) next
  same : events_by (lifted c n) bytes ≡ put (placed_for c b) []
  none : refused_in limit (lifted c n) bytes ≡ None

-- a byte of a record of version 1 at which nothing is refused
module _ (limit : ℕ) (c : Context) (n b : ℕ) (past_header : 8 ≤ c.at) (long : 8 ≤ n) (version : c.header.version ≡ 1) (unrefused : refusal_for limit c b ≡ None)
    (opening : 1 ≤ length c.part → opens (kind_of c.part) ≡ true → (c.sent ≡ emptied) × (c.recv ≡ emptied)) where
  abbrev q : List ℕ
  q = c.part ++ b ∷ []

  q_long : length q ≡ length c.part + 1
  q_long = length-append c.part (b ∷ [])

  five : ahead_of c ≡ 5
  five = ap head_length version ∙ head_without 1 refl

  moment_one : placed_for c b ≡ placed_with c 0 (event_for c b)
  unfolding placed_for
  moment_one = ap (λ m. placed_with c m (event_for c b)) (ap (λ k. moment_in k q) five ∙ moment_none q)

  abbrev event : Option Event
  event = event_in (unfinished_of c) 5 q (so_far_for c b)

  event_one : event_for c b ≡ event
  event_one = event_known c b past_header ∙ ap (λ k. event_in (unfinished_of c) k q (so_far_for c b)) five

  none_one : NoneApplies (tests limit c q (so_far_for c b) (length q == 1) (length q == 5) event)
  none_one =
      subst (λ o. NoneApplies (tests limit c q (so_far_for c b) (length q == 1) (length q == 5) o)) (ap (λ k. event_in (unfinished_of c) k q (so_far_for c b)) five)
      (none_applies (tests limit c q (so_far_for c b) (length q == 1) (length q == 5) (event_in (unfinished_of c) (ahead_of c) q (so_far_for c b))) (sym (tested limit c b past_header) ∙ unrefused))

  after_one : after c b ≡ built c (is_some (record_size 5 q)) q (state_then 5 directions.Sent c.sent q b) (state_then 5 directions.Recv c.recv q b) event
  after_one =
      built_by c b past_header
      ∙ ap (λ k. built c (is_some (record_size k q)) q (state_then k directions.Sent c.sent q b) (state_then k directions.Recv c.recv q b) (event_for c b)) five
      ∙ ap (built c (is_some (record_size 5 q)) q (state_then 5 directions.Sent c.sent q b) (state_then 5 directions.Recv c.recv q b)) event_one

  -- What one byte does in version 2, where its record has as many bytes as in version 1 with the moment, and its packet is the same.
  module _ (d : Context) (byte : ℕ) (d_past : 8 ≤ d.at) (d_is : d ≡ record (lifted c d.at) { part = d.part }) (d_part : d.part ++ byte ∷ [] ≡ with_moment q) (whole : length_end ≤ length q)
      (so_far : so_far_for d byte ≡ so_far_for c b) (sent : state_then 13 directions.Sent c.sent (with_moment q) byte ≡ state_then 5 directions.Sent c.sent q b)
      (recv : state_then 13 directions.Recv c.recv (with_moment q) byte ≡ state_then 5 directions.Recv c.recv q b) where
    d_ahead : ahead_of d ≡ 13
    d_ahead = ap (λ (x : Context). ahead_of x) d_is ∙ two_ahead

    event_two : event_for d byte ≡ event
    event_two =
        event_known d byte d_past
        ∙ ap (λ k. event_in (unfinished_of d) k (d.part ++ byte ∷ []) (so_far_for d byte)) d_ahead
        ∙ ap (λ (l : List ℕ). event_in (unfinished_of d) 13 l (so_far_for d byte)) d_part
        ∙ ap (event_in (unfinished_of d) 13 (with_moment q)) so_far
        ∙ ap (λ (x : Context). event_in (unfinished_of x) 13 (with_moment q) (so_far_for c b)) d_is
        ∙ with_event (unfinished_of c) q (so_far_for c b) whole

    after_two : after d byte ≡ lifted (after c b) (d.at + 1)
    after_two =
        built_by d byte d_past
        ∙ ap (λ k. built d (is_some (record_size k (d.part ++ byte ∷ []))) (d.part ++ byte ∷ []) (state_then k directions.Sent d.sent (d.part ++ byte ∷ []) byte) (state_then k directions.Recv d.recv (d.part ++ byte ∷ []) byte) (event_for d byte)) d_ahead
        ∙ ap (λ (l : List ℕ). built d (is_some (record_size 13 l)) l (state_then 13 directions.Sent d.sent l byte) (state_then 13 directions.Recv d.recv l byte) (event_for d byte)) d_part
        ∙ ap (λ (x : Context). built (record x { at = d.at }) (is_some (record_size 13 (with_moment q))) (with_moment q) (state_then 13 directions.Sent x.sent (with_moment q) byte) (state_then 13 directions.Recv x.recv (with_moment q) byte) (event_for d byte)) d_is
        ∙ ap (λ t. built (lifted c d.at) t (with_moment q) (state_then 13 directions.Sent c.sent (with_moment q) byte) (state_then 13 directions.Recv c.recv (with_moment q) byte) (event_for d byte)) (with_record q whole)
        ∙ ap (λ s. built (lifted c d.at) (is_some (record_size 5 q)) (with_moment q) s (state_then 13 directions.Recv c.recv (with_moment q) byte) (event_for d byte)) sent
        ∙ ap (λ s. built (lifted c d.at) (is_some (record_size 5 q)) (with_moment q) (state_then 5 directions.Sent c.sent q b) s (event_for d byte)) recv
        ∙ ap (built (lifted c d.at) (is_some (record_size 5 q)) (with_moment q) (state_then 5 directions.Sent c.sent q b) (state_then 5 directions.Recv c.recv q b)) event_two
        ∙ built_lifted c d.at (is_some (record_size 5 q)) q (state_then 5 directions.Sent c.sent q b) (state_then 5 directions.Recv c.recv q b) event
        ∙ ap (λ x. lifted x (d.at + 1)) (sym after_one)

    placed_two : placed_for d byte ≡ placed_for c b
    unfolding placed_for
    placed_two =
        ap (λ m. placed_with d m (event_for d byte)) (ap (λ k. moment_in k (d.part ++ byte ∷ [])) d_ahead ∙ ap (moment_in 13) d_part ∙ with_time q whole)
        ∙ ap (placed_with d 0) (event_two ∙ sym event_one)
        ∙ placed_same c d (event_for c b) (ap (λ (x : Context). x.events) d_is) (ap (λ (x : Context). x.records) d_is)
        ∙ sym moment_one

    none_two : refusal_for limit d byte ≡ None
    none_two =
        let l = with_long q whole in
        let one : (length (d.part ++ byte ∷ []) == 1) ≡ false = ap (λ (p : List ℕ). length p == 1) d_part ∙ ne_eqb (length (with_moment q)) 1 (λ e. omega arith) in
        let head : (length (d.part ++ byte ∷ []) == 5) ≡ false = ap (λ (p : List ℕ). length p == 5) d_part ∙ ne_eqb (length (with_moment q)) 5 (λ e. omega arith) in
        let all : first_that_applies (tests limit d (with_moment q) (so_far_for c b) false false event) ≡ None =
        all_false (tests limit d (with_moment q) (so_far_for c b) false false event)
        (carried_tests limit c d q (so_far_for c b) (length q == 1) (length q == 5) event (ap (λ (x : Context). x.connected) d_is) (ap (λ (x : Context). x.connack_seen) d_is) (ap (λ (x : Context). x.events) d_is)
        (ap (λ (x : Context). x.before_open) d_is) (ap (λ (x : Context). x.header.server) d_is) none_one) in
        tested limit d byte d_past
        ∙ ap (λ t. first_that_applies (tests limit d (d.part ++ byte ∷ []) (so_far_for d byte) t (length (d.part ++ byte ∷ []) == 5) (event_in (unfinished_of d) (ahead_of d) (d.part ++ byte ∷ []) (so_far_for d byte)))) one
        ∙ ap (λ t. first_that_applies (tests limit d (d.part ++ byte ∷ []) (so_far_for d byte) false t (event_in (unfinished_of d) (ahead_of d) (d.part ++ byte ∷ []) (so_far_for d byte)))) head
        ∙ ap (λ o. first_that_applies (tests limit d (d.part ++ byte ∷ []) (so_far_for d byte) false false o)) (sym (event_known d byte d_past) ∙ event_two)
        ∙ ap (λ (p : List ℕ). first_that_applies (tests limit d p (so_far_for d byte) false false event)) d_part
        ∙ ap (λ (p : List ℕ). first_that_applies (tests limit d (with_moment q) p false false event)) so_far
        ∙ all

-- the packet of a byte of a body is the same
so_far_same : (direction : Option Direction) (c : Context) (n byte : ℕ) → so_far_by direction (lifted c n) byte ≡ so_far_by direction c byte
so_far_same None c n byte = refl
so_far_same (Some directions.Sent) c n byte = refl
so_far_same (Some directions.Recv) c n byte = refl

module _ (limit : ℕ) (c : Context) (n b : ℕ) (past_header : 8 ≤ c.at) (long : 8 ≤ n) (version : c.header.version ≡ 1) (unrefused : refusal_for limit c b ≡ None)
    (opening : 1 ≤ length c.part → opens (kind_of c.part) ≡ true → (c.sent ≡ emptied) × (c.recv ≡ emptied)) where
  abbrev part : List ℕ
  part = c.part ++ b ∷ []

  part_long : length part ≡ length c.part + 1
  part_long = length-append c.part (b ∷ [])

  ahead : ahead_of c ≡ 5
  ahead = ap head_length version ∙ head_without 1 refl

  -- within a body
  so_far_within : length_end ≤ length c.part → so_far_for (lifted c n) b ≡ so_far_for c b
  unfolding so_far_for
  so_far_within there =
      let l = part_long in
      let m = with_long part (omega arith) in
      let grown_is : with_moment c.part ++ b ∷ [] ≡ with_moment part = sym (with_grown c.part b ∙ ap (λ t. with_moment c.part ++ (if t then b ∷ no_moment else b ∷ [])) (ne_eqb (length c.part) 4 (λ e. omega arith))) in
      ap (λ k. cond (nat_lt k (length (with_moment c.part ++ b ∷ []))) (so_far_by (direction_of (kind_of (with_moment c.part ++ b ∷ []))) (lifted c n) b) []) two_ahead
      ∙ ap (λ (p : List ℕ). cond (nat_lt 13 (length p)) (so_far_by (direction_of (kind_of p)) (lifted c n) b) []) grown_is
      ∙ ap (λ t. cond t (so_far_by (direction_of (kind_of (with_moment part))) (lifted c n) b) []) (lt-ltb 13 (length (with_moment part)) (omega arith) ∙ sym (lt-ltb 5 (length part) (omega arith)))
      ∙ ap (λ k. cond (nat_lt 5 (length part)) (so_far_by (direction_of k) (lifted c n) b) []) (with_kind part (omega arith))
      ∙ ap (λ (s : List ℕ). cond (nat_lt 5 (length part)) s []) (so_far_same (direction_of (kind_of part)) c n b)
      ∙ ap (λ k. cond (nat_lt k (length part)) (so_far_by (direction_of (kind_of part)) c b) []) (sym ahead)

  body_alike : length_end ≤ length c.part → IsAlike limit c n b (b ∷ [])
  body_alike there =
      let l = part_long in
      let d = lifted c n in
      let grown_is : d.part ++ b ∷ [] ≡ with_moment part = sym (with_grown c.part b ∙ ap (λ t. with_moment c.part ++ (if t then b ∷ no_moment else b ∷ [])) (ne_eqb (length c.part) 4 (λ e. omega arith))) in
      let whole : length_end ≤ length part = omega arith in
      let more : length_end < length part = omega arith in
      let so_far = so_far_within there in
      let sent = with_state directions.Sent c.sent part b more in
      let recv = with_state directions.Recv c.recv part b more in
      record {
        next = n + 1;
        long = omega arith;
        kept = after_two limit c n b past_header long version unrefused opening d b long refl grown_is whole so_far sent recv;
        same = ap (λ o. put o []) (placed_two limit c n b past_header long version unrefused opening d b long refl grown_is whole so_far sent recv);
        none = ap (λ o. option_or o None) (none_two limit c n b past_header long version unrefused opening d b long refl grown_is whole so_far sent recv);
      }

  -- within the kind and the length
  plain_ahead : ahead_of (plain c n) ≡ 13
  plain_ahead = two_ahead

  -- the tests of the first byte of a record
  abbrev first_tests : ℕ → List (Bool × Refusal)
  first_tests at =
      (is_none (kind_named b), refusals.Kind at)
      ∷ (is_open_kind (kind_named b) && c.connected, refusals.Nested at)
      ∷ (needs_connection (kind_named b) && not c.connected, refusals.NotOpen at)
      ∷ (is_release_kind (kind_named b) && not c.header.releases, refusals.ReleaseUnrecorded at)
      ∷ (nat_lt 4294967295 (c.records + 1), refusals.TooLong at)
      ∷ []

  first_alike : c.part ≡ [] → IsAlike limit c n b (b ∷ [])
  unfolding with_moment NoneApplies
  first_alike nothing =
      let few : length c.part ≡ 0 = ap length nothing in
      let is : lifted c n ≡ plain c n = lifted_few c n (omega arith) in
      let none : NoneApplies (first_tests c.at) = none_applies (first_tests c.at) (sym (first_refusal limit c b past_header nothing) ∙ unrefused) in
      record {
        next = n + 1;
        long = omega arith;
        kept = ap (λ d. after d b) is ∙ first_after (plain c n) b long nothing ∙ sym (ap (λ d. lifted d (n + 1)) (first_after c b past_header nothing));
        same = ap (λ d. put (placed_for d b) []) is
            ∙ ap (λ o. put o []) (placed_none (plain c n) b (first_event (plain c n) b long nothing) ∙ sym (placed_none c b (first_event c b past_header nothing)));
        none = ap (λ d. option_or (refusal_for limit d b) None) is
            ∙ ap (λ o. option_or o None) (first_refusal limit (plain c n) b long nothing ∙ all_false (first_tests n) (none.0, (none.1.0, (none.1.1.0, (none.1.1.1.0, (none.1.1.1.1.0, tt))))));
      }

  middle_alike : 1 ≤ length c.part → length c.part < 4 → IsAlike limit c n b (b ∷ [])
  middle_alike some few =
      let l = part_long in
      let wide = two_ahead in
      let narrow = ahead in
      let is : lifted c n ≡ plain c n = lifted_few c n (omega arith) in
      record {
        next = n + 1;
        long = omega arith;
        kept = ap (λ d. after d b) is
            ∙ middle_after (plain c n) b long some (omega arith) (opening some)
            ∙ ap (λ (p : List ℕ). record (plain c (n + 1)) { part = p }) (sym (with_few part (omega arith)))
            ∙ sym (ap (λ d. lifted d (n + 1)) (middle_after c b past_header some (omega arith) (opening some)));
        same = ap (λ d. put (placed_for d b) []) is
            ∙ ap (λ o. put o []) (placed_none (plain c n) b (middle_event (plain c n) b long (omega arith)) ∙ sym (placed_none c b (middle_event c b past_header (omega arith))));
        none = ap (λ d. option_or (refusal_for limit d b) None) is
            ∙ ap (λ o. option_or o None) (middle_refusal limit (plain c n) b long some (omega arith) (λ e. absurd (omega arith)));
      }

  -- the last byte of the length, and the moment after it
  abbrev zeros : List ℕ
  zeros = b ∷ 0 ∷ 0 ∷ 0 ∷ 0 ∷ 0 ∷ 0 ∷ 0 ∷ []

  allowed_one : length c.part ≡ 4 → allows_length 1 (kind_of part) (body_length part) ≡ true
  unfolding NoneApplies tests
  allowed_one four =
      let l = part_long in
      let none = none_one limit c n b past_header long version unrefused opening in
      let test : ((length part == 5) && not (allows_length c.header.version (kind_of part) (body_length part))) ≡ false = none.1.0 in
      true_of (allows_length 1 (kind_of part) (body_length part))
      (ap (λ v. true && not (allows_length v (kind_of part) (body_length part))) (sym version)
      ∙ ap (λ t. t && not (allows_length c.header.version (kind_of part) (body_length part))) (sym (eq-eqb (length part) 5 (omega arith)))
      ∙ test)
    where
      true_of : (t : Bool) → (true && not t) ≡ false → t ≡ true
      true_of true e = refl
      true_of false e = absurd (cc)

  length_alike : length c.part ≡ 4 → IsAlike limit c n b (b ∷ no_moment)
  length_alike four =
      let l = part_long in
      let wide = two_ahead in
      let narrow = ahead in
      let is : lifted c n ≡ plain c n = lifted_few c n (omega arith) in
      let d = longer_by (plain c n) zeros in
      let d_long : length d.part ≡ 12 = (let m = length-append c.part zeros in omega arith) in
      let begun : after_bytes (plain c n) zeros ≡ d = middles_after (plain c n) zeros long (omega arith) (omega arith) (opening (omega arith)) in
      let quiet : events_by (plain c n) zeros ≡ [] = middles_events (plain c n) zeros long (omega arith) (omega arith) (opening (omega arith)) in
      let passes : refused_in limit (plain c n) zeros ≡ None = middles_refused limit (plain c n) zeros long (omega arith) (omega arith) (opening (omega arith)) (among four) in
      let grown_is : d.part ++ 0 ∷ [] ≡ with_moment part =
      append_assoc c.part zeros (0 ∷ [])
      ∙ ap (λ (p : List ℕ). p ++ b ∷ no_moment) (sym (with_few c.part (omega arith)))
      ∙ ap (λ t. with_moment c.part ++ (if t then b ∷ no_moment else b ∷ [])) (sym (eq-eqb (length c.part) 4 four))
      ∙ sym (with_grown c.part b) in
      let whole : length_end ≤ length part = omega arith in
      let m = with_long part whole in
      let so_far : so_far_for d 0 ≡ so_far_for c b = head_packet d 0 (omega arith) ∙ sym (head_packet c b (omega arith)) in
      let state : (direction : Direction) (s : StreamState) → state_then 13 direction s (with_moment part) 0 ≡ state_then 5 direction s part b = λ direction s.
      head_state 13 direction s (with_moment part) 0 (omega arith) ∙ ap (λ k. cond (opens k) emptied s) (with_kind part whole) ∙ sym (head_state 5 direction s part b (omega arith)) in
      record {
        next = (n + 8) + 1;
        long = omega arith;
        kept = ap (λ x. after_bytes x (b ∷ no_moment)) is
            ∙ after_bytes_append (plain c n) zeros (0 ∷ [])
            ∙ ap (λ x. after x 0) begun
            ∙ after_two limit c n b past_header long version unrefused opening d 0 (omega arith) refl grown_is whole so_far (state directions.Sent c.sent) (state directions.Recv c.recv);
        same = ap (λ x. events_by x (b ∷ no_moment)) is
            ∙ events_append (plain c n) zeros (0 ∷ [])
            ∙ ap (λ x. put (placed_for x 0) [] ++ events_by (plain c n) zeros) begun
            ∙ ap (λ e. put (placed_for d 0) [] ++ e) quiet
            ∙ append-nil (put (placed_for d 0) [])
            ∙ ap (λ o. put o []) (placed_two limit c n b past_header long version unrefused opening d 0 (omega arith) refl grown_is whole so_far (state directions.Sent c.sent) (state directions.Recv c.recv));
        none = ap (λ x. refused_in limit x (b ∷ no_moment)) is
            ∙ refused_append limit (plain c n) zeros (0 ∷ [])
            ∙ ap (λ o. option_or o (refused_in limit (after_bytes (plain c n) zeros) (0 ∷ []))) passes
            ∙ ap (λ x. option_or (refusal_for limit x 0) None) begun
            ∙ ap (λ o. option_or o None) (none_two limit c n b past_header long version unrefused opening d 0 (omega arith) refl grown_is whole so_far (state directions.Sent c.sent) (state directions.Recv c.recv));
      }
    where
      among : length c.part ≡ 4 → AllowedAmong (plain c n) zeros
      among four [] later byte is ends =
          let same : b ≡ byte = ap (λ (t : List ℕ). slice_index t 0) is in
          ap (λ x. allows_length 2 (kind_of (c.part ++ x ∷ [])) (body_length (c.part ++ x ∷ []))) (sym same) ∙ allows_more (kind_of part) (body_length part) (allowed_one four)
      among four (x ∷ front) later byte is ends = absurd (omega arith)

  -- Whatever byte it is.
  alike : IsAlike limit c n b (added c.part b)
  alike = by (length c.part == 4) refl
    where
      shorter : (p : List ℕ) → c.part ≡ p → length c.part < 4 → IsAlike limit c n b (b ∷ [])
      shorter [] is few = first_alike is
      shorter (x ∷ p) is few = middle_alike (let l : length c.part ≡ length (x ∷ p) = ap length is in omega arith) few

      others : (t : Bool) → nat_lt (length c.part) 4 ≡ t → (length c.part ≡ 4 → ⊥) → IsAlike limit c n b (b ∷ [])
      others true is other = shorter c.part refl (ltb-true (length c.part) 4 is)
      others false is other = let most = ltb-false (length c.part) 4 is in body_alike (omega (arith, other, most))

      by : (t : Bool) → (length c.part == 4) ≡ t → IsAlike limit c n b (if t then b ∷ no_moment else b ∷ [])
      by true is = length_alike (eqb-true (length c.part) 4 is)
      by false is = others (nat_lt (length c.part) 4) refl (eqb-false (length c.part) 4 is)

-- ---- a log

-- The record of an OPEN leaves nothing of the directions.
opened_empty : (ahead : ℕ) (direction : Direction) (rest : List ℕ) (whole : List (List ℕ)) → 1 ≤ length rest → opens (kind_of rest) ≡ true → state_of (carried ahead direction (begun_with rest whole)) ≡ emptied
unfolding carried
opened_empty ahead direction [] whole some e = absurd (omega arith)
opened_empty ahead direction (r ∷ rest) whole some e =
    ap (λ t. state_of (cond t [] (carried ahead direction whole ++ if_direction direction (direction_of (kind_of (r ∷ rest))) (drop ahead (r ∷ rest))))) e ∙ state-nothing

opening_context : (log : List ℕ) → 1 ≤ length (context log).part → opens (kind_of (context log).part) ≡ true → ((context log).sent ≡ emptied) × ((context log).recv ≡ emptied)
unfolding context begun_records
opening_context log some e = (
  opened_empty (ahead_in log) directions.Sent (records log).rest (reverse (records log).whole) some e,
  opened_empty (ahead_in log) directions.Recv (records log).rest (reverse (records log).whole) some e,
)

-- one byte more adds to what is written
grown_records : (o : Option ℕ) (p : Pieces) (byte : ℕ) → flat_map with_moment (grown o p byte).whole ++ with_moment (grown o p byte).rest ≡ (flat_map with_moment p.whole ++ with_moment p.rest) ++ added p.rest byte
unfolding with_moment
grown_records None p byte = ap (λ (l : List ℕ). flat_map with_moment p.whole ++ l) (with_grown p.rest byte) ∙ sym (append_assoc (flat_map with_moment p.whole) (with_moment p.rest) (added p.rest byte))
grown_records (Some size) p byte =
    append-nil (flat_map with_moment (p.whole ++ (p.rest ++ byte ∷ []) ∷ []))
    ∙ flat_map-append with_moment p.whole ((p.rest ++ byte ∷ []) ∷ [])
    ∙ ap (λ (l : List ℕ). flat_map with_moment p.whole ++ l) (append-nil (with_moment (p.rest ++ byte ∷ [])) ∙ with_grown p.rest byte)
    ∙ sym (append_assoc (flat_map with_moment p.whole) (with_moment p.rest) (added p.rest byte))

pub timed_known : (log : List ℕ) → 8 ≤ length log → timed log ≡ second_header log ++ (flat_map with_moment (records log).whole ++ with_moment (records log).rest)
unfolding timed
timed_known log h = ap (λ b. if b then [] else second_header log ++ (flat_map with_moment (records log).whole ++ with_moment (records log).rest)) (le-ltb (length log) 8 h)

second_same : (log : List ℕ) (byte : ℕ) → 8 ≤ length log → second_header (log ++ byte ∷ []) ≡ second_header log
second_same log byte h =
    let d = length-drop 5 log in
    ap (λ (l : List ℕ). l ++ 2 ∷ take 3 (drop 5 (log ++ byte ∷ []))) (take-append-le 4 log (byte ∷ []) (omega arith))
    ∙ ap (λ (l : List ℕ). take 4 log ++ 2 ∷ take 3 l) (drop-append-le 5 log (byte ∷ []) (omega arith))
    ∙ ap (λ (l : List ℕ). take 4 log ++ 2 ∷ l) (take-append-le 3 (drop 5 log) (byte ∷ []) (omega arith))

pub timed_grown : (log : List ℕ) (byte : ℕ) → 8 ≤ length log → timed (log ++ byte ∷ []) ≡ timed log ++ added (records log).rest byte
timed_grown log byte h =
    let l = length-append log (byte ∷ []) in
    timed_known (log ++ byte ∷ []) (omega arith)
    ∙ ap (λ (l : List ℕ). l ++ (flat_map with_moment (records (log ++ byte ∷ [])).whole ++ with_moment (records (log ++ byte ∷ [])).rest)) (second_same log byte h)
    ∙ ap (λ (p : Pieces). second_header log ++ (flat_map with_moment p.whole ++ with_moment p.rest)) (records-grow log byte h)
    ∙ ap (λ (l : List ℕ). second_header log ++ l) (grown_records (record_size (ahead_in log) ((records log).rest ++ byte ∷ [])) (records log) byte)
    ∙ sym (append_assoc (second_header log) (flat_map with_moment (records log).whole ++ with_moment (records log).rest) (added (records log).rest byte))
    ∙ ap (λ (l : List ℕ). l ++ added (records log).rest byte) (sym (timed_known log h))

-- what holds of a log and of the same in version 2
record IsTimed (limit : ℕ) (log : List ℕ) : Type 0 where
  at : ℕ
  long : 8 ≤ at
  kept : context (timed log) ≡ lifted (context log) at
  same : events (timed log) ≡ events log
  none : refused limit (timed log) ≡ None

timed_step : (limit : ℕ) (log : List ℕ) (byte : ℕ) → 8 ≤ length log → (refused limit log ≡ None → (header_by log).version ≡ 1 → IsTimed limit log)
    → refused limit (log ++ byte ∷ []) ≡ None → (header_by (log ++ byte ∷ [])).version ≡ 1 → IsTimed limit (log ++ byte ∷ [])
timed_step limit log byte h before unrefused first =
    let parts = option_parts (refused limit log) (refusal_at limit log byte) (sym (refused-grow limit log byte) ∙ unrefused) in
    let version : (header_by log).version ≡ 1 = ap (λ (t : Header). t.version) (sym (header-unchanged log byte h)) ∙ first in
    let was = before parts.0 version in
    let c = context log in
    let at : 8 ≤ c.at = subst (λ (n : ℕ). 8 ≤ n) (sym (at_context log)) h in
    let step = alike limit c was.at byte at was.long (ap (λ (t : Header). t.version) (header_context log) ∙ version) (sym (refusal-kept limit log byte) ∙ parts.1) (opening_context log) in
    let more : timed (log ++ byte ∷ []) ≡ timed log ++ added c.part byte = timed_grown log byte h ∙ ap (λ (p : List ℕ). timed log ++ added p byte) (sym (part_context log)) in
    record {
      at = step.next;
      long = step.long;
      kept = ap context more
          ∙ context_run (timed log) (added c.part byte)
          ∙ ap (λ d. after_bytes d (added c.part byte)) was.kept
          ∙ step.kept
          ∙ ap (λ d. lifted d step.next) (sym (context-grow log byte));
      same = ap events more
          ∙ events_run (timed log) (added c.part byte)
          ∙ ap (λ d. events_by d (added c.part byte) ++ events (timed log)) was.kept
          ∙ ap (λ e. e ++ events (timed log)) step.same
          ∙ ap (λ e. put (placed_for c byte) [] ++ e) was.same
          ∙ sym (put_front (placed_for c byte) (events log))
          ∙ sym (events-kept log byte);
      none = ap (refused limit) more
          ∙ refused_run limit (timed log) (added c.part byte)
          ∙ ap (λ o. option_or o (refused_in limit (context (timed log)) (added c.part byte))) was.none
          ∙ ap (λ d. refused_in limit d (added c.part byte)) was.kept
          ∙ step.none;
    }

-- the header
header_at : (limit : ℕ) (log : List ℕ) (byte : ℕ) → length log < 8 → refusal_at limit log byte ≡ header_refusal (length log) byte
unfolding refusal_at
header_at limit log byte h = ap (λ b. if b then header_refusal (length log) byte else record_refusal limit (situation log byte)) (lt-ltb (length log) 8 h)

shorten : (limit : ℕ) (log : List ℕ) (byte : ℕ) → length log < 8 → refused limit (log ++ byte ∷ []) ≡ None → (refused limit log ≡ None) × (header_refusal (length log) byte ≡ None)
shorten limit log byte h none =
    let parts = option_parts (refused limit log) (refusal_at limit log byte) (sym (refused-grow limit log byte) ∙ none) in
    (parts.0, sym (header_at limit log byte h) ∙ parts.1)

lengthen : (limit : ℕ) (log : List ℕ) (byte : ℕ) → length log < 8 → refused limit log ≡ None → header_refusal (length log) byte ≡ None → refused limit (log ++ byte ∷ []) ≡ None
lengthen limit log byte h before none = refused-grow limit log byte ∙ both_none (refused limit log) (refusal_at limit log byte) before (header_at limit log byte h ∙ none)

second_passes : header_refusal 4 2 ≡ None
unfolding header_refusal
second_passes = refl

timed_header : (limit : ℕ) (log : List ℕ) → length log ≡ 8 → refused limit log ≡ None → IsTimed limit log
timed_header limit [] e none = absurd (omega arith)
timed_header limit (a ∷ []) e none = absurd (omega arith)
timed_header limit (a ∷ b ∷ []) e none = absurd (omega arith)
timed_header limit (a ∷ b ∷ c ∷ []) e none = absurd (omega arith)
timed_header limit (a ∷ b ∷ c ∷ d ∷ []) e none = absurd (omega arith)
timed_header limit (a ∷ b ∷ c ∷ d ∷ v ∷ []) e none = absurd (omega arith)
timed_header limit (a ∷ b ∷ c ∷ d ∷ v ∷ f ∷ []) e none = absurd (omega arith)
timed_header limit (a ∷ b ∷ c ∷ d ∷ v ∷ f ∷ g ∷ []) e none = absurd (omega arith)
timed_header limit (a ∷ b ∷ c ∷ d ∷ v ∷ f ∷ g ∷ i ∷ j ∷ log) e none = absurd (omega arith)
timed_header limit (a ∷ b ∷ c ∷ d ∷ v ∷ f ∷ g ∷ i ∷ []) e none =
    let log : List ℕ = a ∷ b ∷ c ∷ d ∷ v ∷ f ∷ g ∷ i ∷ [] in
    let second : List ℕ = a ∷ b ∷ c ∷ d ∷ 2 ∷ f ∷ g ∷ i ∷ [] in
    let is : timed log ≡ second =
    timed_known log (omega arith) ∙ ap (λ (p : Pieces). second_header log ++ (flat_map with_moment p.whole ++ with_moment p.rest)) (records-header log (omega arith)) ∙ ap (λ (l : List ℕ). second_header log ++ l) (with_few [] (omega arith)) in
    let s7 = shorten limit (a ∷ b ∷ c ∷ d ∷ v ∷ f ∷ g ∷ []) i (omega arith) none in
    let s6 = shorten limit (a ∷ b ∷ c ∷ d ∷ v ∷ f ∷ []) g (omega arith) s7.0 in
    let s5 = shorten limit (a ∷ b ∷ c ∷ d ∷ v ∷ []) f (omega arith) s6.0 in
    let s4 = shorten limit (a ∷ b ∷ c ∷ d ∷ []) v (omega arith) s5.0 in
    let t5 = lengthen limit (a ∷ b ∷ c ∷ d ∷ []) 2 (omega arith) s4.0 second_passes in
    let t6 = lengthen limit (a ∷ b ∷ c ∷ d ∷ 2 ∷ []) f (omega arith) t5 s5.1 in
    let t7 = lengthen limit (a ∷ b ∷ c ∷ d ∷ 2 ∷ f ∷ []) g (omega arith) t6 s6.1 in
    let t8 = lengthen limit (a ∷ b ∷ c ∷ d ∷ 2 ∷ f ∷ g ∷ []) i (omega arith) t7 s7.1 in
    let one = context-header log (omega arith) in
    let empty : lifted (record fresh { at = 8; header = header_by log }) 8 ≡ record fresh { at = 8; header = header_by second } = ap (λ (l : List ℕ). record fresh { at = 8; header = header_by second; part = l }) (with_few [] (omega arith)) in
    record {
      at = 8;
      long = omega arith;
      kept = ap context is ∙ context-header second (omega arith) ∙ sym empty ∙ ap (λ x. lifted x 8) (sym one);
      same = ap events is ∙ events-header second (omega arith) ∙ sym (events-header log (omega arith));
      none = ap (refused limit) is ∙ t8;
    }

timed_always : (limit : ℕ) (header rest : List ℕ) → length header ≡ 8 → refused limit (header ++ rest) ≡ None → (header_by (header ++ rest)).version ≡ 1 → IsTimed limit (header ++ rest)
timed_always limit header rest h =
    along_from (λ log. refused limit log ≡ None → (header_by log).version ≡ 1 → IsTimed limit log) (λ log byte long before. timed_step limit log byte long before) header rest (omega arith)
    (λ none first. timed_header limit header h none)

timed_log : (limit : ℕ) (log : List ℕ) → 8 ≤ length log → refused limit log ≡ None → (header_by log).version ≡ 1 → IsTimed limit log
timed_log limit log long =
    subst (λ (l : List ℕ). refused limit l ≡ None → (header_by l).version ≡ 1 → IsTimed limit l) (take-append-drop 8 log)
    (timed_always limit (take 8 log) (drop 8 log) (length-take-le 8 log long))

-- ---- nothing is left out of it

byte_passes : (limit : ℕ) (log : List ℕ) (byte : ℕ) → (length log ≡ 4 → byte ≡ 1) → refusal_at limit log byte ≡ None → unconverted_at log byte ≡ None
unfolding refusal_at unconverted_at record_refusal NoneApplies
byte_passes limit log byte first none = by (nat_lt (length log) 8) none
  where
    by : (t : Bool) → (if t then header_refusal (length log) byte else record_refusal limit (situation log byte)) ≡ None
        → (if t then first_version_refusal (length log) byte else first_that_applies (record_conditions (situation log byte))) ≡ None
    by true h = by_place (length log == 4) refl
      where
        by_place : (t : Bool) → (length log == 4) ≡ t → (if t then (if byte == 1 then None else Some (refusals.Version (length log))) else header_refusal (length log) byte) ≡ None
        by_place true is = ap (λ b. if b then None else Some (refusals.Version (length log))) (eq-eqb byte 1 (first (eqb-true (length log) 4 is)))
        by_place false is = h
    by false h =
        let s = situation log byte in
        let none = none_applies (conditions limit s) h in
        all_false (record_conditions s) (none.0, (none.1.0, (none.1.1.0, (none.1.1.1.0, (none.1.1.1.1.0, (first_of_two _ _ none.1.1.1.1.1.1.1.1.0, tt))))))

pub unconverted-grow : (log : List ℕ) (byte : ℕ) → unconverted (log ++ byte ∷ []) ≡ option_or (unconverted log) (unconverted_at log byte)
unfolding unconverted unconverted_back
unconverted-grow log byte =
    ap unconverted_back (reverse-append log (byte ∷ []))
    ∙ ap (λ earlier. option_or (unconverted_back (reverse log)) (unconverted_at earlier byte)) (reverse-reverse log)

pub nothing_converted : unconverted [] ≡ None
unfolding unconverted unconverted_back
nothing_converted = refl

all_converted : (limit : ℕ) (log : List ℕ) → refused limit log ≡ None → (4 < length log → slice_index log 4 ≡ 1) → unconverted log ≡ None
all_converted limit log = along (λ l. refused limit l ≡ None → (4 < length l → slice_index l 4 ≡ 1) → unconverted l ≡ None) start step log
  where
    start : refused limit [] ≡ None → (4 < 0 → (λ (l : List ℕ). slice_index l 4) [] ≡ 1) → unconverted [] ≡ None
    start none first = nothing_converted

    step : (l : List ℕ) (byte : ℕ) → (refused limit l ≡ None → (4 < length l → slice_index l 4 ≡ 1) → unconverted l ≡ None) → refused limit (l ++ byte ∷ []) ≡ None
        → (4 < length (l ++ byte ∷ []) → slice_index (l ++ byte ∷ []) 4 ≡ 1) → unconverted (l ++ byte ∷ []) ≡ None
    step l byte before none first =
        let parts = option_parts (refused limit l) (refusal_at limit l byte) (sym (refused-grow limit l byte) ∙ none) in
        let m = length-append l (byte ∷ []) in
        let earlier : 4 < length l → slice_index l 4 ≡ 1 = λ more. sym (get_or_append_left l (byte ∷ []) 0 4 more) ∙ first (omega arith) in
        let here : length l ≡ 4 → byte ≡ 1 = λ e. sym (get_or-append_right l (byte ∷ []) 4 4 0 e (omega arith) ∙ ap (λ k. slice_index (byte ∷ []) k) (let none : 4 - 4 ≡ 0 = omega arith in none)) ∙ first (omega arith) in
        unconverted-grow l byte ∙ both_none (unconverted l) (unconverted_at l byte) (before parts.0 earlier) (byte_passes limit l byte here parts.1)

pub copied_whole : (log : List ℕ) → unconverted log ≡ None → copied log ≡ log
unfolding unconverted copied copied_back
copied_whole log none = ap reverse (go (reverse log) none) ∙ reverse-reverse log
  where
    go : (back : List ℕ) → unconverted_back back ≡ None → copied_back back ≡ back
    go [] none = refl
    go (byte ∷ earlier) none = ap (λ (o : Option Refusal). cond (is_some o) (copied_back earlier) (byte ∷ earlier)) none

-- ---- the log of version 2 is whole, too

whole_log : (log : List ℕ) → is_cut_short log ≡ false → (8 ≤ length log) × (length (records log).rest ≡ 0)
unfolding is_cut_short
whole_log log e = (
  ltb-false (length log) 8 (first_of_two (nat_lt (length log) 8) (nat_lt 0 (length (records log).rest)) e),
  (let none = ltb-false 0 (length (records log).rest) (or_second (nat_lt (length log) 8) (nat_lt 0 (length (records log).rest)) e) in omega arith),
)

pub no_bytes : (l : List ℕ) → length l ≡ 0 → l ≡ []
no_bytes [] e = refl
no_bytes (x ∷ l) e = absurd (omega arith)

still_whole : (limit : ℕ) (log : List ℕ) → IsTimed limit log → (records log).rest ≡ [] → is_cut_short (timed log) ≡ false
unfolding is_cut_short
still_whole limit log is e =
    let at : length (timed log) ≡ is.at = sym (at_context (timed log)) ∙ ap (λ (c : Context). c.at) is.kept in
    let long = is.long in
    let rest : (records (timed log)).rest ≡ [] = sym (part_context (timed log)) ∙ ap (λ (c : Context). c.part) is.kept ∙ ap with_moment (part_context log ∙ e) ∙ with_few [] (omega arith) in
    ap (λ b. b || nat_lt 0 (length (records (timed log)).rest)) (le-ltb (length (timed log)) 8 (omega arith)) ∙ ap (λ (l : List ℕ). nat_lt 0 (length l)) rest

-- its header is the same, but for its version
same_header : (limit : ℕ) (log : List ℕ) → IsTimed limit log → header_by (timed log) ≡ record (header_by log) { version = 2 }
same_header limit log is = sym (header_context (timed log)) ∙ ap (λ (c : Context). c.header) is.kept ∙ ap (λ (h : Header). record h { version = 2 }) (header_context log)

-- A log of version 1 that isn't refused isn't refused once it is converted, and has the same header, but for its version, and the same events.
pub converted_same : (limit : ℕ) (log : List ℕ) → slice_index log 4 ≡ 1 → refused limit log ≡ None → is_cut_short log ≡ false
    → (refused limit (converted log) ≡ None) × (is_cut_short (converted log) ≡ false) × (header_by (converted log) ≡ record (header_by log) { version = 2 }) × (events (converted log) ≡ events log)
converted_same limit log first none whole =
    let parts = whole_log log whole in
    let is = timed_log limit log parts.0 none first in
    let all = copied_whole log (all_converted limit log none (λ more. first)) in
    subst (λ (l : List ℕ). (refused limit (timed l) ≡ None) × (is_cut_short (timed l) ≡ false) × (header_by (timed l) ≡ record (header_by log) { version = 2 }) × (events (timed l) ≡ events log)) (sym all)
    (is.none, still_whole limit log is (no_bytes (records log).rest parts.1), same_header limit log is, is.same)
