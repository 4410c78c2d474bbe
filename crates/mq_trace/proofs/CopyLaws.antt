-- The steps of copying a log of version 1 into version 2.
use Rattle.std.proofs.Common.{◌≡◌, ℕ, ◌+◌, ◌*◌, ◌<◌, ◌≤◌, Bool, true, false, cond, ◌&&◌, nat_lt, List, [], ◌∷◌, ◌++◌, length, drop, Option, Some, None, Result, Ok, Err, IfOk, IfErr, is_some, refl, sym, ◌∙◌, ap, subst, arith, length-append, append_assoc}
use Rattle.std.specs.Prelude.{◌==◌, ◌||◌, ◌-◌, nat_le, not, if◌then◌else◌, is_none, option_map}
use Rattle.std.specs.Int.{w16, from_be_bytes}
use Rattle.std.specs.List.{flat_map}
use Rattle.std.proofs.lemmas.Bool.{ltb-true, le-ltb, lt-ltb, le-leb, lt-leb, leb-true, eqb-true, eqb-false, eq-eqb, ne_eqb}
use Rattle.mq_log.specs.declared.kind.RecordKind.{RecordKind}
use Rattle.mq_log.specs.declared.kind.RecordKind.TheVariants as kinds
use Rattle.mq_log.specs.declared.header.Header.{Header}
use Rattle.mq_log.specs.declared.refusal.Refusal.{Refusal}
use Rattle.mq_log.specs.declared.refusal.Refusal.TheVariants as refusals
use Rattle.mq_trace.specs.declared.converting.Addition.{Addition}
use Rattle.mq_trace.specs.declared.converting.Addition.TheVariants as additions
use Rattle.mq_trace.specs.declared.converting.Copying.{Copying}
use Rattle.mq_trace.specs.declared.converting.Part.{Part}
use Rattle.mq_trace.specs.declared.converting.Part.TheVariants as parts
use Rattle.mq_log.specs.Pieces.{Pieces}
use Rattle.mq_log.specs.Framing.{header_by, kind_named, kind_of, body_length, head_length, longest_body, length_end, record_size, records, ahead_in}
use Rattle.mq_log.specs.Events.{UnfinishedPackets, Event, Item, sent, received, released, item_at, event_by, event_in, event_of_head, events}
use Rattle.mq_log.specs.Refusals.{situation, header_refusal, first_that_applies, allows_length, is_open_kind, needs_connection, is_release_kind, is_cut_short}
use Rattle.mq_log.specs.Connections.{has_open_connection}
use Rattle.mq_log.specs.Context.{Context, ahead_of, unfinished_of, context, so_far_for, situated, event_for, with_completed, after_part}
use Rattle.mq_trace.specs.Writing.{bit_byte, header_bytes}
use Rattle.mq_trace.specs.Converting.{first_version_refusal, record_conditions, unconverted_at, unconverted, no_moment, with_moment, second_header, timed}
use Rattle.mq_trace.specs.Copying.{Adds, BeginsCopy, IsCopyOf, IsIn, IsSound, IsWithin, added_bytes, begun_in, connected_after, has_body, header_addition, in_length, is_between, past_body, past_header_byte, past_length, refused_begin}
use Rattle.mq_trace.specs.Heads.{IsHead, head_of}
use Rattle.mq_log.proofs.Exports.{header-unchanged, records-header, rest-grow, whole-grow, body_length-append, kind_of-append}
use Rattle.mq_log.proofs.Exports.{context-grow, context-after_header, events-header, header_context, part_context, at_context, situation-kept}
use Rattle.mq_trace.proofs.LengthLaws.{head_size, longer_head, longer_within, whole_length}
use Rattle.mq_trace.proofs.StepLaws.{header_after, first_event, middle_event, last_event, headed_record, both_none}
use Rattle.mq_trace.proofs.ConvertingLaws.{timed_known, timed_grown, unconverted-grow, nothing_converted, option_parts, no_bytes}

-- ---- the refusals of records

-- the conditions of a record's own refusals, with the answers of all tests
abbrev lines : (first ends : Bool) → Option RecordKind → (allowed connected releases long : Bool) → ℕ → List (Bool × Refusal)
lines first ends kind allowed connected releases long at =
    (first && is_none kind, refusals.Kind at)
    ∷ (ends && not allowed, refusals.Length at)
    ∷ (first && (is_open_kind kind && connected), refusals.Nested at)
    ∷ (first && (needs_connection kind && not connected), refusals.NotOpen at)
    ∷ (first && (is_release_kind kind && not releases), refusals.ReleaseUnrecorded at)
    ∷ (first && long, refusals.TooLong at)
    ∷ []

-- what the next byte is refused for, by what is kept
later_refusal : (log : List ℕ) (b : ℕ) → 8 ≤ length log → unconverted_at log b ≡ first_that_applies (record_conditions (situated (context log) b))
unfolding unconverted_at
later_refusal log b h =
    ap (λ t. if t then first_version_refusal (length log) b else first_that_applies (record_conditions (situation log b))) (le-ltb (length log) 8 h)
    ∙ ap (λ s. first_that_applies (record_conditions s)) (situation-kept log b h)

-- what is kept of a log
kept_parts : (log : List ℕ) → (context log ≡ record (context log) { at = length log; header = header_by log; part = (records log).rest; records = length (records log).whole; connected = has_open_connection (events log) })
unfolding context
kept_parts log = refl

situated_lines : (d : Context) (at : ℕ) (header : Header) (rest : List ℕ) (count : ℕ) (connected : Bool) (b : ℕ)
    → record_conditions (situated (record d { at = at; header = header; part = rest; records = count; connected = connected }) b)
    ≡ lines (length (rest ++ b ∷ []) == 1) (length (rest ++ b ∷ []) == length_end) (kind_of (rest ++ b ∷ [])) (allows_length header.version (kind_of (rest ++ b ∷ [])) (body_length (rest ++ b ∷ [])))
    connected header.releases (nat_lt 4294967295 (count + 1)) at
unfolding situated
situated_lines d at header rest count connected b = refl

refusal_by : (log part : List ℕ) (b : ℕ) (first ends : Bool) (kind : Option RecordKind) (allowed : Bool) → 8 ≤ length log → (records log).rest ++ b ∷ [] ≡ part
    → (length part == 1) ≡ first → (length part == length_end) ≡ ends → kind_of part ≡ kind → allows_length (header_by log).version kind (body_length part) ≡ allowed
    → unconverted_at log b ≡ first_that_applies (lines first ends kind allowed (has_open_connection (events log)) (header_by log).releases (nat_lt 4294967295 (length (records log).whole + 1)) (length log))
refusal_by log part b first ends kind allowed h is f e k a =
    later_refusal log b h
    ∙ ap (λ (c : Context). first_that_applies (record_conditions (situated c b))) (kept_parts log)
    ∙ ap first_that_applies (situated_lines (context log) (length log) (header_by log) (records log).rest (length (records log).whole) (has_open_connection (events log)) b)
    ∙ ap (λ l. shown (length l == 1) (length l == length_end) (kind_of l) (allows_length (header_by log).version (kind_of l) (body_length l))) is
    ∙ ap (λ t. shown t (length part == length_end) (kind_of part) (allows_length (header_by log).version (kind_of part) (body_length part))) f
    ∙ ap (λ t. shown first t (kind_of part) (allows_length (header_by log).version (kind_of part) (body_length part))) e
    ∙ ap (λ t. shown first ends t (allows_length (header_by log).version t (body_length part))) k
    ∙ ap (λ t. shown first ends kind t) a
  where
    shown : (first ends : Bool) → Option RecordKind → (allowed : Bool) → Option Refusal
    shown f e k t = first_that_applies (lines f e k t (has_open_connection (events log)) (header_by log).releases (nat_lt 4294967295 (length (records log).whole + 1)) (length log))

-- ---- one byte more

-- what the events make of the connection, with one byte more
connected_grow : (log : List ℕ) (b : ℕ) (event : Option Event) → 8 ≤ length log → event_for (context log) b ≡ event
    → has_open_connection (events (log ++ b ∷ [])) ≡ (with_completed (context log) event).connected
unfolding context
connected_grow log b event h is =
    ap (λ (c : Context). c.connected) (context-after_header log b h)
    ∙ same (event_for (context log) b)
    ∙ ap (λ e. (with_completed (context log) e).connected) is
  where
    same : (e : Option Event) → (with_completed (after_part (context log) ((records log).rest ++ b ∷ []) b) e).connected ≡ (with_completed (context log) e).connected
    same None = refl
    same (Some e) = refl

-- A byte after the header that isn't refused.
record Grows (log : List ℕ) (b : ℕ) (whole connected : Bool) : Type 0 where
  long : 8 ≤ length log
  unrefused : unconverted_at log b ≡ None
  ends : is_some (record_size (ahead_in log) ((records log).rest ++ b ∷ [])) ≡ whole
  opened : has_open_connection (events (log ++ b ∷ [])) ≡ connected

copies_on : (c c' : Copying) (log : List ℕ) (b : ℕ) (whole connected : Bool) → IsCopyOf c log → Grows log b whole connected
    → c'.at ≡ c.at + 1 → c'.header ≡ c.header → c'.records ≡ cond whole (c.records + 1) c.records → c'.connected ≡ connected
    → IsIn c'.part (cond whole [] ((records log).rest ++ b ∷ [])) → IsCopyOf c' (log ++ b ∷ [])
copies_on c c' log b whole connected was g at header count connects stands =
    let l = length-append log (b ∷ []) in
    let h = g.long in
    let same = header-unchanged log b h in
    record {
      unrefused = unconverted-grow log b ∙ both_none (unconverted log) (unconverted_at log b) was.unrefused g.unrefused;
      at = at ∙ ap (λ n. n + 1) was.at ∙ sym l;
      header = header ∙ was.header ∙ sym same;
      first = λ more. ap (λ (t : Header). t.version) same ∙ was.first (omega arith);
      whole = count ∙ ap (λ n. cond whole (n + 1) n) was.whole ∙ ap (λ t. cond t (length (records log).whole + 1) (length (records log).whole)) (sym g.ends) ∙ sym (whole-grow log b h);
      connected = connects ∙ sym g.opened;
      part = subst (IsIn c'.part) (ap (λ t. cond t [] ((records log).rest ++ b ∷ [])) (sym g.ends) ∙ sym (rest-grow log b h)) stands;
    }

-- what a byte after the header adds
adds_byte : (log : List ℕ) (b : ℕ) (length_ends : Bool) → 8 ≤ length log → (length (records log).rest == 4) ≡ length_ends → Adds log (b ∷ []) (if length_ends then b ∷ no_moment else b ∷ [])
adds_byte log b length_ends h is = timed_grown log b h ∙ ap (λ t. timed log ++ (if t then b ∷ no_moment else b ∷ [])) is

-- the head of a record of version 1
first_ahead : (c : Copying) (log : List ℕ) → IsCopyOf c log → 8 ≤ length log → ahead_in log ≡ 5
unfolding head_length
first_ahead c log was h = ap head_length (was.first (omega arith))

long_copy : (c : Copying) (log : List ℕ) → IsCopyOf c log → 8 ≤ c.at → 8 ≤ length log
long_copy c log was h = subst (λ n. 8 ≤ n) was.at h

none_whole : (ahead : ℕ) (part : List ℕ) → length part < ahead → is_some (record_size ahead part) ≡ false
unfolding record_size
none_whole ahead part h =
    ap (λ t. is_some (if t then None else (if nat_le (ahead + body_length part) (length part) then Some (ahead + body_length part) else None))) (lt-ltb (length part) ahead h)

-- ---- the first byte of a record

no_rest : (c : Copying) (log : List ℕ) → IsCopyOf c log → c.part ≡ parts.Between → (records log).rest ≡ []
no_rest c log was is = subst (λ p. IsIn p (records log).rest) is was.part

first_kind : (b : ℕ) → kind_of (b ∷ []) ≡ kind_named b
unfolding kind_of
first_kind b = refl

begin_refusal : (c : Copying) (log : List ℕ) (b : ℕ) → IsCopyOf c log → 8 ≤ c.at → c.part ≡ parts.Between → unconverted_at log b ≡ refused_begin c (kind_named b)
begin_refusal c log b was h is =
    let long = long_copy c log was h in
    refusal_by log (b ∷ []) b true false (kind_named b) (allows_length (header_by log).version (kind_named b) (body_length (b ∷ []))) long
    (ap (λ (l : List ℕ). l ++ b ∷ []) (no_rest c log was is)) refl refl (first_kind b) refl
    ∙ by (kind_named b)
  where
    by : (kind : Option RecordKind) → first_that_applies (lines true false kind (allows_length (header_by log).version (kind_named b) (body_length (b ∷ []))) (has_open_connection (events log)) (header_by log).releases
        (nat_lt 4294967295 (length (records log).whole + 1)) (length log)) ≡ refused_begin c kind
    by None = ap (λ n. Some (refusals.Kind n)) (sym was.at)
    by (Some kind) =
        ap (λ n. first_that_applies (lines true false (Some kind) true (has_open_connection (events log)) (header_by log).releases (nat_lt 4294967295 (length (records log).whole + 1)) n)) (sym was.at)
        ∙ ap (λ t. first_that_applies (lines true false (Some kind) true t (header_by log).releases (nat_lt 4294967295 (length (records log).whole + 1)) c.at)) (sym was.connected)
        ∙ ap (λ (t : Header). first_that_applies (lines true false (Some kind) true c.connected t.releases (nat_lt 4294967295 (length (records log).whole + 1)) c.at)) (sym was.header)
        ∙ ap (λ n. first_that_applies (lines true false (Some kind) true c.connected c.header.releases (nat_lt 4294967295 (n + 1)) c.at)) (sym was.whole)

pub begins_refused : (c : Copying) (log : List ℕ) (b : ℕ) (refusal : Refusal) → IsCopyOf c log → 8 ≤ c.at → c.part ≡ parts.Between → refused_begin c (kind_named b) ≡ Some refusal
    → unconverted_at log b ≡ Some refusal
begins_refused c log b refusal was h is met = begin_refusal c log b was h is ∙ met

pub begins_copied : (c c' : Copying) (log : List ℕ) (b : ℕ) (addition : Addition) → IsCopyOf c log → 8 ≤ c.at → c.part ≡ parts.Between → BeginsCopy c c' b addition
    → IsCopyOf c' (log ++ b ∷ []) × Adds log (b ∷ []) (added_bytes addition)
begins_copied c c' log b addition was h is begins =
    let long = long_copy c log was h in
    let nothing = no_rest c log was is in
    let empty : length (records log).rest ≡ 0 = ap length nothing in
    let none : unconverted_at log b ≡ None = begin_refusal c log b was h is ∙ ap (refused_begin c) begins.named ∙ begins.unrefused in
    let d = context log in
    let at : 8 ≤ d.at = subst (λ n. 8 ≤ n) (sym (at_context log)) long in
    let front : (records log).rest ++ b ∷ [] ≡ b ∷ [] = ap (λ (l : List ℕ). l ++ b ∷ []) nothing in
    let ahead = first_ahead c log was long in (
      subst (λ (x : Copying). IsCopyOf x (log ++ b ∷ [])) (sym begins.is) (copies_on c (in_length c begins.kind 0 0) log b false (has_open_connection (events log)) was
          (record {
            long = long;
            unrefused = none;
            ends = ap (λ (l : List ℕ). is_some (record_size (ahead_in log) l)) front ∙ none_whole (ahead_in log) (b ∷ []) (omega arith);
            opened = connected_grow log b None long (first_event d b at (part_context log ∙ nothing)) ∙ ap (λ (x : Context). x.connected) (kept_parts log);
          })
          refl refl refl was.connected
          (subst (IsIn (parts.Head begins.kind 0 0)) (sym front) (b, [], refl, first_kind b ∙ begins.named, refl, refl))),
      subst (λ a. Adds log (b ∷ []) (added_bytes a)) (sym begins.adds) (adds_byte log b false long (ne_eqb (length (records log).rest) 4 (λ e. omega arith))),
    )

pub begin_ok : (c c' : Copying) (log : List ℕ) (b : ℕ) (result : Result Addition Refusal) → IsCopyOf c log → 8 ≤ c.at → c.part ≡ parts.Between → IfOk result (BeginsCopy c c' b)
    → IfOk result (λ addition. IsCopyOf c' (log ++ b ∷ []) × Adds log (b ∷ []) (added_bytes addition))
begin_ok c c' log b (Ok addition) was h is begins = begins_copied c c' log b addition was h is begins
begin_ok c c' log b (Err refusal) was h is begins = tt

pub begin_err : (c c' : Copying) (log : List ℕ) (b : ℕ) (result : Result Addition Refusal) → IsCopyOf c log → 8 ≤ c.at → c.part ≡ parts.Between
    → IfErr result (λ refusal. (refused_begin c (kind_named b) ≡ Some refusal) × (c' ≡ c)) → IfErr result (λ refusal. unconverted_at log b ≡ Some refusal)
begin_err c c' log b (Ok addition) was h is met = tt
begin_err c c' log b (Err refusal) was h is met = begins_refused c log b refusal was h is met.0

-- ---- the length of a record

module _ (c : Copying) (log : List ℕ) (b : ℕ) (kind : RecordKind) (count number : ℕ) (was : IsCopyOf c log) (past : 8 ≤ c.at) (within : c.part ≡ parts.Head kind count number) where
  abbrev part : List ℕ
  part = (records log).rest ++ b ∷ []

  stands : IsHead (head_of kind count number) (records log).rest
  stands = subst (λ p. IsIn p (records log).rest) within was.part

  long : 8 ≤ length log
  long = long_copy c log was past

  at : 8 ≤ (context log).at
  at = subst (λ n. 8 ≤ n) (sym (at_context log)) long

  ahead : ahead_in log ≡ 5
  ahead = first_ahead c log was long

  rest_long : length (records log).rest ≡ count + 1
  rest_long = let n = head_size kind count number (records log).rest stands in omega arith

  part_long : length part ≡ count + 2
  part_long = length-append (records log).rest (b ∷ []) ∙ (let r = rest_long in omega arith)

  kind_now : kind_of part ≡ Some kind
  kind_now = kind_of-append (records log).rest (b ∷ []) (let r = rest_long in omega arith) ∙ stands.3

  kept_long : length (context log).part ≡ count + 1
  kept_long = ap length (part_context log) ∙ rest_long

  -- before its last byte
  unrefused_more : count < 3 → unconverted_at log b ≡ None
  unrefused_more few =
      let p = part_long in
      refusal_by log part b false false (Some kind) (allows_length (header_by log).version (Some kind) (body_length part)) long refl
      (ne_eqb (length part) 1 (λ e. omega arith)) (ne_eqb (length part) length_end (λ e. omega arith)) kind_now refl

  pub extends_copied : count < 3 → IsCopyOf (in_length c kind (count + 1) (number * 256 + b)) (log ++ b ∷ []) × Adds log (b ∷ []) (b ∷ [])
  extends_copied few =
      let p = part_long in
      let r = rest_long in
      let k = kept_long in
      let d_ahead : ahead_of (context log) ≡ 5 = ap (λ (t : Header). head_length t.version) (header_context log) ∙ ahead in (
        copies_on c (in_length c kind (count + 1) (number * 256 + b)) log b false (has_open_connection (events log)) was
            (record {
              long = long;
              unrefused = unrefused_more few;
              ends = none_whole (ahead_in log) part (omega (arith, ahead));
              opened = connected_grow log b None long (middle_event (context log) b at (omega (arith, d_ahead))) ∙ ap (λ (x : Context). x.connected) (kept_parts log);
            })
            refl refl refl was.connected
            (longer_head kind count number b (records log).rest stands),
        adds_byte log b false long (ne_eqb (length (records log).rest) 4 (λ e. omega arith)),
      )

  -- at its last byte
  length_is : count ≡ 3 → body_length part ≡ number * 256 + b
  length_is last = whole_length kind count number b (records log).rest last stands

  refusal_last : count ≡ 3 → (allowed : Bool) → allows_length 1 (Some kind) (number * 256 + b) ≡ allowed → unconverted_at log b ≡ cond allowed None (Some (refusals.Length (length log)))
  refusal_last last allowed is =
      let p = part_long in
      refusal_by log part b false true (Some kind) allowed long refl
      (ne_eqb (length part) 1 (λ e. omega arith)) (eq-eqb (length part) length_end (omega arith)) kind_now
      (ap (λ v. allows_length v (Some kind) (body_length part)) (was.first (let h = long in omega arith)) ∙ ap (allows_length 1 (Some kind)) (length_is last) ∙ is)
      ∙ by allowed
    where
      by : (t : Bool) → first_that_applies (lines false true (Some kind) t (has_open_connection (events log)) (header_by log).releases (nat_lt 4294967295 (length (records log).whole + 1)) (length log)) ≡ cond t None (Some (refusals.Length (length log)))
      by true = refl
      by false = refl

  pub length_refused : count ≡ 3 → allows_length 1 (Some kind) (number * 256 + b) ≡ false → unconverted_at log b ≡ Some (refusals.Length c.at)
  length_refused last barred = refusal_last last false barred ∙ ap (λ n. Some (refusals.Length n)) (sym was.at)

  size_is : count ≡ 3 → is_some (record_size (ahead_in log) part) ≡ (number * 256 + b == 0)
  size_is last =
      let p = part_long in
      ap (λ n. is_some (record_size n part)) ahead
      ∙ headed_record 5 part (omega arith)
      ∙ by (number * 256 + b == 0) refl
    where
      by : (t : Bool) → (number * 256 + b == 0) ≡ t → nat_le (5 + body_length part) (length part) ≡ t
      by true e = let p = part_long in let n = eqb-true (number * 256 + b) 0 e in let l = length_is last in le-leb (5 + body_length part) (length part) (omega arith)
      by false e = let p = part_long in let n = eqb-false (number * 256 + b) 0 e in let l = length_is last in lt-leb (5 + body_length part) (length part) (omega (arith, n))

  connects : count ≡ 3 → has_open_connection (events (log ++ b ∷ [])) ≡ connected_after kind (has_open_connection (events log))
  connects last =
      let k = kept_long in
      let d_ahead : ahead_of (context log) ≡ 5 = ap (λ (t : Header). head_length t.version) (header_context log) ∙ ahead in
      connected_grow log b (event_of_head (unfinished_of (context log)) kind) long (last_event (context log) b kind at (omega (arith, d_ahead)) (ap kind_of (part_context log) ∙ stands.3))
      ∙ by kind
      ∙ ap (λ (x : Context). connected_after kind x.connected) (kept_parts log)
    where
      by : (k : RecordKind) → (with_completed (context log) (event_of_head (unfinished_of (context log)) k)).connected ≡ connected_after k (context log).connected
      by kinds.Open = refl
      by kinds.Close = refl
      by kinds.Rest = refl
      by kinds.Release = refl
      by kinds.Sent = refl
      by kinds.Recv = refl

  has_body_of : (k : RecordKind) (n : ℕ) → allows_length 1 (Some k) n ≡ true → (n == 0) ≡ false → has_body (Some k) ≡ true
  has_body_of kinds.Open n allowed some = absurd (let e = eqb-true n 0 allowed in eqb-false n 0 some e)
  has_body_of kinds.Close n allowed some = absurd (let e = eqb-true n 0 allowed in eqb-false n 0 some e)
  has_body_of kinds.Rest n allowed some = absurd (let e = eqb-true n 0 allowed in eqb-false n 0 some e)
  has_body_of kinds.Release n allowed some = refl
  has_body_of kinds.Sent n allowed some = refl
  has_body_of kinds.Recv n allowed some = refl

  pub length_copied : count ≡ 3 → allows_length 1 (Some kind) (number * 256 + b) ≡ true → IsCopyOf (past_length c kind (number * 256 + b)) (log ++ b ∷ []) × Adds log (b ∷ []) (b ∷ no_moment)
  length_copied last allowed =
      let r = rest_long in
      let p = part_long in (
        copies_on c (past_length c kind (number * 256 + b)) log b (number * 256 + b == 0) (connected_after kind (has_open_connection (events log))) was
            (record { long = long; unrefused = refusal_last last true allowed; ends = size_is last; opened = connects last })
            refl refl (as_cond (number * 256 + b == 0)) (ap (connected_after kind) was.connected)
            (ends_in (number * 256 + b == 0) refl),
        adds_byte log b true long (eq-eqb (length (records log).rest) 4 (omega arith)),
      )
    where
      as_cond : (t : Bool) → (if t then c.records + 1 else c.records) ≡ cond t (c.records + 1) c.records
      as_cond true = refl
      as_cond false = refl

      ends_in : (t : Bool) → (number * 256 + b == 0) ≡ t → IsIn (if t then parts.Between else parts.Body (number * 256 + b)) (cond t [] part)
      ends_in true e = refl
      ends_in false e =
          let p = part_long in
          let n = eqb-false (number * 256 + b) 0 e in
          let l = length_is last in
          (omega arith, omega arith, omega (arith, n), ap has_body kind_now ∙ has_body_of kind (number * 256 + b) allowed e)

pub extend_ok : (c c' : Copying) (log : List ℕ) (b : ℕ) (kind : RecordKind) (count number : ℕ) (result : Result Addition Refusal) → IsCopyOf c log → 8 ≤ c.at → c.part ≡ parts.Head kind count number → count ≤ 3
    → (count < 3 → IfOk result (λ addition. (c' ≡ in_length c kind (count + 1) (number * 256 + b)) × (addition ≡ additions.Byte b)))
    → (count ≡ 3 → IfOk result (λ addition. (allows_length 1 (Some kind) (number * 256 + b) ≡ true) × (c' ≡ past_length c kind (number * 256 + b)) × (addition ≡ additions.Moment b)))
    → IfOk result (λ addition. IsCopyOf c' (log ++ b ∷ []) × Adds log (b ∷ []) (added_bytes addition))
extend_ok c c' log b kind count number (Err refusal) was past within few more last = tt
extend_ok c c' log b kind count number (Ok addition) was past within few more last = by (count == 3) refl
  where
    by : (t : Bool) → (count == 3) ≡ t → IsCopyOf c' (log ++ b ∷ []) × Adds log (b ∷ []) (added_bytes addition)
    by true e =
        let three = eqb-true count 3 e in
        let is = last three in
        let copied = length_copied c log b kind count number was past within three is.0 in
        (subst (λ (x : Copying). IsCopyOf x (log ++ b ∷ [])) (sym is.1) copied.0, subst (λ a. Adds log (b ∷ []) (added_bytes a)) (sym is.2) copied.1)
    by false e =
        let other = eqb-false count 3 e in
        let less : count < 3 = omega (arith, other) in
        let is = more less in
        let copied = extends_copied c log b kind count number was past within less in
        (subst (λ (x : Copying). IsCopyOf x (log ++ b ∷ [])) (sym is.0) copied.0, subst (λ a. Adds log (b ∷ []) (added_bytes a)) (sym is.1) copied.1)

pub extend_err : (c c' : Copying) (log : List ℕ) (b : ℕ) (kind : RecordKind) (count number : ℕ) (result : Result Addition Refusal) → IsCopyOf c log → 8 ≤ c.at → c.part ≡ parts.Head kind count number
    → IfErr result (λ refusal. (count ≡ 3) × (allows_length 1 (Some kind) (number * 256 + b) ≡ false) × (refusal ≡ refusals.Length c.at) × (c' ≡ c))
    → IfErr result (λ refusal. unconverted_at log b ≡ Some refusal)
extend_err c c' log b kind count number (Ok addition) was past within met = tt
extend_err c c' log b kind count number (Err refusal) was past within met =
    length_refused c log b kind count number was past within met.0 met.1 ∙ ap Some (sym met.2)

-- ---- bytes of a body

body_event : (unfinished : UnfinishedPackets) (ahead : ℕ) (kind : Option RecordKind) (part so_far : List ℕ) (d : Context) → has_body kind ≡ true → (with_completed d (event_by unfinished ahead kind part so_far)).connected ≡ d.connected
body_event unfinished head None q so_far d some = refl
body_event unfinished head (Some kinds.Open) q so_far d some = absurd (eqb-false 0 0 (sym some) refl)
body_event unfinished head (Some kinds.Close) q so_far d some = absurd (eqb-false 0 0 (sym some) refl)
body_event unfinished head (Some kinds.Rest) q so_far d some = absurd (eqb-false 0 0 (sym some) refl)
body_event unfinished head (Some kinds.Release) q so_far d some = by (length q == head + 2)
  where
    by : (t : Bool) → (with_completed d (if t then Some (released (from_be_bytes w16 (drop head q))) else None)).connected ≡ d.connected
    by true = refl
    by false = refl
body_event unfinished head (Some kinds.Sent) q so_far d some = by (item_at so_far)
  where
    by : (item : Option Item) → (with_completed d (option_map sent item)).connected ≡ d.connected
    by None = refl
    by (Some item) = refl
body_event unfinished head (Some kinds.Recv) q so_far d some = by (item_at so_far)
  where
    by : (item : Option Item) → (with_completed d (option_map received item)).connected ≡ d.connected
    by None = refl
    by (Some item) = refl

event_is : (d : Context) (b : ℕ) → 8 ≤ d.at → event_for d b ≡ event_by (unfinished_of d) (ahead_of d) (kind_of (d.part ++ b ∷ [])) (d.part ++ b ∷ []) (so_far_for d b)
unfolding event_for event_in
event_is d b h = ap (λ t. if t then None else event_in (unfinished_of d) (ahead_of d) (d.part ++ b ∷ []) (so_far_for d b)) (le-ltb d.at 8 h)

-- one byte of it
pub body_copied : (c : Copying) (log : List ℕ) (left b : ℕ) → IsCopyOf c log → 8 ≤ c.at → c.part ≡ parts.Body left → IsCopyOf (past_body c left 1) (log ++ b ∷ []) × Adds log (b ∷ []) (b ∷ [])
body_copied c log left b was past within =
    let h : IsIn (parts.Body left) (records log).rest = subst (λ p. IsIn p (records log).rest) within was.part in
    let part : List ℕ = (records log).rest ++ b ∷ [] in
    let long = long_copy c log was past in
    let at : 8 ≤ (context log).at = subst (λ n. 8 ≤ n) (sym (at_context log)) long in
    let l = length-append (records log).rest (b ∷ []) in
    let some = h.0 in
    let all = h.1 in
    let more = h.2 in
    let kind_now : kind_of part ≡ kind_of (records log).rest = kind_of-append (records log).rest (b ∷ []) (omega arith) in
    let body_now : body_length part ≡ body_length (records log).rest = body_length-append (records log).rest (b ∷ []) some in
    let ahead = first_ahead c log was long in
    let ends : is_some (record_size (ahead_in log) part) ≡ (left == 1) =
    ap (λ n. is_some (record_size n part)) ahead ∙ headed_record 5 part (omega arith) ∙ whole_by part left more (omega arith) in (
      copies_on c (past_body c left 1) log b (left == 1) (has_open_connection (events log)) was
          (record {
            long = long;
            unrefused = refusal_by log part b false false (kind_of part) (allows_length (header_by log).version (kind_of part) (body_length part)) long refl
                (ne_eqb (length part) 1 (λ e. omega arith)) (ne_eqb (length part) length_end (λ e. omega arith)) refl refl;
            ends = ends;
            opened = connected_grow log b _ long (event_is (context log) b at)
                ∙ body_event (unfinished_of (context log)) (ahead_of (context log)) (kind_of ((context log).part ++ b ∷ [])) ((context log).part ++ b ∷ []) (so_far_for (context log) b) (context log)
                (ap (λ (q : List ℕ). has_body (kind_of (q ++ b ∷ []))) (part_context log) ∙ ap has_body kind_now ∙ h.3)
                ∙ ap (λ (x : Context). x.connected) (kept_parts log);
          })
          refl refl (as_cond (left == 1) c.records) was.connected
          (stands_in (left == 1) refl part (omega arith) (omega arith) more (ap has_body kind_now ∙ h.3)),
      adds_byte log b false long (ne_eqb (length (records log).rest) 4 (λ e. omega arith)),
    )
  where
    as_cond : (t : Bool) (n : ℕ) → (if t then n + 1 else n) ≡ cond t (n + 1) n
    as_cond true n = refl
    as_cond false n = refl

    whole_by : (part : List ℕ) (left : ℕ) → 1 ≤ left → length part + left ≡ 5 + body_length part + 1 → nat_le (5 + body_length part) (length part) ≡ (left == 1)
    whole_by part left more e = by (left == 1) refl
      where
        by : (t : Bool) → (left == 1) ≡ t → nat_le (5 + body_length part) (length part) ≡ t
        by true is = let n = eqb-true left 1 is in le-leb (5 + body_length part) (length part) (omega arith)
        by false is = let n = eqb-false left 1 is in lt-leb (5 + body_length part) (length part) (omega (arith, n, more))

    stands_in : (t : Bool) → (left == 1) ≡ t → (part : List ℕ) → length_end ≤ length part → length part + left ≡ length_end + body_length part + 1 → 1 ≤ left → has_body (kind_of part) ≡ true
        → IsIn (if t then parts.Between else parts.Body (left - 1)) (cond t [] part)
    stands_in true is part head all more body = refl
    stands_in false is part head all more body = let n = eqb-false left 1 is in (head, omega (arith, n, more, all), omega (arith, n, more), body)

-- ---- the header

none_if : (t : Bool) (refusal : Refusal) → (if t then None else Some refusal) ≡ None → t ≡ true
none_if true refusal e = refl
none_if false refusal e = absurd (eqb-false 0 0 (ap is_some e) refl)

header_unconverted : (log : List ℕ) (b : ℕ) → length log < 8 → unconverted_at log b ≡ first_version_refusal (length log) b
unfolding unconverted_at
header_unconverted log b h = ap (λ t. if t then first_version_refusal (length log) b else first_that_applies (record_conditions (situation log b))) (lt-ltb (length log) 8 h)

-- one byte less of the header
less : (log : List ℕ) (b : ℕ) → length log < 8 → unconverted (log ++ b ∷ []) ≡ None → (unconverted log ≡ None) × (first_version_refusal (length log) b ≡ None)
less log b h none =
    let p = option_parts (unconverted log) (unconverted_at log b) (sym (unconverted-grow log b) ∙ none) in
    (p.0, sym (header_unconverted log b h) ∙ p.1)

is_bit : (byte : ℕ) (refusal : Refusal) → (if nat_lt byte 2 then None else Some refusal) ≡ None → byte ≡ bit_byte (byte == 1)
is_bit byte refusal none = by (byte == 1) refl
  where
    by : (t : Bool) → (byte == 1) ≡ t → byte ≡ bit_byte t
    by true e = eqb-true byte 1 e
    by false e = let n = eqb-false byte 1 e in let l = ltb-true byte 2 (none_if (nat_lt byte 2) refusal none) in omega (arith, n, l)

header_written : (log : List ℕ) → length log ≡ 8 → unconverted log ≡ None → timed log ≡ header_bytes (record { version = 2; server = (header_by log).server; releases = (header_by log).releases })
unfolding header_refusal with_moment
header_written [] e none = absurd (omega arith)
header_written (a ∷ []) e none = absurd (omega arith)
header_written (a ∷ b ∷ []) e none = absurd (omega arith)
header_written (a ∷ b ∷ c ∷ []) e none = absurd (omega arith)
header_written (a ∷ b ∷ c ∷ d ∷ []) e none = absurd (omega arith)
header_written (a ∷ b ∷ c ∷ d ∷ v ∷ []) e none = absurd (omega arith)
header_written (a ∷ b ∷ c ∷ d ∷ v ∷ f ∷ []) e none = absurd (omega arith)
header_written (a ∷ b ∷ c ∷ d ∷ v ∷ f ∷ g ∷ []) e none = absurd (omega arith)
header_written (a ∷ b ∷ c ∷ d ∷ v ∷ f ∷ g ∷ i ∷ j ∷ log) e none = absurd (omega arith)
header_written (a ∷ b ∷ c ∷ d ∷ v ∷ f ∷ g ∷ i ∷ []) e none =
    let log : List ℕ = a ∷ b ∷ c ∷ d ∷ v ∷ f ∷ g ∷ i ∷ [] in
    let s7 = less (a ∷ b ∷ c ∷ d ∷ v ∷ f ∷ g ∷ []) i (omega arith) none in
    let s6 = less (a ∷ b ∷ c ∷ d ∷ v ∷ f ∷ []) g (omega arith) s7.0 in
    let s5 = less (a ∷ b ∷ c ∷ d ∷ v ∷ []) f (omega arith) s6.0 in
    let s4 = less (a ∷ b ∷ c ∷ d ∷ []) v (omega arith) s5.0 in
    let s3 = less (a ∷ b ∷ c ∷ []) d (omega arith) s4.0 in
    let s2 = less (a ∷ b ∷ []) c (omega arith) s3.0 in
    let s1 = less (a ∷ []) b (omega arith) s2.0 in
    let s0 = less [] a (omega arith) s1.0 in
    let m : a ≡ 77 = eqb-true a 77 (none_if (a == 77) (refusals.Header 0) s0.1) in
    let q : b ≡ 81 = eqb-true b 81 (none_if (b == 81) (refusals.Header 1) s1.1) in
    let t : c ≡ 84 = eqb-true c 84 (none_if (c == 84) (refusals.Header 2) s2.1) in
    let r : d ≡ 82 = eqb-true d 82 (none_if (d == 82) (refusals.Header 3) s3.1) in
    let z : i ≡ 0 = eqb-true i 0 (none_if (i == 0) (refusals.Flags 7) s7.1) in
    timed_known log (omega arith)
    ∙ ap (λ (p : Pieces). second_header log ++ (flat_map with_moment p.whole ++ with_moment p.rest)) (records-header log (omega arith))
    ∙ ap (λ n. n ∷ b ∷ c ∷ d ∷ 2 ∷ f ∷ g ∷ i ∷ []) m
    ∙ ap (λ n. 77 ∷ n ∷ c ∷ d ∷ 2 ∷ f ∷ g ∷ i ∷ []) q
    ∙ ap (λ n. 77 ∷ 81 ∷ n ∷ d ∷ 2 ∷ f ∷ g ∷ i ∷ []) t
    ∙ ap (λ n. 77 ∷ 81 ∷ 84 ∷ n ∷ 2 ∷ f ∷ g ∷ i ∷ []) r
    ∙ ap (λ n. 77 ∷ 81 ∷ 84 ∷ 82 ∷ 2 ∷ n ∷ g ∷ i ∷ []) (is_bit f (refusals.Role 5) s5.1)
    ∙ ap (λ n. 77 ∷ 81 ∷ 84 ∷ 82 ∷ 2 ∷ bit_byte (f == 1) ∷ n ∷ i ∷ []) (is_bit g (refusals.Flags 6) s6.1)
    ∙ ap (λ n. 77 ∷ 81 ∷ 84 ∷ 82 ∷ 2 ∷ bit_byte (f == 1) ∷ bit_byte (g == 1) ∷ n ∷ []) z

-- nothing is written before the header is whole
pub unwritten : (log : List ℕ) → length log < 8 → timed log ≡ []
unfolding timed
unwritten log h = ap (λ t. if t then [] else second_header log ++ (flat_map with_moment (records log).whole ++ with_moment (records log).rest)) (lt-ltb (length log) 8 h)

-- the header of a log with one byte more
header_grown : (log : List ℕ) (b : ℕ) → length log < 8 → header_by (log ++ b ∷ []) ≡ record {
  version = if length log == 4 then b else (header_by log).version;
  server = if length log == 5 then b == 1 else (header_by log).server;
  releases = if length log == 6 then b == 1 else (header_by log).releases;
}
unfolding context
header_grown log b h =
    ap (λ (c : Context). c.header) (context-grow log b ∙ header_after (context log) b (subst (λ n. n < 8) (sym (at_context log)) h))

pub header_copied : (c : Copying) (log : List ℕ) (b : ℕ) → IsCopyOf c log → c.at < 8 → first_version_refusal c.at b ≡ None
    → IsCopyOf (past_header_byte c b) (log ++ b ∷ []) × Adds log (b ∷ []) (added_bytes (header_addition (past_header_byte c b)))
header_copied c log b was early none =
    let h : length log < 8 = subst (λ n. n < 8) was.at early in
    let l = length-append log (b ∷ []) in
    let next = header_grown log b h in
    let none_here : first_version_refusal (length log) b ≡ None = ap (λ n. first_version_refusal n b) (sym was.at) ∙ none in
    let before : (records log).rest ≡ [] = ap (λ (p : Pieces). p.rest) (records-header log (omega arith)) in
    let there : records (log ++ b ∷ []) ≡ record { whole = []; rest = [] } = records-header (log ++ b ∷ []) (omega arith) in
    let header_is : (past_header_byte c b).header ≡ header_by (log ++ b ∷ []) = rw (was.at, was.header) (sym next) in
    let unrefused : unconverted (log ++ b ∷ []) ≡ None =
    unconverted-grow log b ∙ both_none (unconverted log) (unconverted_at log b) was.unrefused (header_unconverted log b h ∙ none_here) in (
      record {
        unrefused = unrefused;
        at = ap (λ n. n + 1) was.at ∙ sym l;
        header = header_is;
        first = λ more. ap (λ (t : Header). t.version) next ∙ version (length log == 4) refl none_here (omega (arith, more, l));
        whole = was.whole ∙ ap (λ (p : Pieces). length p.whole) (records-header log (omega arith) ∙ sym there);
        connected = was.connected ∙ ap has_open_connection (events-header log (omega arith) ∙ sym (events-header (log ++ b ∷ []) (omega arith)));
        part = subst (λ (p : Pieces). IsIn c.part p.rest) (records-header log (omega arith) ∙ sym there) was.part;
      },
      adds (length log + 1 == 8) refl header_is unrefused,
    )
  where
    version : (t : Bool) → (length log == 4) ≡ t → first_version_refusal (length log) b ≡ None → 4 ≤ length log → (if t then b else (header_by log).version) ≡ 1
    version true is none more =
        eqb-true b 1 (none_if (b == 1) (refusals.Version (length log)) (sym (ap (λ t. if t then (if b == 1 then None else Some (refusals.Version (length log))) else header_refusal (length log) b) is) ∙ none))
    version false is none more = let n = eqb-false (length log) 4 is in was.first (omega (arith, n, more))

    adds : (t : Bool) → (length log + 1 == 8) ≡ t → (past_header_byte c b).header ≡ header_by (log ++ b ∷ []) → unconverted (log ++ b ∷ []) ≡ None
        → Adds log (b ∷ []) (added_bytes (header_addition (past_header_byte c b)))
    adds true is header_is unrefused =
        let whole = eqb-true (length log + 1) 8 is in
        let l = length-append log (b ∷ []) in
        header_written (log ++ b ∷ []) (omega arith) unrefused
        ∙ ap (λ (t : Header). header_bytes (record { version = 2; server = t.server; releases = t.releases })) (sym header_is)
        ∙ ap (λ t. added_bytes (if t then additions.Header (record { version = 2; server = (past_header_byte c b).header.server; releases = (past_header_byte c b).header.releases }) else additions.Nothing))
        (sym (ap (λ n. n + 1 == 8) was.at ∙ is))
        ∙ ap (λ (l : List ℕ). l ++ added_bytes (header_addition (past_header_byte c b))) (sym (unwritten log (omega arith)))
    adds false is header_is unrefused =
        let some = eqb-false (length log + 1) 8 is in
        let l = length-append log (b ∷ []) in
        let short : length log < 8 = subst (λ n. n < 8) was.at early in
        unwritten (log ++ b ∷ []) (omega (arith, some, short))
        ∙ ap (λ t. added_bytes (if t then additions.Header (record { version = 2; server = (past_header_byte c b).header.server; releases = (past_header_byte c b).header.releases }) else additions.Nothing))
        (sym (ap (λ n. n + 1 == 8) was.at ∙ is))
        ∙ ap (λ (l : List ℕ). l ++ added_bytes (header_addition (past_header_byte c b))) (sym (unwritten log short))

pub header_ok : (c c' : Copying) (log : List ℕ) (b : ℕ) (result : Result Addition Refusal) → IsCopyOf c log → c.at < 8
    → IfOk result (λ addition. (first_version_refusal c.at b ≡ None) × (c' ≡ past_header_byte c b) × (addition ≡ header_addition c'))
    → IfOk result (λ addition. IsCopyOf c' (log ++ b ∷ []) × Adds log (b ∷ []) (added_bytes addition))
header_ok c c' log b (Err refusal) was early kept = tt
header_ok c c' log b (Ok addition) was early kept =
    let copied = header_copied c log b was early kept.0 in (
      subst (λ (x : Copying). IsCopyOf x (log ++ b ∷ [])) (sym kept.1) copied.0,
      subst (λ a. Adds log (b ∷ []) (added_bytes a)) (sym (kept.2 ∙ ap header_addition kept.1)) copied.1,
    )

pub header_err : (c c' : Copying) (log : List ℕ) (b : ℕ) (result : Result Addition Refusal) → IsCopyOf c log → c.at < 8
    → IfErr result (λ refusal. (first_version_refusal c.at b ≡ Some refusal) × (c' ≡ c)) → IfErr result (λ refusal. unconverted_at log b ≡ Some refusal)
header_err c c' log b (Ok addition) was early met = tt
header_err c c' log b (Err refusal) was early met =
    header_unconverted log b (subst (λ n. n < 8) was.at early) ∙ ap (λ n. first_version_refusal n b) (sym was.at) ∙ met.0

-- ---- what is kept stays within its bounds

allowed_most : (kind : RecordKind) (n : ℕ) → allows_length 1 (Some kind) n ≡ true → n ≤ 1048576
unfolding longest_body
allowed_most kinds.Open n allowed = let e = eqb-true n 0 allowed in omega arith
allowed_most kinds.Close n allowed = let e = eqb-true n 0 allowed in omega arith
allowed_most kinds.Rest n allowed = let e = eqb-true n 0 allowed in omega arith
allowed_most kinds.Release n allowed = let e = eqb-true n 2 allowed in omega arith
allowed_most kinds.Sent n allowed = leb-true n 1048576 allowed
allowed_most kinds.Recv n allowed = leb-true n 1048576 allowed

pub past_length_sound : (c : Copying) (kind : RecordKind) (count number n : ℕ) → IsSound c → c.part ≡ parts.Head kind count number → count ≡ 3 → allows_length 1 (Some kind) n ≡ true → IsSound (past_length c kind n)
past_length_sound c kind count number n sound within last allowed = by (n == 0) refl
  where
    some : begun_in c.part ≡ 1 + count
    some = ap begun_in within

    by : (t : Bool) → (n == 0) ≡ t → IsSound (record c { at = c.at + 1; records = if t then c.records + 1 else c.records; connected = connected_after kind c.connected; part = if t then parts.Between else parts.Body n })
    by true e =
        let few = sound.begun (let s = some in omega arith) in
        let past = sound.past_header (let s = some in omega arith) in
        let counted = sound.counted in
        record {
          counted = (let s = some in omega arith);
          few = omega arith;
          begun = λ h. absurd (omega (arith, h));
          within = tt;
          past_header = λ h. absurd (omega (arith, h));
          header_first = λ h. absurd (omega (arith, h, past));
        }
    by false e =
        let few = sound.begun (let s = some in omega arith) in
        let past = sound.past_header (let s = some in omega arith) in
        let counted = sound.counted in
        let most = allowed_most kind n allowed in
        let least = eqb-false n 0 e in
        record {
          counted = (let s = some in omega (arith, most));
          few = sound.few;
          begun = λ h. few;
          within = (omega (arith, least), most);
          past_header = λ h. omega (arith, past);
          header_first = λ h. absurd (omega (arith, h, past));
        }

pub longer_sound : (c : Copying) (kind : RecordKind) (count number b : ℕ) → IsSound c → c.part ≡ parts.Head kind count number → count < 3 → b < 256 → IsSound (in_length c kind (count + 1) (number * 256 + b))
longer_sound c kind count number b sound within less byte =
    let some : begun_in c.part ≡ 1 + count = ap begun_in within in
    let few = sound.begun (omega arith) in
    let past = sound.past_header (omega arith) in
    record {
      counted = omega (arith, sound.counted);
      few = sound.few;
      begun = λ h. few;
      within = longer_within kind count number b (subst IsWithin within sound.within) less byte;
      past_header = λ h. omega arith;
      header_first = λ h. absurd (omega arith);
    }

-- ---- the whole of a log

pub copy_nothing : IsCopyOf (record { at = 0; header = record { version = 0; server = false; releases = false }; records = 0; connected = false; part = parts.Between }) []
copy_nothing = record {
  unrefused = nothing_converted;
  at = refl;
  header = refl;
  first = λ more. absurd (omega (arith, more));
  whole = ap (λ (p : Pieces). length p.whole) (sym (records-header [] (omega arith)));
  connected = ap has_open_connection (sym (events-header [] (omega arith)));
  part = ap (λ (p : Pieces). p.rest) (records-header [] (omega arith));
}

begun_rest : (p : Part) (q : List ℕ) → IsIn p q → nat_lt 0 (length q) ≡ not (is_between p)
begun_rest parts.Between q h = ap (λ (l : List ℕ). nat_lt 0 (length l)) h
begun_rest (parts.Head kind count number) q h = lt-ltb 0 (length q) (let e : length q ≡ length (h.0 ∷ h.1) = ap length h.2 in omega (arith, e))
begun_rest (parts.Body left) q h = lt-ltb 0 (length q) (omega (arith, h.0))

pub ends_early : (c : Copying) (log : List ℕ) → IsCopyOf c log → c.at < 8 → true ≡ is_cut_short log
unfolding is_cut_short
ends_early c log was early = ap (λ t. t || nat_lt 0 (length (records log).rest)) (sym (ap (λ n. nat_lt n 8) (sym was.at) ∙ lt-ltb c.at 8 early))

pub ends_late : (c : Copying) (log : List ℕ) → IsCopyOf c log → 8 ≤ c.at → not (is_between c.part) ≡ is_cut_short log
unfolding is_cut_short
ends_late c log was late = sym (begun_rest c.part (records log).rest was.part) ∙ ap (λ t. t || nat_lt 0 (length (records log).rest)) (sym (ap (λ n. nat_lt n 8) (sym was.at) ∙ le-ltb c.at 8 late))

-- ---- many bytes of a body

past_twice : (c : Copying) (left m : ℕ) → 1 + m ≤ left → 1 ≤ m → past_body (past_body c left 1) (left - 1) m ≡ past_body c left (m + 1)
past_twice c left m few some =
    ap (λ t. past_body (record c { at = c.at + 1; records = if t then c.records + 1 else c.records; part = if t then parts.Between else parts.Body (left - 1) }) (left - 1) m)
    (ne_eqb left 1 (λ e. omega (arith, few, some, e)))
    ∙ ap (λ n. record c { at = n; records = if left - 1 == m then c.records + 1 else c.records; part = if left - 1 == m then parts.Between else parts.Body (left - 1 - m) }) (let e : c.at + 1 + m ≡ c.at + (m + 1) = omega arith in e)
    ∙ ap (λ t. record c { at = c.at + (m + 1); records = if t then c.records + 1 else c.records; part = if t then parts.Between else parts.Body (left - 1 - m) }) (same (left == m + 1) refl)
    ∙ ap (λ n. record c { at = c.at + (m + 1); records = if left == m + 1 then c.records + 1 else c.records; part = if left == m + 1 then parts.Between else parts.Body n }) (let e : left - 1 - m ≡ left - (m + 1) = omega arith in e)
  where
    same : (t : Bool) → (left == m + 1) ≡ t → (left - 1 == m) ≡ t
    same true e = let n = eqb-true left (m + 1) e in eq-eqb (left - 1) m (omega (arith, n))
    same false e = let n = eqb-false left (m + 1) e in ne_eqb (left - 1) m (λ h. n (omega (arith, h, few)))

pub bodies_copied : (bytes : List ℕ) (c : Copying) (log : List ℕ) (left : ℕ) → IsCopyOf c log → 8 ≤ c.at → c.part ≡ parts.Body left → 1 ≤ length bytes → length bytes ≤ left
    → IsCopyOf (past_body c left (length bytes)) (log ++ bytes) × Adds log bytes bytes
bodies_copied [] c log left was past within some few = absurd (omega arith)
bodies_copied (b ∷ rest) c log left was past within some few =
    let one = body_copied c log left b was past within in
    by (length rest == 0) refl (λ n inside. bodies_copied rest (past_body c left 1) (log ++ b ∷ []) (left - 1) one.0 (omega (arith, past)) inside (omega (arith, n)) (omega (arith, few)))
  where
    one : IsCopyOf (past_body c left 1) (log ++ b ∷ []) × Adds log (b ∷ []) (b ∷ [])
    one = body_copied c log left b was past within

    by : (t : Bool) → (length rest == 0) ≡ t
        → ((length rest ≡ 0 → ⊥) → (past_body c left 1).part ≡ parts.Body (left - 1)
        → IsCopyOf (past_body (past_body c left 1) (left - 1) (length rest)) ((log ++ b ∷ []) ++ rest) × Adds (log ++ b ∷ []) rest rest)
        → IsCopyOf (past_body c left (length (b ∷ rest))) (log ++ b ∷ rest) × Adds log (b ∷ rest) (b ∷ rest)
    by true e others = subst (λ (l : List ℕ). IsCopyOf (past_body c left (length (b ∷ l))) (log ++ b ∷ l) × Adds log (b ∷ l) (b ∷ l)) (sym (no_bytes rest (eqb-true (length rest) 0 e))) one
    by false e others =
        let n = eqb-false (length rest) 0 e in
        let inside : (past_body c left 1).part ≡ parts.Body (left - 1) = ap (λ t. if t then parts.Between else parts.Body (left - 1)) (ne_eqb left 1 (λ h. omega (arith, few, h, n))) in
        let next = others n inside in
        let whole : (log ++ b ∷ []) ++ rest ≡ log ++ b ∷ rest = append_assoc log (b ∷ []) rest in
        let count : length rest + 1 ≡ length (b ∷ rest) = omega arith in (
          subst (λ l. IsCopyOf (past_body c left (length (b ∷ rest))) l) whole
              (subst (λ (x : Copying). IsCopyOf x ((log ++ b ∷ []) ++ rest)) (past_twice c left (length rest) (omega (arith, few)) (omega (arith, n)) ∙ ap (past_body c left) count) next.0),
          ap timed (sym whole) ∙ next.1 ∙ ap (λ (l : List ℕ). l ++ rest) one.1 ∙ append_assoc (timed log) (b ∷ []) rest,
        )
