-- What one byte more does to the records of a log, and to what its directions carried.
use Rattle.std.proofs.Common.{◌≡◌, ℕ, ◌+◌, ◌<◌, ◌≤◌, Bool, true, false, cond, nat_lt, List, [], ◌∷◌, ◌++◌, length, drop, reverse, Option, Some, None, refl, sym, ◌∙◌, ap, arith, append_assoc, length-append, length-drop, is_some}
use Rattle.std.specs.Prelude.{◌==◌, nat_le, if◌then◌else◌, slice_index}
use Rattle.std.proofs.lemmas.List.{take-append-le, drop-append-le, reverse-append, length-reverse, drop_all, get_or_append_left}
use Rattle.std.proofs.lemmas.Bool.{ltb-true, ltb-false, le-ltb, leb-true, le-leb}
use Rattle.mq_log.specs.declared.kind.Direction.{Direction}
use Rattle.mq_log.specs.declared.kind.Direction.TheVariants as directions
use Rattle.mq_log.specs.declared.header.Header.{Header}
use Rattle.mq_log.specs.Pieces.{Pieces, pieces}
use Rattle.mq_log.specs.Framing.{kind_of, body_length, record_size, records, begun_records, begun_with, header_by, direction_of, opens, if_direction, carried, ahead_in, head_length, length_end}
use Rattle.mq_log.proofs.PiecesLaws.{Settles, grown, rest_none, pieces-grow, nothing_cut}

-- a head has a whole length
pub head_least : (version : ℕ) → length_end ≤ head_length version
unfolding head_length
head_least version = by (version == 2)
  where
    by : (b : Bool) → length_end ≤ (if b then 13 else length_end)
    by true = omega arith
    by false = omega arith

-- a record's length depends on no byte after its head
pub body_length-append : (a c : List ℕ) → length_end ≤ length a → body_length (a ++ c) ≡ body_length a
unfolding body_length
body_length-append a c h =
    let one : 1 ≤ length a = omega arith in
    let l = length-drop 1 a in
    let four : 4 ≤ length (drop 1 a) = omega arith in
    rw (drop-append-le 1 a c one, take-append-le 4 (drop 1 a) c four) refl

-- a record of this size, as the tests find it
abbrev size_if : Bool → Bool → ℕ → Option ℕ
size_if headless whole n = if headless then None else (if whole then Some n else None)

-- where a record's head has this length
module _ (ahead : ℕ) (least : length_end ≤ ahead) where
  pub record_size-from : (a : List ℕ) → ahead + body_length a ≤ length a → record_size ahead a ≡ Some (ahead + body_length a)
  unfolding record_size
  record_size-from a h =
      let there : ahead ≤ length a = omega arith in
      ap (λ b. size_if b (nat_le (ahead + body_length a) (length a)) (ahead + body_length a)) (le-ltb (length a) ahead there)
      ∙ ap (λ b. size_if false b (ahead + body_length a)) (le-leb (ahead + body_length a) (length a) h)

  -- what a whole record says of itself
  pub record IsRecord (a : List ℕ) (n : ℕ) : Type 0 where
    pub size : n ≡ ahead + body_length a
    pub within : ahead + body_length a ≤ length a

  pub record_size-is : (a : List ℕ) (n : ℕ) → record_size ahead a ≡ Some n → IsRecord a n
  unfolding record_size
  record_size-is a n h = go (nat_lt (length a) ahead) (nat_le (ahead + body_length a) (length a)) refl h
    where
      go : (b w : Bool) → nat_le (ahead + body_length a) (length a) ≡ w → size_if b w (ahead + body_length a) ≡ Some n → IsRecord a n
      go true w is e = absurd (cc)
      go false false is e = absurd (cc)
      go false true is e = let same : n ≡ ahead + body_length a = cc in record { size = same; within = leb-true (ahead + body_length a) (length a) is }

  record_stood : (a c : List ℕ) (n : ℕ) → record_size ahead (a ++ c) ≡ Some n → n ≤ length a → record_size ahead a ≡ Some n
  record_stood a c n h fits =
      let r = record_size-is (a ++ c) n h in
      let s = r.size in
      let five : length_end ≤ length a = omega arith in
      let same = body_length-append a c five in
      let within : ahead + body_length a ≤ length a = omega arith in
      record_size-from a within ∙ ap Some (ap (λ k. ahead + k) (sym same) ∙ sym s)

  record_stays : (a c : List ℕ) (n : ℕ) → record_size ahead a ≡ Some n → record_size ahead (a ++ c) ≡ Some n
  record_stays a c n h =
      let r = record_size-is a n h in
      let s = r.size in
      let w = r.within in
      let five : length_end ≤ length a = omega arith in
      let same = body_length-append a c five in
      let l = length-append a c in
      let within : ahead + body_length (a ++ c) ≤ length (a ++ c) = omega arith in
      record_size-from (a ++ c) within ∙ ap Some (ap (λ k. ahead + k) same ∙ sym s)

  record_bound : (a : List ℕ) (n : ℕ) → record_size ahead a ≡ Some n → (0 < n) × (n ≤ length a)
  record_bound a n h = let r = record_size-is a n h in let s = r.size in let w = r.within in (omega arith, omega arith)

  pub record_settles : Settles (record_size ahead)
  record_settles = record { bound = record_bound; stays = record_stays; back = record_stood }

-- what cutting a log into records rests on
abbrev pub cuts : (log : List ℕ) → Settles (record_size (ahead_in log))
cuts log = record_settles (ahead_in log) (head_least (header_by log).version)

-- the header of a log, with one byte more after it
pub header-unchanged : (log : List ℕ) (byte : ℕ) → 8 ≤ length log → header_by (log ++ byte ∷ []) ≡ header_by log
header-unchanged log byte h =
    ap (λ v. record { version = v; server = slice_index (log ++ byte ∷ []) 5 == 1; releases = slice_index (log ++ byte ∷ []) 6 == 1 }) (get_or_append_left log (byte ∷ []) 0 4 (omega arith))
    ∙ ap (λ n. record { version = slice_index log 4; server = n == 1; releases = slice_index (log ++ byte ∷ []) 6 == 1 }) (get_or_append_left log (byte ∷ []) 0 5 (omega arith))
    ∙ ap (λ n. record { version = slice_index log 4; server = slice_index log 5 == 1; releases = n == 1 }) (get_or_append_left log (byte ∷ []) 0 6 (omega arith))

pub ahead-unchanged : (log : List ℕ) (byte : ℕ) → 8 ≤ length log → ahead_in (log ++ byte ∷ []) ≡ ahead_in log
ahead-unchanged log byte h = ap (λ (t : Header). head_length t.version) (header-unchanged log byte h)

-- no whole record is unfinished
pub part_unfinished : (log : List ℕ) → record_size (ahead_in log) (records log).rest ≡ None
unfolding records
part_unfinished log = rest_none (record_size (ahead_in log)) (cuts log) (drop 8 log)

pub records-grow : (log : List ℕ) (byte : ℕ) → 8 ≤ length log → records (log ++ byte ∷ []) ≡ grown (record_size (ahead_in log) ((records log).rest ++ byte ∷ [])) (records log) byte
unfolding records
records-grow log byte h =
    ap (λ n. pieces (record_size n) (drop 8 (log ++ byte ∷ []))) (ahead-unchanged log byte h)
    ∙ ap (pieces (record_size (ahead_in log))) (drop-append-le 8 log (byte ∷ []) h)
    ∙ pieces-grow (record_size (ahead_in log)) (cuts log) (drop 8 log) byte

-- there are no records in a header
pub records-header : (log : List ℕ) → length log ≤ 8 → records log ≡ record { whole = []; rest = [] }
unfolding records
records-header log h = ap (pieces (record_size (ahead_in log))) (drop_all 8 log h) ∙ nothing_cut (record_size (ahead_in log)) (cuts log)

pub begun-header : (log : List ℕ) → length log ≤ 8 → begun_records log ≡ []
unfolding begun_records
begun-header log h = rw (records-header log h) refl

put_in_front : (rest : List ℕ) (byte : ℕ) (whole : List (List ℕ)) → begun_with (rest ++ byte ∷ []) whole ≡ (rest ++ byte ∷ []) ∷ whole
put_in_front [] byte whole = refl
put_in_front (r ∷ rest) byte whole = refl

begun_grown : (o : Option ℕ) (p : Pieces) (byte : ℕ) → begun_with (grown o p byte).rest (reverse (grown o p byte).whole) ≡ (p.rest ++ byte ∷ []) ∷ reverse p.whole
begun_grown None p byte = put_in_front p.rest byte (reverse p.whole)
begun_grown (Some size) p byte = reverse-append p.whole ((p.rest ++ byte ∷ []) ∷ [])

-- the record that a byte belongs to is in front of the whole ones
pub begun-grow : (log : List ℕ) (byte : ℕ) → 8 ≤ length log → begun_records (log ++ byte ∷ []) ≡ ((records log).rest ++ byte ∷ []) ∷ reverse (records log).whole
unfolding begun_records
begun-grow log byte h =
    ap (λ (p : Pieces). begun_with p.rest (reverse p.whole)) (records-grow log byte h)
    ∙ begun_grown (record_size (ahead_in log) ((records log).rest ++ byte ∷ [])) (records log) byte

pub length-begun-grow : (log : List ℕ) (byte : ℕ) → 8 ≤ length log → length (begun_records (log ++ byte ∷ [])) ≡ length (records log).whole + 1
length-begun-grow log byte h = ap length (begun-grow log byte h) ∙ (let l = length-reverse (records log).whole in omega arith)

-- how many whole records there are then
whole_grown : (o : Option ℕ) (p : Pieces) (byte : ℕ) → length (grown o p byte).whole ≡ cond (is_some o) (length p.whole + 1) (length p.whole)
whole_grown None p byte = refl
whole_grown (Some size) p byte = length-append p.whole ((p.rest ++ byte ∷ []) ∷ [])

pub whole-grow : (log : List ℕ) (byte : ℕ) → 8 ≤ length log
    → length (records (log ++ byte ∷ [])).whole ≡ cond (is_some (record_size (ahead_in log) ((records log).rest ++ byte ∷ []))) (length (records log).whole + 1) (length (records log).whole)
whole-grow log byte h = ap (λ (p : Pieces). length p.whole) (records-grow log byte h) ∙ whole_grown (record_size (ahead_in log) ((records log).rest ++ byte ∷ [])) (records log) byte

rest_grown : (o : Option ℕ) (p : Pieces) (byte : ℕ) → (grown o p byte).rest ≡ cond (is_some o) [] (p.rest ++ byte ∷ [])
rest_grown None p byte = refl
rest_grown (Some size) p byte = refl

pub rest-grow : (log : List ℕ) (byte : ℕ) → 8 ≤ length log
    → (records (log ++ byte ∷ [])).rest ≡ cond (is_some (record_size (ahead_in log) ((records log).rest ++ byte ∷ []))) [] ((records log).rest ++ byte ∷ [])
rest-grow log byte h = ap (λ (p : Pieces). p.rest) (records-grow log byte h) ∙ rest_grown (record_size (ahead_in log) ((records log).rest ++ byte ∷ [])) (records log) byte

-- the first byte of a record says its kind
pub kind_of-append : (a c : List ℕ) → 0 < length a → kind_of (a ++ c) ≡ kind_of a
unfolding kind_of
kind_of-append [] c h = absurd (omega arith)
kind_of-append (byte ∷ a) c h = refl

pub if_direction-nothing : (direction : Direction) (carries : Option Direction) → if_direction direction carries [] ≡ []
if_direction-nothing directions.Sent None = refl
if_direction-nothing directions.Sent (Some directions.Sent) = refl
if_direction-nothing directions.Sent (Some directions.Recv) = refl
if_direction-nothing directions.Recv None = refl
if_direction-nothing directions.Recv (Some directions.Sent) = refl
if_direction-nothing directions.Recv (Some directions.Recv) = refl

pub if_direction-append : (direction : Direction) (carries : Option Direction) (a c : List ℕ) → if_direction direction carries (a ++ c) ≡ if_direction direction carries a ++ if_direction direction carries c
if_direction-append directions.Sent None a c = refl
if_direction-append directions.Sent (Some directions.Sent) a c = refl
if_direction-append directions.Sent (Some directions.Recv) a c = refl
if_direction-append directions.Recv None a c = refl
if_direction-append directions.Recv (Some directions.Sent) a c = refl
if_direction-append directions.Recv (Some directions.Recv) a c = refl

-- the body byte of a record, if it goes this way
abbrev pub body_byte : ℕ → Direction → List ℕ → ℕ → List ℕ
body_byte ahead direction part byte = cond (nat_lt ahead (length part)) (if_direction direction (direction_of (kind_of part)) (byte ∷ [])) []

-- what one direction carried, with one byte more
abbrev pub carried_then : ℕ → Direction → List ℕ → List ℕ → ℕ → List ℕ
carried_then ahead direction carried_before part byte = cond (opens (kind_of part)) [] (carried_before ++ body_byte ahead direction part byte)

-- One record in front of the whole ones: what a direction carried, with the record's bytes so far and one more.
carried_grown : (ahead : ℕ) → length_end ≤ ahead → (direction : Direction) (rest : List ℕ) (byte : ℕ) (whole : List (List ℕ))
    → carried ahead direction ((rest ++ byte ∷ []) ∷ whole) ≡ carried_then ahead direction (carried ahead direction (begun_with rest whole)) (rest ++ byte ∷ []) byte
unfolding carried
carried_grown ahead least direction [] byte whole =
    let k = kind_of (byte ∷ []) in
    ap (λ bytes. cond (opens k) [] (carried ahead direction whole ++ if_direction direction (direction_of k) bytes)) (drop_all ahead (byte ∷ []) (omega arith))
    ∙ ap (λ bytes. cond (opens k) [] (carried ahead direction whole ++ bytes)) (if_direction-nothing direction (direction_of k))
    ∙ ap (λ b. cond (opens k) [] (carried ahead direction whole ++ cond b (if_direction direction (direction_of k) (byte ∷ [])) [])) (sym (le-ltb ahead 1 (omega arith)))
carried_grown ahead least direction (r ∷ rest) byte whole =
    let part = (r ∷ rest) ++ byte ∷ [] in
    let some : 0 < length (r ∷ rest) = omega arith in
    let kind = kind_of-append (r ∷ rest) (byte ∷ []) some in
    let c = carried ahead direction whole in
    let direction_before = direction_of (kind_of (r ∷ rest)) in
    go (nat_lt ahead (length part)) refl (opens (kind_of part)) refl
  where
    -- the body so far, with the byte if it is a body byte
    body : (b : Bool) → nat_lt ahead (length ((r ∷ rest) ++ byte ∷ [])) ≡ b → drop ahead ((r ∷ rest) ++ byte ∷ []) ≡ drop ahead (r ∷ rest) ++ cond b (byte ∷ []) []
    body true is =
        let l = length-append (r ∷ rest) (byte ∷ []) in
        let long = ltb-true ahead (length ((r ∷ rest) ++ byte ∷ [])) is in
        drop-append-le ahead (r ∷ rest) (byte ∷ []) (omega arith)
    body false is =
        let l = length-append (r ∷ rest) (byte ∷ []) in
        let short = ltb-false ahead (length ((r ∷ rest) ++ byte ∷ [])) is in
        drop_all ahead ((r ∷ rest) ++ byte ∷ []) short ∙ sym (ap (λ bytes. bytes ++ []) (drop_all ahead (r ∷ rest) (omega arith)))

    sent_on : (carries : Option Direction) (b : Bool) → if_direction direction carries (cond b (byte ∷ []) []) ≡ cond b (if_direction direction carries (byte ∷ [])) []
    sent_on carries true = refl
    sent_on carries false = if_direction-nothing direction carries

    go : (b : Bool) → nat_lt ahead (length ((r ∷ rest) ++ byte ∷ [])) ≡ b → (o : Bool) → opens (kind_of ((r ∷ rest) ++ byte ∷ [])) ≡ o
        → cond o [] (carried ahead direction whole ++ if_direction direction (direction_of (kind_of ((r ∷ rest) ++ byte ∷ []))) (drop ahead ((r ∷ rest) ++ byte ∷ [])))
        ≡ cond o [] (cond (opens (kind_of (r ∷ rest))) [] (carried ahead direction whole ++ if_direction direction (direction_of (kind_of (r ∷ rest))) (drop ahead (r ∷ rest)))
        ++ cond b (if_direction direction (direction_of (kind_of ((r ∷ rest) ++ byte ∷ []))) (byte ∷ [])) [])
    go b is true opened = refl
    go b is false opened =
        let same = kind_of-append (r ∷ rest) (byte ∷ []) (omega arith) in
        let k = kind_of ((r ∷ rest) ++ byte ∷ []) in
        let closed : opens (kind_of (r ∷ rest)) ≡ false = ap opens (sym same) ∙ opened in
        ap (λ bytes. carried ahead direction whole ++ if_direction direction (direction_of k) bytes) (body b is)
        ∙ ap (λ bytes. carried ahead direction whole ++ bytes) (if_direction-append direction (direction_of k) (drop ahead (r ∷ rest)) (cond b (byte ∷ []) []) ∙ ap (λ bytes. if_direction direction (direction_of k) (drop ahead (r ∷ rest)) ++ bytes) (sent_on (direction_of k) b))
        ∙ sym (append_assoc (carried ahead direction whole) (if_direction direction (direction_of k) (drop ahead (r ∷ rest))) (cond b (if_direction direction (direction_of k) (byte ∷ [])) []))
        ∙ ap (λ kind. (carried ahead direction whole ++ if_direction direction (direction_of kind) (drop ahead (r ∷ rest))) ++ cond b (if_direction direction (direction_of k) (byte ∷ [])) []) same
        ∙ ap (λ o. cond o [] (carried ahead direction whole ++ if_direction direction (direction_of (kind_of (r ∷ rest))) (drop ahead (r ∷ rest))) ++ cond b (if_direction direction (direction_of k) (byte ∷ [])) []) (sym closed)

-- what a direction carried, with one byte of the log more
pub carried-grow : (direction : Direction) (log : List ℕ) (byte : ℕ) → 8 ≤ length log
    → carried (ahead_in (log ++ byte ∷ [])) direction (begun_records (log ++ byte ∷ [])) ≡ carried_then (ahead_in log) direction (carried (ahead_in log) direction (begun_records log)) ((records log).rest ++ byte ∷ []) byte
unfolding begun_records
carried-grow direction log byte h =
    ap (λ n. carried n direction (begun_records (log ++ byte ∷ []))) (ahead-unchanged log byte h)
    ∙ ap (carried (ahead_in log) direction) (begun-grow log byte h)
    ∙ carried_grown (ahead_in log) (head_least (header_by log).version) direction (records log).rest byte (reverse (records log).whole)

-- what a direction carried doesn't depend on what stands before an OPEN
pub carried-own : (ahead : ℕ) (direction : Direction) (later before : List (List ℕ)) (first : List ℕ) → opens (kind_of first) ≡ true → carried ahead direction (later ++ first ∷ before) ≡ carried ahead direction (later ++ first ∷ [])
unfolding carried
carried-own ahead direction [] before first h =
    ap (λ o. cond o [] (carried ahead direction before ++ if_direction direction (direction_of (kind_of first)) (drop ahead first))) h
    ∙ sym (ap (λ o. cond o [] (carried ahead direction [] ++ if_direction direction (direction_of (kind_of first)) (drop ahead first))) h)
carried-own ahead direction (part ∷ later) before first h =
    ap (λ bytes. cond (opens (kind_of part)) [] (bytes ++ if_direction direction (direction_of (kind_of part)) (drop ahead part))) (carried-own ahead direction later before first h)
