-- The head of a record that carries packets, all at once.
use Rattle.std.proofs.Common.{◌≡◌, ℕ, ◌+◌, ◌-◌, ◌<◌, ◌≤◌, Bool, true, false, cond, ◌&&◌, nat_lt, List, [], ◌∷◌, ◌++◌, length, take, drop, Some, None, is_some, refl, sym, ◌∙◌, ap, subst, arith, zero, suc, length-append, append_assoc}
use Rattle.std.specs.Prelude.{◌==◌, nat_le, not, if◌then◌else◌, slice_index}
use Rattle.std.specs.Int.{w32, from_be_bytes}
use Rattle.std.specs.Option.{option_or}
use Rattle.std.proofs.lemmas.Bool.{le-leb, le-ltb}
use Rattle.std.proofs.lemmas.List.{take-append-drop, length-take-le}
use Rattle.mq_log.specs.declared.kind.Direction.{Direction}
use Rattle.mq_log.specs.declared.kind.Direction.TheVariants as directions
use Rattle.mq_log.specs.declared.refusal.Refusal.{Refusal}
use Rattle.mq_log.specs.declared.refusal.Refusal.TheVariants as refusals
use Rattle.mq_trace.specs.declared.stage.Stage.TheVariants as stages
use Rattle.mq_trace.specs.declared.reading.Reading.{Reading}
use Rattle.mq_log.specs.Framing.{kind_named, kind_of, body_length, direction_of, opens, moment_in, length_end, head_length, longest_body}
use Rattle.mq_log.specs.Events.{UnfinishedPackets, Placed, event_of_head}
use Rattle.mq_log.specs.Refusals.{first_that_applies, allows_length}
use Rattle.mq_log.specs.Context.{Context, ahead_of, unfinished_of, emptied, refusal_for, event_for, with_completed, after}
use Rattle.mq_trace.specs.Runs.{after_bytes, refused_in, events_by}
use Rattle.mq_trace.specs.Keeping.{IsAt, context_of, begun_in, IsSound, Advances, Comes, StepStops}
use Rattle.mq_trace.specs.Stepping.{kind_refusal, kind_for, IsBodyHead, leaving}
use Rattle.mq_log.proofs.Exports.{head_least, body_length-append}
use Rattle.mq_trace.proofs.MomentLaws.{head_most, moment_stays}
use Rattle.mq_trace.proofs.RunLaws.{after_bytes_append, refused_append, events_append}
use Rattle.mq_trace.proofs.ReadingLaws.{comes_after, stops_after}
use Rattle.mq_trace.proofs.StepLaws.{first_event, first_after, middles_after, middles_events, middles_refused, longer_by, AllowedAmong, last_event, last_refusal, last_after, kept_too_early, both_none, nothing_completed}
use Rattle.mq_trace.proofs.StageLaws.{named_refusal}
use Rattle.mq_trace.proofs.EndLaws.{longest_least, left_sound}

goes : (direction : Direction) → direction_of (Some (kind_for direction)) ≡ Some direction
goes directions.Sent = refl
goes directions.Recv = refl

silent : (unfinished : UnfinishedPackets) (direction : Direction) → event_of_head unfinished (kind_for direction) ≡ None
silent unfinished directions.Sent = refl
silent unfinished directions.Recv = refl

allowed : (version : ℕ) (direction : Direction) (number : ℕ) → number ≤ longest_body version → allows_length version (Some (kind_for direction)) number ≡ true
allowed version directions.Sent number few = le-leb number (longest_body version) few
allowed version directions.Recv number few = le-leb number (longest_body version) few

standing : (a b : Bool) (x y : Refusal) → a ≡ false → b ≡ false → first_that_applies ((a, x) ∷ (b, y) ∷ []) ≡ None
standing a b x y p q = λ i. first_that_applies ((p i, x) ∷ (q i, y) ∷ [])

unmet : (r : Reading) (direction : Direction) → r.connections.connected ≡ true → r.records < 4294967295 → kind_refusal r (kind_for direction) ≡ None
unmet r directions.Sent connected room = standing (not r.connections.connected) (nat_lt 4294967295 (r.records + 1)) (refusals.NotOpen r.at) (refusals.TooLong r.at) (ap not connected) (le-ltb 4294967295 (r.records + 1) (omega arith))
unmet r directions.Recv connected room = standing (not r.connections.connected) (nat_lt 4294967295 (r.records + 1)) (refusals.NotOpen r.at) (refusals.TooLong r.at) (ap not connected) (le-ltb 4294967295 (r.records + 1) (omega arith))

opens_nothing : (direction : Direction) → opens (Some (kind_for direction)) ≡ false
opens_nothing directions.Sent = refl
opens_nothing directions.Recv = refl

-- the bytes that begin others
first_bytes : (n : ℕ) (bytes : List ℕ) → n + 1 ≤ length bytes → take (n + 1) bytes ≡ slice_index bytes 0 ∷ take n (drop 1 bytes)
first_bytes n [] h = absurd (omega arith)
first_bytes n (x ∷ bytes) h = ap (λ k. take k (x ∷ bytes)) (let same : n + 1 ≡ suc n = omega arith in same)

spelled_by : (bytes : List ℕ) → length_end ≤ length bytes → from_be_bytes w32 (slice_index bytes 1 ∷ slice_index bytes 2 ∷ slice_index bytes 3 ∷ slice_index bytes 4 ∷ []) ≡ body_length bytes
unfolding body_length
spelled_by [] h = absurd (omega arith)
spelled_by (k ∷ []) h = absurd (omega arith)
spelled_by (k ∷ x ∷ []) h = absurd (omega arith)
spelled_by (k ∷ x ∷ y ∷ []) h = absurd (omega arith)
spelled_by (k ∷ x ∷ y ∷ z ∷ []) h = absurd (omega arith)
spelled_by (k ∷ x ∷ y ∷ z ∷ b ∷ bytes) h = refl

-- a list's last element
pub last_of : (xs : List ℕ) → 0 < length xs → (front : List ℕ) × (last : ℕ) × (xs ≡ front ++ last ∷ [])
last_of [] some = absurd (omega arith)
last_of (x ∷ []) some = ([], x, refl)
last_of (x ∷ y ∷ xs) some = let l = last_of (y ∷ xs) (omega arith) in (x ∷ l.0, l.1, ap (λ (t : List ℕ). x ∷ t) l.2)

-- ---- a whole head, from what is kept of a log

-- The head of a record that carries packets: its kind, and what follows that.
module _ (c : Context) (direction : Direction) (k : ℕ) (rest : List ℕ) (past_header : 8 ≤ c.at) (none : c.part ≡ []) (named : kind_named k ≡ Some (kind_for direction)) (whole : length rest + 1 ≡ ahead_of c) where
  abbrev begun : Context
  begun = record c { at = c.at + 1; part = k ∷ [] }

  abbrev part : List ℕ
  part = k ∷ rest

  -- what is kept after the head
  abbrev pub headed : Bool → Context
  headed empty = record c { at = c.at + ahead_of c; part = cond empty [] part; records = cond empty (c.records + 1) c.records }

  named_of : (bytes : List ℕ) → kind_of (k ∷ bytes) ≡ Some (kind_for direction)
  unfolding kind_of
  named_of bytes = named

  unopened : {X : Type 0} (bytes : List ℕ) → opens (kind_of (k ∷ bytes)) ≡ true → X
  unopened bytes e = let is : opens (kind_of (k ∷ bytes)) ≡ false = ap opens (named_of bytes) ∙ opens_nothing direction in absurd (cc)

  begun_is : after c k ≡ begun
  begun_is =
      first_after c k past_header none
      ∙ ap (λ kind. record begun { sent = cond (opens kind) emptied c.sent; recv = cond (opens kind) emptied c.recv }) named
      ∙ ap (λ t. record begun { sent = cond t emptied c.sent; recv = cond t emptied c.recv }) (opens_nothing direction)

  ends : (front : List ℕ) × (last : ℕ) × (rest ≡ front ++ last ∷ [])
  ends = let least = head_least c.header.version in last_of rest (omega arith)

  abbrev front : List ℕ
  front = ends.0

  abbrev last : ℕ
  last = ends.1

  front_long : length front + 2 ≡ ahead_of c
  front_long = let l = ap (length {A = ℕ}) ends.2 in let m = length-append front (last ∷ []) in omega arith

  -- all but the last byte
  abbrev amid : Context
  amid = longer_by begun front

  amid_is : after_bytes begun front ≡ amid
  amid_is = let l = front_long in middles_after begun front (omega arith) (omega arith) (omega arith) (unopened [])

  amid_kind : kind_of amid.part ≡ Some (kind_for direction)
  amid_kind = named_of front

  amid_part : amid.part ++ last ∷ [] ≡ part
  amid_part = ap (λ (l : List ℕ). k ∷ l) (sym ends.2)

  last_none : event_for amid last ≡ None
  last_none = let l = front_long in last_event amid last (kind_for direction) (omega arith) (omega arith) amid_kind ∙ silent (unfinished_of amid) direction

  last_is : after amid last ≡ headed (body_length part == 0)
  last_is =
      let l = front_long in
      let same : (c.at + 1 + length front) + 1 ≡ c.at + ahead_of c = omega arith in
      last_after amid last (omega arith) (omega arith) (unopened front)
      ∙ ap (λ event. with_completed (record amid { at = amid.at + 1; part = cond (body_length (amid.part ++ last ∷ []) == 0) [] (amid.part ++ last ∷ []); records = cond (body_length (amid.part ++ last ∷ []) == 0) (c.records + 1) c.records }) event) last_none
      ∙ ap (λ (l : List ℕ). record c { at = amid.at + 1; part = cond (body_length l == 0) [] l; records = cond (body_length l == 0) (c.records + 1) c.records }) amid_part
      ∙ ap (λ n. record (headed (body_length part == 0)) { at = n }) same

  pub head_after : after_bytes c part ≡ headed (body_length part == 0)
  head_after =
      ap (λ d. after_bytes d rest) begun_is
      ∙ ap (after_bytes begun) ends.2
      ∙ after_bytes_append begun front (last ∷ [])
      ∙ ap (λ d. after d last) amid_is
      ∙ last_is

  pub head_events : events_by c part ≡ []
  head_events =
      let l = front_long in
      nothing_completed c k rest (first_event c k past_header none)
      (ap (λ d. events_by d rest) begun_is
      ∙ ap (events_by begun) ends.2
      ∙ events_append begun front (last ∷ [])
      ∙ ap (λ d. events_by d (last ∷ []) ++ events_by begun front) amid_is
      ∙ ap (λ e. e ++ events_by begun front) (nothing_completed amid last [] last_none refl)
      ∙ middles_events begun front (omega arith) (omega arith) (omega arith) (unopened []))

  -- No byte of it is refused, if none is for what its kind and its length are.
  pub head_refused : (limit : ℕ) → refusal_for limit c k ≡ None → allows_length c.header.version (Some (kind_for direction)) (body_length part) ≡ true → refused_in limit c part ≡ None
  head_refused limit first allowed =
      let l = front_long in
      let least = head_least c.header.version in
      both_none (refusal_for limit c k) (refused_in limit (after c k) rest) first
      (ap (λ d. refused_in limit d rest) begun_is
      ∙ ap (refused_in limit begun) ends.2
      ∙ refused_append limit begun front (last ∷ [])
      ∙ ap (λ o. option_or o (refused_in limit (after_bytes begun front) (last ∷ []))) (middles_refused limit begun front (omega arith) (omega arith) (omega arith) (unopened []) among)
      ∙ ap (λ d. option_or (refusal_for limit d last) None) amid_is
      ∙ ap (λ o. option_or o None) (last_refusal limit amid last (kind_for direction) (omega arith) (omega arith) amid_kind (ap (λ (l : List ℕ). allows_length c.header.version (Some (kind_for direction)) (body_length l)) amid_part ∙ allowed)
      ∙ ap (λ event. first_that_applies ((kept_too_early amid event, refusals.TooManyEarly amid.at) ∷ (is_some event && nat_le 4294967295 amid.events, refusals.TooLong amid.at) ∷ [])) (silent (unfinished_of amid) direction)))
    where
      -- the length is that of the whole head
      among : AllowedAmong begun front
      among before later byte is long =
          let l = front_long in
          let m = length-append before (byte ∷ []) in
          let shorter : part ≡ (k ∷ (before ++ byte ∷ [])) ++ (later ++ last ∷ []) =
          sym amid_part ∙ ap (λ (t : List ℕ). k ∷ (t ++ last ∷ [])) is ∙ ap (λ (t : List ℕ). k ∷ t) (append_assoc before (byte ∷ later) (last ∷ []) ∙ sym (append_assoc before (byte ∷ []) (later ++ last ∷ []))) in
          let same : body_length (k ∷ (before ++ byte ∷ [])) ≡ body_length part = sym (ap body_length shorter ∙ body_length-append (k ∷ (before ++ byte ∷ [])) (later ++ last ∷ []) (omega arith)) in
          ap (λ kind. allows_length c.header.version kind (body_length (k ∷ (before ++ byte ∷ [])))) (named_of (before ++ byte ∷ []))
          ∙ ap (allows_length c.header.version (Some (kind_for direction))) same
          ∙ allowed

-- ---- a whole head, by a reader

-- where the reader stands after it
headed_at : (r : Reading) (direction : Direction) (number : ℕ) (part : List ℕ) → kind_of part ≡ Some (kind_for direction) → length part ≡ head_length r.header.version → body_length part ≡ number → moment_in (head_length r.header.version) part ≡ r.moment
    → (t : Bool) → (number == 0) ≡ t → IsAt (head_length r.header.version) r.moment (if t then stages.Between else stages.Body direction number) (cond t [] part)
headed_at r direction number part kind long body timed true is = refl
headed_at r direction number part kind long body timed false is = (kind_for direction, kind, goes direction, omega arith, omega arith, timed)

-- The head's bytes, which begin these, are taken in.
heads : (r : Reading) (direction : Direction) (number moment : ℕ) (bytes : List ℕ) → IsBodyHead r bytes direction number moment
    → Advances r (leaving (record r { at = r.at + head_length r.header.version; moment = moment }) direction number) (take (head_length r.header.version) bytes) []
heads r direction number moment bytes head =
    let v = r.header.version in
    let ahead = head_length v in
    let least = head_least v in
    let there : ahead ≤ length bytes = head.whole in
    let k = slice_index bytes 0 in
    let rest = take (ahead - 1) (drop 1 bytes) in
    let back : ahead - 1 + 1 ≡ ahead = omega arith in
    let is : take ahead bytes ≡ k ∷ rest = ap (λ n. take n bytes) (sym back) ∙ first_bytes (ahead - 1) bytes (omega arith) in
    let long : length (take ahead bytes) ≡ ahead = length-take-le ahead bytes there in
    let whole : length rest + 1 ≡ ahead = let l = ap (length {A = ℕ}) is in omega arith in
    let body : body_length (k ∷ rest) ≡ number =
    sym (ap body_length is) ∙ sym (body_length-append (take ahead bytes) (drop ahead bytes) (omega arith)) ∙ ap body_length (take-append-drop ahead bytes) ∙ sym (spelled_by bytes (omega arith)) ∙ sym head.spelled in
    let timed : moment_in ahead (k ∷ rest) ≡ moment =
    sym (ap (moment_in ahead) is) ∙ sym (moment_stays ahead (take ahead bytes) (drop ahead bytes) (omega arith)) ∙ ap (moment_in ahead) (take-append-drop ahead bytes) ∙ head.timed in
    let next : Reading = record r { at = r.at + ahead; moment = moment } in
    subst (λ (l : List ℕ). Advances r (leaving next direction number) l []) (sym is) (record {
      limit = refl;
      each = λ part at. (
          let nothing : part ≡ [] = subst (λ s. IsAt ahead r.moment s part) head.between at in
          let c = context_of r part in
          let kind = named_of c direction k rest head.past_header nothing head.named whole rest in (
            cond (number == 0) [] (k ∷ rest),
            headed_at next direction number (k ∷ rest) kind (sym (ap (length {A = ℕ}) is) ∙ long) body timed (number == 0) refl,
            head_refused c direction k rest head.past_header nothing head.named whole r.limit (named_refusal r part k (kind_for direction) head.past_header nothing head.named ∙ unmet r direction head.connected head.room)
                (ap (allows_length v (Some (kind_for direction))) body ∙ allowed v direction number head.allowed),
            head_after c direction k rest head.past_header nothing head.named whole
                ∙ ap (headed c direction k rest head.past_header nothing head.named whole) (ap (λ n. n == 0) body),
            head_events c direction k rest head.past_header nothing head.named whole,
          ));
    })

pub head_taken : (r r1 : Reading) (direction : Direction) (number moment : ℕ) (bytes : List ℕ) → IsBodyHead r bytes direction number moment
    → r1 ≡ leaving (record r { at = r.at + head_length r.header.version; moment = moment }) direction number → Advances r r1 (take (head_length r.header.version) bytes) []
head_taken r r1 direction number moment bytes head is =
    subst (λ (x : Reading). Advances r x (take (head_length r.header.version) bytes) []) (sym is) (heads r direction number moment bytes head)

pub head_sound : (r r1 : Reading) (direction : Direction) (number moment : ℕ) (bytes : List ℕ) → IsSound r → IsBodyHead r bytes direction number moment
    → r1 ≡ leaving (record r { at = r.at + head_length r.header.version; moment = moment }) direction number → IsSound r1
head_sound r r1 direction number moment bytes sound head is =
    let most = head_most r.header.version in
    let longest = longest_least r.header.version in
    let short : number ≤ longest_body r.header.version = head.allowed in
    let past : 8 ≤ r.at = head.past_header in
    let none : begun_in r.stage ≡ 0 = ap begun_in head.between in
    subst (λ (x : Reading). IsSound x) (sym is)
    (left_sound (record r { at = r.at + head_length r.header.version; moment = moment }) direction number (omega (arith, sound.counted)) (omega arith) (omega arith) head.room sound.sent sound.recv)

-- ---- a head that was taken in at once, and what comes after it

one_sum : (n m : ℕ) → suc (n + m) ≡ suc n + m
one_sum n m = omega arith

no_sum : (m : ℕ) → m ≡ 0 + m
no_sum m = omega arith

take_none : (m : ℕ) → take {A = ℕ} m [] ≡ []
take_none zero = refl
take_none (suc m) = refl

take_both : (n m : ℕ) (xs : List ℕ) → take n xs ++ take m (drop n xs) ≡ take (n + m) xs
take_both zero m xs = ap (λ k. take k xs) (no_sum m)
take_both (suc n) m [] = take_none m ∙ sym (take_none (suc n + m))
take_both (suc n) m (x ∷ xs) = ap (λ (l : List ℕ). x ∷ l) (take_both n m xs) ∙ ap (λ k. take k (x ∷ xs)) (one_sum n m)

pub comes_after_head : {S : Type 0} (agrees : S → List Placed → Type 0) (r r1 r2 : Reading) (n m : ℕ) (bytes rest : List ℕ) (old new : S) → rest ≡ drop n bytes
    → Advances r r1 (take n bytes) [] → Comes agrees r1 r2 (take m rest) old new → Comes agrees r r2 (take (n + m) bytes) old new
comes_after_head agrees r r1 r2 n m bytes rest old new is quiet comes =
    subst (λ (l : List ℕ). Comes agrees r r2 l old new) (ap (λ (l : List ℕ). take n bytes ++ take m l) is ∙ take_both n m bytes)
    (comes_after agrees r r1 r2 (take n bytes) (take m rest) old new quiet comes)

pub stops_after_head : {S : Type 0} (declines : S → S → List Placed → Refusal → Type 0) (r r1 : Reading) (n : ℕ) (bytes rest : List ℕ) (old new : S) (refusal : Refusal) → rest ≡ drop n bytes
    → n ≤ length bytes → Advances r r1 (take n bytes) [] → r1.at ≡ r.at + n → StepStops declines r1 rest old new refusal → StepStops declines r bytes old new refusal
stops_after_head declines r r1 n bytes rest old new refusal is few quiet moved stop =
    subst (λ (l : List ℕ). StepStops declines r l old new refusal) (ap (λ (l : List ℕ). take n bytes ++ l) is ∙ take-append-drop n bytes)
    (stops_after declines r r1 (take n bytes) rest old new refusal quiet (moved ∙ ap (λ k. r.at + k) (sym (length-take-le n bytes few))) stop)
