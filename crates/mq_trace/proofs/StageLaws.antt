-- The states of a log's reader, from one byte to the next.
use Rattle.std.proofs.Common.{◌≡◌, ℕ, ◌+◌, ◌*◌, ◌<◌, ◌≤◌, Bool, true, false, cond, nat_lt, List, [], ◌∷◌, ◌++◌, length, Option, Some, None, refl, sym, ◌∙◌, ap, subst, inl, inr, arith}
use Rattle.std.specs.Prelude.{◌&&◌, not, is_none}
use Rattle.std.specs.Int.{w32, from_be_bytes}
use Rattle.std.specs.Option.{option_or}
use Rattle.mq_packet.specs.Stream.{fixed_header_of}
use Rattle.mq_log.specs.declared.kind.RecordKind.{RecordKind}
use Rattle.mq_trace.specs.declared.stage.Stage.TheVariants as stages
use Rattle.mq_log.specs.declared.refusal.Refusal.{Refusal}
use Rattle.mq_log.specs.declared.refusal.Refusal.TheVariants as refusals
use Rattle.mq_trace.specs.declared.reading.Reading.{Reading}
use Rattle.mq_log.specs.Framing.{kind_named, kind_of, opens, head_length}
use Rattle.mq_log.specs.Events.{Placed}
use Rattle.mq_log.specs.Refusals.{header_refusal, first_that_applies, is_open_kind, needs_connection, is_release_kind}
use Rattle.mq_log.specs.Context.{StreamState, Context, emptied, so_far_for, refusal_for, placed_for, put, after}
use Rattle.mq_trace.specs.Runs.{refused_in, events_by}
use Rattle.mq_trace.specs.Emission.{NotEmitted, RefusedBySink}
use Rattle.mq_trace.specs.Deframing.{FlowWhy}
use Rattle.mq_trace.specs.Keeping.{state_in, IsAt, StandsAt, opens_in, context_of, begun_in, IsWithin, IsUnfinished, IsSound, Advances, StepStops}
use Rattle.mq_trace.specs.Heads.{head_of}
use Rattle.mq_trace.specs.Stepping.{after_header_byte, kind_refusal, refused_first, BeginsRecord, in_head}
use Rattle.mq_trace.proofs.StepLaws.{header_refused, header_after, header_placed, first_refusal, first_event, first_after, middle_refusal, middle_event, middle_after, placed_none}
use Rattle.mq_log.proofs.Exports.{head_least}
use Rattle.mq_trace.proofs.ReadingLaws.{advanced}
use Rattle.mq_trace.proofs.LengthLaws.{head_size, longer_head, longer_within}

-- One byte's step.
pub one_step : (r r' : Reading) (b : ℕ) (completed : List Placed) → r'.limit ≡ r.limit
    → ((part : List ℕ) → StandsAt r part → (part' : List ℕ) × StandsAt r' part' × (refusal_for r.limit (context_of r part) b ≡ None)
    × (after (context_of r part) b ≡ context_of r' part') × (put (placed_for (context_of r part) b) [] ≡ completed))
    → Advances r r' (b ∷ []) completed
one_step r r' b completed same each = record {
  limit = same;
  each = λ part at. (
      let f = each part at in
      (f.0, f.1, ap (λ o. option_or o None) f.2, f.3, f.4));
}

-- One byte that is refused at once.
pub stops_refused : {S : Type 0} (declines : S → S → List Placed → Refusal → Type 0) (r : Reading) (b : ℕ) (sink : S) (refusal : Refusal)
    → ((part : List ℕ) → StandsAt r part → refusal_for r.limit (context_of r part) b ≡ Some refusal)
    → StepStops declines r (b ∷ []) sink sink refusal
stops_refused declines r b sink refusal each = record {
  taken = [];
  byte = b;
  later = [];
  is = refl;
  each = λ part at. (refl, refl, inl (ap (λ o. option_or o None) (each part at), refl));
}

-- One byte that completes an event that isn't emitted.
pub stops_unemitted : {S : Type 0} (declines : S → S → List Placed → Refusal → Type 0) (r : Reading) (b : ℕ) (met : Option Refusal) (e : Placed) (old new : S) (refusal : Refusal)
    → ((part : List ℕ) → StandsAt r part → (refusal_for r.limit (context_of r part) b ≡ met) × (placed_for (context_of r part) b ≡ Some e))
    → NotEmitted declines r.at met (e ∷ []) old new refusal → StepStops declines r (b ∷ []) old new refusal
stops_unemitted {S} declines r b met e old new refusal each unemitted = record {
  taken = [];
  byte = b;
  later = [];
  is = refl;
  each = λ part at. (refl, refl, why part at unemitted);
}
  where
    place : r.at ≡ r.at + 0
    place = omega arith

    why : (part : List ℕ) → StandsAt r part → NotEmitted declines r.at met (e ∷ []) old new refusal
        → FlowWhy declines (r.at + length {A = ℕ} []) (so_far_for (context_of r part) b) (refused_in r.limit (context_of r part) (b ∷ [])) (events_by (context_of r part) (b ∷ [])) old new refusal
    why part at (inl emitted) = let f = each part at in inl (ap (λ o. option_or o None) (f.0 ∙ emitted.0), emitted.1)
    why part at (inr emitted) =
        let f = each part at in
        inr (inr (
          ap (λ o. option_or o None) (f.0 ∙ emitted.0),
          ap (λ o. length (put o [])) f.1,
          subst (λ n. RefusedBySink declines n (put (placed_for (context_of r part) b) []) old new refusal) place
              (subst (λ o. RefusedBySink declines r.at (put o []) old new refusal) (sym f.1) emitted.1),
        ))

-- between two records no part of one is there
between_is : (r : Reading) (part : List ℕ) → r.stage ≡ stages.Between → StandsAt r part → part ≡ []
between_is r part between at = subst (λ s. IsAt (head_length r.header.version) r.moment s part) between at

between_at : (r : Reading) → r.stage ≡ stages.Between → StandsAt r []
between_at r between = subst (λ s. IsAt (head_length r.header.version) r.moment s []) (sym between) refl

-- A byte of the log's header.
pub header_advances : (r : Reading) (b : ℕ) → r.at < 8 → r.stage ≡ stages.Between → header_refusal r.at b ≡ None → Advances r (after_header_byte r b) (b ∷ []) []
header_advances r b short between none = one_step r (after_header_byte r b) b [] refl (λ part at. (
    let c = context_of r part in
    let nothing : part ≡ [] = between_is r part between at in (
      [],
      between_at (after_header_byte r b) between,
      header_refused r.limit c b short ∙ none,
      header_after c b short ∙ ap (context_of (after_header_byte r b)) nothing,
      ap (λ o. put o []) (header_placed c b short),
    )))

pub header_stops : (r : Reading) (b : ℕ) (refusal : Refusal) → r.at < 8 → header_refusal r.at b ≡ Some refusal
    → (part : List ℕ) → StandsAt r part → refusal_for r.limit (context_of r part) b ≡ Some refusal
header_stops r b refusal short some part at = header_refused r.limit (context_of r part) b short ∙ some

pub header_sound : (r : Reading) (b : ℕ) → IsSound r → r.at < 8 → IsSound (after_header_byte r b)
header_sound r b sound short =
    let first = sound.header_first short in
    let none : begun_in r.stage ≡ 0 = ap begun_in first.0 in
    record {
      counted = omega arith;
      begun = λ some. absurd (omega arith);
      within = subst (λ s. IsWithin (after_header_byte r b).header.version r.moment s) (sym first.0) tt;
      past_header = λ some. absurd (omega arith);
      header_first = λ less. first;
      emptied = sound.emptied;
      sent = sound.sent;
      recv = sound.recv;
    }

-- A record's first byte.
pub named_refusal : (r : Reading) (part : List ℕ) (b : ℕ) (kind : RecordKind) → 8 ≤ r.at → part ≡ [] → kind_named b ≡ Some kind
    → refusal_for r.limit (context_of r part) b ≡ kind_refusal r kind
named_refusal r part b kind past_header none named =
    first_refusal r.limit (context_of r part) b past_header none
    ∙ ap (λ k. first_that_applies (
    (is_none k, refusals.Kind r.at)
    ∷ (is_open_kind k && r.connections.connected, refusals.Nested r.at)
    ∷ (needs_connection k && not r.connections.connected, refusals.NotOpen r.at)
    ∷ (is_release_kind k && not r.header.releases, refusals.ReleaseUnrecorded r.at)
    ∷ (nat_lt 4294967295 (r.records + 1), refusals.TooLong r.at)
    ∷ [])) named

pub unnamed_refused : (r : Reading) (b : ℕ) → 8 ≤ r.at → r.stage ≡ stages.Between → kind_named b ≡ None
    → (part : List ℕ) → StandsAt r part → refusal_for r.limit (context_of r part) b ≡ Some (refusals.Kind r.at)
unnamed_refused r b past_header between unnamed part at =
    let nothing : part ≡ [] = between_is r part between at in
    first_refusal r.limit (context_of r part) b past_header nothing
    ∙ ap (λ k. first_that_applies (
    (is_none k, refusals.Kind r.at)
    ∷ (is_open_kind k && r.connections.connected, refusals.Nested r.at)
    ∷ (needs_connection k && not r.connections.connected, refusals.NotOpen r.at)
    ∷ (is_release_kind k && not r.header.releases, refusals.ReleaseUnrecorded r.at)
    ∷ (nat_lt 4294967295 (r.records + 1), refusals.TooLong r.at)
    ∷ [])) unnamed

pub named_refused : (r : Reading) (b : ℕ) (kind : RecordKind) (refusal : Refusal) → 8 ≤ r.at → r.stage ≡ stages.Between → kind_named b ≡ Some kind → kind_refusal r kind ≡ Some refusal
    → (part : List ℕ) → StandsAt r part → refusal_for r.limit (context_of r part) b ≡ Some refusal
named_refused r b kind refusal past_header between named met part at =
    named_refusal r part b kind past_header (between_is r part between at) named ∙ met

-- what refuses a record's first byte
pub first_refused : (r : Reading) (b : ℕ) (kind : Option RecordKind) (refusal : Refusal) → 8 ≤ r.at → r.stage ≡ stages.Between → kind_named b ≡ kind → refused_first r kind ≡ Some refusal
    → (part : List ℕ) → StandsAt r part → refusal_for r.limit (context_of r part) b ≡ Some refusal
first_refused r b None refusal past_header between named met part at = unnamed_refused r b past_header between named part at ∙ met
first_refused r b (Some kind) refusal past_header between named met part at = named_refused r b kind refusal past_header between named met part at

-- the reader after a record's first byte, apart from where its directions' bytes lie
begun_context : (r r' : Reading) (b : ℕ) (kind : RecordKind) → kind_named b ≡ Some kind → BeginsRecord r r' kind
    → record (context_of r []) { at = r.at + 1; part = b ∷ []; sent = cond (opens (kind_named b)) emptied (state_in r.sent); recv = cond (opens (kind_named b)) emptied (state_in r.recv) } ≡ context_of r' (b ∷ [])
begun_context r r' b kind named begins =
    let c : Context = record (context_of r (b ∷ [])) { at = r.at + 1 } in
    ap (λ k. record c { sent = cond (opens k) emptied (state_in r.sent); recv = cond (opens k) emptied (state_in r.recv) }) named
    ∙ ap (λ state. record c { sent = state; recv = cond (opens (Some kind)) emptied (state_in r.recv) }) (sym begins.sent)
    ∙ ap (λ state. record c { sent = state_in r'.sent; recv = state }) (sym begins.recv)
    ∙ sym (ap (λ (x : Reading). record (context_of x (b ∷ [])) { sent = state_in r'.sent; recv = state_in r'.recv }) begins.is)

pub begins_at : (r r' : Reading) (kind : RecordKind) → BeginsRecord r r' kind → r'.at ≡ r.at + 1
begins_at r r' kind begins = ap (λ (x : Reading). x.at) begins.is

kind_first : (b : ℕ) → kind_of (b ∷ []) ≡ kind_named b
unfolding kind_of
kind_first b = refl

pub first_advances : (r r' : Reading) (b : ℕ) (kind : RecordKind) → 8 ≤ r.at → r.stage ≡ stages.Between → kind_named b ≡ Some kind → kind_refusal r kind ≡ None → BeginsRecord r r' kind
    → Advances r r' (b ∷ []) []
first_advances r r' b kind past_header between named met begins = one_step r r' b [] (ap (λ (x : Reading). x.limit) begins.is) (λ part at. (
    let c = context_of r part in
    let nothing : part ≡ [] = between_is r part between at in
    let staged : stages.Head (head_of kind 0 0) ≡ r'.stage = sym (ap (λ (x : Reading). x.stage) begins.is) in (
      b ∷ [],
      subst (λ s. IsAt (head_length r'.header.version) r'.moment s (b ∷ [])) staged (b, [], refl, kind_first b ∙ named, refl, refl),
      named_refusal r part b kind past_header nothing named ∙ met,
      first_after c b past_header nothing ∙ begun_context r r' b kind named begins,
      ap (λ o. put o []) (placed_none c b (first_event c b past_header nothing)),
    )))

nothing_unfinished : (limit : ℕ) → IsUnfinished limit (record { unfinished = []; lost = false })
unfolding fixed_header_of
nothing_unfinished limit = (omega arith, λ e. refl)

within_limit : (limit : ℕ) (opening : Bool) (state state' : StreamState) → IsUnfinished limit state → state' ≡ cond opening emptied state → IsUnfinished limit state'
within_limit limit opening state state' unfinished is = subst (IsUnfinished limit) (sym is) (either opening)
  where
    either : (opening : Bool) → IsUnfinished limit (cond opening emptied state)
    either true = nothing_unfinished limit
    either false = unfinished

no_others : (opening : Bool) (m state state' : StreamState) → opening ≡ true → state' ≡ cond opening m state → state' ≡ m
no_others opening m state state' e is = is ∙ ap (λ t. cond t m state) e

pub first_sound : (r r' : Reading) (kind : RecordKind) → IsSound r → 8 ≤ r.at → r.stage ≡ stages.Between → r.records < 4294967295 → BeginsRecord r r' kind → IsSound r'
first_sound r r' kind sound past_header between room begins =
    let staged : r'.stage ≡ stages.Head (head_of kind 0 0) = ap (λ (x : Reading). x.stage) begins.is in
    let placed : r'.at ≡ r.at + 1 = ap (λ (x : Reading). x.at) begins.is in
    let numbered : r'.records ≡ r.records = ap (λ (x : Reading). x.records) begins.is in
    let limited : r'.limit ≡ r.limit = ap (λ (x : Reading). x.limit) begins.is in
    let none : begun_in r.stage ≡ 0 = ap begun_in between in
    let one : begun_in r'.stage ≡ 1 + 0 = ap begun_in staged in
    record {
      counted = omega (arith, sound.counted);
      begun = λ some. omega arith;
      within = subst (IsWithin r'.header.version r'.moment) (sym staged) (omega arith, (λ e. refl, λ e. omega arith, λ e. omega arith, omega arith));
      past_header = λ some. omega arith;
      header_first = λ less. absurd (omega arith);
      emptied = λ e. (
        no_others (opens (Some kind)) emptied (state_in r.sent) (state_in r'.sent) (ap opens_in (sym staged) ∙ e) begins.sent,
        no_others (opens (Some kind)) emptied (state_in r.recv) (state_in r'.recv) (ap opens_in (sym staged) ∙ e) begins.recv,
      );
      sent = subst (λ limit. IsUnfinished limit (state_in r'.sent)) (sym limited) (within_limit r.limit (opens (Some kind)) (state_in r.sent) (state_in r'.sent) sound.sent begins.sent);
      recv = subst (λ limit. IsUnfinished limit (state_in r'.recv)) (sym limited) (within_limit r.limit (opens (Some kind)) (state_in r.recv) (state_in r'.recv) sound.recv begins.recv);
    }

-- within a record's head
module _ (r : Reading) (kind : RecordKind) (count number : ℕ) (sound : IsSound r) (staged : r.stage ≡ stages.Head (head_of kind count number)) where
  pub begun_some : begun_in r.stage ≡ 1 + count
  begun_some = ap begun_in staged

  pub head_after : 8 ≤ r.at
  head_after = let some = begun_some in sound.past_header (omega arith)

  pub head_room : r.records < 4294967295
  head_room = let some = begun_some in sound.begun (omega arith)

  pub head_bounds : IsWithin r.header.version r.moment (stages.Head (head_of kind count number))
  head_bounds = subst (IsWithin r.header.version r.moment) staged sound.within

  pub head_opening : opens (Some kind) ≡ true → (state_in r.sent ≡ emptied) × (state_in r.recv ≡ emptied)
  head_opening e = sound.emptied (ap opens_in staged ∙ e)

  pub head_is : (part : List ℕ) → StandsAt r part → IsAt (head_length r.header.version) r.moment (stages.Head (head_of kind count number)) part
  head_is part at = subst (λ s. IsAt (head_length r.header.version) r.moment s part) staged at

  pub head_long : (part : List ℕ) → StandsAt r part → length part ≡ 1 + count
  head_long part at = head_size kind count number part (head_is part at)

  pub head_opens : (part : List ℕ) → StandsAt r part → opens (kind_of part) ≡ true → (state_in r.sent ≡ emptied) × (state_in r.recv ≡ emptied)
  head_opens part at e = head_opening (ap opens (sym (head_is part at).3) ∙ e)

  pub head_longer : (part : List ℕ) (b : ℕ) → StandsAt r part → IsAt (head_length r.header.version) r.moment (stages.Head (head_of kind (count + 1) (number * 256 + b))) (part ++ b ∷ [])
  head_longer part b at = longer_head kind count number b part (head_is part at)

pub length_advances : (r : Reading) (kind : RecordKind) (count number b : ℕ) → IsSound r → r.stage ≡ stages.Head (head_of kind count number) → count < 3
    → Advances r (in_head r (r.at + 1) kind (count + 1) (number * 256 + b)) (b ∷ []) []
length_advances r kind count number b sound staged few = one_step r (in_head r (r.at + 1) kind (count + 1) (number * 256 + b)) b [] refl (λ part at. (
    let c = context_of r part in
    let past_header = head_after r kind count number sound staged in
    let least = head_least r.header.version in
    let long = head_long r kind count number sound staged part at in (
      part ++ b ∷ [],
      head_longer r kind count number sound staged part b at,
      middle_refusal r.limit c b past_header (omega arith) (omega arith) (λ e. absurd (omega arith)),
      middle_after c b past_header (omega arith) (omega arith) (head_opens r kind count number sound staged part at),
      ap (λ o. put o []) (placed_none c b (middle_event c b past_header (omega arith))),
    )))

pub length_sound : (r : Reading) (kind : RecordKind) (count number b : ℕ) → IsSound r → r.stage ≡ stages.Head (head_of kind count number) → count < 3 → b < 256
    → IsSound (in_head r (r.at + 1) kind (count + 1) (number * 256 + b))
length_sound r kind count number b sound staged few byte =
    let some = begun_some r kind count number sound staged in
    let past_header = head_after r kind count number sound staged in
    let room = head_room r kind count number sound staged in
    let bounds = head_bounds r kind count number sound staged in
    record {
      counted = omega (arith, sound.counted);
      begun = λ begun. room;
      within = longer_within kind count number b bounds few byte;
      past_header = λ begun. omega arith;
      header_first = λ less. absurd (omega arith);
      emptied = λ e. head_opening r kind count number sound staged e;
      sent = sound.sent;
      recv = sound.recv;
    }

-- Three bytes of it at once.
pub three_advance : (r : Reading) (kind : RecordKind) (x y z : ℕ) → IsSound r → r.stage ≡ stages.Head (head_of kind 0 0) → x < 256 → y < 256
    → Advances r (in_head r (r.at + 3) kind 3 (from_be_bytes w32 (0 ∷ x ∷ y ∷ z ∷ []))) (x ∷ y ∷ z ∷ []) []
three_advance r kind x y z sound staged x_byte y_byte =
    let r1 : Reading = in_head r (r.at + 1) kind 1 (0 * 256 + x) in
    let r2 : Reading = in_head r1 (r1.at + 1) kind 2 ((0 * 256 + x) * 256 + y) in
    let r3 : Reading = in_head r2 (r2.at + 1) kind 3 (((0 * 256 + x) * 256 + y) * 256 + z) in
    let sound1 : IsSound r1 = length_sound r kind 0 0 x sound staged (omega arith) x_byte in
    let sound2 : IsSound r2 = length_sound r1 kind 1 (0 * 256 + x) y sound1 refl (omega arith) y_byte in
    let step1 : Advances r r1 (x ∷ []) [] = length_advances r kind 0 0 x sound staged (omega arith) in
    let step2 : Advances r1 r2 (y ∷ []) [] = length_advances r1 kind 1 (0 * 256 + x) y sound1 refl (omega arith) in
    let step3 : Advances r2 r3 (z ∷ []) [] = length_advances r2 kind 2 ((0 * 256 + x) * 256 + y) z sound2 refl (omega arith) in
    let steps : Advances r r3 (x ∷ y ∷ z ∷ []) [] = advanced r r1 r3 (x ∷ []) (y ∷ z ∷ []) [] [] step1 (advanced r1 r2 r3 (y ∷ []) (z ∷ []) [] [] step2 step3) in
    let placed : ((r.at + 1) + 1) + 1 ≡ r.at + 3 = omega arith in
    let spelled : ((0 * 256 + x) * 256 + y) * 256 + z ≡ from_be_bytes w32 (0 ∷ x ∷ y ∷ z ∷ []) = omega arith in
    subst (λ n. Advances r (in_head r n kind 3 (from_be_bytes w32 (0 ∷ x ∷ y ∷ z ∷ []))) (x ∷ y ∷ z ∷ []) []) placed
    (subst (λ m. Advances r (in_head r (((r.at + 1) + 1) + 1) kind 3 m) (x ∷ y ∷ z ∷ []) []) spelled steps)

pub three_sound : (r : Reading) (kind : RecordKind) (x y z : ℕ) → IsSound r → r.stage ≡ stages.Head (head_of kind 0 0) → x < 256 → y < 256 → z < 256
    → IsSound (in_head r (r.at + 3) kind 3 (from_be_bytes w32 (0 ∷ x ∷ y ∷ z ∷ [])))
three_sound r kind x y z sound staged x_byte y_byte z_byte =
    let some = begun_some r kind 0 0 sound staged in
    let past_header = head_after r kind 0 0 sound staged in
    let room = head_room r kind 0 0 sound staged in
    record {
      counted = omega (arith, sound.counted);
      begun = λ begun. room;
      within = (omega arith, (λ e. absurd (omega arith), λ e. absurd (omega arith), λ e. absurd (omega arith), omega arith));
      past_header = λ begun. omega arith;
      header_first = λ less. absurd (omega arith);
      emptied = λ e. head_opening r kind 0 0 sound staged e;
      sent = sound.sent;
      recv = sound.recv;
    }
