-- The end of a record's head, and the body of a RELEASE.
use Rattle.std.proofs.Common.{◌≡◌, ℕ, ◌+◌, ◌-◌, ◌*◌, ◌<◌, ◌≤◌, Bool, true, false, cond, List, [], ◌∷◌, ◌++◌, length, Option, Some, None, refl, sym, ◌∙◌, ap, subst, arith, zero, suc, length-append}
use Rattle.std.specs.Prelude.{◌==◌, if◌then◌else◌, nat_le, ◌&&◌, slice_index, is_some}
use Rattle.std.specs.Int.{w16, from_be_bytes}
use Rattle.std.proofs.lemmas.Bool.{eqb-true, eqb-false, leb-true}
use Rattle.std.proofs.lemmas.List.{get_or-append_right}
use Rattle.mq_log.specs.declared.kind.RecordKind.{RecordKind}
use Rattle.mq_log.specs.declared.kind.RecordKind.TheVariants as kinds
use Rattle.mq_log.specs.declared.kind.Direction.{Direction}
use Rattle.mq_trace.specs.declared.stage.Stage.TheVariants as stages
use Rattle.mq_log.specs.declared.refusal.Refusal.{Refusal}
use Rattle.mq_log.specs.declared.refusal.Refusal.TheVariants as refusals
use Rattle.mq_trace.specs.declared.connections.Connections.{Connections}
use Rattle.mq_trace.specs.declared.reading.Reading.{Reading}
use Rattle.mq_log.specs.Framing.{kind_of, direction_of, body_length, opens, head_length, longest_body, longest_record}
use Rattle.mq_log.specs.Events.{UnfinishedPackets, Event, released, event_of_head}
use Rattle.mq_log.specs.Connections.{is_too_early}
use Rattle.mq_log.specs.Refusals.{first_that_applies, allows_length}
use Rattle.mq_log.specs.Context.{Context, emptied, refusal_for, event_for, placed_for, put, after, with_completed}
use Rattle.mq_trace.specs.Emission.{event_refusal, next_placed}
use Rattle.mq_trace.specs.Keeping.{state_in, IsAt, StandsAt, context_of, begun_in, IsUnfinished, IsSound, Advances, unfinished_by}
use Rattle.mq_trace.specs.Stepping.{EndsHead, in_record_of, marked, leaving}
use Rattle.mq_trace.proofs.StepLaws.{placed_none, placed_some, last_event, last_refusal, last_after, release_high_refusal, release_high_event, release_high_after, release_low_refusal, release_low_event, release_low_after}
use Rattle.mq_log.proofs.Exports.{head_least, body_length-append, kind_of-append}
use Rattle.mq_trace.proofs.MomentLaws.{moment_stays}
use Rattle.mq_trace.proofs.StageLaws.{one_step}

-- What a step that completes an event in a record of this moment does with each part: what it meets, what is received, and what is kept.
abbrev pub CompletesEvent : Reading → ℕ → ℕ → Event → Type 0
CompletesEvent r moment b event = (part : List ℕ) → StandsAt r part → (refusal_for r.limit (context_of r part) b ≡ event_refusal r.at r.header.server r.connections event)
    × (placed_for (context_of r part) b ≡ Some (next_placed r.connections (in_record_of r moment) event))
    × (after (context_of r part) b ≡ context_of (marked r event) [])

pub emits_advances : (r : Reading) (moment b : ℕ) (event : Event) → CompletesEvent r moment b event → event_refusal r.at r.header.server r.connections event ≡ None
    → Advances r (marked r event) (b ∷ []) (next_placed r.connections (in_record_of r moment) event ∷ [])
emits_advances r moment b event emits met = one_step r (marked r event) b (next_placed r.connections (in_record_of r moment) event ∷ []) refl (λ part at. (
    let emitted = emits part at in
    ([], refl, emitted.0 ∙ met, emitted.2, ap (λ o. put o []) emitted.1)))

pub marked_sound : (r : Reading) (event : Event) → IsSound r → 0 < begun_in r.stage → begun_in r.stage ≤ 14 → IsSound (marked r event)
marked_sound r event sound some few =
    let past_header : 8 ≤ r.at = sound.past_header some in
    record {
      counted = omega (arith, sound.counted);
      begun = λ none. absurd (omega arith);
      within = tt;
      past_header = λ none. absurd (omega arith);
      header_first = λ less. absurd (omega arith);
      emptied = λ e. absurd (cc);
      sent = sound.sent;
      recv = sound.recv;
    }

no_body : (unfinished : UnfinishedPackets) (version : ℕ) (kind : RecordKind) (event : Event) (number : ℕ) → event_of_head unfinished kind ≡ Some event → allows_length version (Some kind) number ≡ true → number ≡ 0
no_body unfinished version kinds.Open event number e allowed = eqb-true number 0 allowed
no_body unfinished version kinds.Close event number e allowed = eqb-true number 0 allowed
no_body unfinished version kinds.Rest event number e allowed = eqb-true number 0 allowed
no_body unfinished version kinds.Release event number e allowed = absurd (cc)
no_body unfinished version kinds.Sent event number e allowed = absurd (cc)
no_body unfinished version kinds.Recv event number e allowed = absurd (cc)

-- the refusal of the event that a head completes, if it completes one
abbrev completed_refusal : Option Event → ℕ → Bool → Connections → Option Refusal
completed_refusal o at server c = first_that_applies (
    (is_too_early server c.connected c.connack_seen (c.events - c.before_open) o, refusals.TooManyEarly at)
    ∷ (is_some o && nat_le 4294967295 c.events, refusals.TooLong at)
    ∷ [])

abbrev head_refusal : UnfinishedPackets → RecordKind → ℕ → Bool → Connections → Option Refusal
head_refusal unfinished kind at server c = completed_refusal (event_of_head unfinished kind) at server c

head_meets : (unfinished : UnfinishedPackets) (kind : RecordKind) (event : Event) (at : ℕ) (server : Bool) (c : Connections) → event_of_head unfinished kind ≡ Some event → head_refusal unfinished kind at server c ≡ event_refusal at server c event
head_meets unfinished kind event at server c e = ap (λ o. completed_refusal o at server c) e

-- Where so many bytes of a body are still to come.
pub left_sound : (r : Reading) (direction : Direction) (left : ℕ) → r.at ≤ 8 + longest_record * r.records + (longest_record - left) → left ≤ 16777216 → 8 ≤ r.at → r.records < 4294967295
    → IsUnfinished r.limit (state_in r.sent) → IsUnfinished r.limit (state_in r.recv) → IsSound (leaving r direction left)
left_sound r direction left counted short past_header room sent recv = by_end (left == 0) refl
  where
    by_end : (t : Bool) → (left == 0) ≡ t → IsSound (record r { records = if t then r.records + 1 else r.records; stage = if t then stages.Between else stages.Body direction left })
    by_end true is = record {
      counted = omega arith;
      begun = λ none. absurd (omega arith);
      within = tt;
      past_header = λ none. past_header;
      header_first = λ less. absurd (omega arith);
      emptied = λ e. absurd (cc);
      sent = sent;
      recv = recv;
    }
    by_end false is = let some = eqb-false left 0 is in record {
      counted = counted;
      begun = λ none. room;
      within = (omega (arith, some), short);
      past_header = λ none. past_header;
      header_first = λ less. absurd (omega arith);
      emptied = λ e. absurd (cc);
      sent = sent;
      recv = recv;
    }

pub longest_least : (version : ℕ) → longest_body version ≤ 16777216
unfolding longest_body
longest_least version = by (version == 2)
  where
    by : (b : Bool) → (if b then 16777216 else 1048576) ≤ 16777216
    by true = omega arith
    by false = omega arith

pub longest_most : (version : ℕ) → 1048576 ≤ longest_body version
unfolding longest_body
longest_most version = by (version == 2)
  where
    by : (b : Bool) → 1048576 ≤ (if b then 16777216 else 1048576)
    by true = omega arith
    by false = omega arith

short_of : (version : ℕ) (kind : RecordKind) (number : ℕ) (direction : Direction) → direction_of (Some kind) ≡ Some direction → allows_length version (Some kind) number ≡ true → number ≤ 16777216
short_of version kinds.Sent number direction goes allowed = let most = longest_least version in let short = leb-true number (longest_body version) allowed in omega arith
short_of version kinds.Recv number direction goes allowed = let most = longest_least version in let short = leb-true number (longest_body version) allowed in omega arith
short_of version kinds.Open number direction goes allowed = absurd (cc)
short_of version kinds.Close number direction goes allowed = absurd (cc)
short_of version kinds.Rest number direction goes allowed = absurd (cc)
short_of version kinds.Release number direction goes allowed = absurd (cc)

-- the last byte of a record's head
module _ (r : Reading) (kind : RecordKind) (number moment b : ℕ) (sound : IsSound r) (ends : EndsHead r kind number moment b) where
  past_header : 8 ≤ r.at
  past_header = sound.past_header ends.begun

  room : r.records < 4294967295
  room = sound.begun ends.begun

  opening_of : (part : List ℕ) → StandsAt r part → opens (kind_of part) ≡ true → (state_in r.sent ≡ emptied) × (state_in r.recv ≡ emptied)
  opening_of part at e = (ends.each part at).4 (ap opens (sym (ends.each part at).0) ∙ e)

  ended_refusal : (part : List ℕ) → StandsAt r part → refusal_for r.limit (context_of r part) b ≡ head_refusal (unfinished_by r) kind r.at r.header.server r.connections
  ended_refusal part at =
      let h = ends.each part at in
      last_refusal r.limit (context_of r part) b kind past_header h.1 h.0 (ap (allows_length r.header.version (Some kind)) h.2 ∙ ends.allowed)

  ended_event : (part : List ℕ) → StandsAt r part → event_for (context_of r part) b ≡ event_of_head (unfinished_by r) kind
  ended_event part at = let h = ends.each part at in last_event (context_of r part) b kind past_header h.1 h.0

  ended_after : (part : List ℕ) → StandsAt r part → after (context_of r part) b ≡ with_completed (record (context_of r part) {
    at = r.at + 1;
    part = cond (number == 0) [] (part ++ b ∷ []);
    records = cond (number == 0) (r.records + 1) r.records;
  }) (event_of_head (unfinished_by r) kind)
  ended_after part at =
      let h = ends.each part at in
      let c = context_of r part in
      let kept : ℕ → Context = λ m. record c { at = r.at + 1; part = cond (m == 0) [] (part ++ b ∷ []); records = cond (m == 0) (r.records + 1) r.records } in
      last_after c b past_header h.1 (opening_of part at)
      ∙ ap (λ m. with_completed (kept m) (event_for c b)) h.2
      ∙ ap (with_completed (kept number)) (ended_event part at)

  -- A record that is its head alone.
  pub mark_emits : (event : Event) → event_of_head (unfinished_by r) kind ≡ Some event → CompletesEvent r moment b event
  mark_emits event is part at =
      let c = context_of r part in
      let h = ends.each part at in
      let none = no_body (unfinished_by r) r.header.version kind event number is ends.allowed in (
        ended_refusal part at ∙ head_meets (unfinished_by r) kind event r.at r.header.server r.connections is,
        placed_some c b event (ended_event part at ∙ is)
            ∙ ap (λ m. Some (next_placed r.connections (in_record_of r m) event)) h.3,
        ended_after part at
            ∙ ap (λ m. with_completed (record c { at = r.at + 1; part = cond (m == 0) [] (part ++ b ∷ []); records = cond (m == 0) (r.records + 1) r.records }) (event_of_head (unfinished_by r) kind)) none
            ∙ ap (with_completed (record c { at = r.at + 1; part = []; records = r.records + 1 })) is,
      )

  quiet_refusal : event_of_head (unfinished_by r) kind ≡ None → (part : List ℕ) → StandsAt r part → refusal_for r.limit (context_of r part) b ≡ None
  quiet_refusal is part at =
      ended_refusal part at ∙ ap (λ (o : Option Event). completed_refusal o r.at r.header.server r.connections) is

  quiet_after : event_of_head (unfinished_by r) kind ≡ None → (part : List ℕ) → StandsAt r part → after (context_of r part) b ≡ record (context_of r part) {
    at = r.at + 1;
    part = cond (number == 0) [] (part ++ b ∷ []);
    records = cond (number == 0) (r.records + 1) r.records;
  }
  quiet_after is part at =
      ended_after part at
      ∙ ap (with_completed (record (context_of r part) { at = r.at + 1; part = cond (number == 0) [] (part ++ b ∷ []); records = cond (number == 0) (r.records + 1) r.records })) is

  longer : (part : List ℕ) → StandsAt r part → length (part ++ b ∷ []) ≡ head_length r.header.version
  longer part at = let l = length-append part (b ∷ []) in let long : length part + 1 ≡ head_length r.header.version = (ends.each part at).1 in omega arith

  kind_longer : (part : List ℕ) → StandsAt r part → kind_of (part ++ b ∷ []) ≡ Some kind
  kind_longer part at =
      let long : length part + 1 ≡ head_length r.header.version = (ends.each part at).1 in
      let least = head_least r.header.version in
      kind_of-append part (b ∷ []) (omega arith) ∙ (ends.each part at).0

  -- The head of a record that carries packets.
  body_at : (direction : Direction) → direction_of (Some kind) ≡ Some direction → (part : List ℕ) → StandsAt r part
      → (t : Bool) → (number == 0) ≡ t → IsAt (head_length r.header.version) moment (if t then stages.Between else stages.Body direction number) (cond t [] (part ++ b ∷ []))
  body_at direction goes part at true is = refl
  body_at direction goes part at false is =
      let whole = longer part at in
      let body : body_length (part ++ b ∷ []) ≡ number = (ends.each part at).2 in
      (kind, kind_longer part at, goes, omega arith, omega arith, (ends.each part at).3)

  pub body_advances : (direction : Direction) → direction_of (Some kind) ≡ Some direction → event_of_head (unfinished_by r) kind ≡ None
      → Advances r (leaving (record r { at = r.at + 1; moment = moment }) direction number) (b ∷ []) []
  body_advances direction goes is = one_step r (leaving (record r { at = r.at + 1; moment = moment }) direction number) b [] refl (λ part at. (
    cond (number == 0) [] (part ++ b ∷ []),
    body_at direction goes part at (number == 0) refl,
    quiet_refusal is part at,
    quiet_after is part at,
    ap (λ o. put o []) (placed_none (context_of r part) b (ended_event part at ∙ is)),
  ))

  -- The head of a RELEASE.
  pub release_advances : kind ≡ kinds.Release → event_of_head (unfinished_by r) kind ≡ None → number ≡ 2
      → Advances r (record r { at = r.at + 1; stage = stages.Release None; moment = moment }) (b ∷ []) []
  release_advances releases is two = one_step r (record r { at = r.at + 1; stage = stages.Release None; moment = moment }) b [] refl (λ part at. (
    part ++ b ∷ [],
    (kind_longer part at ∙ ap Some releases, longer part at, (ends.each part at).2 ∙ two, (ends.each part at).3),
    quiet_refusal is part at,
    quiet_after is part at ∙ ap (λ m. record (context_of r part) { at = r.at + 1; part = cond (m == 0) [] (part ++ b ∷ []); records = cond (m == 0) (r.records + 1) r.records }) two,
    ap (λ o. put o []) (placed_none (context_of r part) b (ended_event part at ∙ is)),
  ))

  pub release_sound : IsSound (record r { at = r.at + 1; stage = stages.Release None; moment = moment })
  release_sound =
      let some = ends.begun in
      let few = ends.few in
      let past = past_header in
      record {
        counted = omega (arith, sound.counted);
        begun = λ begun. room;
        within = tt;
        past_header = λ begun. omega arith;
        header_first = λ less. absurd (omega arith);
        emptied = λ e. absurd (cc);
        sent = sound.sent;
        recv = sound.recv;
      }

  -- a body that its kind allows isn't longer than any may be
  body_short : (direction : Direction) → direction_of (Some kind) ≡ Some direction → number ≤ 16777216
  body_short direction goes = short_of r.header.version kind number direction goes ends.allowed

  pub body_begins_sound : (direction : Direction) → direction_of (Some kind) ≡ Some direction → IsSound (leaving (record r { at = r.at + 1; moment = moment }) direction number)
  body_begins_sound direction goes =
      let some = ends.begun in
      let few = ends.few in
      let past = past_header in
      let short = body_short direction goes in
      left_sound (record r { at = r.at + 1; moment = moment }) direction number (omega (arith, sound.counted)) short (omega arith) room sound.sent sound.recv

-- The first byte of a RELEASE's body.
byte_at : (part : List ℕ) (b : ℕ) → slice_index (part ++ b ∷ []) (length part) ≡ b
byte_at part b = get_or-append_right part (b ∷ []) (length part) (length part) 0 refl (omega arith) ∙ ap (λ k. slice_index (b ∷ []) k) (let none : length part - length part ≡ 0 = omega arith in none)

pub high_advances : (r : Reading) (b : ℕ) → IsSound r → r.stage ≡ stages.Release None → Advances r (record r { at = r.at + 1; stage = stages.Release (Some b) }) (b ∷ []) []
high_advances r b sound staged = one_step r (record r { at = r.at + 1; stage = stages.Release (Some b) }) b [] refl (λ part at. (
    let c = context_of r part in
    let ahead = head_length r.header.version in
    let least = head_least r.header.version in
    let some : begun_in r.stage ≡ 13 = ap begun_in staged in
    let past_header : 8 ≤ r.at = sound.past_header (omega arith) in
    let h = subst (λ s. IsAt ahead r.moment s part) staged at in
    let long : length part ≡ ahead = h.1 in
    let l = length-append part (b ∷ []) in (
      part ++ b ∷ [],
      (
        kind_of-append part (b ∷ []) (omega arith) ∙ h.0,
        omega arith,
        body_length-append part (b ∷ []) (omega arith) ∙ h.2,
        moment_stays ahead part (b ∷ []) (omega arith) ∙ h.3,
        ap (slice_index (part ++ b ∷ [])) (sym long) ∙ byte_at part b,
      ),
      release_high_refusal r.limit c b past_header h.0 h.1,
      release_high_after c b past_header h.0 h.2 h.1,
      ap (λ o. put o []) (placed_none c b (release_high_event c b past_header h.0 h.1)),
    )))

pub high_sound : (r : Reading) (b : ℕ) → IsSound r → r.stage ≡ stages.Release None → IsSound (record r { at = r.at + 1; stage = stages.Release (Some b) })
high_sound r b sound staged =
    let some : begun_in r.stage ≡ 13 = ap begun_in staged in
    let past_header : 8 ≤ r.at = sound.past_header (omega arith) in
    let room : r.records < 4294967295 = sound.begun (omega arith) in
    record {
      counted = omega (arith, sound.counted);
      begun = λ begun. room;
      within = tt;
      past_header = λ begun. omega arith;
      header_first = λ less. absurd (omega arith);
      emptied = λ e. absurd (cc);
      sent = sound.sent;
      recv = sound.recv;
    }

-- The second, which ends the record.
split_last : (n : ℕ) (part : List ℕ) → length part ≡ n + 1 → (head : List ℕ) × (first : ℕ) × (part ≡ head ++ first ∷ []) × (length head ≡ n) × (slice_index part n ≡ first)
split_last n [] e = absurd (omega arith)
split_last zero (p ∷ []) e = ([], p, refl, refl, refl)
split_last zero (p ∷ q ∷ part) e = absurd (omega arith)
split_last (suc n) (p ∷ part) e =
    let s = split_last n part (omega arith) in
    let long : length s.0 ≡ n = s.3 in
    (p ∷ s.0, s.1, ap (λ (l : List ℕ). p ∷ l) s.2, omega arith, s.4)

pub release_emits : (r : Reading) (high b : ℕ) → IsSound r → r.stage ≡ stages.Release (Some high) → CompletesEvent r r.moment b (released (from_be_bytes w16 (high ∷ b ∷ [])))
release_emits r high b sound staged part at =
    let c = context_of r part in
    let ahead = head_length r.header.version in
    let some : begun_in r.stage ≡ 14 = ap begun_in staged in
    let past_header : 8 ≤ r.at = sound.past_header (omega arith) in
    let h = subst (λ s. IsAt ahead r.moment s part) staged at in
    let long : length part ≡ ahead + 1 = h.1 in
    let six = split_last ahead part long in
    let event = released (from_be_bytes w16 (high ∷ b ∷ [])) in
    let first : part ≡ six.0 ++ high ∷ [] = six.2 ∙ ap (λ n. six.0 ++ n ∷ []) (sym six.4 ∙ h.4) in (
      release_low_refusal r.limit c b six.0 high past_header h.0 first six.3,
      placed_some c b event (release_low_event c b six.0 high past_header h.0 first six.3)
          ∙ ap (λ m. Some (next_placed r.connections (in_record_of r m) event)) (moment_stays ahead part (b ∷ []) (omega arith) ∙ h.3),
      release_low_after c b six.0 high past_header h.0 h.2 first six.3,
    )
