-- The moment of a record: what its bytes spell, and the states of a log's reader within it.
use Rattle.std.proofs.Common.{◌≡◌, ℕ, ◌+◌, ◌*◌, ◌<◌, ◌≤◌, Bool, true, false, List, [], ◌∷◌, ◌++◌, length, take, drop, Some, refl, sym, ◌∙◌, ap, subst, arith, zero, suc, length-append}
use Rattle.std.specs.Prelude.{◌==◌, if◌then◌else◌, slice_index}
use Rattle.std.specs.Int.{w64, from_be_bytes}
use Rattle.std.proofs.lemmas.List.{drop_all, drop-append-le, take_all, take-append-le, length-take}
use Rattle.mq_log.specs.declared.kind.RecordKind.{RecordKind}
use Rattle.mq_trace.specs.declared.stage.Stage.TheVariants as stages
use Rattle.mq_log.specs.declared.refusal.Refusal.TheVariants as refusals
use Rattle.mq_trace.specs.declared.reading.Reading.{Reading}
use Rattle.mq_log.specs.Framing.{kind_of, body_length, opens, spelled_from, moment_in, length_end, head_length}
use Rattle.mq_log.specs.Refusals.{allows_length}
use Rattle.mq_log.specs.Context.{emptied, refusal_for, put}
use Rattle.mq_trace.specs.Keeping.{state_in, IsAt, StandsAt, opens_in, spellings, begun_in, context_of, IsWithin, IsSound, Advances}
use Rattle.mq_trace.specs.Heads.{head_of}
use Rattle.mq_trace.specs.Stepping.{in_moment, EndsHead}
use Rattle.mq_log.proofs.Exports.{body_length-append, kind_of-append}
use Rattle.mq_trace.proofs.StepLaws.{placed_none, length_refusal, middle_refusal, middle_event, middle_after}
use Rattle.mq_trace.proofs.StageLaws.{one_step, begun_some, head_after, head_room, head_opening, head_is, head_long, head_opens}
use Rattle.mq_trace.proofs.LengthLaws.{spelled_more, whole_length}

pub head_with : (version : ℕ) → (version == 2) ≡ true → head_length version ≡ 13
unfolding head_length
head_with version is = ap (λ (b : Bool). if b then 13 else length_end) is

pub head_without : (version : ℕ) → (version == 2) ≡ false → head_length version ≡ length_end
unfolding head_length
head_without version is = ap (λ (b : Bool). if b then 13 else length_end) is

pub head_most : (version : ℕ) → head_length version ≤ 13
unfolding head_length
head_most version = by (version == 2)
  where
    by : (b : Bool) → (if b then 13 else length_end) ≤ 13
    by true = omega arith
    by false = omega arith

-- Where a head has no moment, it is 0; all the bytes so far spell it; and no byte after the head changes it.
pub moment_none : (part : List ℕ) → moment_in length_end part ≡ 0
unfolding moment_in
moment_none part = let l = length-take length_end part in ap (spelled_from 0) (drop_all length_end (take length_end part) (omega arith))

pub moment_so_far : (ahead : ℕ) (part : List ℕ) → length part ≤ ahead → moment_in ahead part ≡ spelled_from 0 (drop length_end part)
unfolding moment_in
moment_so_far ahead part h = ap (λ (l : List ℕ). spelled_from 0 (drop length_end l)) (take_all ahead part h)

pub moment_stays : (ahead : ℕ) (a c : List ℕ) → ahead ≤ length a → moment_in ahead (a ++ c) ≡ moment_in ahead a
unfolding moment_in
moment_stays ahead a c h = ap (λ (l : List ℕ). spelled_from 0 (drop length_end l)) (take-append-le ahead a c h)

moment_more : (part : List ℕ) (b : ℕ) → length_end ≤ length part → spelled_from 0 (drop length_end (part ++ b ∷ [])) ≡ spelled_from 0 (drop length_end part) * 256 + b
moment_more part b h = ap (spelled_from 0) (drop-append-le length_end part (b ∷ []) h) ∙ spelled_more 0 (drop length_end part) b

spellings_more : (count : ℕ) → spellings (count + 1) ≡ spellings count * 256
spellings_more count = ap spellings (let same : count + 1 ≡ suc count = omega arith in same)

spellings_few : (count : ℕ) → count ≤ 7 → spellings count ≤ 72057594037927936
spellings_few zero h = omega arith
spellings_few (suc zero) h = omega arith
spellings_few (suc (suc zero)) h = omega arith
spellings_few (suc (suc (suc zero))) h = omega arith
spellings_few (suc (suc (suc (suc zero)))) h = omega arith
spellings_few (suc (suc (suc (suc (suc zero))))) h = omega arith
spellings_few (suc (suc (suc (suc (suc (suc zero)))))) h = omega arith
spellings_few (suc (suc (suc (suc (suc (suc (suc zero))))))) h = omega arith
spellings_few (suc (suc (suc (suc (suc (suc (suc (suc count)))))))) h = absurd (omega arith)

-- the last byte of a record's length
module _ (r : Reading) (kind : RecordKind) (number b : ℕ) (sound : IsSound r) (staged : r.stage ≡ stages.Head (head_of kind 3 number)) where
  abbrev emitted : ℕ
  emitted = number * 256 + b

  ended_length : (part : List ℕ) → StandsAt r part → body_length (part ++ b ∷ []) ≡ emitted
  ended_length part at = whole_length kind 3 number b part refl (head_is r kind 3 number sound staged part at)

  ended_kind : (part : List ℕ) → StandsAt r part → kind_of (part ++ b ∷ []) ≡ Some kind
  ended_kind part at =
      let l = head_long r kind 3 number sound staged part at in
      kind_of-append part (b ∷ []) (omega arith) ∙ (head_is r kind 3 number sound staged part at).3

  allows : (part : List ℕ) → StandsAt r part → allows_length r.header.version (kind_of (part ++ b ∷ [])) (body_length (part ++ b ∷ [])) ≡ allows_length r.header.version (Some kind) emitted
  allows part at = ap (λ k. allows_length r.header.version k (body_length (part ++ b ∷ []))) (ended_kind part at) ∙ ap (allows_length r.header.version (Some kind)) (ended_length part at)

  -- A length that the kind doesn't allow.
  pub length_refused : allows_length r.header.version (Some kind) emitted ≡ false → (part : List ℕ) → StandsAt r part → refusal_for r.limit (context_of r part) b ≡ Some (refusals.Length r.at)
  length_refused barred part at =
      let l = head_long r kind 3 number sound staged part at in
      length_refusal r.limit (context_of r part) b (head_after r kind 3 number sound staged) (omega arith) (allows part at ∙ barred)

  -- A length that a moment follows.
  pub begins_moment : head_length r.header.version ≡ 13 → allows_length r.header.version (Some kind) emitted ≡ true → Advances r (in_moment r (r.at + 1) kind emitted 0 0) (b ∷ []) []
  begins_moment long allowed = one_step r (in_moment r (r.at + 1) kind emitted 0 0) b [] refl (λ part at. (
      let c = context_of r part in
      let past_header = head_after r kind 3 number sound staged in
      let l = head_long r kind 3 number sound staged part at in
      let m = length-append part (b ∷ []) in (
        part ++ b ∷ [],
        (ended_kind part at, ended_length part at, omega arith, sym (ap (spelled_from 0) (drop_all length_end (part ++ b ∷ []) (omega arith)))),
        middle_refusal r.limit c b past_header (omega arith) (omega arith) (λ e. allows part at ∙ allowed),
        middle_after c b past_header (omega arith) (omega arith) (head_opens r kind 3 number sound staged part at),
        ap (λ o. put o []) (placed_none c b (middle_event c b past_header (omega arith))),
      )))

  pub begins_moment_sound : head_length r.header.version ≡ 13 → allows_length r.header.version (Some kind) emitted ≡ true → IsSound (in_moment r (r.at + 1) kind emitted 0 0)
  begins_moment_sound long allowed =
      let some = begun_some r kind 3 number sound staged in
      let past_header = head_after r kind 3 number sound staged in
      let room = head_room r kind 3 number sound staged in
      record {
        counted = omega (arith, sound.counted);
        begun = λ begun. room;
        within = (omega arith, omega arith, long, allowed);
        past_header = λ begun. omega arith;
        header_first = λ less. absurd (omega arith);
        emptied = λ e. head_opening r kind 3 number sound staged e;
        sent = sound.sent;
        recv = sound.recv;
      }

  -- A length that ends the head.
  pub ends_without : head_length r.header.version ≡ length_end → allows_length r.header.version (Some kind) emitted ≡ true → EndsHead r kind emitted 0 b
  ends_without short allowed =
      let some = begun_some r kind 3 number sound staged in
      record {
        begun = omega arith;
        few = omega arith;
        allowed = allowed;
        each = λ part at. (
            let l = head_long r kind 3 number sound staged part at in (
              (head_is r kind 3 number sound staged part at).3,
              omega arith,
              ended_length part at,
              ap (λ n. moment_in n (part ++ b ∷ [])) short ∙ moment_none (part ++ b ∷ []),
              head_opening r kind 3 number sound staged,
            ));
      }

-- within a record's moment
module _ (r : Reading) (kind : RecordKind) (number count : ℕ) (sound : IsSound r) (staged : r.stage ≡ stages.Moment kind number count) where
  moment_begun : begun_in r.stage ≡ length_end + count
  moment_begun = ap begun_in staged

  moment_past : 8 ≤ r.at
  moment_past = let some = moment_begun in sound.past_header (omega arith)

  moment_room : r.records < 4294967295
  moment_room = let some = moment_begun in sound.begun (omega arith)

  moment_bounds : IsWithin r.header.version r.moment (stages.Moment kind number count)
  moment_bounds = subst (IsWithin r.header.version r.moment) staged sound.within

  -- There is room for one byte more.
  pub moment_small : (count ≤ 7) × (r.moment < 72057594037927936)
  moment_small = let b = moment_bounds in let few = spellings_few count b.0 in (b.0, omega (arith, b.1, few))

  moment_is : (part : List ℕ) → StandsAt r part → IsAt (head_length r.header.version) r.moment (stages.Moment kind number count) part
  moment_is part at = subst (λ s. IsAt (head_length r.header.version) r.moment s part) staged at

  moment_opening : opens (Some kind) ≡ true → (state_in r.sent ≡ emptied) × (state_in r.recv ≡ emptied)
  moment_opening e = sound.emptied (ap opens_in staged ∙ e)

  pub moment_advances : (b : ℕ) → count < 7 → Advances r (in_moment r (r.at + 1) kind number (count + 1) (r.moment * 256 + b)) (b ∷ []) []
  moment_advances b few = one_step r (in_moment r (r.at + 1) kind number (count + 1) (r.moment * 256 + b)) b [] refl (λ part at. (
      let c = context_of r part in
      let past_header = moment_past in
      let h = moment_is part at in
      let long : length part ≡ length_end + count = h.2 in
      let ends : head_length r.header.version ≡ 13 = moment_bounds.2 in
      let l = length-append part (b ∷ []) in (
        part ++ b ∷ [],
        (
          kind_of-append part (b ∷ []) (omega arith) ∙ h.0,
          body_length-append part (b ∷ []) (omega arith) ∙ h.1,
          omega arith,
          ap (λ m. m * 256 + b) h.3 ∙ sym (moment_more part b (omega arith)),
        ),
        middle_refusal r.limit c b past_header (omega arith) (omega arith) (λ e. absurd (omega arith)),
        middle_after c b past_header (omega arith) (omega arith) (λ e. moment_opening (ap opens (sym h.0) ∙ e)),
        ap (λ o. put o []) (placed_none c b (middle_event c b past_header (omega arith))),
      )))

  pub moment_sound : (b : ℕ) → count < 7 → b < 256 → IsSound (in_moment r (r.at + 1) kind number (count + 1) (r.moment * 256 + b))
  moment_sound b few byte =
      let some = moment_begun in
      let past_header = moment_past in
      let room = moment_room in
      let bounds = moment_bounds in
      let more = spellings_more count in
      let small : r.moment < spellings count = bounds.1 in
      record {
        counted = omega (arith, sound.counted);
        begun = λ begun. room;
        within = (omega arith, omega (arith, more, small, byte), bounds.2, bounds.3);
        past_header = λ begun. omega arith;
        header_first = λ less. absurd (omega arith);
        emptied = λ e. moment_opening e;
        sent = sound.sent;
        recv = sound.recv;
      }

  -- Its last byte ends the head.
  pub ends_moment : (b : ℕ) → count ≡ 7 → EndsHead r kind number (r.moment * 256 + b) b
  ends_moment b last =
      let some = moment_begun in
      let bounds = moment_bounds in
      let ends : head_length r.header.version ≡ 13 = bounds.2 in
      record {
        begun = omega arith;
        few = omega arith;
        allowed = bounds.3;
        each = λ part at. (
            let h = moment_is part at in
            let long : length part ≡ length_end + count = h.2 in
            let l = length-append part (b ∷ []) in (
              h.0,
              omega arith,
              body_length-append part (b ∷ []) (omega arith) ∙ h.1,
              moment_so_far (head_length r.header.version) (part ++ b ∷ []) (omega arith) ∙ moment_more part b (omega arith) ∙ ap (λ m. m * 256 + b) (sym h.3),
              moment_opening,
            ));
      }

-- All of it at once.
pub moment_eight : (bytes : List ℕ) → 13 ≤ length bytes → moment_in 13 bytes
    ≡ from_be_bytes w64 (slice_index bytes 5 ∷ slice_index bytes 6 ∷ slice_index bytes 7 ∷ slice_index bytes 8 ∷ slice_index bytes 9 ∷ slice_index bytes 10 ∷ slice_index bytes 11 ∷ slice_index bytes 12 ∷ [])
unfolding moment_in
moment_eight [] h = absurd (omega arith)
moment_eight (k ∷ []) h = absurd (omega arith)
moment_eight (k ∷ x ∷ []) h = absurd (omega arith)
moment_eight (k ∷ x ∷ y ∷ []) h = absurd (omega arith)
moment_eight (k ∷ x ∷ y ∷ z ∷ []) h = absurd (omega arith)
moment_eight (k ∷ x ∷ y ∷ z ∷ w ∷ []) h = absurd (omega arith)
moment_eight (k ∷ x ∷ y ∷ z ∷ w ∷ a ∷ []) h = absurd (omega arith)
moment_eight (k ∷ x ∷ y ∷ z ∷ w ∷ a ∷ b ∷ []) h = absurd (omega arith)
moment_eight (k ∷ x ∷ y ∷ z ∷ w ∷ a ∷ b ∷ c ∷ []) h = absurd (omega arith)
moment_eight (k ∷ x ∷ y ∷ z ∷ w ∷ a ∷ b ∷ c ∷ d ∷ []) h = absurd (omega arith)
moment_eight (k ∷ x ∷ y ∷ z ∷ w ∷ a ∷ b ∷ c ∷ d ∷ e ∷ []) h = absurd (omega arith)
moment_eight (k ∷ x ∷ y ∷ z ∷ w ∷ a ∷ b ∷ c ∷ d ∷ e ∷ f ∷ []) h = absurd (omega arith)
moment_eight (k ∷ x ∷ y ∷ z ∷ w ∷ a ∷ b ∷ c ∷ d ∷ e ∷ f ∷ g ∷ []) h = absurd (omega arith)
moment_eight (k ∷ x ∷ y ∷ z ∷ w ∷ a ∷ b ∷ c ∷ d ∷ e ∷ f ∷ g ∷ i ∷ bytes) h = omega arith
