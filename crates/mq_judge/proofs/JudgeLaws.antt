-- What a judge keeps, piece by piece.
use Rattle.std.proofs.Common.{◌≡◌, ℕ, zero, suc, ◌+◌, ◌<◌, ◌≤◌, ◌⊎◌, inl, inr, Bool, true, false, nat_lt, List, [], ◌∷◌, ◌++◌, length, map, Option, Some, None, Result, Ok, Err, OnOk, IfErr, refl, sym, ◌∙◌, ap, subst, arith, length-append, append_assoc, append-nil}
use Rattle.std.specs.Prelude.{◌||◌, IfSome, if◌then◌else◌}
use Rattle.std.proofs.lemmas.Bool.{ltb-true, ltb-false}
use Rattle.std.proofs.lemmas.List.{length-map, nil_from_length}
use Rattle.mq_log.specs.declared.refusal.Refusal.{Refusal}
use Rattle.mq_log.specs.declared.refusal.Refusal.TheVariants as refusals
use Rattle.mq_log.specs.declared.header.Header.{Header}
use Rattle.mq_trace.specs.declared.reading.Reading.{Reading}
use Rattle.mq_log.specs.Framing.{header_by}
use Rattle.mq_log.specs.Events.{Placed, events, events_back}
use Rattle.mq_log.specs.Refusals.{refused, is_cut_short}
use Rattle.mq_log.specs.Refusing.{moved}
use Rattle.mq_trace.specs.Tracing.{Traced, IsTracedTo, KeepsHeader, TracesPiece, Why, StopsAt, StopsInHeader, Begins}
use Rattle.mq_log.proofs.Exports.{events-header}
use Rattle.mq_trace.proofs.Exports.{keeps_header}
use Rattle.mq_rules.specs.declared.note.Seen.{Seen}
use Rattle.mq_rules.specs.declared.role.Further.{Further}
use Rattle.mq_rules.specs.declared.role.Tested.{Tested}
use Rattle.mq_rules.specs.declared.rule.Rule.{Rule}
use Rattle.mq_rules.specs.FaultKeys.{fault_at}
use Rattle.mq_rules.specs.Faults.{fault_in}
use Rattle.mq_rules.specs.Notes.{tested_as, tested_by, seen, seen_in}
use Rattle.mq_rules.proofs.Exports.{fault_in-start}
use Rattle.mq_judge.specs.declared.watching.Watching.{Watching}
use Rattle.mq_watchers.specs.Kinds.{is_counting as counts}
use Rattle.mq_judge.specs.Watching.{IsFound, IsWatching, IsTallying, IsJudging}
use Rattle.mq_judge.specs.declared.judge.Judge.{Judge}
use Rattle.mq_judge.specs.Judging.{FollowsBy, KnowsBy, RefusesIn, JudgesPiece, JudgesPieceBy, TakesEvents, AreFaultsOf}
use Rattle.mq_report.specs.Stopping.{IsRefusedByte}
use Rattle.mq_report.proofs.Exports.{header-stays}

-- ---- the events and the header

-- a log of no bytes has no events
seen-nothing : seen_in [] ≡ []
unfolding seen_in events events_back
seen-nothing = refl

nothing-complete : events [] ≡ []
unfolding events events_back
nothing-complete = refl

-- where nothing was seen, no event is complete
none-complete : (log : List ℕ) → seen_in log ≡ [] → events log ≡ []
unfolding seen_in
none-complete log none = nil_from_length (events log) (sym (length-map (events log) seen) ∙ ap length none)

-- nor has a header
pub unseen : (log : List ℕ) → length log ≤ 8 → seen_in log ≡ []
unfolding seen_in
unseen log h = ap (map seen) (events-header log h)

-- the end that a whole header names
pub tested-stays : (further : Further) (log more : List ℕ) → 8 ≤ length log → tested_by further (log ++ more) ≡ tested_by further log
tested-stays further log more long = ap (tested_as further) (header-stays log more long)

-- ---- what is known

-- the faults that are found are those of the log
faults-found : (further : Further) (w : Watching) (log : List ℕ) → (8 ≤ length log → w.tested ≡ tested_by further log) → IsFound w (seen_in log) → AreFaultsOf further log w.faults
faults-found further w log named found k rule = go (nat_lt (length log) 8) refl
  where
    none : nat_lt (length log) 8 ≡ true → seen_in log ≡ []
    none is = let short = ltb-true (length log) 8 is in unseen log (omega (arith, short))

    go : (b : Bool) → nat_lt (length log) 8 ≡ b → fault_at w.faults k rule ≡ fault_in (tested_by further log) (seen_in log) k rule
    go true is =
        found.each k rule
        ∙ ap (λ s. fault_in w.tested s k rule) (none is)
        ∙ fault_in-start w.tested k rule
        ∙ sym (fault_in-start (tested_by further log) k rule)
        ∙ ap (λ s. fault_in (tested_by further log) s k rule) (sym (none is))
    go false is = found.each k rule ∙ ap (λ t. fault_in t (seen_in log) k rule) (named (ltb-false (length log) 8 is))

events-counted : (w : Watching) (log : List ℕ) → IsFound w (seen_in log) → w.events ≡ length (events log)
unfolding seen_in
events-counted w log found = found.count ∙ length-map (events log) seen

pub knows-found : (further : Further) (tracer : Traced) (w : Watching) (log : List ℕ) → KeepsHeader tracer.reading log → (8 ≤ length log → w.tested ≡ tested_by further log) → IsFound w (seen_in log)
    → KnowsBy further tracer.reading w log
knows-found further tracer w log header named found = record { header = header; faults = faults-found further w log named found; events = events-counted w log found }

pub follows-nothing : (limit : ℕ) (further : Further) (tracer : Traced) (w : Watching) → IsTracedTo tracer [] → tracer.reading.limit ≡ limit → IsWatching w [] → IsTallying w [] → FollowsBy limit further tracer w []
follows-nothing limit further tracer w traced within watches tallies =
    let here : IsWatching w (seen_in []) = subst (IsWatching w) (sym seen-nothing) watches in
    record {
      traced = traced;
      within = within;
      knows = knows-found further tracer w [] (keeps_header tracer.reading [] traced.keeps) (λ long. absurd (omega (arith, long))) here.found;
      named = λ long. absurd (omega (arith, long));
      watches = here;
      tallies = subst (IsTallying w) (sym nothing-complete) tallies;
    }

-- nothing is refused in a log that a judge follows
pub unrefused : (limit : ℕ) (further : Further) (tracer : Traced) (w : Watching) (log : List ℕ) → FollowsBy limit further tracer w log → refused limit log ≡ None
unrefused limit further tracer w log f = subst (λ l. refused l log ≡ None) f.within f.traced.keeps.unrefused

-- ---- a piece that is taken in by a tracer, whose sink judges the events

abbrev Agrees : {S : Type 0} → (S → Watching) → Tested → Bool → S → List Placed → Type 0
Agrees watching tested counting s received = IsJudging tested counting (watching s) received

-- the sink refuses for want of memory alone, and then has the faults of the events before
abbrev Refuses : {S : Type 0} → (S → Watching) → Tested → S → List Placed → Refusal → Type 0
Refuses watching tested s received refusal = (refusal ≡ refusals.Memory 0) × ((watching s).tested ≡ tested) × IsFound (watching s) (map seen received)

why-refused : {S : Type 0} (watching : S → Watching) (tested : Tested) (counting : Bool) (limit : ℕ) (log taken : List ℕ) (byte : ℕ) (old new : S) (r : Refusal) → Agrees watching tested counting old (events log)
    → Why (Agrees watching tested counting) (Refuses watching tested) limit log taken byte old new r
    → IsRefusedByte limit (log ++ taken) byte r × ((watching new).tested ≡ tested) × IsFound (watching new) (map seen (events (log ++ taken)))
why-refused watching tested counting limit log taken byte old new r was (inl met) = let now = met.receives was in (inl met.met, now.0, now.1.found)
why-refused watching tested counting limit log taken byte old new r was (inr (inl lacks)) = let now = lacks.receives was in (inr (lacks.unmet, lacks.is, inl lacks.needs), now.0, now.1.found)
why-refused watching tested counting limit log taken byte old new r was (inr (inr own)) =
    let is = own.refused was in
    (inr (own.unmet, own.is ∙ ap (λ o. moved o (length (log ++ taken))) is.0, inr own.completes), is.1, is.2)

pub fed-events : {S : Type 0} (watching : S → Watching) (tested : Tested) (counting : Bool) (limit : ℕ) (next : Traced) (log piece : List ℕ) (old new : S) (result : Result (Unit {0}) Refusal)
    → (watching old).tested ≡ tested → IsWatching (watching old) (seen_in log) → counts (watching old).watchers ≡ counting → IsTallying (watching old) (events log)
    → OnOk result (IsTracedTo next (log ++ piece)) → OnOk result (next.reading.limit ≡ limit)
    → TracesPiece (Agrees watching tested counting) (Refuses watching tested) limit log piece old new result
    → IfErr result (λ r. StopsAt (Agrees watching tested counting) (Refuses watching tested) limit log piece old new next.reading r)
    → TakesEvents limit tested counting log piece next (watching new) result
unfolding seen_in
fed-events watching tested counting limit next log piece old new (Ok done) whom watches kind tallies traced same t stops = (traced, same, t.1 (whom, watches, kind, tallies))
fed-events watching tested counting limit next log piece old new (Err r) whom watches kind tallies traced same t stops =
    let s = stops.0 in
    let w = why-refused watching tested counting limit log s.taken s.byte old new r (whom, watches, kind, tallies) s.why in
    (record { taken = s.taken; byte = s.byte; later = s.later; is = s.is; unrefused = s.unrefused; why = w.0 }, stops.1, w.1, w.2)

-- ---- the tested end, once the header is whole

-- what is kept of the events, after what belongs to the header
pub record Begun (further : Further) (w : Watching) (log : List ℕ) : Type 0 where
  pub named : 8 ≤ length log → w.tested ≡ tested_by further log
  pub watches : IsWatching w (seen_in log)
  pub tallies : IsTallying w (events log)

no-events : (log : List ℕ) (count : ℕ) → count ≡ length (seen_in log) → count ≡ 0 → seen_in log ≡ []
no-events log count is none = nil_from_length (seen_in log) (sym is ∙ none)

-- no event is complete in the header, so its end is taken up by watchers that have taken in none
pub begun : (limit : ℕ) (further : Further) (first mid : Traced) (w v : Watching) (log piece rest : List ℕ) (header : Option Header) → FollowsBy limit further first w log → (b : Begins mid log piece rest)
    → header ≡ (if nat_lt (length (log ++ b.taken)) 8 then None else Some (header_by (log ++ b.taken)))
    → (w.events ≡ 0 → IfSome header (λ named. (v.tested ≡ tested_as further named) × IsWatching v [] × IsTallying v [])) → (header ≡ None → v ≡ w) → ((w.events ≡ 0 → ⊥) → v ≡ w)
    → Begun further v (log ++ b.taken)
unfolding seen_in
begun limit further first mid w v log piece rest header f b is anew unnamed later = go (nat_lt (length (log ++ b.taken)) 8) refl
  where
    same : seen_in (log ++ b.taken) ≡ seen_in log
    same = ap (map seen) b.no_event

    kept : v ≡ w → IsWatching v (seen_in (log ++ b.taken))
    kept e = subst (IsWatching v) (sym same) (subst (λ (u : Watching). IsWatching u (seen_in log)) (sym e) f.watches)

    tallied : v ≡ w → IsTallying v (events (log ++ b.taken))
    tallied e = subst (IsTallying v) (sym b.no_event) (subst (λ (u : Watching). IsTallying u (events log)) (sym e) f.tallies)

    -- before the first event
    fresh : header ≡ Some (header_by (log ++ b.taken)) → w.events ≡ 0 → Begun further v (log ++ b.taken)
    fresh whole none =
        let now : (v.tested ≡ tested_as further (header_by (log ++ b.taken))) × IsWatching v [] × IsTallying v [] =
        subst (λ (o : Option Header). IfSome o (λ named. (v.tested ≡ tested_as further named) × IsWatching v [] × IsTallying v [])) whole (anew none) in
        let unseen_yet : seen_in log ≡ [] = no-events log w.events f.watches.found.count none in
        record {
          named = λ long. now.0;
          watches = subst (IsWatching v) (sym (same ∙ unseen_yet)) now.1;
          tallies = subst (IsTallying v) (sym (b.no_event ∙ none-complete log unseen_yet)) now.2;
        }

    -- after it
    after : (w.events ≡ 0 → ⊥) → Begun further v (log ++ b.taken)
    after some =
        let e : v ≡ w = later some in
        let long : nat_lt (length log) 8 ≡ false → Begun further v (log ++ b.taken) = λ is.
        let whole : 8 ≤ length log = ltb-false (length log) 8 is in
        record { named = λ h. ap (λ (u : Watching). u.tested) e ∙ f.named whole ∙ sym (tested-stays further log b.taken whole); watches = kept e; tallies = tallied e } in
        let short : nat_lt (length log) 8 ≡ true → Begun further v (log ++ b.taken) = λ is.
        let few : length log < 8 = ltb-true (length log) 8 is in
        absurd (some (f.watches.found.count ∙ ap length (unseen log (omega (arith, few))))) in
        by_length (nat_lt (length log) 8) refl long short
      where
        by_length : {G : Type 0} (t : Bool) → nat_lt (length log) 8 ≡ t → (nat_lt (length log) 8 ≡ false → G) → (nat_lt (length log) 8 ≡ true → G) → G
        by_length true is p q = q is
        by_length false is p q = p is

    by_count : (n : ℕ) → w.events ≡ n → header ≡ Some (header_by (log ++ b.taken)) → Begun further v (log ++ b.taken)
    by_count zero none whole = fresh whole none
    by_count (suc n) some whole = after (λ none. omega (arith, some, none))

    go : (t : Bool) → nat_lt (length (log ++ b.taken)) 8 ≡ t → Begun further v (log ++ b.taken)
    go true short =
        let few : length (log ++ b.taken) < 8 = ltb-true (length (log ++ b.taken)) 8 short in
        record {
          named = λ long. absurd (omega (arith, few, long));
          watches = kept (unnamed (is ∙ ap (λ (t : Bool). if t then None else Some (header_by (log ++ b.taken))) short));
          tallies = tallied (unnamed (is ∙ ap (λ (t : Bool). if t then None else Some (header_by (log ++ b.taken))) short));
        }
    go false long = by_count w.events refl (is ∙ ap (λ (t : Bool). if t then None else Some (header_by (log ++ b.taken))) long)

-- ---- a piece of a log

-- the end that a longer log names, where its header is whole or nothing was added
named-on : (further : Further) (v : Watching) (log more : List ℕ) → Begun further v log → (8 ≤ length log) ⊎ (more ≡ []) → 8 ≤ length (log ++ more) → v.tested ≡ tested_by further (log ++ more)
named-on further v log more b (inl whole) long = b.named whole ∙ sym (tested-stays further log more whole)
named-on further v log more b (inr none) long =
    let same : log ++ more ≡ log = ap (λ (l : List ℕ). log ++ l) none ∙ append-nil log in
    b.named (subst (λ (l : List ℕ). 8 ≤ length l) same long) ∙ ap (tested_by further) (sym same)

-- the bytes after the header are taken in, or one of them isn't
pub consumed : (limit : ℕ) (further : Further) (first mid next : Traced) (w v x : Watching) (log piece rest : List ℕ) (result : Result (Unit {0}) Refusal) → FollowsBy limit further first w log → (b : Begins mid log piece rest)
    → mid.reading.limit ≡ first.reading.limit → Begun further v (log ++ b.taken) → IfErr result (λ r. next.refusal ≡ Some r)
    → TakesEvents mid.reading.limit v.tested (counts v.watchers) (log ++ b.taken) rest next x result → JudgesPieceBy limit further next x log piece result
unfolding seen_in
consumed limit further first mid next w v x log piece rest (Ok done) f b lim from given t =
    let all : (log ++ b.taken) ++ rest ≡ log ++ piece = append_assoc log b.taken rest ∙ ap (λ (p : List ℕ). log ++ p) (sym b.is) in
    let named : 8 ≤ length ((log ++ b.taken) ++ rest) → x.tested ≡ tested_by further ((log ++ b.taken) ++ rest) = λ long. t.2.0 ∙ named-on further v (log ++ b.taken) rest from b.whole long in
    let here : FollowsBy limit further next x ((log ++ b.taken) ++ rest) = record {
      traced = t.0;
      within = t.1 ∙ lim ∙ f.within;
      knows = knows-found further next x ((log ++ b.taken) ++ rest) (keeps_header next.reading ((log ++ b.taken) ++ rest) t.0.keeps) named t.2.1.found;
      named = named;
      watches = t.2.1;
      tallies = t.2.3;
    } in
    let follows : FollowsBy limit further next x (log ++ piece) = subst (FollowsBy limit further next x) all here in
    (unrefused limit further next x (log ++ piece) follows, follows)
consumed limit further first mid next w v x log piece rest (Err r) f b lim from given t =
    let s = t.0 in
    let all : (log ++ b.taken) ++ s.taken ≡ log ++ (b.taken ++ s.taken) = append_assoc log b.taken s.taken in
    let same : mid.reading.limit ≡ limit = lim ∙ f.within in
    let some : (8 ≤ length (log ++ b.taken)) ⊎ (s.taken ≡ []) = elim b.whole [
      | inl whole ↦ inl whole
      | inr none ↦ absurd (omega (arith, ap length (sym none ∙ s.is), length-append s.taken (s.byte ∷ s.later)))
    ] in
    let here : KnowsBy further next.reading x ((log ++ b.taken) ++ s.taken) =
    knows-found further next x ((log ++ b.taken) ++ s.taken) t.1 (λ long. t.2 ∙ named-on further v (log ++ b.taken) s.taken from some long) t.3 in (
      record {
        taken = b.taken ++ s.taken;
        byte = s.byte;
        later = s.later;
        is = b.is ∙ ap (λ (l : List ℕ). b.taken ++ l) s.is ∙ sym (append_assoc b.taken s.taken (s.byte ∷ s.later));
        unrefused = subst (λ (l : List ℕ). refused limit l ≡ None) all (subst (λ (n : ℕ). refused n ((log ++ b.taken) ++ s.taken) ≡ None) same s.unrefused);
        why = subst (λ (l : List ℕ). IsRefusedByte limit l s.byte r) all (subst (λ (n : ℕ). IsRefusedByte n ((log ++ b.taken) ++ s.taken) s.byte r) same s.why);
      },
      record { answers = given; knows = subst (KnowsBy further next.reading x) all here },
    )

-- places are counted if they were before
pub counting-stays : (limit : ℕ) (tested : Tested) (counting before : Bool) (log piece : List ℕ) (next : Traced) (x : Watching) (result : Result (Unit {0}) Refusal) → counting ≡ before
    → TakesEvents limit tested counting log piece next x result → OnOk result (counts x.watchers ≡ before)
counting-stays limit tested counting before log piece next x (Ok done) same t = t.2.2 ∙ same
counting-stays limit tested counting before log piece next x (Err r) same t = tt

-- a byte of the header isn't taken in
pub refused-first : (limit : ℕ) (further : Further) (first next : Traced) (w : Watching) (log piece : List ℕ) (r : Refusal) → FollowsBy limit further first w log → next.refusal ≡ Some r
    → StopsInHeader first.reading.limit log piece next.reading r → JudgesPieceBy limit further next w log piece (Err r)
refused-first limit further first next w log piece r f given t =
    let s = t.0.0 in
    let few : length (log ++ s.taken) < 8 = t.1 in
    let part : length log ≤ 8 = omega (arith, few, length-append log s.taken) in
    let most : length (log ++ s.taken) ≤ 8 = omega (arith, few) in
    let found : IsFound w (seen_in (log ++ s.taken)) = subst (IsFound w) (unseen log part ∙ sym (unseen (log ++ s.taken) most)) f.watches.found in (
      record {
        taken = s.taken;
        byte = s.byte;
        later = s.later;
        is = s.is;
        unrefused = subst (λ (n : ℕ). refused n (log ++ s.taken) ≡ None) f.within s.unrefused;
        why = subst (λ (n : ℕ). IsRefusedByte n (log ++ s.taken) s.byte r) f.within (why first.reading.limit s.taken s.byte s.why);
      },
      record { answers = given; knows = knows-found further next w (log ++ s.taken) t.0.1 (λ long. absurd (omega (arith, few, long))) found },
    )
  where
    why : (n : ℕ) (taken : List ℕ) (byte : ℕ) → Why {S = Unit {0}} (λ _ _. Unit {0}) (λ _ _ _. ⊥) n log taken byte tt tt r → IsRefusedByte n (log ++ taken) byte r
    why n taken byte (inl met) = inl met.met
    why n taken byte (inr (inl lacks)) = inr (lacks.unmet, lacks.is, inl lacks.needs)
    why n taken byte (inr (inr own)) = absurd (own.refused tt)

-- a judge that takes no more in, where it answers a refusal
pub refuses-where-err : (log piece : List ℕ) (old new : Judge) (result : Result (Unit {0}) Refusal) → new.limit ≡ old.limit → JudgesPiece log piece new result
    → IfErr result (λ r. RefusesIn old.limit new log piece r)
refuses-where-err log piece old new (Ok done) same t = tt
refuses-where-err log piece old new (Err r) same t = subst (λ (l : ℕ). RefusesIn l new log piece r) same t

-- ---- the end

-- a tracer that had refused a byte returns that refusal, and not Ok
pub not-refused : {A B : Type 0} (o : Option Refusal) (done : A) (P : Refusal → Type 0) (result : Result B Refusal) → IfSome o (λ refusal. (Ok done ≡ Err refusal) × P refusal)
    → IfSome o (λ refusal. result ≡ Err refusal)
not-refused None done P result h = tt
not-refused (Some x) done P result h = absurd (let bad = h.0 in cc)

-- where no header is known, it isn't whole
pub cut_unnamed : (log : List ℕ) → None ≡ (if nat_lt (length log) 8 then None else Some (header_by log)) → is_cut_short log ≡ true
unfolding is_cut_short
cut_unnamed log h = go (nat_lt (length log) 8) _ h
  where
    go : (b c : Bool) → None ≡ (if b then None else Some (header_by log)) → (b || c) ≡ true
    go true c h = refl
    go false c h = absurd (cc)
