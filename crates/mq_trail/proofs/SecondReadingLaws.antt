-- A log that is read again, for a sink that lacks nothing but memory.
use Rattle.std.proofs.Common.{◌≡◌, ℕ, Bool, true, false, nat_lt, ◌⊎◌, inl, inr, List, [], ◌∷◌, ◌++◌, length, Option, Some, None, Result, Ok, Err, OnOk, IfErr, IfSome, refl, sym, ap, subst, ◌∙◌, append-nil}
use Rattle.mq_log.specs.declared.refusal.Refusal.{Refusal}
use Rattle.mq_log.specs.declared.refusal.Refusal.TheVariants as refusals
use Rattle.std.specs.Prelude.{◌||◌, if◌then◌else◌}
use Rattle.mq_log.specs.Framing.{header_by}
use Rattle.mq_log.specs.Events.{Placed, events}
use Rattle.mq_rules.specs.declared.role.Further.{Further}
use Rattle.mq_rules.specs.declared.role.Tested.{Tested}
use Rattle.mq_rules.specs.Notes.{tested_by}
use Rattle.mq_log.specs.Refusals.{refused, is_cut_short}
use Rattle.mq_log.specs.Refusing.{moved}
use Rattle.mq_trace.specs.Feeding.{FedAll}
use Rattle.mq_trace.specs.Tracing.{Traced, IsTracedTo, TracesPiece, Why}
use Rattle.mq_trace.proofs.Exports.{pieces-are, some-taken, whole-taken}
use Rattle.mq_report.specs.Stopping.{FedBefore, IsJudged, IsRefusedAt, IsRefusedByte, IsRefusedEnd, StopsIn, default_limit}
use Rattle.mq_trail.specs.Following.{EndsAs}

-- ---- a piece

module _ {S : Type 0} (agrees : S → List Placed → Type 0) (refuses : S → List Placed → Refusal → Type 0)
    (only : (sink : S) (received : List Placed) (own : Refusal) → refuses sink received own → own ≡ refusals.Memory 0) where
  -- a piece that is taken in
  pub piece-follows : (limit : ℕ) (next : Traced) (log piece : List ℕ) (old new : S) (result : Result (Unit {0}) Refusal) → agrees old (events log)
      → OnOk result (IsTracedTo next (log ++ piece)) → TracesPiece agrees refuses limit log piece old new result
      → OnOk result (IsTracedTo next (log ++ piece) × agrees new (events (log ++ piece)))
  piece-follows limit next log piece old new (Ok done) was traced t = (traced, t.1 was)
  piece-follows limit next log piece old new (Err r) was traced t = tt

  why-refused : (limit : ℕ) (log taken : List ℕ) (byte : ℕ) (old new : S) (r : Refusal) → agrees old (events log) → Why agrees refuses limit log taken byte old new r
      → IsRefusedByte limit (log ++ taken) byte r
  why-refused limit log taken byte old new r was (inl met) = inl met.met
  why-refused limit log taken byte old new r was (inr (inl lacks)) = inr (lacks.unmet, lacks.is, inl lacks.needs)
  why-refused limit log taken byte old new r was (inr (inr own)) =
      inr (own.unmet, own.is ∙ ap (λ o. moved o (length (log ++ taken))) (only new (events (log ++ taken)) own.own (own.refused was)), inr own.completes)

  -- one of which a byte is refused
  pub piece-stops : (limit : ℕ) (log piece : List ℕ) (old new : S) (result : Result (Unit {0}) Refusal) → agrees old (events log) → TracesPiece agrees refuses limit log piece old new result
      → IfErr result (λ r. StopsIn limit log piece r)
  piece-stops limit log piece old new (Ok done) was t = tt
  piece-stops limit log piece old new (Err r) was s =
      record { taken = s.taken; byte = s.byte; later = s.later; is = s.is; unrefused = s.unrefused; why = why-refused limit log s.taken s.byte old new r was s.why }

-- ---- a log

-- where no header is known, it isn't whole
pub cut_unnamed : (log : List ℕ) → None ≡ (if nat_lt (length log) 8 then None else Some (header_by log)) → is_cut_short log ≡ true
unfolding is_cut_short
cut_unnamed log h = go (nat_lt (length log) 8) _ h
  where
    go : (b c : Bool) → None ≡ (if b then None else Some (header_by log)) → (b || c) ≡ true
    go true c h = refl
    go false c h = absurd (cc)

-- A feeder that has a tracer, and a sink.
module _ {F S : Type 0} (tracer : F → Traced) (agrees : S → List Placed → Type 0) where
  abbrev pub Limit : F → ℕ
  Limit f = (tracer f).reading.limit

  abbrev pub FollowsBoth : F → S → List ℕ → Type 0
  FollowsBoth f s log = IsTracedTo (tracer f) log × agrees s (events log)

  abbrev pub StopsBoth : ℕ → F → S → List ℕ → List ℕ → Refusal → Type 0
  StopsBoth limit f s log piece refusal = StopsIn limit log piece refusal

  unrefused : {first : ℕ} (f : F) (log : List ℕ) → IsTracedTo (tracer f) log → Limit f ≡ first → first ≡ default_limit → refused default_limit log ≡ None
  unrefused f log traced within default = subst (λ l. refused l log ≡ None) (within ∙ default) traced.keeps.unrefused

  -- all was taken in, and the log isn't cut short
  pub fed-whole : {first : ℕ} {x y : Option (List ℕ)} {f : F} {s : S} (further : Further) (named : Tested) → FedAll Limit FollowsBoth first x y f s → first ≡ default_limit
      → ((log : List ℕ) → IsTracedTo (tracer f) log → EndsAs further log (Ok named)) → IfSome x (λ log. IsJudged log × (named ≡ tested_by further log) × agrees s (events log))
  fed-whole {first} {x} {y} {f} {s} further named took default whole =
      let log = took.log in
      let ends : (is_cut_short log ≡ false) × (named ≡ tested_by further log) = whole log took.followed.0 in
      whole-taken x y log (λ l. IsJudged l × (named ≡ tested_by further l) × agrees s (events l)) took.consumed took.ended (
        record { unrefused = unrefused f log took.followed.0 took.within default; whole = ends.0 },
        ends.1,
        took.followed.1,
      )

  -- it is cut short
  pub fed-cut : {first : ℕ} {x y : Option (List ℕ)} {f : F} {s : S} (refusal : Refusal) → FedAll Limit FollowsBoth first x y f s → first ≡ default_limit
      → ((log : List ℕ) → IsTracedTo (tracer f) log → IsRefusedEnd log refusal) → IfSome x (λ log. IsRefusedAt default_limit log y refusal)
  fed-cut {first} {x} {y} {f} {s} refusal took default cut =
      let log = took.log in
      whole-taken x y log (λ l. IsRefusedAt default_limit l y refusal) took.consumed took.ended (record {
        taken = log;
        later = [];
        is = sym (append-nil log);
        unrefused = unrefused f log took.followed.0 took.within default;
        why = inl (cut log took.followed.0);
      })

  -- a byte was refused, or nothing more could be read
  pub fed-partly : {first : ℕ} {x y : Option (List ℕ)} {f : F} {s : S} (refusal : Refusal) → FedBefore Limit FollowsBoth StopsBoth first x y f s refusal → first ≡ default_limit
      → IfSome x (λ log. IsRefusedAt default_limit log y refusal)
  fed-partly {first} {x} {y} {f} {s} refusal fed default =
      some-taken x y (fed.log ++ fed.piece) (λ l left. IsRefusedAt default_limit l left refusal) fed.consumed (λ left. by_why left fed.why)
    where
      by_why : (left : List ℕ) → StopsIn first fed.log fed.piece refusal
          ⊎ ((fed.piece ≡ []) × FollowsBoth f s fed.log × (Limit f ≡ first) × (refusal ≡ refusals.Read (length fed.log)))
          → IsRefusedAt default_limit ((fed.log ++ fed.piece) ++ left) (Some left) refusal
      by_why left (inl s) = record {
        taken = fed.log ++ s.taken;
        later = s.byte ∷ (s.later ++ left);
        is = pieces-are fed.log fed.piece s.taken (s.byte ∷ s.later) left s.is;
        unrefused = subst (λ (l : ℕ). refused l (fed.log ++ s.taken) ≡ None) default s.unrefused;
        why = inl (subst (λ (l : ℕ). IsRefusedByte l (fed.log ++ s.taken) s.byte refusal) default s.why);
      }
      by_why left (inr (none, follows, within, is)) = record {
        taken = fed.log;
        later = left;
        is = ap (λ (l : List ℕ). (fed.log ++ l) ++ left) none ∙ ap (λ (l : List ℕ). l ++ left) (append-nil fed.log);
        unrefused = unrefused f fed.log follows.0 within default;
        why = inr (is, refl);
      }
