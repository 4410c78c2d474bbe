-- Feeding that halted, said by the refusal of the log.
use Rattle.std.proofs.Common.{◌≡◌, ◌∙◌, ℕ, List, Option, inl, inr, ap, subst, sym}
use Rattle.mq_log.specs.declared.refusal.Refusal.{Refusal}
use Rattle.mq_log.specs.declared.refusal.Refusal.TheVariants as refusals
use Rattle.mq_trace.specs.declared.feeding.Halt.{Halt}
use Rattle.mq_trace.specs.declared.feeding.Halt.TheVariants as halts
use Rattle.mq_trace.specs.Feeding.{FedSome, refusal_of}
use Rattle.mq_report.specs.Stopping.{FedBefore}

pub halted-before : {F S : Type 0} (limit : F → ℕ) (follows : F → S → List ℕ → Type 0) (stops : ℕ → F → S → List ℕ → List ℕ → Refusal → Type 0) (first : ℕ)
    (old new : Option (List ℕ)) (fed : F) (sink : S) (halt : Halt Refusal) (refusal : Refusal) → refusal ≡ refusal_of halt → FedSome limit follows stops first old new fed sink halt
    → FedBefore limit follows stops first old new fed sink refusal
halted-before limit follows stops first old new fed sink (halts.Stopped own) refusal is s =
    record { log = s.log; piece = s.piece; consumed = s.consumed; why = inl (subst (λ r. stops first fed sink s.log s.piece r) (sym is) s.why) }
halted-before limit follows stops first old new fed sink (halts.Failed count) refusal is s =
    record { log = s.log; piece = s.piece; consumed = s.consumed; why = inr (s.why.0, s.why.1, s.why.2, is ∙ ap refusals.Read s.why.3) }
halted-before limit follows stops first old new fed sink (halts.RanOut count) refusal is s =
    record { log = s.log; piece = s.piece; consumed = s.consumed; why = inr (s.why.0, s.why.1, s.why.2, is ∙ ap refusals.Read s.why.3) }
