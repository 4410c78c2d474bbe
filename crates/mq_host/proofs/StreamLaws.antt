-- Messages that are written in parts.
use Rattle.std.proofs.Common.{Bool, List, ℕ, ◌++◌, append_assoc, Option, ◌⊎◌, inl, inr, sym, ap, ◌∙◌}
use Rattle.std.proofs.KnownBytes.{Appends-trans}
use Rattle.std.specs.Io.KnownBytes.{Appends}
use Rattle.mq_host.specs.Streams.{IsCutOff, IsTold, Stream}

-- only a beginning of the first part was written
pub cut_first : (error : Stream) (first rest : List ℕ) → IsCutOff error first → IsTold error (first ++ rest)
cut_first error first rest cut = record {
  outcome = inr (record {
    failed = cut.failed;
    part = record {
      written = cut.part.written;
      unwritten = cut.part.unwritten ++ rest;
      whole = ap (λ (text : List ℕ). text ++ rest) cut.part.whole ∙ append_assoc cut.part.written cut.part.unwritten rest;
      appended = cut.part.appended;
    };
  });
}

-- the first part was written, and then the rest, or only a beginning of it
pub told_then : (old middle new : Option (List ℕ)) (has_failed : Bool) (first rest : List ℕ) → Appends old middle first
    → IsTold (record { old = middle; new = new; has_failed = has_failed }) rest → IsTold (record { old = old; new = new; has_failed = has_failed }) (first ++ rest)
told_then old middle new has_failed first rest written told = by told.outcome
  where
    cut_after : IsCutOff (record { old = middle; new = new; has_failed = has_failed }) rest → IsCutOff (record { old = old; new = new; has_failed = has_failed }) (first ++ rest)
    cut_after cut = record {
      failed = cut.failed;
      part = record {
        written = first ++ cut.part.written;
        unwritten = cut.part.unwritten;
        whole = ap (λ (text : List ℕ). first ++ text) cut.part.whole ∙ sym (append_assoc first cut.part.written cut.part.unwritten);
        appended = Appends-trans old middle new first cut.part.written written cut.part.appended;
      };
    }

    by : Appends middle new rest ⊎ IsCutOff (record { old = middle; new = new; has_failed = has_failed }) rest → IsTold (record { old = old; new = new; has_failed = has_failed }) (first ++ rest)
    by (inl all) = record { outcome = inl (Appends-trans old middle new first rest written all) }
    by (inr cut) = record { outcome = inr (cut_after cut) }
