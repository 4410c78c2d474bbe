-- The header of a log, once it is whole.
use Rattle.std.proofs.Common.{◌≡◌, ℕ, ◌+◌, ◌<◌, ◌≤◌, Bool, true, false, nat_lt, List, [], ◌∷◌, ◌++◌, length, Some, None, refl, sym, ◌∙◌, ap, arith, length-append, append_assoc, append-nil}
use Rattle.std.specs.Prelude.{if◌then◌else◌}
use Rattle.std.proofs.lemmas.Bool.{ltb-true, ltb-false}
use Rattle.mq_log.specs.declared.header.Header.{Header}
use Rattle.mq_log.specs.Framing.{header_by}
use Rattle.mq_log.proofs.Exports.{header-unchanged}

-- a whole header stays, whatever comes after it
pub header-stays : (log more : List ℕ) → 8 ≤ length log → header_by (log ++ more) ≡ header_by log
header-stays log [] long = ap header_by (append-nil log)
header-stays log (byte ∷ more) long =
    ap header_by (sym (append_assoc log (byte ∷ []) more))
    ∙ header-stays (log ++ byte ∷ []) more (omega (arith, length-append log (byte ∷ [])))
    ∙ header-unchanged log byte long

-- a header that is known is whole
pub named_whole : (log : List ℕ) (found : Header) → Some found ≡ (if nat_lt (length log) 8 then None else Some (header_by log)) → 8 ≤ length log
named_whole log found h = go (nat_lt (length log) 8) refl h
  where
    go : (b : Bool) → nat_lt (length log) 8 ≡ b → Some found ≡ (if b then None else Some (header_by log)) → 8 ≤ length log
    go true is h = absurd (cc)
    go false is h = ltb-false (length log) 8 is

-- where none is known it isn't
pub unnamed_part : (log : List ℕ) → None ≡ (if nat_lt (length log) 8 then None else Some (header_by log)) → length log < 8
unnamed_part log h = go (nat_lt (length log) 8) refl h
  where
    go : (b : Bool) → nat_lt (length log) 8 ≡ b → None ≡ (if b then None else Some (header_by log)) → length log < 8
    go true is h = ltb-true (length log) 8 is
    go false is h = absurd (cc)

-- a header that is known is that of the log
pub named_by : (log : List ℕ) (found : Header) → Some found ≡ (if nat_lt (length log) 8 then None else Some (header_by log)) → found ≡ header_by log
named_by log found h = go (nat_lt (length log) 8) h
  where
    go : (b : Bool) → Some found ≡ (if b then None else Some (header_by log)) → found ≡ header_by log
    go true h = absurd (cc)
    go false h = cc
