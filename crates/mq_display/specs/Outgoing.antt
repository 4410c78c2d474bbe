-- Text on its way to a writer: what was written, and what waits.
use Rattle.std.specs.Prelude.{◌≡◌, ℕ, Bool, true, false, List, ◌++◌, Option}
use Rattle.mq_trace.specs.Writing.{AppendsBeginning}
use Rattle.mq_display.specs.declared.display.outgoing.Outgoing.{Outgoing}
use Rattle.mq_trace.specs.Writing.{LeavesToWrite}

-- By whether a write failed: if not, all of the whole text was written except the rest, which waits; else a beginning of it, but not all.
abbrev pub Sends : Bool → Option (List ℕ) → Option (List ℕ) → List ℕ → List ℕ → Type 0
Sends false held now whole rest = LeavesToWrite held now whole rest
Sends true held now whole rest = AppendsBeginning held now whole

-- The whole text is on its way to a writer that held this at first.
abbrev pub Carries : {W : Type 0} → (W → Option (List ℕ)) → Option (List ℕ) → List ℕ → Outgoing W → Type 0
Carries contents held whole out = Sends out.failed held (contents out.writer.now) whole out.lines

-- Whatever text was on its way, this text is now appended to it, for the same writer.
pub record Puts {W : Type 0} (contents : W → Option (List ℕ)) (old : Outgoing W) (text : List ℕ) (new : Outgoing W) : Type 0 where
  pub same : new.writer.ghost_name ≡ old.writer.ghost_name
  pub carries : (held : Option (List ℕ)) (whole : List ℕ) → Carries contents held whole old → Carries contents held (whole ++ text) new
