-- Texts that were sent to a writer at once, and one after another.
use Rattle.std.proofs.Common.{◌≡◌, ℕ, Bool, true, false, List, [], ◌++◌, Option, Result, Ok, Err, IfErr, OnOk, refl, sym, subst, true≢false}
use Rattle.std.specs.Io.KnownBytes.{Appends}
use Rattle.mq_trace.specs.Writing.{AppendsBeginning}
use Rattle.mq_trace.proofs.Exports.{appends-nothing, last-written, stopped-in-last}
use Rattle.mq_display.specs.declared.display.outgoing.Outgoing.{Outgoing}
use Rattle.mq_report.specs.declared.report.RunFault.{RunFault}
use Rattle.mq_report.specs.declared.report.RunFault.TheVariants as run_faults
use Rattle.mq_display.specs.Outgoing.{Carries, Puts, Sends}
use Rattle.mq_report.specs.Report.{StopsWriting}

-- nothing is on its way
fresh : (failed : Bool) (x : Option (List ℕ)) (rest : List ℕ) → failed ≡ false → rest ≡ [] → Sends failed x x [] rest
fresh true x rest fine none = absurd (true≢false fine)
fresh false x rest fine none = record { written = []; parts = sym none; appended = appends-nothing x }

-- the last write failed, or one before
broken : (failed : Bool) (held now last : Option (List ℕ)) (whole rest : List ℕ) → Sends failed held now whole rest → StopsWriting failed now last rest
    → AppendsBeginning held last whole
broken true held now last whole rest sends stopped = subst (λ (w : Option (List ℕ)). AppendsBeginning held w whole) (sym stopped) sends
broken false held now last whole rest sends stopped = stopped-in-last last rest sends stopped

-- a text was written, and then a beginning of another one
pub begun_after : (x y z : Option (List ℕ)) (first second : List ℕ) → Appends x y first → AppendsBeginning y z second → AppendsBeginning x z (first ++ second)
begun_after x y z first second all part = stopped-in-last z second (record { written = first; parts = refl; appended = all }) part

module _ {W : Type 0} (contents : W → Option (List ℕ)) where
  -- all that was put is on its way
  pub carried : (old new : Outgoing W) (text : List ℕ) → old.failed ≡ false → old.lines ≡ [] → Puts contents old text new
      → Carries contents (contents old.writer.now) text new
  carried old new text fine empty p = p.carries (contents old.writer.now) [] (fresh old.failed (contents old.writer.now) old.lines fine empty)

  -- and all of it was written, or a beginning
  pub whole_sent : (new : Outgoing W) (held last : Option (List ℕ)) (text : List ℕ) (status : Result (Unit {0}) RunFault) → Carries contents held text new
      → OnOk status ((new.failed ≡ false) × Appends (contents new.writer.now) last new.lines) → OnOk status (Appends held last text)
  whole_sent new held last text (Ok done) c h =
      last-written last new.lines (subst (λ (f : Bool). Sends f held (contents new.writer.now) text new.lines) h.0 c) h.1
  whole_sent new held last text (Err fault) c h = tt

  pub part_sent : (new : Outgoing W) (held last : Option (List ℕ)) (text : List ℕ) (status : Result (Unit {0}) RunFault) → Carries contents held text new
      → IfErr status (λ fault. (fault ≡ run_faults.Write) × StopsWriting new.failed (contents new.writer.now) last new.lines)
      → IfErr status (λ fault. (fault ≡ run_faults.Write) × AppendsBeginning held last text)
  part_sent new held last text (Ok done) c h = tt
  part_sent new held last text (Err fault) c h = (h.0, broken new.failed held (contents new.writer.now) last text new.lines c h.1)
