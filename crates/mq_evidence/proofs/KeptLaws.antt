-- What is kept says whether something is there.
use Rattle.std.proofs.Common.{◌≡◌, ℕ, Bool, List, Option, ap, sym, ◌∙◌}
use Rattle.std.specs.Prelude.{is_some}
use Rattle.mq_rules.specs.declared.note.Note.{Note}
use Rattle.mq_rules.specs.Moments.{Moment, some}
use Rattle.mq_evidence.specs.Stretches.{has_id, IsLatest}
use Rattle.mq_evidence.proofs.StretchLaws.{latest-there}

pub some-kept : (at : ℕ → Option ℕ) (found : Note → Option ℕ) (ms : List Moment) (i : ℕ) (b c : Bool) → IsLatest at found ms → b ≡ is_some (at i) → b ≡ c → some (has_id found i) ms ≡ c
some-kept at found ms i b c are is told = sym (latest-there (has_id found i) ms) ∙ ap is_some (sym (are i)) ∙ sym is ∙ told
