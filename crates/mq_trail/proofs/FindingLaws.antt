-- What is found among the settled events is the evidence in the whole log.
use Rattle.std.proofs.Common.{◌≡◌, ◌≤◌, ℕ, true, ◌&&◌, arith, List, length, Option, Some, None, refl, ap, sym, ◌∙◌}
use Rattle.std.specs.Prelude.{is_some, not, unwrap_or, option_map}
use Rattle.mq_rules.specs.declared.role.Role.{Role}
use Rattle.mq_rules.specs.declared.fate.Fate.{Fate}
use Rattle.mq_rules.specs.declared.role.Tested.{Tested}
use Rattle.mq_rules.specs.declared.rule.Rule.{Rule}
use Rattle.mq_rules.specs.declared.note.Seen.{Seen}
use Rattle.mq_rules.specs.Words.{is_some_and}
use Rattle.mq_rules.specs.Notes.{is_open}
use Rattle.mq_rules.specs.Moments.{Moment, note, moment, moments, position, some, is_after}
use Rattle.mq_rules.specs.Connections.{number, fate, latest_fate, is_beside, is_binding}
use Rattle.mq_rules.specs.Statements.{Statement, on_bytes, on_past, in_session, at_release, at_rest, by_later, statement, breaks_bytes, is_so, is_so_under, where_accepted, fails}
use Rattle.mq_rules.specs.Rules.{binds}
use Rattle.mq_rules.proofs.Exports.{both_true, moment-beginning, moment-within}
use Rattle.mq_fates.specs.Holding.{settled, IsSettled}
use Rattle.mq_rules.specs.Evidence.{nothing}
use Rattle.mq_evidence.specs.Evidence.{evidence, found, reason}
use Rattle.mq_evidence.specs.Turning.{evidence_under}
use Rattle.mq_evidence.specs.Trailing.{is_found, is_shut}
use Rattle.mq_evidence.proofs.Exports.{evidence-own, evidence-whole, shut-where-fails}

-- no OPEN is at the position
pub settled-shut : (tested : Tested) (past : List Seen) (k : ℕ) (r : Rule) → is_found r ≡ true → fails tested past k r ≡ true → IsSettled tested past k → is_shut (settled tested.role past) k ≡ true
settled-shut tested past k r finds failing at = sym (ap (λ o. is_some_and (λ m. not (is_open (note m))) o) at.same_moment) ∙ shut-where-fails tested past k r finds failing

pub settled-evidence : (tested : Tested) (past : List Seen) (k : ℕ) (r : Rule) → is_found r ≡ true → fails tested past k r ≡ true → IsSettled tested past k
    → evidence_under tested (latest_fate tested.role (settled tested.role past)) (settled tested.role past) k r ≡ evidence tested past k r
settled-evidence tested past k r finds failing at =
    evidence-own tested base k r
    ∙ ap (λ o. unwrap_or (option_map (λ m. found (reason tested.role r) (fate tested.role (number m) base) None m) o) nothing) (sym at.same_moment)
    ∙ go (moment past k) refl
    ∙ sym (evidence-whole tested past k r finds failing)
  where
    base : List Seen
    base = settled tested.role past

    go : (o : Option Moment) → moment past k ≡ o → unwrap_or (option_map (λ m. found (reason tested.role r) (fate tested.role (number m) base) None m) o) nothing
        ≡ unwrap_or (option_map (λ m. found (reason tested.role r) (fate tested.role (number m) past) None m) o) nothing
    go None is = refl
    go (Some m) is = ap (λ f. found (reason tested.role r) f None m) (sym (at.same_fate m is))

-- ---- where a statement fails there is an event

there : (role : Role) (fates : ℕ → Option Fate) (s : Statement) (log : List Seen) (k : ℕ) → is_so role fates s log k ≡ true → is_some (moment log k) ≡ true
there role fates (on_bytes rule) log k so = go (moment log k) so
  where
    go : (o : Option Moment) → is_some_and (breaks_bytes rule) o ≡ true → is_some o ≡ true
    go None h = absurd (cc)
    go (Some m) h = refl
there role fates (on_past breaks) log k so = go (moment log k) so
  where
    go : (o : Option Moment) → is_some_and breaks o ≡ true → is_some o ≡ true
    go None h = absurd (cc)
    go (Some m) h = refl
there role fates (in_session breaks) log k so = go (moment log k) so
  where
    go : (o : Option Moment) → is_some_and (λ m. is_so_under (where_accepted breaks) m (fates (number m))) o ≡ true → is_some o ≡ true
    go None h = absurd (cc)
    go (Some m) h = refl
there role fates (at_release breaks) log k so = go (moment log k) so
  where
    go : (o : Option Moment) → is_some_and (λ m. is_so_under breaks m (fates (number m))) o ≡ true → is_some o ≡ true
    go None h = absurd (cc)
    go (Some m) h = refl
there role fates (at_rest shows) log k so = go (moment log k) so
  where
    go : (o : Option Moment) → is_some_and (λ m. some (λ t. is_after t m && (is_binding role t && shows t m)) (moments log)) o ≡ true → is_some o ≡ true
    go None h = absurd (cc)
    go (Some m) h = refl
there role fates (by_later shows) log k so = go (moment log k) so
  where
    go : (o : Option Moment) → is_some_and (λ m. some (λ t. is_after t m && (is_beside t m && shows t m)) (moments log)) o ≡ true → is_some o ≡ true
    go None h = absurd (cc)
    go (Some m) h = refl

placed : (log : List Seen) (k : ℕ) → is_some (moment log k) ≡ true → (1 ≤ k) × (k ≤ length log)
placed log k is = go (moment log k) refl is
  where
    go : (o : Option Moment) → moment log k ≡ o → is_some o ≡ true → (1 ≤ k) × (k ≤ length log)
    go None at h = absurd (cc)
    go (Some m) at h =
        let here : k ≡ position m = (moment-beginning log k m at).at in
        let within : position m ≤ length log = moment-within log k m at in
        (omega arith, omega arith)

pub placed-where-fails : (tested : Tested) (log : List Seen) (k : ℕ) (r : Rule) → fails tested log k r ≡ true → (1 ≤ k) × (k ≤ length log)
unfolding fails
placed-where-fails tested log k r failing = placed log k (there tested.role (λ c. fate tested.role c log) (statement tested.role r) log k (both_true (binds r tested) _ failing).1)

pub moment-where-fails : (tested : Tested) (log : List Seen) (k : ℕ) (r : Rule) → fails tested log k r ≡ true → is_some (moment log k) ≡ true
unfolding fails
moment-where-fails tested log k r failing = there tested.role (λ c. fate tested.role c log) (statement tested.role r) log k (both_true (binds r tested) _ failing).1
