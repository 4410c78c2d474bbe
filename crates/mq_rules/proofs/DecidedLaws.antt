-- Where a pair is decided, and its fault, in a log that grows.
use Rattle.std.proofs.Common.{◌≡◌, ℕ, ◌+◌, ◌<◌, ◌≤◌, Bool, true, false, cond, ◌||◌, List, [], ◌∷◌, length, Option, Some, None, is_some, refl, ap, sym, ◌∙◌, arith, nat_lt}
use Rattle.std.specs.Prelude.{option_map}
use Rattle.std.proofs.lemmas.Bool.{ltb-true, ltb-false}
use Rattle.std.specs.Option.{option_or}
use Rattle.mq_rules.specs.declared.role.Tested.{Tested}
use Rattle.mq_rules.specs.declared.rule.Rule.{Rule}
use Rattle.mq_rules.specs.declared.note.Seen.{Seen}
use Rattle.mq_rules.specs.declared.fault.Fault.{Fault}
use Rattle.mq_rules.specs.Moments.{moment, is_next}
use Rattle.mq_rules.specs.Statements.{fails}
use Rattle.mq_rules.specs.Steps.{turns}
use Rattle.mq_rules.specs.Faults.{decided, reported, fault_in}
use Rattle.mq_rules.proofs.BoolLaws.{not_true}
use Rattle.mq_rules.proofs.StepLaws.{moment-beyond, moment-next, moment-older, fails-step, fails-kept, fails-nowhere}

some_or : {A : Type 0} (o : Option A) (b : Bool) (a : A) → is_some (option_or o (cond b (Some a) None)) ≡ (is_some o || b)
some_or None true a = refl
some_or None false a = refl
some_or (Some x) b a = refl

either : (old new : Bool) → (old ≡ true → new ≡ true) → (old || new) ≡ new
either true new f = sym (f refl)
either false new f = refl

-- a pair is decided exactly where it fails
pub decided-fails : (tested : Tested) (log : List Seen) (k : ℕ) (rule : Rule) → is_some (decided tested log k rule) ≡ fails tested log k rule
decided-fails tested [] k rule = sym (fails-nowhere tested [] k rule refl)
decided-fails tested (e ∷ past) k rule =
    some_or (decided tested past k rule) (fails tested (e ∷ past) k rule) (length past + 1)
    ∙ ap (λ b. b || fails tested (e ∷ past) k rule) (decided-fails tested past k rule)
    ∙ either (fails tested past k rule) (fails tested (e ∷ past) k rule) (fails-kept tested past e k rule)

-- a position without a moment has no fault
pub fault_in-nowhere : (tested : Tested) (log : List Seen) (k : ℕ) (rule : Rule) → moment log k ≡ None → fault_in tested log k rule ≡ None
unfolding fault_in
fault_in-nowhere tested log k rule none = ap (λ b. cond b (option_map (reported tested.role (moment log k) rule) (decided tested log k rule)) None) (fails-nowhere tested log k rule none)

-- with one event more a pair has the fault that it had, or else the one that the event shows
pub fault_in-step : (tested : Tested) (e : Seen) (past : List Seen) (k : ℕ) (rule : Rule)
    → fault_in tested (e ∷ past) k rule ≡ option_or (fault_in tested past k rule) (cond (turns tested e past k rule) (Some (reported tested.role (moment (e ∷ past) k) rule (length past + 1))) None)
unfolding fault_in
fault_in-step tested e past k rule =
    ap (λ b. cond b (option_map at_now (option_or (decided tested past k rule) (cond b (Some (length past + 1)) None))) None) (fails-step tested e past k rule)
    ∙ go (fails tested past k rule) refl (decided tested past k rule) (decided-fails tested past k rule) (turns tested e past k rule)
  where
    at_now : ℕ → Fault
    at_now = reported tested.role (moment (e ∷ past) k) rule

    at_past : ℕ → Fault
    at_past = reported tested.role (moment past k) rule

    -- a pair that failed has its moment
    apart : fails tested past k rule ≡ true → is_next past k ≡ false
    apart h = not_true (is_next past k) (λ t. let none : fails tested past k rule ≡ false = fails-nowhere tested past k rule (moment-next past k t) in absurd (cc))

    go : (b : Bool) → fails tested past k rule ≡ b → (o : Option ℕ) → is_some o ≡ fails tested past k rule → (t : Bool)
        → cond (b || t) (option_map at_now (option_or o (cond (b || t) (Some (length past + 1)) None))) None ≡ option_or (cond b (option_map at_past o) None) (cond t (Some (at_now (length past + 1))) None)
    go true h (Some n) is t = ap (λ m. Some (reported tested.role m rule n)) (moment-older e past k (apart h))
    go true h None is t = absurd (cc)
    go false h (Some n) is t = absurd (cc)
    go false h None is true = refl
    go false h None is false = refl

-- a log without events has no faults
pub fault_in-start : (tested : Tested) (k : ℕ) (rule : Rule) → fault_in tested [] k rule ≡ None
fault_in-start tested k rule = fault_in-nowhere tested [] k rule refl

-- ---- the shortest beginning

-- what fails is at a position of the log
pub fails-within : (tested : Tested) (log : List Seen) (k : ℕ) (rule : Rule) → fails tested log k rule ≡ true → k ≤ length log
fails-within tested log k rule h = go (nat_lt (length log) k) refl
  where
    go : (b : Bool) → nat_lt (length log) k ≡ b → k ≤ length log
    go true t =
        let lt : length log < k = ltb-true (length log) k t in
        let none : fails tested log k rule ≡ false = fails-nowhere tested log k rule (moment-beyond log k lt) in
        absurd (cc)
    go false t = ltb-false (length log) k t

-- a pair is decided at its position or after it, in the log
pub decided-within : (tested : Tested) (log : List Seen) (n k : ℕ) (rule : Rule) → decided tested log k rule ≡ Some n → (k ≤ n) × (n ≤ length log)
decided-within tested [] n k rule h = absurd (cc)
decided-within tested (e ∷ past) n k rule h = go (decided tested past k rule) refl (fails tested (e ∷ past) k rule) refl h (decided-within tested past n k rule)
  where
    go : (o : Option ℕ) → decided tested past k rule ≡ o → (b : Bool) → fails tested (e ∷ past) k rule ≡ b → option_or o (cond b (Some (length past + 1)) None) ≡ Some n
        → (decided tested past k rule ≡ Some n → (k ≤ n) × (n ≤ length past)) → (k ≤ n) × (n ≤ length (e ∷ past))
    go (Some x) is b f h rest = let le = rest (is ∙ h) in (le.0, (let l : n ≤ length past = le.1 in omega arith))
    go None is true f h rest =
        let at : length past + 1 ≡ n = cc in
        let le : k ≤ length (e ∷ past) = fails-within tested (e ∷ past) k rule f in
        (omega arith, omega arith)
    go None is false f h rest = absurd (cc)
