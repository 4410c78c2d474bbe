-- A watcher that takes in a log's events up to one of them: with one event more, and what it finds of the faults that were decided by then.
use Rattle.std.proofs.Common.{◌≡◌, ◌≤◌, ◌<◌, ◌+◌, ◌||◌, ℕ, Bool, true, false, cond, nat_eq, nat_lt, arith, List, [], ◌∷◌, length, Option, Some, None, refl, ap, sym, subst, ◌∙◌}
use Rattle.std.specs.Prelude.{is_some, unwrap_or, option_map}
use Rattle.std.specs.Option.{option_and_then, option_or}
use Rattle.std.specs.List.{list_any}
use Rattle.std.specs.Ordering.{eq_by_cmp}
use Rattle.std.specs.FinMap.{entries, get-entries}
use Rattle.std.specs.FinMap.Entries.{find}
use Rattle.std.proofs.lemmas.Bool.{lt-ltb, ltb-true, ltb-false}
use Rattle.mq_rules.specs.declared.role.Role.{Role}
use Rattle.mq_rules.specs.declared.role.Tested.{Tested}
use Rattle.mq_rules.specs.declared.fate.Fate.{Fate}
use Rattle.mq_rules.specs.declared.rule.Rule.{Rule}
use Rattle.mq_rules.specs.declared.rule.Rule.TheVariants.{W01}
use Rattle.mq_rules.specs.declared.fault.Fault.{Fault}
use Rattle.mq_rules.specs.declared.faults.FaultKey.{FaultKey}
use Rattle.mq_rules.specs.declared.note.Seen.{Seen}
use Rattle.mq_rules.specs.FaultKeys.{FaultMap, fault_at, key_cmp}
use Rattle.mq_rules.specs.Words.{is_some_and}
use Rattle.mq_rules.specs.Moments.{Moment, newest, moment}
use Rattle.mq_rules.specs.Connections.{fate, gives_fate, number}
use Rattle.mq_rules.specs.Rules.{binds}
use Rattle.mq_rules.specs.Statements.{Statement, on_bytes, on_past, in_session, at_release, at_rest, by_later, statement, is_so, is_so_under, where_accepted, fails}
use Rattle.mq_rules.specs.Faults.{decided}
use Rattle.mq_rules.proofs.Exports.{both_true, decided-fails, decided-within, fails-kept, fate-step, moment-older, moment-stays, not_true}
use Rattle.mq_rules.specs.Evidence.{nothing}
use Rattle.mq_evidence.specs.Evidence.{Reason, by_itself, in_past, under_fate, at_rest as by_rest, evidence, found, reason}
use Rattle.mq_trail.specs.Following.{HasFollowed}
use Rattle.mq_trail.specs.Until.{HasSeenUntil, is_decided_after, up_to}
use Rattle.mq_trail.proofs.FindingLaws.{moment-where-fails}
use Rattle.mq_trail.proofs.SourceLaws.{whole}

-- ---- with one event more

not-after : (n d : ℕ) → d ≤ n → nat_lt n d ≡ false
not-after n d le = not_true (nat_lt n d) (λ t. let lt : n < d = ltb-true n d t in absurd (omega arith))

-- up to a position that isn't before the last one, that is all of them
pub up_to-all : (n : ℕ) (log : List Seen) → length log ≤ n → up_to n log ≡ log
up_to-all n [] le = refl
up_to-all n (e ∷ past) le = ap (λ b. cond b (up_to n past) (e ∷ past)) (not-after n (length past + 1) (omega arith))

module _ {W : Type 0} (agrees : W → Tested → Option Fate → List Seen → Type 0) (wanted : FaultMap) (tested : Tested) (last position : ℕ) where
  -- before an event that comes no later than the last one that it takes in
  pub seen-all : (w : W) (past : List Seen) → position ≡ length past + 1 → position ≤ last → HasSeenUntil agrees wanted tested last w past → HasFollowed agrees tested w past
  seen-all w past at before was = subst (λ (log : List Seen). HasFollowed agrees tested w log) (up_to-all last past (omega (arith, at, before))) was.so_far

  -- it has taken in that event too
  pub seen-next : (old new : W) (e : Seen) (past : List Seen) → position ≡ length past + 1 → position ≤ last → HasSeenUntil agrees wanted tested last old past → HasFollowed agrees tested new (e ∷ past)
      → HasSeenUntil agrees wanted tested last new (e ∷ past)
  seen-next old new e past at before was next = record {
    so_far = subst (λ (log : List Seen). HasFollowed agrees tested new log) (sym (ap (λ b. cond b (up_to last past) (e ∷ past)) (ap (λ n. nat_lt last n) (sym at) ∙ not-after last position before))) next;
    none_later = was.none_later;
  }

  -- it doesn't take in what comes later
  pub seen-still : (w : W) (e : Seen) (past : List Seen) → position ≡ length past + 1 → last < position → HasSeenUntil agrees wanted tested last w past → HasSeenUntil agrees wanted tested last w (e ∷ past)
  seen-still w e past at later was = record {
    so_far = subst (λ (log : List Seen). HasFollowed agrees tested w log) (sym (ap (λ b. cond b (up_to last past) (e ∷ past)) (ap (λ n. nat_lt last n) (sym at) ∙ lt-ltb last position later))) was.so_far;
    none_later = was.none_later;
  }

-- ---- the last position at which a fault was decided

neither-of : (a b : Bool) → (a || b) ≡ false → (a ≡ false) × (b ≡ false)
neither-of true b h = absurd (cc)
neither-of false b h = (refl, h)

-- If none of those that are left was decided after a position that isn't before this one, none of all was.
abbrev pub NoneAfter : ℕ → List (FaultKey × Fault) → List (FaultKey × Fault) → Type 0
NoneAfter last left all = (n : ℕ) → last ≤ n → list_any (is_decided_after n) left ≡ false → list_any (is_decided_after n) all ≡ false

pub none-begins : (left all : List (FaultKey × Fault)) → left ≡ all → NoneAfter 0 left all
none-begins left all is = λ n le none. ap (λ (fs : List (FaultKey × Fault)). list_any (is_decided_after n) fs) (sym is) ∙ none

pub none-goes-on : (last next : ℕ) (left rest all : List (FaultKey × Fault)) (f : FaultKey × Fault) → NoneAfter last left all → left ≡ f ∷ rest → last ≤ next → f.1.decided ≤ next → NoneAfter next rest all
none-goes-on last next left rest all f so_far is first second = λ n le none.
    so_far n (through last next n first le)
    (ap (λ (fs : List (FaultKey × Fault)). list_any (is_decided_after n) fs) is
    ∙ ap (λ b. b || list_any (is_decided_after n) rest) (not-after n f.1.decided (through f.1.decided next n second le))
    ∙ none)
  where
    through : (a b c : ℕ) → a ≤ b → b ≤ c → a ≤ c
    through a b c x y = omega arith

pub none-ends : (last : ℕ) (left all : List (FaultKey × Fault)) → NoneAfter last left all → left ≡ [] → list_any (is_decided_after last) all ≡ false
none-ends last left all so_far is = so_far last (same last) (ap (λ (fs : List (FaultKey × Fault)). list_any (is_decided_after last) fs) is)
  where
    same : (n : ℕ) → n ≤ n
    same n = omega arith

-- a fault that is found was decided by then
found-by : (n k : ℕ) (r : Rule) (fault : Fault) (fs : List (FaultKey × Fault)) → list_any (is_decided_after n) fs ≡ false → find key_cmp (record { position = k; rule = r }) fs ≡ Some fault → nat_lt n fault.decided ≡ false
found-by n k r fault [] none h = absurd (cc)
found-by n k r fault (f ∷ fs) none h = go (eq_by_cmp key_cmp (record { position = k; rule = r }) f.0) h (found-by n k r fault fs parts.1)
  where
    parts : (is_decided_after n f ≡ false) × (list_any (is_decided_after n) fs ≡ false)
    parts = neither-of (is_decided_after n f) (list_any (is_decided_after n) fs) none

    go : (b : Bool) → cond b (Some f.1) (find key_cmp (record { position = k; rule = r }) fs) ≡ Some fault → (find key_cmp (record { position = k; rule = r }) fs ≡ Some fault → nat_lt n fault.decided ≡ false) → nat_lt n fault.decided ≡ false
    go true h rest = let own : fault ≡ f.1 = cc in ap (λ (x : Fault). nat_lt n x.decided) own ∙ parts.0
    go false h rest = rest h

pub wanted-by : (wanted : FaultMap) (n k : ℕ) (r : Rule) (fault : Fault) → list_any (is_decided_after n) (entries wanted) ≡ false → fault_at wanted k r ≡ Some fault → nat_lt n fault.decided ≡ false
wanted-by wanted n k r fault none h = found-by n k r fault (entries wanted) none (sym (get-entries wanted (record { position = k; rule = r })) ∙ h)

-- ---- the evidence of what was decided

-- what is false only under a fate
abbrev is_fated : Statement → Bool
is_fated (on_bytes rule) = false
is_fated (on_past breaks) = false
is_fated (in_session breaks) = true
is_fated (at_release breaks) = true
is_fated (at_rest shows) = false
is_fated (by_later shows) = false

-- what looks at no fate
abbrev is_fateless : Reason → Bool
is_fateless by_itself = true
is_fateless (in_past of) = true
is_fateless (under_fate of) = false
is_fateless (by_rest of) = true

either-way : (role : Role) (r : Rule) → (is_fated (statement role r) || is_fateless (reason role r)) ≡ true
either-way role W01 = refl
either-way role _ = refl

any-fate : (of : Reason) (f g : Option Fate) (t : Option Moment) (m : Moment) → is_fateless of ≡ true → found of f t m ≡ found of g t m
any-fate by_itself f g t m h = refl
any-fate (in_past of) f g t m h = refl
any-fate (under_fate of) f g t m h = absurd (cc)
any-fate (by_rest of) f g t m h = refl

under-known : (o : Option Fate) (breaks : Fate → Moment → Bool) (m : Moment) → is_so_under breaks m o ≡ true → is_some o ≡ true
under-known None breaks m h = absurd (cc)
under-known (Some f) breaks m h = refl

so-known : (role : Role) (fates : ℕ → Option Fate) (s : Statement) (log : List Seen) (k : ℕ) (m : Moment) → moment log k ≡ Some m → is_fated s ≡ true → is_so role fates s log k ≡ true → is_some (fates (number m)) ≡ true
so-known role fates (on_bytes rule) log k m at d = absurd (never d)
  where
    never : false ≡ true → ⊥
    never h = absurd (cc)
so-known role fates (on_past breaks) log k m at d = absurd (never d)
  where
    never : false ≡ true → ⊥
    never h = absurd (cc)
so-known role fates (in_session breaks) log k m at d = λ so.
    under-known (fates (number m)) (where_accepted breaks) m (sym (ap (λ o. is_some_and (λ m. is_so_under (where_accepted breaks) m (fates (number m))) o) at) ∙ so)
so-known role fates (at_release breaks) log k m at d = λ so. under-known (fates (number m)) breaks m (sym (ap (λ o. is_some_and (λ m. is_so_under breaks m (fates (number m))) o) at) ∙ so)
so-known role fates (at_rest shows) log k m at d = absurd (never d)
  where
    never : false ≡ true → ⊥
    never h = absurd (cc)
so-known role fates (by_later shows) log k m at d = absurd (never d)
  where
    never : false ≡ true → ⊥
    never h = absurd (cc)

-- where such a statement fails, the fate is known
known-fate : (tested : Tested) (log : List Seen) (k : ℕ) (r : Rule) (m : Moment) → moment log k ≡ Some m → is_fated (statement tested.role r) ≡ true → fails tested log k r ≡ true → is_some (fate tested.role (number m) log) ≡ true
unfolding fails
known-fate tested log k r m at fated failing = so-known tested.role (λ c. fate tested.role c log) (statement tested.role r) log k m at fated (both_true (binds r tested) _ failing).1

-- once it is known, it stays
fate-stays : (role : Role) (c : ℕ) (e : Seen) (past : List Seen) → is_some (fate role c past) ≡ true → fate role c (e ∷ past) ≡ fate role c past
fate-stays role c e past known = fate-step role c e past ∙ go (fate role c past) known
  where
    go : (o : Option Fate) → is_some o ≡ true → option_or o (cond (nat_eq (number (newest e past)) c) (gives_fate role (newest e past)) None) ≡ o
    go None h = absurd (cc)
    go (Some f) h = refl

-- so the evidence of what fails stays
evidence-kept : (tested : Tested) (e : Seen) (past : List Seen) (k d : ℕ) (r : Rule) → fails tested past k r ≡ true → decided tested past k r ≡ Some d → evidence tested (e ∷ past) k r ≡ evidence tested past k r
evidence-kept tested e past k d r failing at =
    whole tested (e ∷ past) k r (reason tested.role r) (fails-kept tested past e k r failing) refl
    ∙ go (moment past k) refl (moment-where-fails tested past k r failing)
    ∙ sym (whole tested past k r (reason tested.role r) failing refl)
  where
    shown : option_and_then (moment (e ∷ past)) (decided tested (e ∷ past) k r) ≡ option_and_then (moment past) (decided tested past k r)
    shown =
        ap (λ o. option_and_then (moment (e ∷ past)) (option_or o (cond (fails tested (e ∷ past) k r) (Some (length past + 1)) None))) at
        ∙ moment-older e past d (decided-within tested past d k r at).1
        ∙ sym (ap (λ o. option_and_then (moment past) o) at)

    same : (m : Moment) → moment past k ≡ Some m → (b : Bool) → is_fated (statement tested.role r) ≡ b → found (reason tested.role r) (fate tested.role (number m) (e ∷ past)) (option_and_then (moment past) (decided tested past k r)) m
        ≡ found (reason tested.role r) (fate tested.role (number m) past) (option_and_then (moment past) (decided tested past k r)) m
    same m is true fated = ap (λ f. found (reason tested.role r) f (option_and_then (moment past) (decided tested past k r)) m) (fate-stays tested.role (number m) e past (known-fate tested past k r m is fated failing))
    same m is false fated = any-fate (reason tested.role r) _ _ _ m (sym (ap (λ b. b || is_fateless (reason tested.role r)) fated) ∙ either-way tested.role r)

    go : (o : Option Moment) → moment past k ≡ o → is_some o ≡ true
        → unwrap_or (option_map (λ m. found (reason tested.role r) (fate tested.role (number m) (e ∷ past)) (option_and_then (moment (e ∷ past)) (decided tested (e ∷ past) k r)) m) (moment (e ∷ past) k)) nothing
        ≡ unwrap_or (option_map (λ m. found (reason tested.role r) (fate tested.role (number m) past) (option_and_then (moment past) (decided tested past k r)) m) (moment past k)) nothing
    go None is h = absurd (cc)
    go (Some m) is h =
        ap (λ o. unwrap_or (option_map (λ m. found (reason tested.role r) (fate tested.role (number m) (e ∷ past)) (option_and_then (moment (e ∷ past)) (decided tested (e ∷ past) k r)) m) o) nothing) (moment-stays e past k m is)
        ∙ ap (λ t. found (reason tested.role r) (fate tested.role (number m) (e ∷ past)) t m) shown
        ∙ same m is (is_fated (statement tested.role r)) refl
        ∙ sym (ap (λ o. unwrap_or (option_map (λ m. found (reason tested.role r) (fate tested.role (number m) past) (option_and_then (moment past) (decided tested past k r)) m) o) nothing) is)

-- of what was decided up to a position, the events up to there decide it, and have its evidence
pub decided-by : (tested : Tested) (n : ℕ) (log : List Seen) (k d : ℕ) (r : Rule) → decided tested log k r ≡ Some d → nat_lt n d ≡ false
    → (decided tested (up_to n log) k r ≡ Some d) × (evidence tested (up_to n log) k r ≡ evidence tested log k r)
decided-by tested n [] k d r at by = absurd (cc)
decided-by tested n (e ∷ past) k d r at by = go (nat_lt n (length past + 1)) refl (λ earlier. decided-by tested n past k d r earlier by)
  where
    before : (o : Option ℕ) → decided tested past k r ≡ o → (b : Bool) → option_or o (cond b (Some (length past + 1)) None) ≡ Some d → n < length past + 1 → d ≤ n → decided tested past k r ≡ Some d
    before (Some x) is b h lt le = is ∙ h
    before None is true h lt le = let own : length past + 1 ≡ d = cc in absurd (omega arith)
    before None is false h lt le = absurd (cc)

    go : (b : Bool) → nat_lt n (length past + 1) ≡ b
        → (decided tested past k r ≡ Some d → (decided tested (up_to n past) k r ≡ Some d) × (evidence tested (up_to n past) k r ≡ evidence tested past k r))
        → (decided tested (cond b (up_to n past) (e ∷ past)) k r ≡ Some d) × (evidence tested (cond b (up_to n past) (e ∷ past)) k r ≡ evidence tested (e ∷ past) k r)
    go false is rest = (at, refl)
    go true is rest =
        let earlier : decided tested past k r ≡ Some d = before (decided tested past k r) refl (fails tested (e ∷ past) k r) at (ltb-true n (length past + 1) is) (ltb-false n d by) in
        let failing : fails tested past k r ≡ true = sym (decided-fails tested past k r) ∙ ap is_some earlier in
        let parts = rest earlier in
        (parts.0, parts.1 ∙ sym (evidence-kept tested e past k d r failing earlier))

-- and a statement that was decided there failed there
pub failed-by : (tested : Tested) (log : List Seen) (k d : ℕ) (r : Rule) → decided tested log k r ≡ Some d → fails tested log k r ≡ true
failed-by tested log k d r at = sym (decided-fails tested log k r) ∙ ap is_some at
