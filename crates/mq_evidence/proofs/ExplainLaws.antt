-- What was found, with one event more.
use Rattle.std.proofs.Common.{◌≡◌, ℕ, ◌+◌, ◌≤◌, ◌==◌, nat_eq, arith, Bool, true, false, cond, ◌&&◌, ◌||◌, not, List, [], ◌∷◌, length, map, Option, Some, None, refl, ap, sym, ◌∙◌}
use Rattle.std.specs.Prelude.{is_some}
use Rattle.std.specs.Option.{option_or}
use Rattle.std.specs.List.{list_any}
use Rattle.std.specs.Ordering.{eq_by_cmp}
use Rattle.std.specs.FinMap.{entries, get-entries}
use Rattle.std.specs.FinMap.Entries.{is_some-find}
use Rattle.std.proofs.lemmas.Bool.{eqb-true, eq-eqb, ne_eqb}
use denote.Enum.Bare.{same_true}
use Rattle.mq_rules.specs.contracts.rule.Rule.{the_type}
use Rattle.mq_rules.specs.contracts.faults.FaultKeyOrd.TheImpl.Laws as laws
use Rattle.mq_rules.specs.declared.role.Tested.{Tested}
use Rattle.mq_rules.specs.declared.fate.Fate.{Fate}
use Rattle.mq_rules.specs.declared.rule.Rule.{Rule}
use Rattle.mq_rules.specs.declared.rule.Rule.TheVariants.{W01}
use Rattle.mq_rules.specs.declared.note.Seen.{Seen}
use Rattle.mq_rules.specs.declared.fault.Fault.{Fault}
use Rattle.mq_rules.specs.declared.faults.FaultKey.{FaultKey}
use Rattle.mq_rules.specs.FaultKeys.{FaultMap, fault_at, faults_at, key_cmp}
use Rattle.mq_rules.specs.Rules.{same_rule}
use Rattle.mq_rules.specs.Words.{is_some_and, only}
use Rattle.mq_rules.specs.Notes.{is_open}
use Rattle.mq_rules.specs.Moments.{newest, note}
use Rattle.mq_rules.specs.Under.{fate_before}
use Rattle.mq_rules.proofs.Exports.{both_true, moment-newest, moment-older}
use Rattle.mq_rules.specs.declared.evidence.Evidence.{Evidence}
use Rattle.mq_evidence.specs.Evidence.{found, reason}
use Rattle.mq_evidence.specs.Turning.{evidence_under}
use Rattle.mq_evidence.specs.declared.trail.SessionTrail.{SessionTrail}
use Rattle.mq_evidence.specs.declared.wanted.Need.{Need}
use Rattle.mq_evidence.specs.declared.wanted.Need.TheVariants.{Standing, Asked}
use Rattle.mq_evidence.specs.Trailing.{is_found, needs_standing, needs_asked, needs, any_needs, finds, is_explained, explained_at, is_shut, IsExplained}
use Rattle.mq_evidence.proofs.TurnLaws.{evidence-older, evidence-newest}

-- ---- the faults that are looked at with an event

same_self : (r : Rule) → same_rule r r ≡ true
same_self W01 = refl
same_self _ = refl

or_right : (a : Bool) → (a || true) ≡ true
or_right true = refl
or_right false = refl

-- a fault at a position is looked at with the event there
listed : (chosen : Rule → Bool) (k : ℕ) (r : Rule) → chosen r ≡ true → (fs : List (FaultKey × Fault)) → list_any (eq_by_cmp key_cmp (record { position = k; rule = r })) (map (λ f. f.0) fs) ≡ true
    → list_any (is_explained chosen k r) (faults_at k fs) ≡ true
listed chosen k r finds [] h = absurd (cc)
listed chosen k r finds (f ∷ fs) h = go (eq_by_cmp key_cmp q f.0) refl h (listed chosen k r finds fs)
  where
    q : FaultKey
    q = record { position = k; rule = r }

    kept : (b : Bool) → list_any (is_explained chosen k r) (faults_at k fs) ≡ true → list_any (is_explained chosen k r) (cond b (f ∷ faults_at k fs) (faults_at k fs)) ≡ true
    kept true rest = ap (λ b. is_explained chosen k r f || b) rest ∙ or_right (is_explained chosen k r f)
    kept false rest = rest

    go : (b : Bool) → eq_by_cmp key_cmp q f.0 ≡ b → (b || list_any (eq_by_cmp key_cmp q) (map (λ f. f.0) fs)) ≡ true
        → (list_any (eq_by_cmp key_cmp q) (map (λ f. f.0) fs) ≡ true → list_any (is_explained chosen k r) (faults_at k fs) ≡ true)
        → list_any (is_explained chosen k r) (cond (f.0.position == k) (f ∷ faults_at k fs) (faults_at k fs)) ≡ true
    go true is h rest =
        let parts : (nat_eq k f.0.position ≡ true) × (same_rule r f.0.rule ≡ true) = both_true (nat_eq k f.0.position) (same_rule r f.0.rule) (laws.matches_eq-law q f.0 ∙ is) in
        let at : f.0.position ≡ k = sym (eqb-true k f.0.position parts.0) in
        let of : f.0.rule ≡ r = sym (same_true the_type tt r f.0.rule parts.1) in
        ap (λ b. list_any (is_explained chosen k r) (cond b (f ∷ faults_at k fs) (faults_at k fs))) (eq-eqb f.0.position k at)
        ∙ ap (λ b. (b && (same_rule f.0.rule r && chosen r)) || list_any (is_explained chosen k r) (faults_at k fs)) (eq-eqb f.0.position k at)
        ∙ ap (λ x. (same_rule x r && chosen r) || list_any (is_explained chosen k r) (faults_at k fs)) of
        ∙ ap (λ b. (b && chosen r) || list_any (is_explained chosen k r) (faults_at k fs)) (same_self r)
        ∙ ap (λ b. b || list_any (is_explained chosen k r) (faults_at k fs)) finds
    go false is h rest = kept (f.0.position == k) (rest h)

-- none at another position is
pub unlisted : (chosen : Rule → Bool) (p k : ℕ) (r : Rule) → (p ≡ k → ⊥) → (fs : List (FaultKey × Fault)) → list_any (is_explained chosen k r) (faults_at p fs) ≡ false
unlisted chosen p k r differ [] = refl
unlisted chosen p k r differ (f ∷ fs) = go (f.0.position == p) refl (unlisted chosen p k r differ fs)
  where
    go : (b : Bool) → (f.0.position == p) ≡ b → list_any (is_explained chosen k r) (faults_at p fs) ≡ false → list_any (is_explained chosen k r) (cond b (f ∷ faults_at p fs) (faults_at p fs)) ≡ false
    go true is rest =
        let at : f.0.position ≡ p = eqb-true f.0.position p is in
        let other : nat_eq f.0.position k ≡ false = ne_eqb f.0.position k (λ same. differ (sym at ∙ same)) in
        ap (λ b. (b && (same_rule f.0.rule r && chosen r)) || list_any (is_explained chosen k r) (faults_at p fs)) other ∙ rest
    go false is rest = rest

pub wanted-listed : (chosen : Rule → Bool) (wanted : FaultMap) (k : ℕ) (r : Rule) → chosen r ≡ true → is_some (fault_at wanted k r) ≡ true → list_any (is_explained chosen k r) (faults_at k (entries wanted)) ≡ true
wanted-listed chosen wanted k r finds there =
    listed chosen k r finds (entries wanted) (sym (is_some-find key_cmp (record { position = k; rule = r }) (entries wanted)) ∙ sym (ap is_some (get-entries wanted (record { position = k; rule = r }))) ∙ there)

-- ---- the faults that need Topic Filters

-- one of these faults needs them, if one of this statement does
needed : (need : Need) (k : ℕ) (r : Rule) → needs need r ≡ true → (fs : List (FaultKey × Fault)) → list_any (eq_by_cmp key_cmp (record { position = k; rule = r })) (map (λ f. f.0) fs) ≡ true
    → list_any (λ f. needs need f.0.rule) fs ≡ true
needed need k r wants [] h = absurd (cc)
needed need k r wants (f ∷ fs) h = go (eq_by_cmp key_cmp q f.0) refl h (needed need k r wants fs)
  where
    q : FaultKey
    q = record { position = k; rule = r }

    go : (b : Bool) → eq_by_cmp key_cmp q f.0 ≡ b → (b || list_any (eq_by_cmp key_cmp q) (map (λ f. f.0) fs)) ≡ true
        → (list_any (eq_by_cmp key_cmp q) (map (λ f. f.0) fs) ≡ true → list_any (λ f. needs need f.0.rule) fs ≡ true)
        → (needs need f.0.rule || list_any (λ f. needs need f.0.rule) fs) ≡ true
    go true is h rest =
        let parts : (nat_eq k f.0.position ≡ true) × (same_rule r f.0.rule ≡ true) = both_true (nat_eq k f.0.position) (same_rule r f.0.rule) (laws.matches_eq-law q f.0 ∙ is) in
        let of : f.0.rule ≡ r = sym (same_true the_type tt r f.0.rule parts.1) in
        ap (λ b. b || list_any (λ f. needs need f.0.rule) fs) (ap (needs need) of ∙ wants)
    go false is h rest = ap (λ b. needs need f.0.rule || b) (rest h) ∙ or_right (needs need f.0.rule)

-- a trail that keeps what one of these faults needs finds the evidence of each
pub enough-found : (t : SessionTrail) (wanted : FaultMap) → is_some t.subscriptions ≡ any_needs Standing wanted → is_some t.matching ≡ any_needs Asked wanted → (k : ℕ) (r : Rule) → is_some (fault_at wanted k r) ≡ true → is_found r ≡ true
    → finds t r ≡ true
enough-found t wanted enough enough_asked k r there finds_it =
    ap (λ b. b && cond (needs_standing r) (is_some t.subscriptions) (cond (needs_asked r) (is_some t.matching) true)) finds_it ∙ go (needs_standing r) refl (needs_asked r) refl
  where
    some_needs : (need : Need) → needs need r ≡ true → any_needs need wanted ≡ true
    some_needs need is = needed need k r is (entries wanted) (sym (is_some-find key_cmp (record { position = k; rule = r }) (entries wanted)) ∙ sym (ap is_some (get-entries wanted (record { position = k; rule = r }))) ∙ there)

    go : (a : Bool) → needs_standing r ≡ a → (b : Bool) → needs_asked r ≡ b → cond a (is_some t.subscriptions) (cond b (is_some t.matching) true) ≡ true
    go true is b other = enough ∙ some_needs Standing is
    go false never true is = enough_asked ∙ some_needs Asked is
    go false never false none = refl

-- ---- one event more

pub explained-next : (tested : Tested) (f : Fate) (e : Seen) (past : List Seen) (wanted : FaultMap) (chosen : Rule → Bool) (old new : ℕ → Rule → Option Evidence)
    → ((k : ℕ) (r : Rule) → is_some (fault_at wanted k r) ≡ true → is_found r ≡ true → chosen r ≡ true) → IsExplained wanted old tested (fate_before tested f e past) past
    → (is_open e.note ≡ false → (k : ℕ) (r : Rule) → new k r ≡ option_or (explained_at chosen (entries wanted) (length past + 1) k r (found (reason tested.role r) (Some f) None (newest e past))) (old k r))
    → (is_open e.note ≡ true → (k : ℕ) (r : Rule) → new k r ≡ old k r) → IsExplained wanted new tested (Some f) (e ∷ past)
explained-next tested f e past wanted chosen old new enough before closed opened = λ k r within finds there shut. go k r finds there shut (is_open e.note) refl (k == length past + 1) refl (fits k within)
  where
    fits : (k : ℕ) → k ≤ length (e ∷ past) → k ≤ length past + 1
    fits k h = omega arith

    Ev : Rule → Evidence
    Ev r = found (reason tested.role r) (Some f) None (newest e past)

    none_at : (k : ℕ) → k ≡ length past + 1 → is_open e.note ≡ true → is_shut (e ∷ past) k ≡ false
    none_at k at opens = ap (λ o. is_some_and (λ m. not (is_open (note m))) o) (moment-newest e past k at) ∙ ap not opens

    older : (k : ℕ) (r : Rule) → k ≤ length past → is_found r ≡ true → is_some (fault_at wanted k r) ≡ true → is_shut (e ∷ past) k ≡ true → old k r ≡ Some (evidence_under tested (Some f) (e ∷ past) k r)
    older k r le finds there shut =
        before k r le finds there (sym (ap (λ o. is_some_and (λ m. not (is_open (note m))) o) (moment-older e past k le)) ∙ shut)
        ∙ ap (λ x. Some x) (sym (evidence-older tested f e past k r le))

    go : (k : ℕ) (r : Rule) → is_found r ≡ true → is_some (fault_at wanted k r) ≡ true → is_shut (e ∷ past) k ≡ true → (o : Bool) → is_open e.note ≡ o → (b : Bool) → (k == length past + 1) ≡ b → k ≤ length past + 1
        → new k r ≡ Some (evidence_under tested (Some f) (e ∷ past) k r)
    go k r finds there shut true opens true at within = absurd (let t = none_at k (eqb-true k (length past + 1) at) opens in cc)
    go k r finds there shut false opens true at within =
        let is : k ≡ length past + 1 = eqb-true k (length past + 1) at in
        closed opens k r
        ∙ ap (λ p. option_or (explained_at chosen (entries wanted) p k r (Ev r)) (old k r)) (sym is)
        ∙ ap (λ b. option_or (only b (Some (Ev r))) (old k r)) (wanted-listed chosen wanted k r (enough k r there finds) there)
        ∙ ap (λ x. Some x) (sym (evidence-newest tested f e past k r is))
    go k r finds there shut true opens false at within =
        let le : k ≤ length past = below k (length past) at within in
        opened opens k r ∙ older k r le finds there shut
      where
        below : (k n : ℕ) → (k == n + 1) ≡ false → k ≤ n + 1 → k ≤ n
        below k n h le = strict (λ same. absurd (let t = eq-eqb k (n + 1) same in cc)) le
          where
            strict : (k ≡ n + 1 → ⊥) → k ≤ n + 1 → k ≤ n
            strict d le = omega arith
    go k r finds there shut false opens false at within =
        let le : k ≤ length past = below k (length past) at within in
        closed opens k r
        ∙ ap (λ b. option_or (only b (Some (Ev r))) (old k r)) (unlisted chosen (length past + 1) k r (λ same. absurd (let t = eq-eqb k (length past + 1) (sym same) in cc)) (entries wanted))
        ∙ older k r le finds there shut
      where
        below : (k n : ℕ) → (k == n + 1) ≡ false → k ≤ n + 1 → k ≤ n
        below k n h le = strict (λ same. absurd (let t = eq-eqb k (n + 1) same in cc)) le
          where
            strict : (k ≡ n + 1 → ⊥) → k ≤ n + 1 → k ≤ n
            strict d le = omega arith
