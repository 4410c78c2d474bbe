-- What the evidence is that needs no look back.
use Rattle.std.proofs.Common.{◌≡◌, ◌≤◌, ◌+◌, ◌==◌, ◌&&◌, ◌||◌, ℕ, Bool, true, false, cond, nat_eq, arith, List, [], ◌∷◌, length, Option, Some, None, refl, ap, sym, ◌∙◌}
use Rattle.std.specs.Prelude.{is_some, option_map, unwrap_or}
use Rattle.std.specs.Option.{option_and_then, option_or}
use Rattle.std.specs.List.{list_any}
use Rattle.std.specs.Ordering.{eq_by_cmp}
use Rattle.std.specs.FinMap.{entries, get-entries}
use Rattle.std.specs.FinMap.Entries.{find}
use Rattle.std.proofs.lemmas.Bool.{eq-eqb}
use denote.Enum.Bare.{same_true}
use Rattle.mq_rules.specs.contracts.rule.Rule.{the_type}
use Rattle.mq_rules.specs.contracts.faults.FaultKeyOrd.TheImpl.Laws as laws
use Rattle.mq_rules.specs.declared.role.Role.{Role}
use Rattle.mq_rules.specs.declared.role.Role.TheVariants.{Client, Server}
use Rattle.mq_rules.specs.declared.role.Further.{Further}
use Rattle.mq_rules.specs.declared.role.Tested.{Tested}
use Rattle.mq_rules.specs.declared.fault.Fault.{Fault}
use Rattle.mq_rules.specs.declared.faults.FaultKey.{FaultKey}
use Rattle.mq_rules.specs.declared.note.Seen.{Seen}
use Rattle.mq_rules.specs.declared.rule.Rule.{Rule}
use Rattle.mq_rules.specs.declared.rule.Rule.TheVariants.{W01, W02, W03, W04, W05, W06, W07, W08, W09, W10, W11, W12, W13, W14, W15, W16, W17, W18, W19, W20, W21, C01, C02, C03, C04, C05, C06, C07, C08, C09, C10, C11, C12, C13, C14, C15, C16, C17, C18, C19, C20, C21, C22, C23, B08, F01, F02, F03, F04, F05, F06, V03, V04, V06, A01, A02, A03, E1R, E2R, E3R, E4R, E5R, E6R, S06, C24, D01, D02, D03, D05, K01, K02}
use Rattle.mq_rules.specs.FaultKeys.{FaultMap, fault_at, key_cmp}
use Rattle.mq_rules.specs.Rules.{binds, found_line, line_of, lines, same_rule}
use Rattle.mq_rules.specs.Moments.{Moment, position, newest, moment}
use Rattle.mq_rules.specs.Connections.{number, fate}
use Rattle.mq_rules.specs.Statements.{fails}
use Rattle.mq_rules.specs.Faults.{decided}
use Rattle.mq_rules.proofs.Exports.{both_true, moment-beginning}
use Rattle.mq_rules.specs.declared.evidence.Evidence.{Evidence}
use Rattle.mq_rules.specs.declared.evidence.Numbers.TheVariants.{Nothing}
use Rattle.mq_rules.specs.Evidence.{nothing}
use Rattle.mq_evidence.specs.Evidence.{Reason, by_itself, by_silence, at_rest, it, connack_at, evidence, found, reason}
use Rattle.mq_evidence.specs.ConnectionTrails.{is_on_connection}
use Rattle.mq_evidence.specs.Trailing.{is_found}
use Rattle.mq_evidence.specs.Rests.{shows_at}
use Rattle.mq_trail.specs.Resting.{connack_before_at}
use Rattle.mq_trail.specs.Sources.{is_silent}

-- ---- nothing is to blame

itself : (role : Role) (releases : Bool) (further : Further) (r : Rule) → binds r (record { role = role; releases = releases; further = further }) ≡ true → is_on_connection role r ≡ false → is_found r ≡ false → is_silent r ≡ false → same_rule r S06 ≡ false
    → reason role r ≡ by_itself
unfolding line_of found_line lines
itself role releases further W01 bound on found silent resumed = refl
itself role releases further W02 bound on found silent resumed = refl
itself role releases further W03 bound on found silent resumed = refl
itself role releases further W04 bound on found silent resumed = refl
itself role releases further W05 bound on found silent resumed = refl
itself role releases further W06 bound on found silent resumed = refl
itself role releases further W07 bound on found silent resumed = refl
itself role releases further W08 bound on found silent resumed = refl
itself role releases further W09 bound on found silent resumed = refl
itself role releases further W10 bound on found silent resumed = refl
itself role releases further W11 bound on found silent resumed = refl
itself role releases further W12 bound on found silent resumed = refl
itself role releases further W13 bound on found silent resumed = refl
itself role releases further W14 bound on found silent resumed = refl
itself role releases further W15 bound on found silent resumed = refl
itself role releases further W16 bound on found silent resumed = refl
itself role releases further W17 bound on found silent resumed = refl
itself role releases further W18 bound on found silent resumed = refl
itself role releases further W19 bound on found silent resumed = refl
itself role releases further W20 bound on found silent resumed = refl
itself role releases further W21 bound on found silent resumed = refl
itself role releases further C01 bound on found silent resumed = refl
itself role releases further C02 bound on found silent resumed = refl
itself role releases further C04 bound on found silent resumed = refl
itself role releases further C05 bound on found silent resumed = refl
itself role releases further C09 bound on found silent resumed = refl
itself role releases further C18 bound on found silent resumed = refl
itself role releases further C19 bound on found silent resumed = refl
itself role releases further B08 bound on found silent resumed = refl
itself role releases further V03 bound on found silent resumed = refl
itself role releases further V04 bound on found silent resumed = refl
itself role releases further V06 bound on found silent resumed = refl
itself Client releases further C03 bound on found silent resumed = absurd (cc)
itself Server releases further C03 bound on found silent resumed = absurd (cc)
itself Client releases further C06 bound on found silent resumed = absurd (cc)
itself Server releases further C06 bound on found silent resumed = absurd (cc)
itself Client releases further C07 bound on found silent resumed = absurd (cc)
itself Server releases further C07 bound on found silent resumed = absurd (cc)
itself Client releases further C08 bound on found silent resumed = absurd (cc)
itself Server releases further C08 bound on found silent resumed = absurd (cc)
itself Client releases further C10 bound on found silent resumed = absurd (cc)
itself Server releases further C10 bound on found silent resumed = absurd (cc)
itself Client releases further C11 bound on found silent resumed = absurd (cc)
itself Server releases further C11 bound on found silent resumed = absurd (cc)
itself Client releases further C12 bound on found silent resumed = absurd (cc)
itself Server releases further C12 bound on found silent resumed = absurd (cc)
itself Client releases further C13 bound on found silent resumed = absurd (cc)
itself Server releases further C13 bound on found silent resumed = absurd (cc)
itself Client releases further C14 bound on found silent resumed = absurd (cc)
itself Server releases further C14 bound on found silent resumed = absurd (cc)
itself Client releases further C15 bound on found silent resumed = absurd (cc)
itself Server releases further C15 bound on found silent resumed = absurd (cc)
itself Client releases further C16 bound on found silent resumed = absurd (cc)
itself Server releases further C16 bound on found silent resumed = absurd (cc)
itself Client releases further C17 bound on found silent resumed = absurd (cc)
itself Server releases further C17 bound on found silent resumed = absurd (cc)
itself Client releases further C20 bound on found silent resumed = absurd (cc)
itself Server releases further C20 bound on found silent resumed = absurd (cc)
itself Client releases further C21 bound on found silent resumed = absurd (cc)
itself Server releases further C21 bound on found silent resumed = absurd (cc)
itself Client releases further C22 bound on found silent resumed = absurd (cc)
itself Server releases further C22 bound on found silent resumed = absurd (cc)
itself Client releases further C23 bound on found silent resumed = absurd (cc)
itself Server releases further C23 bound on found silent resumed = absurd (cc)
itself Client releases further F01 bound on found silent resumed = absurd (cc)
itself Server releases further F01 bound on found silent resumed = absurd (cc)
itself Client releases further F02 bound on found silent resumed = absurd (cc)
itself Server releases further F02 bound on found silent resumed = absurd (cc)
itself Client releases further F03 bound on found silent resumed = absurd (cc)
itself Server releases further F03 bound on found silent resumed = absurd (cc)
itself Client releases further F04 bound on found silent resumed = absurd (cc)
itself Server releases further F04 bound on found silent resumed = absurd (cc)
itself Client releases further F05 bound on found silent resumed = absurd (cc)
itself Server releases further F05 bound on found silent resumed = absurd (cc)
itself Client releases further F06 bound on found silent resumed = absurd (cc)
itself Server releases further F06 bound on found silent resumed = absurd (cc)
itself Client releases further A01 bound on found silent resumed = absurd (cc)
itself Server releases further A01 bound on found silent resumed = absurd (cc)
itself Client releases further A02 bound on found silent resumed = absurd (cc)
itself Server releases further A02 bound on found silent resumed = absurd (cc)
itself Client releases further A03 bound on found silent resumed = absurd (cc)
itself Server releases further A03 bound on found silent resumed = absurd (cc)
itself Client releases further K01 bound on found silent resumed = absurd (cc)
itself Server releases further K01 bound on found silent resumed = absurd (cc)
itself Client releases further K02 bound on found silent resumed = absurd (cc)
itself Server releases further K02 bound on found silent resumed = absurd (cc)
itself role releases further _ bound on found silent resumed = absurd (cc)

silence : (role : Role) (r : Rule) → is_silent r ≡ true → reason role r ≡ by_silence
silence role E1R h = refl
silence role E2R h = refl
silence role E3R h = refl
silence role E4R h = refl
silence role E5R h = refl
silence role E6R h = refl
silence role C24 h = refl
silence role D01 h = refl
silence role D02 h = refl
silence role D03 h = refl
silence role D05 h = refl
silence role _ h = absurd (cc)

-- ---- where it was decided

there : (log : List Seen) (d : ℕ) → 1 ≤ d → d ≤ length log → is_some (moment log d) ≡ true
there [] d least most = absurd (omega (arith, least, most))
there (e ∷ past) d least most = go (d == length past + 1) refl (λ le. there past d least le)
  where
    older : (d ≡ length past + 1 → ⊥) → d ≤ length past
    older differ = omega arith

    go : (b : Bool) → (d == length past + 1) ≡ b → (d ≤ length past → is_some (moment past d) ≡ true) → is_some (cond b (Some (newest e past)) (moment past d)) ≡ true
    go true h rest = refl
    go false h rest = rest (older (λ same. absurd (let t = eq-eqb d (length past + 1) same in cc)))

decided-within : (tested : Tested) (log : List Seen) (k d : ℕ) (r : Rule) → decided tested log k r ≡ Some d → (1 ≤ d) × (d ≤ length log)
decided-within tested [] k d r h = absurd (cc)
decided-within tested (e ∷ past) k d r h = go (decided tested past k r) refl (fails tested (e ∷ past) k r) h (λ at. decided-within tested past k d r at)
  where
    go : (o : Option ℕ) → decided tested past k r ≡ o → (b : Bool) → option_or o (cond b (Some (length past + 1)) None) ≡ Some d → (decided tested past k r ≡ Some d → (1 ≤ d) × (d ≤ length past))
        → (1 ≤ d) × (d ≤ length (e ∷ past))
    go None at true h before = let same : length past + 1 ≡ d = cc in (omega arith, omega arith)
    go None at false h before = absurd (cc)
    go (Some x) at b h before =
        let same : x ≡ d = cc in
        let rest = before (at ∙ ap (λ y. Some y) same) in
        (rest.0, let le = rest.1 in omega arith)

-- ---- the whole evidence

pub whole : (tested : Tested) (log : List Seen) (k : ℕ) (r : Rule) (of : Reason) → fails tested log k r ≡ true → reason tested.role r ≡ of
    → evidence tested log k r ≡ unwrap_or (option_map (λ m. found of (fate tested.role (number m) log) (option_and_then (moment log) (decided tested log k r)) m) (moment log k)) nothing
unfolding evidence
whole tested log k r of failing is =
    ap (λ b. cond b (unwrap_or (option_map (λ m. found (reason tested.role r) (fate tested.role (number m) log) (option_and_then (moment log) (decided tested log k r)) m) (moment log k)) nothing) nothing) failing
    ∙ ap (λ x. unwrap_or (option_map (λ m. found x (fate tested.role (number m) log) (option_and_then (moment log) (decided tested log k r)) m) (moment log k)) nothing) is

pub evidence-itself : (tested : Tested) (log : List Seen) (k : ℕ) (r : Rule) → fails tested log k r ≡ true → is_on_connection tested.role r ≡ false → is_found r ≡ false → is_silent r ≡ false → same_rule r S06 ≡ false
    → nothing ≡ evidence tested log k r
unfolding fails
evidence-itself tested log k r failing on finds silent resumed =
    sym (whole tested log k r by_itself failing (itself tested.role tested.releases tested.further r (both_true (binds r tested) _ failing).0 on finds silent resumed) ∙ go (moment log k))
  where
    go : (o : Option Moment) → unwrap_or (option_map (λ m. found by_itself (fate tested.role (number m) log) (option_and_then (moment log) (decided tested log k r)) m) o) nothing ≡ nothing
    go None = refl
    go (Some m) = refl

module _ (tested : Tested) (log : List Seen) (k d : ℕ) (r : Rule) (here : is_some (moment log k) ≡ true) (at : decided tested log k r ≡ Some d) where
  -- what a REST shows
  shown : (of : Moment → Moment → Evidence) → unwrap_or (option_map (λ m. found (at_rest of) (fate tested.role (number m) log) (option_and_then (moment log) (decided tested log k r)) m) (moment log k)) nothing
      ≡ unwrap_or (option_map (λ m. unwrap_or (option_map (λ t. of t m) (moment log d)) nothing) (moment log k)) nothing
  shown of = ap (λ o. unwrap_or (option_map (λ m. unwrap_or (option_map (λ t. of t m) (option_and_then (moment log) o)) nothing) (moment log k)) nothing) at

  pub rest-there : (1 ≤ d) × (d ≤ length log)
  rest-there = decided-within tested log k d r at

  pub evidence-silent : fails tested log k r ≡ true → is_silent r ≡ true → record { because = Some d; numbers = Nothing } ≡ evidence tested log k r
  evidence-silent failing silent =
      sym (whole tested log k r by_silence failing (silence tested.role r silent) ∙ shown (λ t m. it (Some t)) ∙ go (moment log k) here (moment log d) refl (there log d rest-there.0 rest-there.1))
    where
      go : (o : Option Moment) → is_some o ≡ true → (p : Option Moment) → moment log d ≡ p → is_some p ≡ true → unwrap_or (option_map (λ m. unwrap_or (option_map (λ t. it (Some t)) p) nothing) o) nothing ≡ record { because = Some d; numbers = Nothing }
      go None h p is g = absurd (cc)
      go (Some m) h None is g = absurd (cc)
      go (Some m) h (Some t) is g = ap (λ n. record { because = Some n; numbers = Nothing }) (sym (moment-beginning log d t is).at)

  pub evidence-resumed : fails tested log k r ≡ true → r ≡ S06 → record { because = connack_before_at tested.role log d; numbers = Nothing } ≡ evidence tested log k r
  evidence-resumed failing is =
      sym (whole tested log k r (at_rest (λ t m. it (connack_at tested.role t))) failing (ap (reason tested.role) is) ∙ shown (λ t m. it (connack_at tested.role t)) ∙ go (moment log k) here (moment log d))
    where
      go : (o : Option Moment) → is_some o ≡ true → (p : Option Moment) → unwrap_or (option_map (λ m. unwrap_or (option_map (λ t. it (connack_at tested.role t)) p) nothing) o) nothing
          ≡ record { because = option_and_then (λ t. option_map position (connack_at tested.role t)) p; numbers = Nothing }
      go None h p = absurd (cc)
      go (Some m) h None = refl
      go (Some m) h (Some t) = refl

-- ---- the RESTs that are kept

shows-there : (k : ℕ) (fault : Fault) (fs : List (FaultKey × Fault)) → find key_cmp (record { position = k; rule = S06 }) fs ≡ Some fault → list_any (shows_at fault.decided) fs ≡ true
shows-there k fault [] h = absurd (cc)
shows-there k fault (f ∷ fs) h = go (eq_by_cmp key_cmp (record { position = k; rule = S06 }) f.0) refl h (shows-there k fault fs)
  where
    key : FaultKey
    key = record { position = k; rule = S06 }

    right : (a : Bool) → (a || true) ≡ true
    right true = refl
    right false = refl

    go : (b : Bool) → eq_by_cmp key_cmp key f.0 ≡ b → cond b (Some f.1) (find key_cmp key fs) ≡ Some fault → (find key_cmp key fs ≡ Some fault → list_any (shows_at fault.decided) fs ≡ true)
        → list_any (shows_at fault.decided) (f ∷ fs) ≡ true
    go true is h rest =
        let parts : (nat_eq k f.0.position ≡ true) × (same_rule S06 f.0.rule ≡ true) = both_true (nat_eq k f.0.position) (same_rule S06 f.0.rule) (laws.matches_eq-law key f.0 ∙ is) in
        let own : f.1 ≡ fault = cc in
        let of : S06 ≡ f.0.rule = same_true the_type tt S06 f.0.rule parts.1 in
        ap (λ x. (same_rule x S06 && nat_eq f.1.decided fault.decided) || list_any (shows_at fault.decided) fs) (sym of)
        ∙ ap (λ b. b || list_any (shows_at fault.decided) fs) (eq-eqb f.1.decided fault.decided (ap (λ x. x.decided) own))
    go false is h rest = ap (λ b. shows_at fault.decided f || b) (rest h) ∙ right (shows_at fault.decided f)

pub rest-kept : (wanted : FaultMap) (k : ℕ) (fault : Fault) → fault_at wanted k S06 ≡ Some fault → list_any (shows_at fault.decided) (entries wanted) ≡ true
rest-kept wanted k fault h = shows-there k fault (entries wanted) (sym (get-entries wanted (record { position = k; rule = S06 })) ∙ h)
