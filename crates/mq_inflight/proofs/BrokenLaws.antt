-- The faults of several statements that an event breaks.
use Rattle.std.proofs.Common.{◌≡◌, ℕ, ◌+◌, Bool, true, false, ◌&&◌, ◌||◌, List, [], ◌∷◌, length, None, refl, ◌==◌, ap, sym, ◌∙◌}
use Rattle.mq_log.specs.declared.place.Place3.{Place3}
use Rattle.mq_rules.specs.declared.role.Tested.{Tested}
use Rattle.mq_rules.specs.declared.fate.Fate.{Fate}
use Rattle.mq_rules.specs.declared.rule.Rule.{Rule}
use Rattle.mq_rules.specs.declared.rule.Rule.TheVariants.{S01, S02, S03, S04, S05}
use Rattle.mq_rules.specs.declared.note.Seen.{Seen}
use Rattle.mq_rules.specs.Moments.{is_next}
use Rattle.mq_rules.specs.Rules.{same_rule}
use Rattle.mq_rules.specs.FaultKeys.{FaultMap}
use Rattle.mq_inflight.specs.declared.inflight.broken.Broken.{Broken}
use Rattle.mq_rules.specs.Under.{turns_with}
use Rattle.mq_rules.specs.Growing.{Gains}
use Rattle.mq_fates.specs.Judgements.{Keeps, judged_by}
use Rattle.mq_inflight.specs.Using.{is_at_once, judged_all, all_excused}
use Rattle.mq_rules.proofs.Exports.{gains_either}
use Rattle.mq_fates.proofs.Exports.{keeps_with_fault, gains_judged, excused-late}
use Rattle.mq_rules.specs.Connections.{is_unasked, surprises}

pub keeps_judged : (old mid : FaultMap) (broken : Bool) (rule : Rule) (place : Place3) (at : ℕ) → Keeps old mid → Keeps old (judged_by broken rule place at mid)
keeps_judged old mid true rule place at h = keeps_with_fault old mid (record { position = place.position; rule = rule }) (record { decided = at; record_no = place.record_no; offset = None }) h
keeps_judged old mid false rule place at h = h

-- the faults with those of these statements that are broken
abbrev pub judged_these : Place3 → ℕ → List (Bool × Rule) → FaultMap → FaultMap
judged_these place at [] m = m
judged_these place at (x ∷ xs) m = judged_these place at xs (judged_by x.0 x.1 place at m)

pub keeps_these : (place : Place3) (at : ℕ) (xs : List (Bool × Rule)) (old mid : FaultMap) → Keeps old mid → Keeps old (judged_these place at xs mid)
keeps_these place at [] old mid h = h
keeps_these place at (x ∷ xs) old mid h = keeps_these place at xs old (judged_by x.0 x.1 place at mid) (keeps_judged old mid x.0 x.1 place at h)

pub all-gains : (tested : Tested) (f : Fate) (e : Seen) (past : List Seen) (at : ℕ) (m : FaultMap) (b : Broken) → e.place.position ≡ length past + 1
    → ((k : ℕ) → turns_with tested f e past k S01 ≡ (is_next past k && b.takes_busy)) → ((k : ℕ) → turns_with tested f e past k S02 ≡ (is_next past k && b.unopened))
    → ((k : ℕ) → turns_with tested f e past k S03 ≡ (is_next past k && b.twice)) → ((k : ℕ) → turns_with tested f e past k S04 ≡ (is_next past k && b.past_pubrel))
    → ((k : ℕ) → turns_with tested f e past k S05 ≡ (is_next past k && b.out_of_order))
    → Gains (λ k r. is_at_once r && turns_with tested f e past k r) tested (e ∷ past) at m (judged_all b e.place at m)
all-gains tested f e past at m b placed one two three four five =
    gains_either (λ r. same_rule r S01) (λ r. same_rule r S02 || (same_rule r S03 || (same_rule r S04 || same_rule r S05))) t tested (e ∷ past) at m m1 m5
    (gains_judged tested S01 f e past at m b.takes_busy (λ m. refl) placed one)
    (gains_either (λ r. same_rule r S02) (λ r. same_rule r S03 || (same_rule r S04 || same_rule r S05)) t tested (e ∷ past) at m1 m2 m5
    (gains_judged tested S02 f e past at m1 b.unopened (λ m. refl) placed two)
    (gains_either (λ r. same_rule r S03) (λ r. same_rule r S04 || same_rule r S05) t tested (e ∷ past) at m2 m3 m5
    (gains_judged tested S03 f e past at m2 b.twice (λ m. refl) placed three)
    (gains_either (λ r. same_rule r S04) (λ r. same_rule r S05) t tested (e ∷ past) at m3 m4 m5
    (gains_judged tested S04 f e past at m3 b.past_pubrel (λ m. refl) placed four)
    (gains_judged tested S05 f e past at m4 b.out_of_order (λ m. refl) placed five))))
  where
    t : ℕ → Rule → Bool
    t k r = turns_with tested f e past k r

    m1 : FaultMap
    m1 = judged_by b.takes_busy S01 e.place at m

    m2 : FaultMap
    m2 = judged_by b.unopened S02 e.place at m1

    m3 : FaultMap
    m3 = judged_by b.twice S03 e.place at m2

    m4 : FaultMap
    m4 = judged_by b.past_pubrel S04 e.place at m3

    m5 : FaultMap
    m5 = judged_by b.out_of_order S05 e.place at m4

pub all_excused-late : (f : Fate) (at n : ℕ) (b : Broken) → at ≡ n → b ≡ all_excused f (at == n) b
all_excused-late f at n b is = same ∙ ap (λ k. all_excused f (k == n) b) (sym is)
  where
    same : b ≡ all_excused f (n == n) b
    same = λ i. record {
      takes_busy = excused-late (is_unasked f) b.takes_busy n i;
      unopened = excused-late (surprises f) b.unopened n i;
      twice = b.twice;
      past_pubrel = b.past_pubrel;
      out_of_order = b.out_of_order;
    }
