-- A statement that a later event of the connection shows, and what is kept of the latest connection: which faults an event brings, and how often the statement is put to the test.
use Rattle.std.proofs.Common.{◌≡◌, ℕ, ◌+◌, ◌<◌, ◌≤◌, ◌==◌, arith, Bool, true, false, cond, ◌&&◌, ◌||◌, not, List, [], ◌∷◌, length, Option, Some, None, option_map, refl, ap, sym, ◌∙◌}
use Rattle.std.proofs.lemmas.Bool.{eqb-true}
use Rattle.std.specs.Option.{option_or}
use denote.Enum.Bare.{same_true}
use Rattle.mq_log.specs.declared.place.Place3.{Place3}
use Rattle.mq_rules.specs.declared.role.Role.{Role}
use Rattle.mq_rules.specs.declared.role.Tested.{Tested}
use Rattle.mq_rules.specs.declared.fault.Fault.{Fault}
use Rattle.mq_rules.specs.declared.rule.Rule.{Rule}
use Rattle.mq_rules.specs.contracts.rule.Rule.{the_type}
use Rattle.mq_rules.specs.declared.note.Note.{Note}
use Rattle.mq_rules.specs.declared.note.Seen.{Seen}
use Rattle.mq_connections.specs.declared.duties.Talk.{Talk}
use Rattle.mq_connections.specs.declared.duties.Trial.{Trial}
use Rattle.mq_rules.specs.Notes.{is_open}
use Rattle.mq_rules.specs.Moments.{Moment, newest, position, moment}
use Rattle.mq_rules.specs.Rules.{binds, same_rule}
use Rattle.mq_rules.specs.Statements.{Statement, on_bytes, on_past, in_session, at_release, at_rest, by_later, is_by_later, statement}
use Rattle.mq_rules.specs.Steps.{turns}
use Rattle.mq_rules.specs.Under.{Follows}
use Rattle.mq_rules.specs.Growing.{added, Gains}
use Rattle.mq_rules.specs.Occasions.{adds_place, places}
use Rattle.mq_rules.specs.Faults.{offset_of, record_of, reported}
use Rattle.mq_rules.specs.FaultKeys.{FaultMap, fault_at}
use Rattle.mq_connections.specs.Duties.{blamed, owed_on, place_of, talk, waits_for, CountsTrial, IsTrial}
use Rattle.mq_rules.proofs.Exports.{and_false, fault_at-with_fault, gains_nothing, moment-older, moment-placed, moment-within, option_or-none, places-most, places-start, places-unbound}
use Rattle.mq_connections.proofs.LaterLaws.{IsOnce, is_at, latest-next, latest-stands, places-shown, waits_at, waits-next}

-- Such a statement: an event shows it to be false, or puts it to the test, as what is kept of the latest connection says.
pub record IsDuty (rule : Rule) (owes : Moment → Bool) (shown tried : Talk → Note → Bool) : Type 0 where
  pub once : IsOnce owes
  pub by : (role : Role) → is_by_later (statement role rule) ≡ true
  pub turned : (tested : Tested) (e : Seen) (past : List Seen) (k : ℕ) → turns tested e past k rule ≡ (binds rule tested && (shown (talk past) e.note && is_at k (owed_on owes past)))
  pub placed : (tested : Tested) (e : Seen) (past : List Seen) (k : ℕ) → binds rule tested ≡ true → adds_place tested e past k rule ≡ (tried (talk past) e.note && is_at k (owed_on owes past))

-- the statements are told apart by their codes
is-rule : (r rule : Rule) → same_rule r rule ≡ true → r ≡ rule
is-rule r rule h = same_true the_type tt r rule h

no_offset : (s : Statement) (m : Option Moment) → is_by_later s ≡ true → offset_of s m ≡ None
no_offset (on_bytes bytes) m h = absurd (cc)
no_offset (on_past breaks) m h = absurd (cc)
no_offset (in_session breaks) m h = absurd (cc)
no_offset (at_release breaks) m h = absurd (cc)
no_offset (at_rest test) m h = absurd (cc)
no_offset (by_later test) m h = refl

-- ---- the faults

-- the fault of a statement at a place, shown by the event at the other place
told : Rule → Option Place3 → Bool → Place3 → ℕ → Rule → Option Fault
told rule None shown at k r = None
told rule (Some p) shown at k r = cond (shown && ((k == p.position) && same_rule r rule)) (Some (record { decided = at.position; record_no = p.record_no; offset = None })) None

blamed-told : (rule : Rule) (p : Option Place3) (shown : Bool) (at : Place3) (faults : FaultMap) (k : ℕ) (r : Rule) → fault_at (blamed rule p shown at faults) k r ≡ option_or (fault_at faults k r) (told rule p shown at k r)
unfolding told
blamed-told rule None shown at faults k r = sym (option_or-none (fault_at faults k r))
blamed-told rule (Some p) true at faults k r = fault_at-with_fault faults p.position k rule r (record { decided = at.position; record_no = p.record_no; offset = None })
blamed-told rule (Some p) false at faults k r = sym (option_or-none (fault_at faults k r))

module _ (rule : Rule) (owes : Moment → Bool) (shown tried : Talk → Note → Bool) (duty : IsDuty rule owes shown tried) where
  -- what turns out false with an event: at the place that is kept, if the event shows it
  own-turns : (tested : Tested) (e : Seen) (past : List Seen) (k : ℕ) (r : Rule)
      → (same_rule r rule && turns tested e past k r) ≡ (same_rule r rule && (binds rule tested && (shown (talk past) e.note && is_at k (owed_on owes past))))
  own-turns tested e past k r = go (same_rule r rule) refl
    where
      go : (b : Bool) → same_rule r rule ≡ b → (b && turns tested e past k r) ≡ (b && (binds rule tested && (shown (talk past) e.note && is_at k (owed_on owes past))))
      go true h = ap (turns tested e past k) (is-rule r rule h) ∙ duty.turned tested e past k
      go false h = refl

  told-added : (tested : Tested) (e : Seen) (past : List Seen) (k : ℕ) (r : Rule) → binds rule tested ≡ true → Follows tested e past
      → told rule (place_of (owed_on owes past)) (shown (talk past) e.note) e.place k r ≡ added (λ k r. same_rule r rule && turns tested e past k r) tested (e ∷ past) (length past + 1) k r
  unfolding told
  told-added tested e past k r bound follows =
      go (owed_on owes past) refl
      ∙ sym (ap (λ b. cond b (Some (reported tested.role (moment (e ∷ past) k) r (length past + 1))) None) (own-turns tested e past k r ∙ ap (λ b. same_rule r rule && (b && (now && is_at k (owed_on owes past)))) bound))
    where
      now : Bool
      now = shown (talk past) e.note

      told-of : Option Moment → Option Fault
      told-of o = told rule (option_map (λ m. m.event.place) o) now e.place k r

      wanted : Option Moment → Option Fault
      wanted o = cond (same_rule r rule && (now && is_at k o)) (Some (reported tested.role (moment (e ∷ past) k) r (length past + 1))) None

      apart : (s b : Bool) → false ≡ (s && (b && false))
      apart true true = refl
      apart true false = refl
      apart false b = refl

      go : (o : Option Moment) → owed_on owes past ≡ o → told rule (place_of (owed_on owes past)) now e.place k r ≡ wanted (owed_on owes past)
      go None is = ap told-of is ∙ ap (λ b. cond b (Some (reported tested.role (moment (e ∷ past) k) r (length past + 1))) None) (apart (same_rule r rule) now) ∙ sym (ap wanted is)
      go (Some m) is = ap told-of is ∙ each (same_rule r rule) refl now (k == position m) refl ∙ sym (ap wanted is)
        where
          stands : moment past (position m) ≡ Some m
          stands = latest-stands owes past m is

          at : m.event.place.position ≡ position m
          at = moment-placed past (position m) m follows.placed.1 stands

          each : (b : Bool) → same_rule r rule ≡ b → (s t : Bool) → (k == position m) ≡ t
              → cond (s && ((k == m.event.place.position) && same_rule r rule)) (Some (record { decided = e.place.position; record_no = m.event.place.record_no; offset = None })) None
              ≡ cond {A = Option Fault} (same_rule r rule && (s && (k == position m))) (Some (reported tested.role (moment (e ∷ past) k) r (length past + 1))) None
          each false is_it s t here =
              ap (λ b. cond {A = Option Fault} b (Some (record { decided = e.place.position; record_no = m.event.place.record_no; offset = None })) None) (ap (λ b. s && ((k == m.event.place.position) && b)) is_it ∙ sym (apart s (k == m.event.place.position)))
              ∙ sym (ap (λ b. cond {A = Option Fault} (b && (s && (k == position m))) (Some (reported tested.role (moment (e ∷ past) k) r (length past + 1))) None) is_it)
          each true is_it s t here =
              ap (λ b. cond {A = Option Fault} (s && ((k == m.event.place.position) && b)) (Some (record { decided = e.place.position; record_no = m.event.place.record_no; offset = None })) None) is_it
              ∙ ap (λ n. cond {A = Option Fault} (s && ((k == n) && true)) (Some (record { decided = e.place.position; record_no = m.event.place.record_no; offset = None })) None) at
              ∙ last s t here
              ∙ sym (ap (λ b. cond {A = Option Fault} (b && (s && (k == position m))) (Some (reported tested.role (moment (e ∷ past) k) r (length past + 1))) None) is_it)
            where
              same_fault : k ≡ position m → (record { decided = e.place.position; record_no = m.event.place.record_no; offset = None }) ≡ reported tested.role (moment (e ∷ past) k) r (length past + 1)
              same_fault q =
                  let le : position m ≤ length past = moment-within past (position m) m stands in
                  let within : k ≤ length past = omega arith in
                  let there : moment (e ∷ past) k ≡ Some m = moment-older e past k within ∙ ap (moment past) q ∙ stands in
                  λ i. record {
                    decided = follows.placed.0 i;
                    record_no = sym (ap record_of there) i;
                    offset = sym (ap (λ x. offset_of (statement tested.role x) (moment (e ∷ past) k)) (is-rule r rule is_it) ∙ no_offset (statement tested.role rule) (moment (e ∷ past) k) (duty.by tested.role)) i;
                  }

              last : (s t : Bool) → (k == position m) ≡ t
                  → cond {A = Option Fault} (s && ((k == position m) && true)) (Some (record { decided = e.place.position; record_no = m.event.place.record_no; offset = None })) None
                  ≡ cond {A = Option Fault} (true && (s && (k == position m))) (Some (reported tested.role (moment (e ∷ past) k) r (length past + 1))) None
              last false t h = refl
              last true true h =
                  ap (λ b. cond {A = Option Fault} (b && true) (Some (record { decided = e.place.position; record_no = m.event.place.record_no; offset = None })) None) h
                  ∙ ap Some (same_fault (eqb-true k (position m) h))
                  ∙ sym (ap (λ b. cond {A = Option Fault} b (Some (reported tested.role (moment (e ∷ past) k) r (length past + 1))) None) h)
              last true false h =
                  ap (λ b. cond {A = Option Fault} (b && true) (Some (record { decided = e.place.position; record_no = m.event.place.record_no; offset = None })) None) h
                  ∙ sym (ap (λ b. cond {A = Option Fault} b (Some (reported tested.role (moment (e ∷ past) k) r (length past + 1))) None) h)

  pub duty-gains : (tested : Tested) (e : Seen) (past : List Seen) (old : FaultMap) → binds rule tested ≡ true → Follows tested e past
      → Gains (λ k r. same_rule r rule && turns tested e past k r) tested (e ∷ past) (length past + 1) old (blamed rule (place_of (owed_on owes past)) (shown (talk past) e.note) e.place old)
  duty-gains tested e past old bound follows = record {
    each = λ k r.
        blamed-told rule (place_of (owed_on owes past)) (shown (talk past) e.note) e.place old k r
        ∙ ap (option_or (fault_at old k r)) (told-added tested e past k r bound follows);
  }

  pub duty-unbound : (tested : Tested) (e : Seen) (past : List Seen) (m : FaultMap) → binds rule tested ≡ false → Gains (λ k r. same_rule r rule && turns tested e past k r) tested (e ∷ past) (length past + 1) m m
  duty-unbound tested e past m off = gains_nothing (λ k r. same_rule r rule && turns tested e past k r) tested (e ∷ past) (length past + 1) m
      (λ k r. own-turns tested e past k r ∙ ap (λ b. same_rule r rule && (b && (shown (talk past) e.note && is_at k (owed_on owes past)))) off ∙ and_false (same_rule r rule))

  -- ---- how often it is put to the test

  pub trial-next : (old new : Trial) (tested : Tested) (e : Seen) (past : List Seen) (found : Bool) → owes (newest e past) ≡ found → binds rule tested ≡ true → Follows tested e past → IsTrial old tested rule owes past
      → CountsTrial old new (tried (talk past) e.note) found (is_open e.note) e.place.position → IsTrial new tested rule owes (e ∷ past)
  trial-next old new tested e past found met bound follows was more = record {
    same_places =
        let most = places-most tested past rule in
        let same = was.same_places in
        let here = follows.placed.0 in
        more.places (omega (arith, same, most, here))
        ∙ (λ i. cond (was.same_waits bound i && tried (talk past) e.note) 1 0 + was.same_places i)
        ∙ sym (places-shown tested rule e past (tried (talk past) e.note) (owed_on owes past) (latest-stands owes past) (λ k. duty.placed tested e past k bound));
    same_waits = λ is.
        more.waits
        ∙ (λ i. found || (was.same_waits bound i && (not (is_open e.note) && not (tried (talk past) e.note))))
        ∙ ap (λ b. b || (waits_for tested rule owes past && (not (is_open e.note) && not (tried (talk past) e.note)))) (sym met)
        ∙ sym (waits-next tested rule e past (tried (talk past) e.note) (owes (newest e past)) (is_open e.note) (owed_on owes past) (latest-stands owes past) (λ k. duty.placed tested e past k bound))
        ∙ sym (ap (waits_at_of) (latest-next owes e past));
  }
    where
      waits_at_of : Option Moment → Bool
      waits_at_of o = waits_at tested rule (e ∷ past) o

  pub trial-unbound : (t : Trial) (tested : Tested) (e : Seen) (past : List Seen) → binds rule tested ≡ false → IsTrial t tested rule owes past → IsTrial t tested rule owes (e ∷ past)
  trial-unbound t tested e past off was = record {
    same_places = was.same_places ∙ places-unbound tested past rule off ∙ sym (places-unbound tested (e ∷ past) rule off);
    same_waits = λ bound. absurd (cc);
  }

  pub trial-start : (tested : Tested) → IsTrial (record { places = 0; waits = false }) tested rule owes []
  trial-start tested = record { same_places = sym (places-start tested rule); same_waits = λ bound. refl }
