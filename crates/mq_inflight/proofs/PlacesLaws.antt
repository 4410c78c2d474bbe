-- The places of what is due, among what is kept of identifiers.
use Rattle.std.proofs.Common.{◌≡◌, ℕ, zero, suc, ◌+◌, ◌<◌, ◌≤◌, ◌==◌, nat_eq, arith, Bool, true, false, cond, ◌||◌, List, [], ◌∷◌, ◌++◌, Option, Some, None, refl, ap, sym, ◌∙◌, subst}
use Rattle.std.specs.Prelude.{is_some}
use Rattle.std.specs.List.{list_any}
use Rattle.std.specs.Option.{option_to_list}
use Rattle.std.proofs.lemmas.Bool.{eqb-true, eq-eqb}
use Rattle.std.proofs.lemmas.Bool.Decides.{nat_tests}
use Rattle.mq_log.specs.declared.place.Place3.{Place3}
use Rattle.mq_rules.specs.declared.rule.Rule.TheVariants.{S06}
use Rattle.mq_rules.specs.FaultKeys.{FaultMap, with_fault}
use Rattle.mq_rules.specs.KeptOrder.{found_from, values_of}
use Rattle.mq_inflight.specs.declared.inflight.entry.Entry.{Entry}
use Rattle.mq_inflight.specs.declared.inflight.resends.Excused.{Excused}
use Rattle.mq_fates.specs.Judgements.{blamed, Keeps}
use Rattle.mq_inflight.specs.Resending.{is_due, due_places, due_next, blamed_due}
use Rattle.mq_fates.proofs.Exports.{place_at, keeps_with_fault, keeps_blamed}

-- ---- faults that are added stay

pub keeps_next : (old mid : FaultMap) (opened : ℕ) (excused : Excused) (at : ℕ) (o : Entry) → Keeps old mid → Keeps old (due_next opened excused at o mid)
keeps_next old mid opened excused at o h = go (is_due opened excused o)
  where
    go : (b : Bool) → Keeps old (cond b (with_fault (record { position = o.place.position; rule = S06 }) (record { decided = at; record_no = o.place.record_no; offset = None }) mid) mid)
    go true = keeps_with_fault old mid (record { position = o.place.position; rule = S06 }) (record { decided = at; record_no = o.place.record_no; offset = None }) h
    go false = h

pub blamed_due-is : (opened : ℕ) (excused : Excused) (at : ℕ) (os : List Entry) (m : FaultMap) → blamed_due opened excused at os m ≡ blamed S06 at (due_places opened excused os) m
blamed_due-is opened excused at [] m = refl
blamed_due-is opened excused at (o ∷ os) m = go (is_due opened excused o) (λ n. blamed_due-is opened excused at os n)
  where
    with_o : FaultMap
    with_o = with_fault (record { position = o.place.position; rule = S06 }) (record { decided = at; record_no = o.place.record_no; offset = None }) m

    go : (b : Bool) → ((n : FaultMap) → blamed_due opened excused at os n ≡ blamed S06 at (due_places opened excused os) n)
        → blamed_due opened excused at os (cond b with_o m) ≡ blamed S06 at (cond b (o.place ∷ due_places opened excused os) (due_places opened excused os)) m
    go true rest = rest with_o
    go false rest = rest m

pub keeps_due : (opened : ℕ) (excused : Excused) (at : ℕ) (os : List Entry) (m : FaultMap) → Keeps m (blamed_due opened excused at os m)
keeps_due opened excused at os m = subst (λ (n : FaultMap). Keeps m n) (sym (blamed_due-is opened excused at os m)) (keeps_blamed S06 at (due_places opened excused os) m)

-- ---- the values of a table

-- a place that is due is that of what is kept of an identifier
pub record IsDueAt (k opened : ℕ) (excused : Excused) (entry : ℕ → Option Entry) (p : Place3) : Type 0 where
  pub identifier : ℕ
  pub kept : Entry
  pub is_kept : entry identifier ≡ Some kept
  pub due : is_due opened excused kept ≡ true
  pub same_place : p ≡ kept.place
  pub here : k ≡ p.position

found-due : (k opened : ℕ) (excused : Excused) (entry : ℕ → Option Entry) (start n : ℕ) (p : Place3) → place_at k (due_places opened excused (found_from entry start n)) ≡ Some p → IsDueAt k opened excused entry p
unfolding found_from
found-due k opened excused entry start zero p h = absurd (cc)
found-due k opened excused entry start (suc n) p h = go (entry start) refl h (found-due k opened excused entry (start + 1) n p)
  where
    rest_of : List Place3
    rest_of = due_places opened excused (found_from entry (start + 1) n)

    here : (o : Entry) → entry start ≡ Some o → is_due opened excused o ≡ true → (b : Bool) → (k == o.place.position) ≡ b → cond b (Some o.place) (place_at k rest_of) ≡ Some p → (place_at k rest_of ≡ Some p → IsDueAt k opened excused entry p)
        → IsDueAt k opened excused entry p
    here o is due true t q rest =
        let same : p ≡ o.place = cc in
        record {
          identifier = start;
          kept = o;
          is_kept = is;
          due = due;
          same_place = same;
          here = eqb-true k o.place.position t ∙ ap (λ (x : Place3). x.position) (sym same);
        }
    here o is due false t q rest = rest q

    by : (o : Entry) → entry start ≡ Some o → (b : Bool) → is_due opened excused o ≡ b → place_at k (cond b (o.place ∷ rest_of) rest_of) ≡ Some p → (place_at k rest_of ≡ Some p → IsDueAt k opened excused entry p) → IsDueAt k opened excused entry p
    by o is true due q rest = here o is due (k == o.place.position) refl q rest
    by o is false due q rest = rest q

    go : (q : Option Entry) → entry start ≡ q → place_at k (due_places opened excused (option_to_list q ++ found_from entry (start + 1) n)) ≡ Some p → (place_at k rest_of ≡ Some p → IsDueAt k opened excused entry p) → IsDueAt k opened excused entry p
    go None is h rest = rest h
    go (Some o) is h rest = by o is (is_due opened excused o) refl h rest

pub value-due : (k opened : ℕ) (excused : Excused) (entry : ℕ → Option Entry) (p : Place3) → place_at k (due_places opened excused (values_of entry)) ≡ Some p → IsDueAt k opened excused entry p
unfolding values_of
value-due k opened excused entry p h = found-due k opened excused entry 0 65536 p h

due-found : (k i opened : ℕ) (excused : Excused) (entry : ℕ → Option Entry) (start n : ℕ) (o : Entry) → entry i ≡ Some o → is_due opened excused o ≡ true → k ≡ o.place.position → start ≤ i → i < start + n
    → is_some (place_at k (due_places opened excused (found_from entry start n))) ≡ true
unfolding found_from
due-found k i opened excused entry start zero o h due at low high = absurd (omega (arith, low, high))
due-found k i opened excused entry start (suc n) o h due at low high = go (nat_eq start i) refl (λ more. due-found k i opened excused entry (start + 1) n o h due at more (omega (arith, high)))
  where
    rest_of : List Place3
    rest_of = due_places opened excused (found_from entry (start + 1) n)

    over : (q : Option Entry) → is_some (place_at k rest_of) ≡ true → is_some (place_at k (due_places opened excused (option_to_list q ++ found_from entry (start + 1) n))) ≡ true
    over None there = there
    over (Some x) there = pick (is_due opened excused x)
      where
        one : (b : Bool) → is_some (cond b (Some x.place) (place_at k rest_of)) ≡ true
        one true = refl
        one false = there

        pick : (b : Bool) → is_some (place_at k (cond b (x.place ∷ rest_of) rest_of)) ≡ true
        pick true = one (k == x.place.position)
        pick false = there

    go : (b : Bool) → nat_eq start i ≡ b → (start + 1 ≤ i → is_some (place_at k rest_of) ≡ true) → is_some (place_at k (due_places opened excused (option_to_list (entry start) ++ found_from entry (start + 1) n))) ≡ true
    go true same rest =
        ap (λ q. is_some (place_at k (due_places opened excused (option_to_list q ++ found_from entry (start + 1) n)))) (ap entry (eqb-true start i same) ∙ h)
        ∙ ap (λ b. is_some (place_at k (cond b (o.place ∷ rest_of) rest_of))) due
        ∙ ap (λ b. is_some (cond b (Some o.place) (place_at k rest_of))) (eq-eqb k o.place.position at)
    go false other rest = over (entry start) (rest (grind (arith, nat_tests)))

pub key-due : (k i opened : ℕ) (excused : Excused) (entry : ℕ → Option Entry) (o : Entry) → entry i ≡ Some o → i < 65536 → is_due opened excused o ≡ true → k ≡ o.place.position → is_some (place_at k (due_places opened excused (values_of entry))) ≡ true
unfolding values_of
key-due k i opened excused entry o h small due at = due-found k i opened excused entry 0 65536 o h due at (omega arith) (omega (arith, small))
