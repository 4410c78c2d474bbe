-- A queue of debts: its first debt that is still due is the earliest one.
use Rattle.std.proofs.Common.{◌≡◌, ℕ, ◌+◌, ◌<◌, ◌≤◌, ◌==◌, arith, Bool, true, false, cond, ◌&&◌, ◌⊎◌, inl, inr, not, List, [], ◌∷◌, ◌++◌, filter, Option, Some, None, refl, ap, sym, ◌∙◌, subst}
use Rattle.std.specs.Prelude.{is_some}
use Rattle.std.specs.Option.{option_or}
use Rattle.std.proofs.lemmas.Bool.{eq-eqb, eqb-true}
use Rattle.mq_log.specs.declared.place.Place3.{Place3}
use Rattle.mq_rules.specs.declared.note.Note.{Note}
use Rattle.mq_rules.specs.Words.{is_some_and, is_id}
use Rattle.mq_rules.specs.Notes.{is_open}
use Rattle.mq_rules.proofs.Exports.{and_false, both_true}
use Rattle.mq_exchanges.specs.declared.ordering.Debt.{Debt}
use Rattle.mq_exchanges.specs.Owings.{due_next}
use Rattle.mq_exchanges.specs.Orderings.{is_still_due, is_debt, from_due, from_settled, is_late, left_after, left_by, is_overtaken, is_overtaken_by, first_debt, looked_at, is_passed, passes_over, fallen, queued_by, queued_next, Queued, IsAscending, IsQueue, IsTidied}

-- ---- the queue from its first debt on that is still due

due-stays : (due : ℕ → Option Place3) (i : ℕ) (p : Place3) (q : List Debt) → due i ≡ Some p → Queued i p.position q → Queued i p.position (from_due due q)
due-stays due i p [] h a = a
due-stays due i p (d ∷ ds) h a = go (is_still_due due d) refl a (due-stays due i p ds h)
  where
    go : (b : Bool) → is_still_due due d ≡ b → ((d.identifier ≡ i) × (d.position ≡ p.position)) ⊎ Queued i p.position ds → (Queued i p.position ds → Queued i p.position (from_due due ds)) → Queued i p.position (cond b (d ∷ ds) (from_due due ds))
    go true n a rest = a
    go false n (inr a) rest = rest a
    go false n (inl a) rest =
        let is : is_still_due due d ≡ true = ap (is_some_and (λ (p : Place3). p.position == d.position)) (ap due a.0 ∙ h) ∙ eq-eqb p.position d.position (sym a.1) in
        absurd (cc)

dropped-within : (due : ℕ → Option Place3) (i at : ℕ) (q : List Debt) → Queued i at (from_due due q) → Queued i at q
dropped-within due i at [] a = a
dropped-within due i at (d ∷ ds) a = go (is_still_due due d) a (dropped-within due i at ds)
  where
    go : (b : Bool) → Queued i at (cond b (d ∷ ds) (from_due due ds)) → (Queued i at (from_due due ds) → Queued i at ds) → ((d.identifier ≡ i) × (d.position ≡ at)) ⊎ Queued i at ds
    go true a rest = a
    go false a rest = inr (rest a)

dropped-ascending : (due : ℕ → Option Place3) (q : List Debt) → IsAscending q → IsAscending (from_due due q)
dropped-ascending due [] h = h
dropped-ascending due (d ∷ ds) h = go (is_still_due due d) (dropped-ascending due ds h.1)
  where
    go : (b : Bool) → IsAscending (from_due due ds) → IsAscending (cond b (d ∷ ds) (from_due due ds))
    go true rest = h
    go false rest = rest

dropped-first : (due : ℕ → Option Place3) (q : List Debt) (d : Debt) → first_debt (from_due due q) ≡ Some d → is_still_due due d ≡ true
dropped-first due [] d h = absurd (cc)
dropped-first due (f ∷ ds) d h = go (is_still_due due f) refl h (dropped-first due ds d)
  where
    go : (b : Bool) → is_still_due due f ≡ b → first_debt (cond b (f ∷ ds) (from_due due ds)) ≡ Some d → (first_debt (from_due due ds) ≡ Some d → is_still_due due d ≡ true) → is_still_due due d ≡ true
    go true n h rest = let same : f ≡ d = cc in subst (λ (x : Debt). is_still_due due x ≡ true) same n
    go false n h rest = rest h

pub dropped-queue : (due : ℕ → Option Place3) (q : List Debt) (n : ℕ) → IsQueue due q n → IsQueue due (from_due due q) n
dropped-queue due q n h = record {
  ascending = dropped-ascending due q h.ascending;
  within = λ i at a. h.within i at (dropped-within due i at q a);
  each = λ i p is. due-stays due i p q is (h.each i p is);
}

-- ---- the first debt that is still due

-- what is due, and where
pub still-due : (due : ℕ → Option Place3) (d : Debt) → is_still_due due d ≡ true → (p : Place3) × (due d.identifier ≡ Some p) × (p.position ≡ d.position)
still-due due d h = go (due d.identifier) refl h
  where
    go : (o : Option Place3) → due d.identifier ≡ o → is_some_and (λ (p : Place3). p.position == d.position) o ≡ true → (p : Place3) × (due d.identifier ≡ Some p) × (p.position ≡ d.position)
    go None n h = absurd (cc)
    go (Some p) n h = (p, n, eqb-true p.position d.position h)

-- an identifier is passed over: something is due before it under another one
pub passed-earlier : (due : ℕ → Option Place3) (q : List Debt) (n i : ℕ) (p : Place3) → IsQueue due q n → due i ≡ Some p → is_passed i (from_due due q) ≡ true
    → (other : ℕ) × (o : Place3) × (due other ≡ Some o) × (not (other == i) ≡ true) × (o.position < p.position)
passed-earlier due q n i p h is passed = go (from_due due q) refl (dropped-queue due q n h) (dropped-first due q) passed
  where
    go : (ds : List Debt) → from_due due q ≡ ds → IsQueue due (from_due due q) n → ((d : Debt) → first_debt (from_due due q) ≡ Some d → is_still_due due d ≡ true) → is_passed i ds ≡ true
        → (other : ℕ) × (o : Place3) × (due other ≡ Some o) × (not (other == i) ≡ true) × (o.position < p.position)
    go [] e k first passed = absurd (cc)
    go (d ∷ ds) e k first passed =
        let s = still-due due d (first d (ap first_debt e)) in
        (d.identifier, s.0, s.1, passed, before s.0 s.2 (subst (λ (x : List Debt). Queued i p.position x) e (k.each i p is)) (subst (λ (x : List Debt). IsAscending x) e k.ascending))
      where
        before : (o : Place3) → o.position ≡ d.position → ((d.identifier ≡ i) × (d.position ≡ p.position)) ⊎ Queued i p.position ds → IsAscending (d ∷ ds) → o.position < p.position
        before o at (inl a) up = absurd (let t : (d.identifier == i) ≡ true = eq-eqb d.identifier i a.0 in cc)
        before o at (inr a) up = let lt : d.position < p.position = up.0 i p.position a in omega arith

-- something is due before it under another identifier: it is passed over
pub earlier-passed : (due : ℕ → Option Place3) (q : List Debt) (n i : ℕ) (p : Place3) → IsQueue due q n → due i ≡ Some p → (other : ℕ) (o : Place3) → due other ≡ Some o → not (other == i) ≡ true → o.position < p.position → is_passed i (from_due due q) ≡ true
earlier-passed due q n i p h is other o due_other differs lt = go (from_due due q) refl (dropped-queue due q n h) (dropped-first due q)
  where
    go : (ds : List Debt) → from_due due q ≡ ds → IsQueue due (from_due due q) n → ((d : Debt) → first_debt (from_due due q) ≡ Some d → is_still_due due d ≡ true) → is_passed i ds ≡ true
    go [] e k first = absurd (subst (λ (x : List Debt). Queued i p.position x) e (k.each i p is))
    go (d ∷ ds) e k first = by (d.identifier == i) refl
      where
        later : (d.identifier == i) ≡ true → ((d.identifier ≡ other) × (d.position ≡ o.position)) ⊎ Queued other o.position ds → IsAscending (d ∷ ds) → ⊥
        later same (inl a) up =
            let t : (other == i) ≡ true = ap (λ x. x == i) (sym a.0) ∙ same in
            cc
        later same (inr a) up =
            let below : d.position < o.position = up.0 other o.position a in
            let s = still-due due d (first d (ap first_debt e)) in
            let at : d.identifier ≡ i = eqb-true d.identifier i same in
            let one : Some s.0 ≡ Some p = sym s.1 ∙ ap due at ∙ is in
            let place : s.0 ≡ p = cc in
            let spot : p.position ≡ d.position = ap (λ (x : Place3). x.position) (sym place) ∙ s.2 in
            omega arith

        by : (b : Bool) → (d.identifier == i) ≡ b → not (d.identifier == i) ≡ true
        by false n = ap not n
        by true n = absurd (later n (subst (λ (x : List Debt). Queued other o.position x) e (k.each other o due_other)) (subst (λ (x : List Debt). IsAscending x) e k.ascending))

-- ---- the queue after an answer

-- what isn't due is found under no identifier
left-stays : (due : ℕ → Option Place3) (i at j : ℕ) (p : Place3) (q : List Debt) → due i ≡ None → due j ≡ Some p → Queued j p.position q → Queued j p.position (from_settled due i at q)
left-stays due i at j p [] none h a = a
left-stays due i at j p (d ∷ ds) none h a = go (is_debt i at d) (is_still_due due d) refl refl a (left-stays due i at j p ds none h)
  where
    go : (own b : Bool) → is_debt i at d ≡ own → is_still_due due d ≡ b → ((d.identifier ≡ j) × (d.position ≡ p.position)) ⊎ Queued j p.position ds → (Queued j p.position ds → Queued j p.position (from_settled due i at ds))
        → Queued j p.position (cond own ds (cond b (d ∷ ds) (from_settled due i at ds)))
    go true b o n (inr a) rest = a
    go true b o n (inl a) rest =
        let same : d.identifier ≡ i = eqb-true d.identifier i (both_true (d.identifier == i) (at == d.position) o).0 in
        absurd (let bad : None ≡ Some p = sym none ∙ ap due (sym same ∙ a.0) ∙ h in cc)
    go false true o n a rest = a
    go false false o n (inr a) rest = rest a
    go false false o n (inl a) rest =
        let is : is_still_due due d ≡ true = ap (is_some_and (λ (p : Place3). p.position == d.position)) (ap due a.0 ∙ h) ∙ eq-eqb p.position d.position (sym a.1) in
        absurd (cc)

left-within : (due : ℕ → Option Place3) (i at j spot : ℕ) (q : List Debt) → Queued j spot (from_settled due i at q) → Queued j spot q
left-within due i at j spot [] a = a
left-within due i at j spot (d ∷ ds) a = go (is_debt i at d) (is_still_due due d) a (left-within due i at j spot ds)
  where
    go : (own b : Bool) → Queued j spot (cond own ds (cond b (d ∷ ds) (from_settled due i at ds))) → (Queued j spot (from_settled due i at ds) → Queued j spot ds) → ((d.identifier ≡ j) × (d.position ≡ spot)) ⊎ Queued j spot ds
    go true b a rest = inr a
    go false true a rest = a
    go false false a rest = inr (rest a)

left-ascending : (due : ℕ → Option Place3) (i at : ℕ) (q : List Debt) → IsAscending q → IsAscending (from_settled due i at q)
left-ascending due i at [] h = h
left-ascending due i at (d ∷ ds) h = go (is_debt i at d) (is_still_due due d) (left-ascending due i at ds h.1)
  where
    go : (own b : Bool) → IsAscending (from_settled due i at ds) → IsAscending (cond own ds (cond b (d ∷ ds) (from_settled due i at ds)))
    go true b rest = h.1
    go false true rest = h
    go false false rest = rest

left-queue : (due : ℕ → Option Place3) (i at : ℕ) (q : List Debt) (n : ℕ) → due i ≡ None → IsQueue due q n → IsQueue due (from_settled due i at q) n
left-queue due i at q n none h = record {
  ascending = left-ascending due i at q h.ascending;
  within = λ j spot a. h.within j spot (left-within due i at j spot q a);
  each = λ j p is. left-stays due i at j p q none is (h.each j p is);
}

-- less is due
pub still-queue : (due next : ℕ → Option Place3) (answer : Option ℕ) (q : List Debt) (n : ℕ) → ((i : ℕ) → next i ≡ cond (is_id i answer) None (due i)) → IsQueue due q n → IsQueue next q n
still-queue due next answer q n are h = record { ascending = h.ascending; within = h.within; each = λ i p is. h.each i p (less i p is (is_id i answer) refl) }
  where
    less : (i : ℕ) (p : Place3) → next i ≡ Some p → (b : Bool) → is_id i answer ≡ b → due i ≡ Some p
    less i p is true t = absurd (let bad : None ≡ Some p = sym (are i ∙ ap (λ b. cond b None (due i)) t) ∙ is in cc)
    less i p is false t = sym (are i ∙ ap (λ b. cond b None (due i)) t) ∙ is

pub answered-queue : (due next : ℕ → Option Place3) (answer : Option ℕ) (q : List Debt) (n : ℕ) → ((i : ℕ) → next i ≡ cond (is_id i answer) None (due i)) → IsQueue due q n → IsQueue next (left_by due next answer q) n
answered-queue due next answer q n are h = go answer refl
  where
    go : (o : Option ℕ) → answer ≡ o → IsQueue next (left_by due next o q) n
    go None e = still-queue due next answer q n are h
    go (Some i) e = by (due i)
      where
        none : next i ≡ None
        none = are i ∙ ap (λ o. cond (is_id i o) None (due i)) e ∙ ap (λ b. cond b None (due i)) (eq-eqb i i refl)

        by : (o : Option Place3) → IsQueue next (left_after next i o q) n
        by None = still-queue due next answer q n are h
        by (Some p) = left-queue next i p.position q n none (still-queue due next answer q n are h)

-- a debt before it is still due: the first one that was due before is another one
late-passed : (due next : ℕ → Option Place3) (i : ℕ) (p : Place3) (q : List Debt) → due i ≡ Some p → ((j : ℕ) → next j ≡ cond (j == i) None (due j)) → is_late next i p.position q ≡ is_passed i (from_due due q)
late-passed due next i p [] h are = refl
late-passed due next i p (d ∷ ds) h are = go (d.identifier == i) refl (late-passed due next i p ds h are)
  where
    go : (b : Bool) → (d.identifier == i) ≡ b → is_late next i p.position ds ≡ is_passed i (from_due due ds)
        → cond (b && (p.position == d.position)) false (cond (is_still_due next d) true (is_late next i p.position ds)) ≡ is_passed i (cond (is_still_due due d) (d ∷ ds) (from_due due ds))
    go true e rest = own (p.position == d.position) refl
      where
        same : is_still_due due d ≡ (p.position == d.position)
        same = ap (is_some_and (λ (o : Place3). o.position == d.position)) (ap due (eqb-true d.identifier i e) ∙ h)

        gone : is_still_due next d ≡ false
        gone = ap (is_some_and (λ (o : Place3). o.position == d.position)) (are d.identifier ∙ ap (λ b. cond b None (due d.identifier)) e)

        own : (b : Bool) → (p.position == d.position) ≡ b → cond b false (cond (is_still_due next d) true (is_late next i p.position ds)) ≡ is_passed i (cond (is_still_due due d) (d ∷ ds) (from_due due ds))
        own true s = sym (ap (λ b. is_passed i (cond b (d ∷ ds) (from_due due ds))) (same ∙ s) ∙ ap not e)
        own false s = ap (λ b. cond b true (is_late next i p.position ds)) gone ∙ rest ∙ sym (ap (λ b. is_passed i (cond b (d ∷ ds) (from_due due ds))) (same ∙ s))
    go false e rest = by (is_still_due due d) refl
      where
        same : is_still_due next d ≡ is_still_due due d
        same = ap (is_some_and (λ (o : Place3). o.position == d.position)) (are d.identifier ∙ ap (λ b. cond b None (due d.identifier)) e)

        by : (b : Bool) → is_still_due due d ≡ b → cond (is_still_due next d) true (is_late next i p.position ds) ≡ is_passed i (cond (is_still_due due d) (d ∷ ds) (from_due due ds))
        by true s = ap (λ b. cond b true (is_late next i p.position ds)) (same ∙ s) ∙ sym (ap (λ b. is_passed i (cond b (d ∷ ds) (from_due due ds))) s ∙ ap not e)
        by false s = ap (λ b. cond b true (is_late next i p.position ds)) (same ∙ s) ∙ rest ∙ sym (ap (λ b. is_passed i (cond b (d ∷ ds) (from_due due ds))) s)

pub overtaken-passes : (due next : ℕ → Option Place3) (binds accepting : Bool) (answer : Option ℕ) (q : List Debt) → ((i : ℕ) → next i ≡ cond (accepting && is_id i answer) None (due i))
    → (accepting && (binds && is_overtaken_by due next answer q)) ≡ (binds && (accepting && passes_over due answer (looked_at due answer q)))
overtaken-passes due next binds false answer q are = sym (and_false binds)
overtaken-passes due next binds true answer q are = ap (λ b. binds && b) (go answer refl)
  where
    go : (o : Option ℕ) → answer ≡ o → is_overtaken_by due next o q ≡ passes_over due o (looked_at due o q)
    go None e = refl
    go (Some i) e = by (due i) refl
      where
        by : (o : Option Place3) → due i ≡ o → is_overtaken next i o q ≡ (is_some o && is_passed i (from_due due q))
        by None h = refl
        by (Some p) h = late-passed due next i p q h (λ j. are j ∙ ap (λ o. cond (is_id j o) None (due j)) e)

-- ---- the queue, with one event more

-- a debt under no identifier, or a new one
joined-within : (i at : ℕ) (q r : List Debt) → Queued i at (q ++ r) → Queued i at q ⊎ Queued i at r
joined-within i at [] r a = inr a
joined-within i at (d ∷ ds) r (inl a) = inl (inl a)
joined-within i at (d ∷ ds) r (inr a) = go (joined-within i at ds r a)
  where
    go : Queued i at ds ⊎ Queued i at r → Queued i at (d ∷ ds) ⊎ Queued i at r
    go (inl a) = inl (inr a)
    go (inr a) = inr a

within-joined : (i at : ℕ) (q r : List Debt) → Queued i at q ⊎ Queued i at r → Queued i at (q ++ r)
within-joined i at [] r (inl a) = absurd a
within-joined i at [] r (inr a) = a
within-joined i at (d ∷ ds) r (inl (inl a)) = inl a
within-joined i at (d ∷ ds) r (inl (inr a)) = inr (within-joined i at ds r (inl a))
within-joined i at (d ∷ ds) r (inr a) = inr (within-joined i at ds r (inr a))

joined-ascending : (q r : List Debt) (n : ℕ) → IsAscending q → IsAscending r → ((i at : ℕ) → Queued i at q → at ≤ n) → ((i at : ℕ) → Queued i at r → n < at) → IsAscending (q ++ r)
joined-ascending [] r n a b low high = b
joined-ascending (d ∷ ds) r n a b low high = (λ i at h. go i at (joined-within i at ds r h), joined-ascending ds r n a.1 b (λ i at h. low i at (inr h)) high)
  where
    go : (i at : ℕ) → Queued i at ds ⊎ Queued i at r → d.position < at
    go i at (inl h) = a.0 i at h
    go i at (inr h) =
        let below : d.position ≤ n = low d.identifier d.position (inl (refl, refl)) in
        let above : n < at = high i at h in
        omega arith

fallen-at : (due : ℕ → Option Place3) (spot : ℕ) (cause : Option ℕ) (i at : ℕ) → Queued i at (fallen due spot cause) → at ≡ spot
fallen-at due spot None i at h = absurd h
fallen-at due spot (Some c) i at h = go (is_some (due c)) h
  where
    go : (b : Bool) → Queued i at (cond b [] (record { identifier = c; position = spot } ∷ [])) → at ≡ spot
    go true h = absurd h
    go false (inl h) = sym h.1
    go false (inr h) = absurd h

fallen-ascending : (due : ℕ → Option Place3) (spot : ℕ) (cause : Option ℕ) → IsAscending (fallen due spot cause)
fallen-ascending due spot None = tt
fallen-ascending due spot (Some c) = go (is_some (due c))
  where
    go : (b : Bool) → IsAscending (cond b [] (record { identifier = c; position = spot } ∷ []))
    go true = tt
    go false = (λ i at h. absurd h, tt)

pub queue-next : (due next : ℕ → Option Place3) (q : List Debt) (n : ℕ) (note : Note) (cause answer : Option ℕ) (at : Place3) → at.position ≡ n + 1 → (is_open note ≡ true → cause ≡ None) → ((i : ℕ) → is_id i cause ≡ true → is_id i answer ≡ false)
    → ((i : ℕ) → next i ≡ due_next note cause answer at i (due i)) → (is_open note ≡ false → IsQueue due q n) → IsQueue next (queued_next note cause at.position due q) (n + 1)
queue-next due next q n note cause answer at placed opens apart grown old = by (is_open note) refl
  where
    none : is_open note ≡ true → (i : ℕ) (t : Bool) → option_or (cond t None (cond (is_open note) None (due i))) (cond (is_id i cause) (Some at) None) ≡ None
    none h i true = ap (λ o. cond (is_id i o) (Some at) None) (opens h)
    none h i false = ap (λ b. option_or (cond b None (due i)) (cond (is_id i cause) (Some at) None)) h ∙ ap (λ o. cond (is_id i o) (Some at) None) (opens h)

    named : (i : ℕ) (p : Place3) (c : Option ℕ) → cause ≡ c → due i ≡ None → cond (is_id i c) (Some at) None ≡ Some p → Queued i p.position (fallen due at.position c)
    named i p None e d h = absurd (cc)
    named i p (Some c) e d h = pick (i == c) refl h
      where
        pick : (b : Bool) → (i == c) ≡ b → cond b (Some at) None ≡ Some p → Queued i p.position (cond (is_some (due c)) [] (record { identifier = c; position = at.position } ∷ []))
        pick false n h = absurd (cc)
        pick true n h =
            let same : i ≡ c = eqb-true i c n in
            let place : at ≡ p = cc in
            let free : is_some (due c) ≡ false = ap (λ x. is_some (due x)) (sym same) ∙ ap is_some d in
            subst (λ b. Queued i p.position (cond b [] (record { identifier = c; position = at.position } ∷ []))) (sym free) (inl (sym same, ap (λ (x : Place3). x.position) place))

    by : (b : Bool) → is_open note ≡ b → IsQueue next (cond b [] (q ++ fallen due at.position cause)) (n + 1)
    by true h = record {
      ascending = tt;
      within = λ i at a. absurd a;
      each = λ i p is. absurd (let bad : None ≡ Some p = sym (none h i (is_id i answer)) ∙ sym (grown i) ∙ is in cc);
    }
    by false h = record {
      ascending = joined-ascending q (fallen due at.position cause) n (old h).ascending (fallen-ascending due at.position cause) (old h).within (λ i spot a. let is : spot ≡ at.position = fallen-at due at.position cause i spot a in omega arith);
      within = λ i spot a. low i spot (joined-within i spot q (fallen due at.position cause) a);
      each = λ i p is. within-joined i p.position q (fallen due at.position cause) (there i p (is_id i answer) (due i) refl refl (sym (ap (λ b. option_or (cond (is_id i answer) None (cond b None (due i))) (cond (is_id i cause) (Some at) None)) h) ∙ sym (grown i) ∙ is));
    }
      where
        low : (i spot : ℕ) → Queued i spot q ⊎ Queued i spot (fallen due at.position cause) → spot ≤ n + 1
        low i spot (inl a) = let le : spot ≤ n = (old h).within i spot a in omega arith
        low i spot (inr a) = let is : spot ≡ at.position = fallen-at due at.position cause i spot a in omega arith

        there : (i : ℕ) (p : Place3) (t : Bool) (o : Option Place3) → is_id i answer ≡ t → due i ≡ o → option_or (cond t None o) (cond (is_id i cause) (Some at) None) ≡ Some p → Queued i p.position q ⊎ Queued i p.position (fallen due at.position cause)
        there i p false (Some d) u e is = let same : d ≡ p = cc in inl ((old h).each i p (e ∙ ap Some same))
        there i p false None u e is = inr (named i p cause refl e is)
        there i p true None u e is = inr (named i p cause refl e is)
        there i p true (Some d) u e is = pick (is_id i cause) refl is
          where
            pick : (b : Bool) → is_id i cause ≡ b → cond b (Some at) None ≡ Some p → Queued i p.position q ⊎ Queued i p.position (fallen due at.position cause)
            pick false n is = absurd (cc)
            pick true n is = absurd (let bad : is_id i answer ≡ false = apart i n in cc)

-- ---- the queue without what is no longer due

kept-within : (test : Debt → Bool) (i at : ℕ) (q : List Debt) → Queued i at (filter test q) → Queued i at q
kept-within test i at [] a = a
kept-within test i at (d ∷ ds) a = go (test d) a (kept-within test i at ds)
  where
    go : (b : Bool) → Queued i at (cond b (d ∷ filter test ds) (filter test ds)) → (Queued i at (filter test ds) → Queued i at ds) → ((d.identifier ≡ i) × (d.position ≡ at)) ⊎ Queued i at ds
    go true (inl a) rest = inl a
    go true (inr a) rest = inr (rest a)
    go false a rest = inr (rest a)

kept-ascending : (test : Debt → Bool) (q : List Debt) → IsAscending q → IsAscending (filter test q)
kept-ascending test [] h = h
kept-ascending test (d ∷ ds) h = go (test d) (kept-ascending test ds h.1)
  where
    go : (b : Bool) → IsAscending (filter test ds) → IsAscending (cond b (d ∷ filter test ds) (filter test ds))
    go true rest = (λ i at a. h.0 i at (kept-within test i at ds a), rest)
    go false rest = rest

due-kept : (due : ℕ → Option Place3) (i : ℕ) (p : Place3) (q : List Debt) → due i ≡ Some p → Queued i p.position q → Queued i p.position (filter (is_still_due due) q)
due-kept due i p [] h a = a
due-kept due i p (d ∷ ds) h a = go (is_still_due due d) refl a (due-kept due i p ds h)
  where
    go : (b : Bool) → is_still_due due d ≡ b → ((d.identifier ≡ i) × (d.position ≡ p.position)) ⊎ Queued i p.position ds → (Queued i p.position ds → Queued i p.position (filter (is_still_due due) ds)) → Queued i p.position (cond b (d ∷ filter (is_still_due due) ds) (filter (is_still_due due) ds))
    go true n (inl a) rest = inl a
    go true n (inr a) rest = inr (rest a)
    go false n (inr a) rest = rest a
    go false n (inl a) rest =
        let is : is_still_due due d ≡ true = ap (is_some_and (λ (p : Place3). p.position == d.position)) (ap due a.0 ∙ h) ∙ eq-eqb p.position d.position (sym a.1) in
        absurd (cc)

pub tidied-queue : (due : ℕ → Option Place3) (old new : List Debt) (n : ℕ) → IsTidied due old new → IsQueue due old n → IsQueue due new n
tidied-queue due old new n (inl same) h = subst (λ (q : List Debt). IsQueue due q n) (sym same) h
tidied-queue due old new n (inr less) h = subst (λ (q : List Debt). IsQueue due q n) (sym less) (record {
  ascending = kept-ascending (is_still_due due) old h.ascending;
  within = λ i at a. h.within i at (kept-within (is_still_due due) i at old a);
  each = λ i p is. due-kept due i p old is (h.each i p is);
})
