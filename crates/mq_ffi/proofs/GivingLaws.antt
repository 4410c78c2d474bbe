-- The fault that comes next, as it is looked for.
use Rattle.std.proofs.Common.{◌≡◌, ℕ, zero, suc, ◌+◌, ◌<◌, ◌≤◌, ◌==◌, nat_le, nat_lt, min, Bool, true, false, cond, ◌⊎◌, inl, inr, List, [], ◌∷◌, length, Option, Some, None, is_some, refl, sym, ap, subst, ◌∙◌, arith}
use Rattle.std.proofs.lemmas.Bool.{false≢true}
use Rattle.std.proofs.lemmas.Bool.Decides.{nat_tests}
use Rattle.std.specs.List.{filter}
use Rattle.std.specs.Option.{unwrap_or}
use Rattle.mq_rules.specs.declared.fault.Fault.{Fault}
use Rattle.mq_ffi.specs.declared.fault.FaultRow.{FaultRow}
use Rattle.mq_ffi.specs.declared.turn.Turn.{Turn}
use Rattle.mq_ffi.specs.Asking.{Found, IsRow, IsRowOf, nth}
use Rattle.mq_ffi.specs.Giving.{shown_by, IsMore, IsFirst, IsDone, AreNoMore, GivesMore, GivesFirst, Gives, sooner_after, earliest_after}

-- ---- what is answered

-- one more of those that the same event shows
pub gives_more : (turn : Turn) (faults : List Found) (next : FaultRow × Turn) → GivesMore turn faults (Some next) → Gives turn faults (Some next)
gives_more turn faults next (found, row, more) = (found, row, inl more)

-- or else the first of those that a later one shows
pub gives_first : (turn : Turn) (faults : List Found) (next : Option (FaultRow × Turn)) → IsDone turn faults → GivesFirst turn.event faults next → Gives turn faults next
gives_first turn faults None done none = (done, none)
gives_first turn faults (Some next) done (found, row, first) = (found, row, inr (done, first))

-- a row that was found is that of a fault
pub row_found : (o : Option Found) (row : FaultRow) → IsRowOf o (Some row) → (found : Found) × (o ≡ Some found) × IsRow row found
row_found None row is = absurd is
row_found (Some found) row is = (found, refl, is)

pub row_missing : (o : Option Found) → IsRowOf o None → o ≡ None
row_missing None is = refl
row_missing (Some found) is = absurd is

-- ---- those that an event shows

keeps : (event : ℕ) (x : Found) (xs : List Found) (n : ℕ) → length (shown_by event xs) ≤ n → length (shown_by event (x ∷ xs)) ≤ n + 1
keeps event x xs n few =
    elim (x.1.decided == event) as (λ b. length (cond b (x ∷ shown_by event xs) (shown_by event xs)) ≤ n + 1) [ true ↦ omega (arith, few) | false ↦ omega (arith, few) ]

-- an event shows no more faults than there are
shown_few : (event : ℕ) (xs : List Found) → length (shown_by event xs) ≤ length xs
shown_few event [] = omega arith
shown_few event (x ∷ xs) = let more = keeps event x xs (length xs) (shown_few event xs) in omega (arith, more)

beyond : (xs : List Found) (n : ℕ) → length xs ≤ n → nth xs n ≡ None
beyond [] n few = refl
beyond (x ∷ xs) zero few = absurd (omega (arith, few))
beyond (x ∷ xs) (suc n) few = beyond xs n (omega (arith, few))

pub done_beyond : (turn : Turn) (faults : List Found) → length faults ≤ turn.given → IsDone turn faults
done_beyond turn faults few = let fewer = shown_few turn.event faults in beyond (shown_by turn.event faults) turn.given (omega (arith, few, fewer))

-- a fault of another event isn't among them
pub shown-apart : (event : ℕ) (x : Found) (xs : List Found) → (x.1.decided == event) ≡ false → shown_by event (x ∷ xs) ≡ shown_by event xs
shown-apart event x xs apart = ap (λ b. cond b (x ∷ shown_by event xs) (shown_by event xs)) apart

-- one of this event is the first of them
pub shown-front : (event : ℕ) (x : Found) (xs : List Found) → (x.1.decided == event) ≡ true → shown_by event (x ∷ xs) ≡ x ∷ shown_by event xs
shown-front event x xs same = ap (λ b. cond b (x ∷ shown_by event xs) (shown_by event xs)) same

there : (event : ℕ) (x : Found) (xs : List Found) → is_some (nth (shown_by event xs) 0) ≡ true → is_some (nth (shown_by event (x ∷ xs)) 0) ≡ true
there event x xs is = elim (x.1.decided == event) as (λ b. is_some (nth (cond b (x ∷ shown_by event xs) (shown_by event xs)) 0) ≡ true) [ true ↦ refl | false ↦ is ]

here : (event : ℕ) (x : Found) (xs : List Found) → x.1.decided ≡ event → is_some (nth (shown_by event (x ∷ xs)) 0) ≡ true
here event x xs same = ap (λ xs. is_some (nth xs 0)) (shown-front event x xs (grind (arith, nat_tests)))

not_here : (event : ℕ) (x : Found) (xs : List Found) → ¬ (x.1.decided ≡ event) → shown_by event xs ≡ [] → shown_by event (x ∷ xs) ≡ []
not_here event x xs other none = shown-apart event x xs (grind (arith, nat_tests)) ∙ none

-- ---- the earliest event

passed : (after : ℕ) (earliest : Option ℕ) (event : ℕ) → nat_le event after ≡ true → sooner_after after earliest event ≡ earliest
passed after None event early = ap (λ b. cond b None (Some event)) early
passed after (Some other) event early = ap (λ b. cond b (Some other) (Some (min other event))) early

-- Of an earliest event so far, and of those that show these faults, this is the first one after another one.
pub record IsEarliest (after : ℕ) (earliest : Option ℕ) (xs : List Found) (event : ℕ) : Type 0 where
  pub later : ((other : ℕ) → earliest ≡ Some other → after < other) → after < event
  pub least : (other : ℕ) → earliest ≡ Some other → event ≤ other
  pub shows : (earliest ≡ Some event) ⊎ (is_some (nth (shown_by event xs) 0) ≡ true)
  pub between : (other : ℕ) → after < other → other < event → shown_by other xs ≡ []

the : (a b : ℕ) → Some a ≡ Some b → a ≡ b
the a b e = ap (λ (o : Option ℕ). unwrap_or o 0) e

some_none : (a : ℕ) → Some a ≡ None → ⊥
some_none a e = false≢true (sym (ap (is_some {T = ℕ}) e))

before : (after : ℕ) (earliest : Option ℕ) (x : Found) (xs : List Found) (event : ℕ) → nat_le x.1.decided after ≡ true → IsEarliest after earliest xs event → IsEarliest after earliest (x ∷ xs) event
before after earliest x xs event early rest = record {
  later = rest.later;
  least = rest.least;
  shows = elim rest.shows [ inl is ↦ inl is | inr is ↦ inr (there event x xs is) ];
  between = λ other l m. not_here other x xs (λ same. absurd (let no : nat_le x.1.decided after ≡ false = grind (arith, nat_tests) in false≢true (sym no ∙ early))) (rest.between other l m);
}

first_one : (after : ℕ) (x : Found) (xs : List Found) (event : ℕ) → nat_le x.1.decided after ≡ false → IsEarliest after (Some x.1.decided) xs event → IsEarliest after None (x ∷ xs) event
first_one after x xs event late rest =
    let lt : after < x.1.decided = grind (arith, nat_tests) in
    let le : event ≤ x.1.decided = rest.least x.1.decided refl in
    record {
      later = λ _. rest.later (λ other is. let e = the x.1.decided other is in omega (arith, e, lt));
      least = λ other is. absurd (some_none other (sym is));
      shows = inr (elim rest.shows [ inl is ↦ here event x xs (the x.1.decided event is) | inr is ↦ there event x xs is ]);
      between = λ other l m. not_here other x xs (λ same. absurd (omega (arith, same, m, le))) (rest.between other l m);
    }

of_two : (a b event : ℕ) → min a b ≡ event → (a ≡ event) ⊎ (b ≡ event)
of_two a b event is = go (nat_le a b) refl where
  go : (t : Bool) → nat_le a b ≡ t → (a ≡ event) ⊎ (b ≡ event)
  go true t = inl (let le : a ≤ b = grind (arith, nat_tests) in omega (arith, le, is))
  go false t = inr (let lt : b < a = grind (arith, nat_tests) in omega (arith, lt, is))

one_of_two : (after other : ℕ) (x : Found) (xs : List Found) (event : ℕ) → nat_le x.1.decided after ≡ false → IsEarliest after (Some (min other x.1.decided)) xs event → IsEarliest after (Some other) (x ∷ xs) event
one_of_two after other x xs event late rest =
    let lt : after < x.1.decided = grind (arith, nat_tests) in
    let le : event ≤ min other x.1.decided = rest.least (min other x.1.decided) refl in
    record {
      later = λ h. rest.later (λ m is. let e = the (min other x.1.decided) m is in let o = h other refl in omega (arith, e, o, lt));
      least = λ o is. let e = the other o is in omega (arith, e, le);
      shows = elim rest.shows [
        | inl is ↦ elim (of_two other x.1.decided event (the (min other x.1.decided) event is)) [ inl e ↦ inl (ap Some e) | inr e ↦ inr (here event x xs e) ]
        | inr is ↦ inr (there event x xs is)
      ];
      between = λ o l m. not_here o x xs (λ same. absurd (omega (arith, same, m, le))) (rest.between o l m);
    }

step : (after : ℕ) (earliest : Option ℕ) (x : Found) (xs : List Found) (event : ℕ) → IsEarliest after (sooner_after after earliest x.1.decided) xs event → IsEarliest after earliest (x ∷ xs) event
step after earliest x xs event rest = go (nat_le x.1.decided after) refl earliest rest where
  go : (b : Bool) → nat_le x.1.decided after ≡ b → (o : Option ℕ) → IsEarliest after (sooner_after after o x.1.decided) xs event → IsEarliest after o (x ∷ xs) event
  go true early o rest = before after o x xs event early (subst (λ (o : Option ℕ). IsEarliest after o xs event) (passed after o x.1.decided early) rest)
  go false late None rest =
      first_one after x xs event late (subst (λ (b : Bool). IsEarliest after (cond b None (Some x.1.decided)) xs event) late rest)
  go false late (Some other) rest =
      one_of_two after other x xs event late (subst (λ (b : Bool). IsEarliest after (cond b (Some other) (Some (min other x.1.decided))) xs event) late rest)

pub earliest : (after : ℕ) (first : Option ℕ) (xs : List Found) (event : ℕ) → earliest_after after first xs ≡ Some event → IsEarliest after first xs event
earliest after first [] event is = record {
  later = λ h. h event is;
  least = λ other same. let e = the event other (sym is ∙ same) in omega (arith, e);
  shows = inl is;
  between = λ other l m. refl;
}
earliest after first (x ∷ xs) event is = step after first x xs event (earliest after (sooner_after after first x.1.decided) xs event is)

pub none_after : (after : ℕ) (first : Option ℕ) (xs : List Found) → earliest_after after first xs ≡ None → (first ≡ None) × AreNoMore after xs
none_after after first [] is = (is, λ event l. refl)
none_after after first (x ∷ xs) is = go (nat_le x.1.decided after) refl first (none_after after (sooner_after after first x.1.decided) xs is) where
  go : (b : Bool) → nat_le x.1.decided after ≡ b → (o : Option ℕ) → (sooner_after after o x.1.decided ≡ None) × AreNoMore after xs → (o ≡ None) × AreNoMore after (x ∷ xs)
  go true early o rest = (
    sym (passed after o x.1.decided early) ∙ rest.0,
    λ event l. not_here event x xs (λ same. absurd (let no : nat_le x.1.decided after ≡ false = grind (arith, nat_tests) in false≢true (sym no ∙ early))) (rest.1 event l),
  )
  go false late None rest = absurd (some_none x.1.decided (sym (ap (λ b. cond b None (Some x.1.decided)) late) ∙ rest.0))
  go false late (Some other) rest = absurd (some_none (min other x.1.decided) (sym (ap (λ b. cond b (Some other) (Some (min other x.1.decided))) late) ∙ rest.0))

-- the first of those that the next event shows
pub first_shown : (after event : ℕ) (faults : List Found) (row : FaultRow) → earliest_after after None faults ≡ Some event → IsRowOf (nth (shown_by event faults) 0) (Some row)
    → GivesFirst after faults (Some (row, record { event = event; given = 1 }))
first_shown after event faults row is found =
    let it = row_found (nth (shown_by event faults) 0) row found in
    let e = earliest after None faults event is in (
      it.0,
      it.2,
      record { is = it.1; later = e.later (λ other same. absurd (some_none other (sym same))); between = e.between; one = refl },
    )

-- there is one
pub not_missing : (after event : ℕ) (faults : List Found) → earliest_after after None faults ≡ Some event → IsRowOf (nth (shown_by event faults) 0) None → ⊥
not_missing after event faults is missing =
    elim (earliest after None faults event is).shows [
      | inl same ↦ some_none event (sym same)
      | inr some ↦ false≢true (sym (ap (is_some {T = Found}) (row_missing (nth (shown_by event faults) 0) missing)) ∙ some)
    ]
