-- The first cause of each identifier that waits for its answer, with one moment more.
use Rattle.std.proofs.Common.{◌≡◌, ℕ, ◌<◌, ◌==◌, Bool, true, false, cond, ◌&&◌, ◌||◌, not, List, [], ◌∷◌, Option, Some, None, refl, ap, sym, ◌∙◌, subst, arith, ◌⊎◌, inl, inr, nat_eq}
use Rattle.std.specs.Prelude.{is_some, option_map}
use Rattle.std.specs.Option.{option_or, option_and_then}
use Rattle.std.specs.Ordering.{nat_cmp, is_eq, match_ordering}
use Rattle.std.specs.declared.cmp.Ordering.TheVariants.{Greater}
use Rattle.std.specs.Map.{remove_entry}
use Rattle.std.specs.BTreeMap.{insert_entry, is_at}
use Rattle.std.proofs.lemmas.Bool.{eq-eqb, eqb-true}
use Rattle.std.proofs.lemmas.Cmp.{ranked, by_ranked}
use Rattle.mq_rules.specs.Words.{is_some_and, is_id}
use Rattle.mq_rules.specs.Moments.{Moment, position, note, since, is_same, is_unended, Among, IsDescending}
use Rattle.mq_rules.specs.Exchanges.{Exchange, answers}
use Rattle.mq_rules.proofs.Exports.{differ, option_or-none}
use Rattle.mq_evidence.specs.Evidence.{earliest}
use Rattle.mq_evidence.specs.Stretches.{longer}
use Rattle.mq_evidence.specs.Unanswered.{first_among, Line, first_of, head_of, other_of, left_of, joined, Within, IsLine, IsInOrder}

-- ---- the earliest cause

earliest-same : (t u : Moment → Bool) (ms : List Moment) → ((n : Moment) → Among n ms → t n ≡ u n) → earliest t ms ≡ earliest u ms
earliest-same t u [] h = refl
earliest-same t u (m ∷ ms) h =
    ap (λ o. option_or o (cond (t m) (Some m) None)) (earliest-same t u ms (λ n w. h n (inr w)))
    ∙ ap (λ b. option_or (earliest u ms) (cond b (Some m) None)) (h m (inl refl))

-- with one moment more, which comes later: its answer ends what waits under its identifier, and its cause waits
module _ (x : Exchange) (test : ℕ → Bool) (m : Moment) (ms : List Moment) (after : (n : Moment) → Among n ms → position n < position m) where
  abbrev waits : Moment → Bool
  waits j = is_some_and (λ i. test i && is_unended j (answers x i) (m ∷ ms)) (x.cause (note j))

  before : (n : Moment) → Among n ms → waits n ≡ is_some_and (λ i. (test i && not (answers x i m)) && is_unended n (answers x i) ms) (x.cause (note n))
  before n w = go (x.cause (note n))
    where
      later : is_same n m ≡ false
      later = differ (position n) (position m) (λ is. let l = after n w in omega arith)

      parts : (a b c : Bool) → (a && (b && c)) ≡ ((a && b) && c)
      parts true b c = refl
      parts false b c = refl

      go : (o : Option ℕ) → is_some_and (λ i. test i && (is_same n m || (not (answers x i m) && since (is_same n) (answers x i) ms))) o
          ≡ is_some_and (λ i. (test i && not (answers x i m)) && since (is_same n) (answers x i) ms) o
      go None = refl
      go (Some i) =
          ap (λ b. test i && (b || (not (answers x i m) && since (is_same n) (answers x i) ms))) later
          ∙ parts (test i) (not (answers x i m)) (since (is_same n) (answers x i) ms)

  itself : waits m ≡ is_some_and test (x.cause (note m))
  itself = go (x.cause (note m))
    where
      last : (a : Bool) → (a && true) ≡ a
      last true = refl
      last false = refl

      go : (o : Option ℕ) → is_some_and (λ i. test i && (is_same m m || (not (answers x i m) && since (is_same m) (answers x i) ms))) o ≡ is_some_and test o
      go None = refl
      go (Some i) =
          ap (λ b. test i && (b || (not (answers x i m) && since (is_same m) (answers x i) ms))) (eq-eqb (position m) (position m) refl)
          ∙ last (test i)

  first_among-next : option_map position (first_among x test (m ∷ ms))
      ≡ option_or (option_map position (first_among x (λ i. test i && not (answers x i m)) ms)) (cond (is_some_and test (x.cause (note m))) (Some (position m)) None)
  first_among-next =
      ap (λ o. option_map position (option_or o (cond (waits m) (Some m) None)))
      (earliest-same waits (λ n. is_some_and (λ i. (test i && not (answers x i m)) && is_unended n (answers x i) ms) (x.cause (note n))) ms before)
      ∙ ap (λ b. option_map position (option_or (first_among x (λ i. test i && not (answers x i m)) ms) (cond b (Some m) None))) itself
      ∙ go (first_among x (λ i. test i && not (answers x i m)) ms) (is_some_and test (x.cause (note m)))
    where
      go : (o : Option Moment) (b : Bool) → option_map position (option_or o (cond b (Some m) None)) ≡ option_or (option_map position o) (cond b (Some (position m)) None)
      go None true = refl
      go None false = refl
      go (Some n) b = refl

-- ---- lines

first_of-same : (t u : ℕ → Bool) (es : Line) → ((d : ℕ × ℕ) → Within d es → t d.1 ≡ u d.1) → first_of t es ≡ first_of u es
first_of-same t u [] h = refl
first_of-same t u (e ∷ es) h =
    ap (λ b. cond b (Some e.0) (first_of t es)) (h e (inl refl))
    ∙ ap (λ o. cond (u e.1) (Some e.0) o) (first_of-same t u es (λ d w. h d (inr w)))

first_of-none : (t : ℕ → Bool) (es : Line) → ((i : ℕ) → t i ≡ false) → first_of t es ≡ None
first_of-none t [] h = refl
first_of-none t (e ∷ es) h = ap (λ b. cond b (Some e.0) (first_of t es)) (h e.1) ∙ first_of-none t es h

-- what is found is there
first_of-within : (t : ℕ → Bool) (es : Line) (p : ℕ) → first_of t es ≡ Some p → (i : ℕ) × Within (p, i) es
first_of-within t [] p h = absurd (cc)
first_of-within t (e ∷ es) p h = go (t e.1) h (first_of-within t es p)
  where
    go : (b : Bool) → cond b (Some e.0) (first_of t es) ≡ Some p → (first_of t es ≡ Some p → (i : ℕ) × Within (p, i) es) → (i : ℕ) × Within (p, i) (e ∷ es)
    go true h rest = let same : e.0 ≡ p = cc in (e.1, inl (ap (λ q. (q, e.1)) (sym same)))
    go false h rest = let r = rest h in (r.0, inr r.1)

-- if an identifier is there, something that passes the test is
first_of-some : (t : ℕ → Bool) (i : ℕ) (es : Line) → t i ≡ true → is_some (first_of (nat_eq i) es) ≡ true → is_some (first_of t es) ≡ true
first_of-some t i [] passes h = absurd (cc)
first_of-some t i (e ∷ es) passes h = go (i == e.1) refl h (first_of-some t i es passes)
  where
    either : (b : Bool) → is_some (first_of t es) ≡ true → is_some (cond b (Some e.0) (first_of t es)) ≡ true
    either true r = refl
    either false r = r

    go : (b : Bool) → (i == e.1) ≡ b → is_some (cond b (Some e.0) (first_of (nat_eq i) es)) ≡ true → (is_some (first_of (nat_eq i) es) ≡ true → is_some (first_of t es) ≡ true)
        → is_some (cond (t e.1) (Some e.0) (first_of t es)) ≡ true
    go true is h rest = ap (λ b. is_some (cond b (Some e.0) (first_of t es))) (ap t (sym (eqb-true i e.1 is)) ∙ passes)
    go false is h rest = either (t e.1) (rest h)

-- ---- a line that loses a position

at-own : (p : ℕ) → is_at (nat_cmp p) p ≡ true
at-own p = by_ranked (p < p) (p ≡ p) (p < p) {G = is_eq (nat_cmp p p) ≡ true} (nat_cmp p p) (ranked p p (nat_cmp p p) refl)
    (λ is l. absurd (omega arith)) (λ is e. ap is_eq is) (λ is l. absurd (omega arith))

at-later : (p q : ℕ) → q < p → nat_cmp p q ≡ Greater
at-later p q l = by_ranked (p < q) (p ≡ q) (q < p) {G = nat_cmp p q ≡ Greater} (nat_cmp p q) (ranked p q (nat_cmp p q) refl)
    (λ is k. absurd (omega arith)) (λ is e. absurd (omega arith)) (λ is k. is)

within-left : (test : ℕ → Bool) (es : Line) (d : ℕ × ℕ) → Within d (remove_entry test es) → Within d es
within-left test [] d w = w
within-left test (e ∷ es) d w = go (test e.0) w (within-left test es d)
  where
    go : (b : Bool) → Within d (cond b es (e ∷ remove_entry test es)) → (Within d (remove_entry test es) → Within d es) → Within d (e ∷ es)
    go true w rest = inr w
    go false (inl is) rest = inl is
    go false (inr w) rest = inr (rest w)

line-left : (test : ℕ → Bool) (es : Line) → IsLine es → IsLine (remove_entry test es)
line-left test [] line = tt
line-left test (e ∷ es) line = go (test e.0) (line-left test es line.1)
  where
    go : (b : Bool) → IsLine (remove_entry test es) → IsLine (cond b es (e ∷ remove_entry test es))
    go true rest = line.1
    go false rest = (λ d w. line.0 d (within-left test es d w), rest)

-- it loses the only pair of this identifier
first_of-left : (t : ℕ → Bool) (a p : ℕ) (es : Line) → IsLine es → first_of (nat_eq a) es ≡ Some p
    → first_of t (remove_entry (is_at (nat_cmp p)) es) ≡ first_of (λ i. t i && not (i == a)) es
first_of-left t a p [] line h = refl
first_of-left t a p (e ∷ es) line h = go (a == e.1) refl h (first_of-left t a p es line.1)
  where
    both : (b : Bool) → (b && true) ≡ b
    both true = refl
    both false = refl

    neither : (b : Bool) → (b && false) ≡ false
    neither true = refl
    neither false = refl

    go : (b : Bool) → (a == e.1) ≡ b → cond b (Some e.0) (first_of (nat_eq a) es) ≡ Some p
        → (first_of (nat_eq a) es ≡ Some p → first_of t (remove_entry (is_at (nat_cmp p)) es) ≡ first_of (λ i. t i && not (i == a)) es)
        → first_of t (cond (is_at (nat_cmp p) e.0) es (e ∷ remove_entry (is_at (nat_cmp p)) es)) ≡ cond (t e.1 && not (e.1 == a)) (Some e.0) (first_of (λ i. t i && not (i == a)) es)
    go true is h rest =
        let same : e.0 ≡ p = cc in
        let its : e.1 ≡ a = sym (eqb-true a e.1 is) in
        ap (λ b. first_of t (cond b es (e ∷ remove_entry (is_at (nat_cmp p)) es))) (ap (is_at (nat_cmp p)) same ∙ at-own p)
        ∙ first_of-same t (λ i. t i && not (i == a)) es (λ d w. sym (ap (λ b. t d.1 && not b) (ap (λ i. d.1 == i) (sym its) ∙ (line.0 d w).1) ∙ both (t d.1)))
        ∙ sym (ap (λ b. cond (t e.1 && not b) (Some e.0) (first_of (λ i. t i && not (i == a)) es)) (eq-eqb e.1 a its)
        ∙ ap (λ b. cond b (Some e.0) (first_of (λ i. t i && not (i == a)) es)) (neither (t e.1)))
    go false is h rest =
        let found = first_of-within (nat_eq a) es p h in
        let less = (line.0 (p, found.0) found.1).0 in
        ap (λ b. first_of t (cond b es (e ∷ remove_entry (is_at (nat_cmp p)) es))) (ap is_eq (at-later p e.0 less))
        ∙ ap (λ o. cond (t e.1) (Some e.0) o) (rest h)
        ∙ ap (λ b. cond b (Some e.0) (first_of (λ i. t i && not (i == a)) es))
        (sym (ap (λ b. t e.1 && not b) (differ e.1 a (λ same. let ne : (a == e.1) ≡ true = eq-eqb a e.1 (sym same) in absurd (cc))) ∙ both (t e.1)))

-- ---- a line that gains a position

within-joined : (es : Line) (p c : ℕ) (d : ℕ × ℕ) → ((q : ℕ × ℕ) → Within q es → q.0 < p) → Within d (insert_entry nat_cmp es p c) → (d ≡ (p, c)) ⊎ Within d es
within-joined [] p c d less (inl is) = inl is
within-joined [] p c d less (inr w) = absurd w
within-joined (e ∷ es) p c d less w = go (subst (λ o. Within d (match_ordering o ((p, c) ∷ e ∷ es) ((e.0, c) ∷ es) (e ∷ insert_entry nat_cmp es p c))) (at-later p e.0 (less e (inl refl))) w)
    (within-joined es p c d (λ q v. less q (inr v)))
  where
    go : (d ≡ e) ⊎ Within d (insert_entry nat_cmp es p c) → (Within d (insert_entry nat_cmp es p c) → (d ≡ (p, c)) ⊎ Within d es) → (d ≡ (p, c)) ⊎ Within d (e ∷ es)
    go (inl is) rest = inr (inl is)
    go (inr v) rest = further (rest v)
      where
        further : (d ≡ (p, c)) ⊎ Within d es → (d ≡ (p, c)) ⊎ Within d (e ∷ es)
        further (inl is) = inl is
        further (inr u) = inr (inr u)

line-joined : (es : Line) (p c : ℕ) → IsLine es → ((q : ℕ × ℕ) → Within q es → q.0 < p) → ((q : ℕ × ℕ) → Within q es → (c == q.1) ≡ false) → IsLine (insert_entry nat_cmp es p c)
line-joined [] p c line less fresh = (λ d w. absurd w, tt)
line-joined (e ∷ es) p c line less fresh =
    subst (λ o. IsLine (match_ordering o ((p, c) ∷ e ∷ es) ((e.0, c) ∷ es) (e ∷ insert_entry nat_cmp es p c))) (sym (at-later p e.0 (less e (inl refl))))
    (λ d w. go d (within-joined es p c d (λ q v. less q (inr v)) w), line-joined es p c line.1 (λ q v. less q (inr v)) (λ q v. fresh q (inr v)))
  where
    go : (d : ℕ × ℕ) → (d ≡ (p, c)) ⊎ Within d es → (e.0 < d.0) × ((d.1 == e.1) ≡ false)
    go d (inl is) = subst (λ (q : ℕ × ℕ). (e.0 < q.0) × ((q.1 == e.1) ≡ false)) (sym is) (less e (inl refl), fresh e (inl refl))
    go d (inr v) = line.0 d v

first_of-joined : (t : ℕ → Bool) (es : Line) (p c : ℕ) → ((q : ℕ × ℕ) → Within q es → q.0 < p)
    → first_of t (insert_entry nat_cmp es p c) ≡ option_or (first_of t es) (cond (t c) (Some p) None)
first_of-joined t [] p c less = refl
first_of-joined t (e ∷ es) p c less =
    ap (λ o. first_of t (match_ordering o ((p, c) ∷ e ∷ es) ((e.0, c) ∷ es) (e ∷ insert_entry nat_cmp es p c))) (at-later p e.0 (less e (inl refl)))
    ∙ ap (λ o. cond (t e.1) (Some e.0) o) (first_of-joined t es p c (λ q v. less q (inr v)))
    ∙ go (t e.1)
  where
    go : (b : Bool) → cond b (Some e.0) (option_or (first_of t es) (cond (t c) (Some p) None)) ≡ option_or (cond b (Some e.0) (first_of t es)) (cond (t c) (Some p) None)
    go true = refl
    go false = refl

-- an identifier that isn't found has no pair
none-within : (c : ℕ) (es : Line) → is_some (first_of (nat_eq c) es) ≡ false → (q : ℕ × ℕ) → Within q es → (c == q.1) ≡ false
none-within c [] h q w = absurd w
none-within c (e ∷ es) h q w = go (c == e.1) refl h w (none-within c es)
  where
    go : (b : Bool) → (c == e.1) ≡ b → is_some (cond b (Some e.0) (first_of (nat_eq c) es)) ≡ false → (q ≡ e) ⊎ Within q es
        → (is_some (first_of (nat_eq c) es) ≡ false → (r : ℕ × ℕ) → Within r es → (c == r.1) ≡ false) → (c == q.1) ≡ false
    go true is h v rest = absurd (cc)
    go false is h (inl same) rest = ap (λ (r : ℕ × ℕ). c == r.1) same ∙ is
    go false is h (inr v) rest = rest h q v

-- ---- the first, or the second, is the first of another identifier

pub other-first : (i : ℕ) (es : Line) → IsLine es → other_of i es ≡ first_of (λ other. not (other == i)) es
other-first i [] line = refl
other-first i (e ∷ es) line = go (e.1 == i) refl
  where
    next : (ds : Line) → ((d : ℕ × ℕ) → Within d ds → (d.1 == e.1) ≡ false) → e.1 ≡ i → head_of ds ≡ first_of (λ other. not (other == i)) ds
    next [] apart is = refl
    next (d ∷ ds) apart is = sym (ap (λ b. cond (not b) (Some d.0) (first_of (λ other. not (other == i)) ds)) (ap (λ j. d.1 == j) (sym is) ∙ apart d (inl refl)))

    go : (b : Bool) → (e.1 == i) ≡ b → cond b (head_of es) (Some e.0) ≡ cond (not b) (Some e.0) (first_of (λ other. not (other == i)) es)
    go true is = next es (λ d w. (line.0 d w).1) (eqb-true e.1 i is)
    go false is = refl

-- ---- one event more

-- once the answer was looked at
record IsSettled (answer : Option ℕ) (before after : Line) : Type 0 where
  firsts : (t : ℕ → Bool) → first_of t after ≡ first_of (λ i. t i && not (is_id i answer)) before
  line : IsLine after
  from : (d : ℕ × ℕ) → Within d after → Within d before

last : (a : Bool) → (a && true) ≡ a
last true = refl
last false = refl

settled : (answer : Option ℕ) (at : ℕ → Option ℕ) (es : Line) → IsLine es → ((i : ℕ) → at i ≡ first_of (nat_eq i) es) → IsSettled answer es (left_of (option_and_then at answer) es)
settled None at es line are = record {
  firsts = λ t. first_of-same t (λ i. t i && true) es (λ d w. sym (last (t d.1)));
  line = line;
  from = λ d w. w;
}
settled (Some a) at es line are = go (at a) refl
  where
    absent : (t : ℕ → Bool) → first_of (nat_eq a) es ≡ None → first_of t es ≡ first_of (λ i. t i && not (i == a)) es
    absent t none = first_of-same t (λ i. t i && not (i == a)) es (λ d w.
        sym (ap (λ b. t d.1 && not b) (differ d.1 a (λ is. let ne = none-within a es (ap is_some none) d w in let is_its : (a == d.1) ≡ true = eq-eqb a d.1 (sym is) in absurd (cc))) ∙ last (t d.1)))

    go : (o : Option ℕ) → at a ≡ o → IsSettled (Some a) es (left_of o es)
    go None none = record { firsts = λ t. absent t (sym (are a) ∙ none); line = line; from = λ d w. w }
    go (Some p) is = record {
      firsts = λ t. first_of-left t a p es line (sym (are a) ∙ is);
      line = line-left (is_at (nat_cmp p)) es line;
      from = λ d w. within-left (is_at (nat_cmp p)) es d w;
    }

-- each identifier leads to its first position still
settled-at : (answer : Option ℕ) (at after : ℕ → Option ℕ) (es ds : Line) → ((i : ℕ) → at i ≡ first_of (nat_eq i) es) → IsSettled answer es ds
    → ((i : ℕ) → after i ≡ cond (is_id i answer) None (at i)) → (i : ℕ) → after i ≡ first_of (nat_eq i) ds
settled-at answer at after es ds are done grown i = grown i ∙ go (is_id i answer) refl ∙ sym (done.firsts (nat_eq i))
  where
    never : (j : ℕ) (b : Bool) → (i == j) ≡ b → is_id i answer ≡ true → (b && not (is_id j answer)) ≡ false
    never j true is given = ap (λ k. not (is_id k answer)) (sym (eqb-true i j is)) ∙ ap not given
    never j false is given = refl

    stays : (j : ℕ) (b : Bool) → (i == j) ≡ b → is_id i answer ≡ false → (b && not (is_id j answer)) ≡ b
    stays j true is given = ap (λ k. not (is_id k answer)) (sym (eqb-true i j is)) ∙ ap not given
    stays j false is given = refl

    go : (b : Bool) → is_id i answer ≡ b → cond b None (at i) ≡ first_of (λ j. nat_eq i j && not (is_id j answer)) es
    go true given = sym (first_of-none (λ j. nat_eq i j && not (is_id j answer)) es (λ j. never j (i == j) refl given))
    go false given = are i ∙ first_of-same (nat_eq i) (λ j. nat_eq i j && not (is_id j answer)) es (λ d w. sym (stays d.1 (i == d.1) refl given))

-- once the cause was looked at
record IsJoined (cause : Option ℕ) (p : ℕ) (before after : Line) : Type 0 where
  firsts : (t : ℕ → Bool) → first_of t after ≡ option_or (first_of t before) (cond (is_some_and t cause) (Some p) None)
  line : IsLine after
  from : (d : ℕ × ℕ) → Within d after → (d.0 ≡ p) ⊎ Within d before

some-stays : (o z : Option ℕ) → is_some o ≡ true → o ≡ option_or o z
some-stays None z h = absurd (cc)
some-stays (Some a) z h = refl

joins : (cause : Option ℕ) (p : ℕ) (at : ℕ → Option ℕ) (es : Line) → IsLine es → ((i : ℕ) → at i ≡ first_of (nat_eq i) es) → ((q : ℕ × ℕ) → Within q es → q.0 < p)
    → IsJoined cause p es (joined at cause p es)
joins None p at es line are less = record { firsts = λ t. sym (option_or-none (first_of t es)); line = line; from = λ d w. inr w }
joins (Some c) p at es line are less = go (is_some (at c)) refl
  where
    there : (t : ℕ → Bool) (b : Bool) → t c ≡ b → is_some (first_of (nat_eq c) es) ≡ true → first_of t es ≡ option_or (first_of t es) (cond b (Some p) None)
    there t true passes h = some-stays (first_of t es) (Some p) (first_of-some t c es passes h)
    there t false passes h = sym (option_or-none (first_of t es))

    came : (d : ℕ × ℕ) → (d ≡ (p, c)) ⊎ Within d es → (d.0 ≡ p) ⊎ Within d es
    came d (inl is) = inl (ap (λ (q : ℕ × ℕ). q.0) is)
    came d (inr w) = inr w

    go : (b : Bool) → is_some (at c) ≡ b → IsJoined (Some c) p es (cond b es (insert_entry nat_cmp es p c))
    go true given = record { firsts = λ t. there t (t c) refl (ap is_some (sym (are c)) ∙ given); line = line; from = λ d w. inr w }
    go false given = record {
      firsts = λ t. first_of-joined t es p c less;
      line = line-joined es p c line less (none-within c es (ap is_some (sym (are c)) ∙ given));
      from = λ d w. came d (within-joined es p c d less w);
    }

joined-at : (cause : Option ℕ) (p : ℕ) (at after : ℕ → Option ℕ) (es ds : Line) → ((i : ℕ) → at i ≡ first_of (nat_eq i) es) → IsJoined cause p es ds
    → ((i : ℕ) → after i ≡ option_or (at i) (cond (is_id i cause) (Some p) None)) → (i : ℕ) → after i ≡ first_of (nat_eq i) ds
joined-at cause p at after es ds are done grown i =
    grown i
    ∙ ap (λ o. option_or o (cond (is_id i cause) (Some p) None)) (are i)
    ∙ ap (λ b. option_or (first_of (nat_eq i) es) (cond b (Some p) None)) (go cause)
    ∙ sym (done.firsts (nat_eq i))
  where
    go : (o : Option ℕ) → is_id i o ≡ is_some_and (nat_eq i) o
    go None = refl
    go (Some j) = refl

-- with one moment more, which comes later than these
module _ (x : Exchange) (m : Moment) (ms : List Moment) (at settled_at new : ℕ → Option ℕ) (es settled_es new_es : Line) (a c : Option ℕ) (p : ℕ) where
  next : ((n : Moment) → Among n ms → position n < position m) → position m ≡ p → x.answer (note m) ≡ a → x.cause (note m) ≡ c → IsInOrder x at es ms
      → ((i : ℕ) → settled_at i ≡ cond (is_id i a) None (at i)) → settled_es ≡ left_of (option_and_then at a) es
      → ((i : ℕ) → new i ≡ option_or (settled_at i) (cond (is_id i c) (Some p) None)) → new_es ≡ joined settled_at c p settled_es → IsInOrder x new new_es (m ∷ ms)
  next after at_is answer_is cause_is old at_settled es_settled at_new es_new =
      let first : IsSettled a es settled_es = subst (λ ds. IsSettled a es ds) (sym es_settled) (settled a at es old.line_is old.firsts_are) in
      let first_at = settled-at a at settled_at es settled_es old.firsts_are first at_settled in
      let less : (q : ℕ × ℕ) → Within q settled_es → q.0 < p = λ q w. old.within p (λ n v. subst (λ r. position n < r) at_is (after n v)) q (first.from q w) in
      let second : IsJoined c p settled_es new_es = subst (λ ds. IsJoined c p settled_es ds) (sym es_new) (joins c p settled_at settled_es first.line first_at less) in
      record {
        firsts_are = joined-at c p settled_at new settled_es new_es first_at second at_new;
        line_is = second.line;
        within = λ n bound d w. go n bound d (second.from d w) first;
        waiting_are = λ test.
            second.firsts test
            ∙ ap (λ o. option_or o (cond (is_some_and test c) (Some p) None)) (first.firsts test ∙ old.waiting_are (λ i. test i && not (is_id i a)))
            ∙ ap (λ o. option_or (option_map position (first_among x (λ i. test i && not (is_id i o)) ms)) (cond (is_some_and test c) (Some p) None)) (sym answer_is)
            ∙ ap (λ o. option_or (option_map position (first_among x (λ i. test i && not (answers x i m)) ms)) (cond (is_some_and test o) (Some p) None)) (sym cause_is)
            ∙ ap (λ q. option_or (option_map position (first_among x (λ i. test i && not (answers x i m)) ms)) (cond (is_some_and test (x.cause (note m))) (Some q) None)) (sym at_is)
            ∙ sym (first_among-next x test m ms after);
      }
    where
      go : (n : ℕ) → ((o : Moment) → Among o (m ∷ ms) → position o < n) → (d : ℕ × ℕ) → (d.0 ≡ p) ⊎ Within d settled_es → IsSettled a es settled_es → d.0 < n
      go n bound d (inl is) first = subst (λ q. q < n) (at_is ∙ sym is) (bound m (inl refl))
      go n bound d (inr w) first = old.within n (λ o v. bound o (inr v)) d (first.from d w)

-- before any event
pub nothing-waits : (x : Exchange) (at : ℕ → Option ℕ) (es : Line) → ((i : ℕ) → at i ≡ None) → es ≡ [] → IsInOrder x at es []
nothing-waits x at es none empty = subst (λ ds. IsInOrder x at ds []) (sym empty) (record {
  firsts_are = none;
  line_is = tt;
  within = λ n bound d w. absurd w;
  waiting_are = λ test. refl;
})

-- with one event more on the connection, which begins anew with it or not
pub waits-kept : (x : Exchange) (opens : Bool) (m : Moment) (ms : List Moment) (at first_at settled_at new : ℕ → Option ℕ) (es first_es settled_es new_es : Line) (a c : Option ℕ) (p : ℕ)
    → position m ≡ p → x.answer (note m) ≡ a → x.cause (note m) ≡ c → (IsDescending ms → IsInOrder x at es ms)
    → ((i : ℕ) → first_at i ≡ cond opens None (at i)) → first_es ≡ cond opens [] es
    → ((i : ℕ) → settled_at i ≡ cond (is_id i a) None (first_at i)) → settled_es ≡ left_of (option_and_then first_at a) first_es
    → ((i : ℕ) → new i ≡ option_or (settled_at i) (cond (is_id i c) (Some p) None)) → new_es ≡ joined settled_at c p settled_es
    → IsDescending (longer opens true m ms) → IsInOrder x new new_es (longer opens true m ms)
waits-kept x true m ms at first_at settled_at new es first_es settled_es new_es a c p at_is answer_is cause_is old first_are first_is settled_are settled_is new_are new_is descends =
    next x m [] first_at settled_at new first_es settled_es new_es a c p (λ n w. absurd w) at_is answer_is cause_is (nothing-waits x first_at first_es first_are first_is) settled_are settled_is new_are new_is
waits-kept x false m ms at first_at settled_at new es first_es settled_es new_es a c p at_is answer_is cause_is old first_are first_is settled_are settled_is new_are new_is descends =
    let were = old descends.1 in
    let same : IsInOrder x first_at es ms = record { firsts_are = λ i. first_are i ∙ were.firsts_are i; line_is = were.line_is; within = were.within; waiting_are = were.waiting_are } in
    next x m ms first_at settled_at new first_es settled_es new_es a c p descends.0 at_is answer_is cause_is (subst (λ ds. IsInOrder x first_at ds ms) (sym first_is) same) settled_are settled_is new_are new_is
