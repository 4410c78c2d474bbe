-- A cause that some later binding REST shows unanswered is shown by the first one.
use Rattle.std.proofs.Common.{◌≡◌, ℕ, ◌<◌, ◌≤◌, ◌==◌, nat_lt, Bool, true, false, ◌&&◌, not, List, [], ◌∷◌, Option, Some, None, is_some, refl, ap, sym, ◌∙◌, subst, arith, ◌⊎◌, inl, inr}
use Rattle.std.proofs.lemmas.Bool.{eq-eqb, eqb-true, lt-ltb, ltb-true, ltb-false}
use Rattle.mq_rules.specs.declared.role.Role.{Role}
use Rattle.mq_rules.specs.declared.fate.Fate.{Fate}
use Rattle.mq_rules.specs.declared.note.Note.{Note}
use Rattle.mq_rules.specs.declared.note.Note.TheVariants as notes
use Rattle.mq_rules.specs.declared.note.Seen.{Seen}
use Rattle.mq_rules.specs.Words.{is_some_and}
use Rattle.mq_rules.specs.Notes.{is_open, is_rest}
use Rattle.mq_rules.specs.Moments.{Moment, newest, position, note, moments, moment, is_same, is_after, some, since, Among, IsDescending, IsEarliestSince}
use Rattle.mq_rules.specs.Connections.{begun, number, connection, is_beside, latest_fate, accepted, ends_binding, is_binding}
use Rattle.mq_rules.specs.Exchanges.{Exchange, answers, first_unanswered, shows_R}
use Rattle.mq_rules.specs.Statements.{at_rest, is_so}
use Rattle.mq_rules.specs.FirstRests.{binds_after, first_rest, IsFirstRest}
use Rattle.mq_rules.specs.FurtherRests.{is_unrefused, owes_D01, owes_D02, owes_D03, owes_D05, says_goodbye, shows_D01, shows_D02, shows_D03, shows_D05, stays_open}
use Rattle.mq_rules.specs.Pasts.{came_before}
use Rattle.mq_rules.specs.ReceiveMaximum.{refuses_message}
use Rattle.mq_rules.proofs.Exports.{among-moment, among-some, among-within, and_true, begun-least, begun-same, both_true, earliest_since-is, earliest_since-there, moment-among, moments-descend, same_test, since-stands, some-among, stands-since, there, those-among, those-descend}
use Rattle.mq_rules_laws.proofs.PositionLaws.{among-those, is-earliest_since}

-- ---- moments of one log

-- what stands before a moment of the log stands in the log
past-among : (n u : Moment) (log : List Seen) → Among u (moments log) → Among n (moments u.past) → Among n (moments log)
past-among n u [] at h = absurd at
past-among n u (e ∷ past) (inl is) h = inr (subst (λ (m : Moment). Among n (moments m.past)) is h)
past-among n u (e ∷ past) (inr at) h = inr (past-among n u past at h)

-- a moment at an earlier position stands before
among-past : (n u : Moment) (log : List Seen) → Among n (moments log) → Among u (moments log) → position n < position u → Among n (moments u.past)
among-past n u [] h at lt = absurd h
among-past n u (e ∷ past) (inl is) at lt = absurd (let same : position n ≡ position (newest e past) = ap position is in let le = among-within u (e ∷ past) at in omega arith)
among-past n u (e ∷ past) (inr h) (inl is) lt = subst (λ (m : Moment). Among n (moments m.past)) (sym is) h
among-past n u (e ∷ past) (inr h) (inr at) lt = among-past n u past h at lt

-- one position has one moment
one-moment : (m n : Moment) (log : List Seen) → Among m (moments log) → Among n (moments log) → position m ≡ position n → m ≡ n
one-moment m n log h at same =
    let both : Some m ≡ Some n = sym (among-moment m log h) ∙ ap (moment log) same ∙ among-moment n log at in
    cc

-- ---- one connection

number-within : (m : Moment) (log : List Seen) → Among m (moments log) → number m ≤ begun log
number-within m [] h = absurd h
number-within m (e ∷ past) (inl is) = let same : number m ≡ begun (e ∷ past) = ap number is in omega arith
number-within m (e ∷ past) (inr h) = let least = begun-least e past in let le = number-within m past h in omega arith

-- before k's connection goes on with u, the log up to u has the same latest connection
begun-before : (k u : Moment) → Among k (moments u.past) → number u ≡ number k → begun u.past ≡ number k
begun-before k u h same = let le = number-within k u.past h in let least = begun-least u.event u.past in omega arith

rest-no_open : (n : Note) → is_rest n ≡ true → is_open n ≡ false
rest-no_open notes.Open h = absurd (cc)
rest-no_open (notes.Close cuts part) h = refl
rest-no_open notes.Rest h = refl
rest-no_open (notes.Release identifier) h = refl
rest-no_open (notes.Sent item) h = refl
rest-no_open (notes.Recv item) h = refl

-- a binding REST is on the connection that was the latest before it
binding-number : (role : Role) (t : Moment) → is_binding role t ≡ true → number t ≡ begun t.past
unfolding is_binding
binding-number role t binding =
    begun-same t.event t.past (rest-no_open (note t) (both_true (is_rest (note t)) (accepted (latest_fate role t.past) && not (some ends_binding (connection t.past))) binding).0)

connection-descends : (log : List Seen) → IsDescending (connection log)
connection-descends log = those-descend (λ m. number m == begun log) (moments log) (moments-descend log)

-- what is on the latest connection
on-connection : (m : Moment) (log : List Seen) → Among m (connection log) → Among m (moments log) × (number m ≡ begun log)
on-connection m log h = let r = those-among (λ m. number m == begun log) (moments log) m h in (r.0, eqb-true (number m) (begun log) r.1)

connection-has : (m : Moment) (log : List Seen) → Among m (moments log) → number m ≡ begun log → Among m (connection log)
connection-has m log h same = among-those (λ m. number m == begun log) (moments log) m h (eq-eqb (number m) (begun log) same)

-- ---- a connection that is still open

-- what wasn't said on the connection before t, wasn't before u
unsaid-earlier : (says : Note → Bool) (log : List Seen) (k t u : Moment) → Among k (moments log) → Among t (moments log) → Among u (moments log) → is_after u k ≡ true → is_after t u ≡ true
    → is_beside u k ≡ true → is_beside t k ≡ true → not (came_before says t) ≡ true → not (came_before says u) ≡ true
unsaid-earlier says log k t u k_in t_in u_in after before beside later h = quiet (came_before says u) refl h
  where
    u_past : Among u (moments t.past)
    u_past = among-past u t log u_in t_in (ltb-true (position u) (position t) before)

    k_past : Among k (moments u.past)
    k_past = among-past k u log k_in u_in (ltb-true (position k) (position u) after)

    u_on : begun u.past ≡ number k
    u_on = begun-before k u k_past (eqb-true (number u) (number k) beside)

    t_on : begun t.past ≡ number k
    t_on = begun-before k t (past-among k u t.past u_past k_past) (eqb-true (number t) (number k) later)

    quiet : (said : Bool) → came_before says u ≡ said → not (came_before says t) ≡ true → not said ≡ true
    quiet false is open_there = refl
    quiet true is open_there =
        let n = some-among (λ j. says (note j)) (connection u.past) is in
        let on = on-connection n.0 u.past n.1 in
        let there_too : Among n.0 (connection t.past) = connection-has n.0 t.past (past-among n.0 u t.past u_past on.0) (on.1 ∙ u_on ∙ sym t_on) in
        let said : came_before says t ≡ true = among-some (λ j. says (note j)) (connection t.past) n.0 there_too n.2 in
        absurd (cc)

-- a REST shows that the server hasn't closed it, if a later one does
open-earlier : (log : List Seen) (k t u : Moment) → Among k (moments log) → Among t (moments log) → Among u (moments log) → is_after u k ≡ true → is_after t u ≡ true
    → is_beside u k ≡ true → is_beside t k ≡ true → is_rest (note u) ≡ true → stays_open t ≡ true → stays_open u ≡ true
open-earlier log k t u k_in t_in u_in after before beside later rests h =
    let a = both_true (is_rest (note t)) (not (came_before says_goodbye t)) h in
    and_true (is_rest (note u)) (not (came_before says_goodbye u)) rests (unsaid-earlier says_goodbye log k t u k_in t_in u_in after before beside later a.1)

pub malformed-earlier : (log : List Seen) (k t u : Moment) → Among k (moments log) → Among t (moments log) → Among u (moments log) → is_after u k ≡ true → is_after t u ≡ true
    → is_beside u k ≡ true → is_beside t k ≡ true → is_rest (note u) ≡ true → shows_D01 t k ≡ true → shows_D01 u k ≡ true
unfolding shows_D01
malformed-earlier log k t u k_in t_in u_in after before beside later rests h =
    let a = both_true (owes_D01 k) (stays_open t) h in
    and_true (owes_D01 k) (stays_open u) a.0 (open-earlier log k t u k_in t_in u_in after before beside later rests a.1)

pub repeated-earlier : (log : List Seen) (k t u : Moment) → Among k (moments log) → Among t (moments log) → Among u (moments log) → is_after u k ≡ true → is_after t u ≡ true
    → is_beside u k ≡ true → is_beside t k ≡ true → is_rest (note u) ≡ true → shows_D02 t k ≡ true → shows_D02 u k ≡ true
unfolding shows_D02
repeated-earlier log k t u k_in t_in u_in after before beside later rests h =
    let a = both_true (owes_D02 k) (stays_open t) h in
    and_true (owes_D02 k) (stays_open u) a.0 (open-earlier log k t u k_in t_in u_in after before beside later rests a.1)

pub mistaken-earlier : (log : List Seen) (k t u : Moment) → Among k (moments log) → Among t (moments log) → Among u (moments log) → is_after u k ≡ true → is_after t u ≡ true
    → is_beside u k ≡ true → is_beside t k ≡ true → is_rest (note u) ≡ true → shows_D03 t k ≡ true → shows_D03 u k ≡ true
unfolding shows_D03
mistaken-earlier log k t u k_in t_in u_in after before beside later rests h =
    let a = both_true (owes_D03 k) (stays_open t) h in
    and_true (owes_D03 k) (stays_open u) a.0 (open-earlier log k t u k_in t_in u_in after before beside later rests a.1)

pub excessive-earlier : (log : List Seen) (k t u : Moment) → Among k (moments log) → Among t (moments log) → Among u (moments log) → is_after u k ≡ true → is_after t u ≡ true
    → is_beside u k ≡ true → is_beside t k ≡ true → is_rest (note u) ≡ true → shows_D05 t k ≡ true → shows_D05 u k ≡ true
unfolding shows_D05
excessive-earlier log k t u k_in t_in u_in after before beside later rests h =
    let a = both_true (owes_D05 k) (stays_open t && is_unrefused t) h in
    let b = both_true (stays_open t) (is_unrefused t) a.1 in
    and_true (owes_D05 k) (stays_open u && is_unrefused u) a.0
    (and_true (stays_open u) (is_unrefused u) (open-earlier log k t u k_in t_in u_in after before beside later rests b.0) (unsaid-earlier refuses_message log k t u k_in t_in u_in after before beside later b.1))

-- ---- what t shows, u before it shows too

module _ (log : List Seen) (k : Moment) (k_in : Among k (moments log)) where
  -- k is on the connection, where `since` says that nothing has come after it
  since-has : (t : Moment) (ends : Moment → Bool) → Among t (moments log) → since (is_same k) ends (connection t.past) ≡ true
      → Among k (moments t.past) × (number k ≡ begun t.past) × ((n : Moment) → Among n (connection t.past) → position k < position n → ends n ≡ false)
  since-has t ends t_in h =
      let s = since-stands (is_same k) ends (connection t.past) (connection-descends t.past) h in
      let same : position k ≡ position s.at = eqb-true (position k) (position s.at) s.passes in
      let on = on-connection s.at t.past s.there in
      let is : k ≡ s.at = one-moment k s.at log k_in (past-among s.at t log t_in on.0) same in
      (subst (λ m. Among m (moments t.past)) (sym is) on.0, ap number is ∙ on.1, λ n there lt. s.none_after n there (subst (λ p. p < position n) same lt))

  since-earlier : (t u : Moment) (ends : Moment → Bool) → Among t (moments log) → Among u (moments log) → position k < position u → position u < position t → number u ≡ number k
      → since (is_same k) ends (connection t.past) ≡ true → since (is_same k) ends (connection u.past) ≡ true
  since-earlier t u ends t_in u_in k_before before same h =
      let r = since-has t ends t_in h in
      let k_past : Among k (moments u.past) = among-past k u log k_in u_in k_before in
      let on : begun u.past ≡ number k = begun-before k u k_past same in
      stands-since (is_same k) ends (connection u.past) (connection-descends u.past) (record {
        at = k;
        there = connection-has k u.past k_past (sym on);
        passes = eq-eqb (position k) (position k) refl;
        none_after = λ n there lt. later r.1 r.2 on n there lt;
      })
    where
      later : number k ≡ begun t.past → ((n : Moment) → Among n (connection t.past) → position k < position n → ends n ≡ false) → begun u.past ≡ number k
          → (n : Moment) → Among n (connection u.past) → position k < position n → ends n ≡ false
      later on_t none on n there lt =
          let at = on-connection n u.past there in
          let u_past : Among u (moments t.past) = among-past u t log u_in t_in before in
          none n (connection-has n t.past (past-among n u t.past u_past at.0) (at.1 ∙ on ∙ on_t)) lt

  pub shows-earlier : (x : Exchange) (t u : Moment) → Among t (moments log) → Among u (moments log) → position k < position u → position u < position t → number u ≡ number k
      → shows_R x t k ≡ true → shows_R x u k ≡ true
  unfolding shows_R
  shows-earlier x t u t_in u_in k_before before same h = go (x.cause (note k)) h
    where
      go : (o : Option ℕ) → is_some_and (λ i. not (is_some (first_unanswered x i k)) && since (is_same k) (answers x i) (connection t.past)) o ≡ true
          → is_some_and (λ i. not (is_some (first_unanswered x i k)) && since (is_same k) (answers x i) (connection u.past)) o ≡ true
      go None h = absurd (cc)
      go (Some i) h =
          let b = both_true (not (is_some (first_unanswered x i k))) (since (is_same k) (answers x i) (connection t.past)) h in
          and_true (not (is_some (first_unanswered x i k))) (since (is_same k) (answers x i) (connection u.past)) b.0
          (since-earlier t u (answers x i) t_in u_in k_before before same b.1)

  -- t shows only what is on its connection
  shows-number : (x : Exchange) (t : Moment) → Among t (moments log) → shows_R x t k ≡ true → number k ≡ begun t.past
  unfolding shows_R
  shows-number x t t_in h = go (x.cause (note k)) h
    where
      go : (o : Option ℕ) → is_some_and (λ i. not (is_some (first_unanswered x i k)) && since (is_same k) (answers x i) (connection t.past)) o ≡ true → number k ≡ begun t.past
      go None h = absurd (cc)
      go (Some i) h = (since-has t (answers x i) t_in (both_true (not (is_some (first_unanswered x i k))) (since (is_same k) (answers x i) (connection t.past)) h).1).1

  pub rest-earlier : (role : Role) (x : Exchange) (t u : Moment) → Among t (moments log) → Among u (moments log) → binds_after role k u ≡ true → is_after t u ≡ true
      → shows_R x t k ≡ true → shows_R x u k ≡ true
  rest-earlier role x t u t_in u_in b before h =
      let p = both_true (is_after u k) (is_binding role u && (number u == number k)) b in
      let q = both_true (is_binding role u) (number u == number k) p.1 in
      shows-earlier x t u t_in u_in (ltb-true (position k) (position u) p.0) (ltb-true (position u) (position t) before) (eqb-true (number u) (number k) q.1) h

  -- ---- the first one

  binds-after : (role : Role) (x : Exchange) (t : Moment) → Among t (moments log) → is_after t k ≡ true → is_binding role t ≡ true → shows_R x t k ≡ true → binds_after role k t ≡ true
  binds-after role x t t_in after binding h =
      and_true (is_after t k) (is_binding role t && (number t == number k)) after
      (and_true (is_binding role t) (number t == number k) binding (eq-eqb (number t) (number k) (binding-number role t binding ∙ sym (shows-number x t t_in h))))

  -- the first one is no later than any other
  first-before : (role : Role) (t u : Moment) → Among t (moments log) → binds_after role k t ≡ true → IsEarliestSince (binds_after role k) (λ t. false) (moments log) u
      → (u ≡ t) ⊎ (position u < position t)
  first-before role t u t_in after first = go (nat_lt (position u) (position t)) (nat_lt (position t) (position u)) refl refl
    where
      go : (a b : Bool) → nat_lt (position u) (position t) ≡ a → nat_lt (position t) (position u) ≡ b → (u ≡ t) ⊎ (position u < position t)
      go true b p q = inr (ltb-true (position u) (position t) p)
      go false true p q = absurd (let bad : false ≡ true = (first.others_end t t_in (ltb-true (position t) (position u) q) after).3 in cc)
      go false false p q = inl (one-moment u t log first.there t_in (let le = ltb-false (position u) (position t) p in let ge = ltb-false (position t) (position u) q in omega arith))

  shown-first : (role : Role) (x : Exchange) (t : Moment) → Among t (moments log) → is_after t k ≡ true → is_binding role t ≡ true → shows_R x t k ≡ true
      → is_some_and (λ t. shows_R x t k) (first_rest role k log) ≡ true
  shown-first role x t t_in after binding h = go (first_rest role k log) refl
    where
      own : binds_after role k t ≡ true
      own = binds-after role x t t_in after binding h

      decided : (u : Moment) → IsEarliestSince (binds_after role k) (λ t. false) (moments log) u → (u ≡ t) ⊎ (position u < position t) → shows_R x u k ≡ true
      decided u first (inl is) = ap (λ m. shows_R x m k) is ∙ h
      decided u first (inr lt) = rest-earlier role x t u t_in first.there first.passes (lt-ltb (position u) (position t) lt) h

      go : (o : Option Moment) → first_rest role k log ≡ o → is_some_and (λ t. shows_R x t k) o ≡ true
      go None is = absurd (
          let none : false ≡ since (binds_after role k) (λ t. false) (moments log) = ap is_some (sym is) ∙ earliest_since-there (binds_after role k) (λ t. false) (moments log) in
          let one : since (binds_after role k) (λ t. false) (moments log) ≡ true = stands-since (binds_after role k) (λ t. false) (moments log) (moments-descend log) (record {
            at = t;
            there = t_in;
            passes = own;
            none_after = λ n there lt. refl;
          }) in
          cc)
      go (Some u) is =
          let first = earliest_since-is (binds_after role k) (λ t. false) (moments log) u (moments-descend log) is in
          decided u first (first-before role t u t_in own first)

  first-shown : (role : Role) (x : Exchange) → is_some_and (λ t. shows_R x t k) (first_rest role k log) ≡ true
      → some (λ t. is_after t k && (is_binding role t && shows_R x t k)) (moments log) ≡ true
  first-shown role x h = go (first_rest role k log) refl h
    where
      go : (o : Option Moment) → first_rest role k log ≡ o → is_some_and (λ t. shows_R x t k) o ≡ true → some (λ t. is_after t k && (is_binding role t && shows_R x t k)) (moments log) ≡ true
      go None is h = absurd (cc)
      go (Some u) is h =
          let first = earliest_since-is (binds_after role k) (λ t. false) (moments log) u (moments-descend log) is in
          let p = both_true (is_after u k) (is_binding role u && (number u == number k)) first.passes in
          let q = both_true (is_binding role u) (number u == number k) p.1 in
          among-some (λ t. is_after t k && (is_binding role t && shows_R x t k)) (moments log) u first.there
          (and_true (is_after u k) (is_binding role u && shows_R x u k) p.0 (and_true (is_binding role u) (shows_R x u k) q.0 h))

  pub first-decides : (role : Role) (x : Exchange) → some (λ t. is_after t k && (is_binding role t && shows_R x t k)) (moments log) ≡ is_some_and (λ t. shows_R x t k) (first_rest role k log)
  first-decides role x = same_test (some (λ t. is_after t k && (is_binding role t && shows_R x t k)) (moments log)) (is_some_and (λ t. shows_R x t k) (first_rest role k log))
      (λ h. let r = some-among (λ t. is_after t k && (is_binding role t && shows_R x t k)) (moments log) h in shown r.0 r.1 r.2)
      (first-shown role x)
    where
      shown : (t : Moment) → Among t (moments log) → (is_after t k && (is_binding role t && shows_R x t k)) ≡ true → is_some_and (λ t. shows_R x t k) (first_rest role k log) ≡ true
      shown t t_in h =
          let p = both_true (is_after t k) (is_binding role t && shows_R x t k) h in
          let q = both_true (is_binding role t) (shows_R x t k) p.1 in
          shown-first role x t t_in p.0 q.0 q.1

-- ---- what the first one is, and R by it

earliest-first : (role : Role) (k : Moment) (log : List Seen) (t : Moment) → IsEarliestSince (binds_after role k) (λ t. false) (moments log) t → IsFirstRest role k log t
earliest-first role k log t e = record { there = e.there; binds = e.passes; none_before = λ u u_in lt. none u u_in lt (binds_after role k u) refl }
  where
    none : (u : Moment) → Among u (moments log) → position u < position t → (b : Bool) → binds_after role k u ≡ b → binds_after role k u ≡ false
    none u u_in lt true is = absurd (let bad : false ≡ true = (e.others_end u u_in lt is).3 in cc)
    none u u_in lt false is = is

first-earliest : (role : Role) (k : Moment) (log : List Seen) (t : Moment) → IsFirstRest role k log t → IsEarliestSince (binds_after role k) (λ t. false) (moments log) t
first-earliest role k log t r = record { there = r.there; passes = r.binds; none_after = λ n h lt. refl; others_end = λ n h lt after. absurd (let bad = r.none_before n h lt in cc) }

pub rest-first : (role : Role) (k : Moment) (log : List Seen) (t : Moment) → first_rest role k log ≡ Some t → IsFirstRest role k log t
rest-first role k log t is = earliest-first role k log t (earliest_since-is (binds_after role k) (λ t. false) (moments log) t (moments-descend log) is)

pub first-rest : (role : Role) (k : Moment) (log : List Seen) (t : Moment) → IsFirstRest role k log t → first_rest role k log ≡ Some t
first-rest role k log t r = is-earliest_since (binds_after role k) (λ t. false) (moments log) t (moments-descend log) (first-earliest role k log t r)

pub R-at : (role : Role) (fates : ℕ → Option Fate) (x : Exchange) (log : List Seen) (n : ℕ)
    → is_so role fates (at_rest (shows_R x)) log n ≡ is_some_and (λ k. is_some_and (λ t. shows_R x t k) (first_rest role k log)) (moment log n)
R-at role fates x log n = go (moment log n) refl
  where
    go : (o : Option Moment) → moment log n ≡ o → is_some_and (λ k. some (λ t. is_after t k && (is_binding role t && shows_R x t k)) (moments log)) o
        ≡ is_some_and (λ k. is_some_and (λ t. shows_R x t k) (first_rest role k log)) o
    go None is = refl
    go (Some k) is = first-decides log k (moment-among log n k is) role x
