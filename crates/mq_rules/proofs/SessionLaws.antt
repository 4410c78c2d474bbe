-- Which moments a session has.
use Rattle.std.proofs.Common.{◌≡◌, ℕ, ◌+◌, ◌<◌, ◌≤◌, ◌==◌, nat_le, Bool, true, false, cond, ◌&&◌, ◌||◌, not, List, [], ◌∷◌, Option, Some, None, refl, ap, sym, ◌∙◌, subst, arith, ◌⊎◌, inl, inr}
use Rattle.std.proofs.lemmas.Bool.{eq-eqb, eqb-true, leb-true, leb-false}
use Rattle.mq_rules.specs.declared.role.Role.{Role}
use Rattle.mq_rules.specs.declared.fate.Fate.{Fate}
use Rattle.mq_rules.specs.declared.fate.Fate.TheVariants.{Void, Adrift, New, Forgotten, Resumed, Unasked, Unknown}
use Rattle.mq_rules.specs.declared.note.Note.{Note}
use Rattle.mq_rules.specs.declared.note.Note.TheVariants as notes
use Rattle.mq_rules.specs.declared.note.Seen.{Seen}
use Rattle.mq_rules.specs.Notes.{is_open, is_release}
use Rattle.mq_rules.specs.Moments.{Moment, newest, moments, Among}
use Rattle.mq_rules.specs.Connections.{begun, number, fate, latest_fate, accepts, resumes, accepted, resumed, begins, voided, any_accepted, has_session, with_first, session, fate_under, IsLoose, IsInSession}
use Rattle.mq_rules.proofs.BoolLaws.{differ, both_true, or_parts, or_left, or_right}
use Rattle.mq_rules.proofs.FateLaws.{begun-least, begun-open, begun-same, fate-elsewhere}

-- ---- the fates, if the latest connection has this one

under-own : (role : Role) (f : Option Fate) (log : List Seen) (c : ℕ) → c ≡ begun log → fate_under role f log c ≡ f
under-own role f log c is = ap (λ b. cond b f (fate role c log)) (eq-eqb c (begun log) is)

under-other : (role : Role) (f : Option Fate) (log : List Seen) (c : ℕ) → (c ≡ begun log → ⊥) → fate_under role f log c ≡ fate role c log
under-other role f log c h = ap (λ b. cond b f (fate role c log)) (differ c (begun log) h)

-- an event that is no OPEN leaves them as they are
under-same : (role : Role) (f : Option Fate) (e : Seen) (past : List Seen) → is_open e.note ≡ false → (c : ℕ) → c ≤ begun past → fate_under role f past c ≡ fate_under role f (e ∷ past) c
under-same role f e past h c le = go (c == begun past) refl
  where
    go : (b : Bool) → (c == begun past) ≡ b → fate_under role f past c ≡ fate_under role f (e ∷ past) c
    go true t =
        let is : c ≡ begun past = eqb-true c (begun past) t in
        under-own role f past c is ∙ sym (under-own role f (e ∷ past) c (is ∙ sym (begun-same e past h)))
    go false t =
        let ne : c ≡ begun past → ⊥ = λ is. absurd (let u : (c == begun past) ≡ true = eq-eqb c (begun past) is in cc) in
        let more = begun-same e past h in
        under-other role f past c ne ∙ sym (fate-elsewhere role c e past (omega arith)) ∙ sym (under-other role f (e ∷ past) c (λ is. ne (is ∙ more)))

-- after an OPEN the fate of the connection before is looked up
under-open : (role : Role) (f : Option Fate) (e : Seen) (past : List Seen) → is_open e.note ≡ true → (c : ℕ) → c ≤ begun past → fate_under role (latest_fate role past) past c ≡ fate_under role f (e ∷ past) c
under-open role f e past h c le =
    let more = begun-open e past h in
    before (c == begun past) refl ∙ sym (fate-elsewhere role c e past (omega arith)) ∙ sym (under-other role f (e ∷ past) c (λ is. omega arith))
  where
    before : (b : Bool) → (c == begun past) ≡ b → cond b (latest_fate role past) (fate role c past) ≡ fate role c past
    before true t = ap (λ n. fate role n past) (sym (eqb-true c (begun past) t))
    before false t = refl

-- ---- an earlier connection that is accepted

record Earlier (role : Role) (log : List Seen) : Type 0 where
  at : ℕ
  before : at < begun log
  is_accepted : accepted (fate role at log) ≡ true

earlier-more : (role : Role) (e : Seen) (past : List Seen) → Earlier role past → Earlier role (e ∷ past)
earlier-more role e past x =
    let least = begun-least e past in
    let lt = x.before in
    let lt2 : x.at < begun (e ∷ past) = omega arith in
    record { at = x.at; before = lt2; is_accepted = ap accepted (fate-elsewhere role x.at e past lt2) ∙ x.is_accepted }

earlier-open : (role : Role) (e : Seen) (past : List Seen) → is_open e.note ≡ true → accepted (latest_fate role past) ≡ true → Earlier role (e ∷ past)
earlier-open role e past h is =
    let more = begun-open e past h in
    let lt : begun past < begun (e ∷ past) = omega arith in
    record { at = begun past; before = lt; is_accepted = ap accepted (fate-elsewhere role (begun past) e past lt) ∙ is }

-- one before the latest connection is the one before it or earlier
earlier-less : (role : Role) (e : Seen) (past : List Seen) → Earlier role (e ∷ past) → (accepted (latest_fate role past) ≡ true) ⊎ Earlier role past
earlier-less role e past x = go (nat_le (begun past) x.at) refl
  where
    is : accepted (fate role x.at past) ≡ true
    is = ap accepted (sym (fate-elsewhere role x.at e past x.before)) ∙ x.is_accepted

    at_most : (b : Bool) (n k : ℕ) → k < cond b 1 0 + n → k ≤ n
    at_most true n k h = omega arith
    at_most false n k h = omega arith

    go : (b : Bool) → nat_le (begun past) x.at ≡ b → (accepted (latest_fate role past) ≡ true) ⊎ Earlier role past
    go true t =
        let least = leb-true (begun past) x.at t in
        let most = at_most (is_open e.note) (begun past) x.at x.before in
        let same : begun past ≡ x.at = omega arith in
        inl (ap (λ n. accepted (fate role n past)) same ∙ is)
    go false t = inr (record { at = x.at; before = leb-false (begun past) x.at t; is_accepted = is })

earlier-same : (role : Role) (e : Seen) (past : List Seen) → is_open e.note ≡ false → Earlier role (e ∷ past) → Earlier role past
earlier-same role e past h x =
    let same = begun-same e past h in
    let lt = x.before in
    record { at = x.at; before = omega arith; is_accepted = ap accepted (sym (fate-elsewhere role x.at e past lt)) ∙ x.is_accepted }

any-earlier : (role : Role) (f : Option Fate) (log : List Seen) → any_accepted role f log ≡ true → (accepted f ≡ true) ⊎ Earlier role log
any-earlier role f [] h = absurd (cc)
any-earlier role f (e ∷ past) h = go (is_open e.note) refl h (any-earlier role (latest_fate role past) past) (any-earlier role f past)
  where
    more : (accepted f ≡ true) ⊎ Earlier role past → (accepted f ≡ true) ⊎ Earlier role (e ∷ past)
    more (inl is) = inl is
    more (inr x) = inr (earlier-more role e past x)

    begins_one : is_open e.note ≡ true → (accepted (latest_fate role past) ≡ true) ⊎ Earlier role past → (accepted f ≡ true) ⊎ Earlier role (e ∷ past)
    begins_one t (inl is) = inr (earlier-open role e past t is)
    begins_one t (inr x) = inr (earlier-more role e past x)

    own : is_open e.note ≡ true → (accepted f ≡ true) ⊎ (any_accepted role (latest_fate role past) past ≡ true)
        → ((any_accepted role (latest_fate role past) past ≡ true) → (accepted (latest_fate role past) ≡ true) ⊎ Earlier role past) → (accepted f ≡ true) ⊎ Earlier role (e ∷ past)
    own t (inl is) ih = inl is
    own t (inr is) ih = begins_one t (ih is)

    go : (b : Bool) → is_open e.note ≡ b → cond b (accepted f || any_accepted role (latest_fate role past) past) (any_accepted role f past) ≡ true
        → (any_accepted role (latest_fate role past) past ≡ true → (accepted (latest_fate role past) ≡ true) ⊎ Earlier role past)
        → (any_accepted role f past ≡ true → (accepted f ≡ true) ⊎ Earlier role past) → (accepted f ≡ true) ⊎ Earlier role (e ∷ past)
    go true t h latest same = own t (or_parts (accepted f) (any_accepted role (latest_fate role past) past) h) latest
    go false t h latest same = more (same h)

-- the latest connection, if it is accepted and has begun
accepted-any : (role : Role) (f : Option Fate) (log : List Seen) → accepted f ≡ true → 0 < begun log → any_accepted role f log ≡ true
accepted-any role f [] h some = absurd (omega arith)
accepted-any role f (e ∷ past) h some = go (is_open e.note) some (accepted-any role f past h)
  where
    go : (b : Bool) → 0 < cond b 1 0 + begun past → (0 < begun past → any_accepted role f past ≡ true) → cond b (accepted f || any_accepted role (latest_fate role past) past) (any_accepted role f past) ≡ true
    go true some before = or_left (accepted f) (any_accepted role (latest_fate role past) past) h
    go false some before = before (omega arith)

has_begun : (role : Role) (log : List Seen) → accepted (latest_fate role log) ≡ true → 0 < begun log
has_begun role log h = go (begun log == 0) refl
  where
    go : (b : Bool) → (begun log == 0) ≡ b → 0 < begun log
    go true t = absurd (let void : latest_fate role log ≡ Some Void = ap (λ n. fate role n log) (eqb-true (begun log) 0 t) in let never : accepted (Some Void) ≡ true = ap accepted (sym void) ∙ h in cc)
    go false t = let ne : begun log ≡ 0 → ⊥ = λ is. absurd (let u : (begun log == 0) ≡ true = eq-eqb (begun log) 0 is in cc) in omega arith

earlier-any : (role : Role) (f : Option Fate) (log : List Seen) → Earlier role log → any_accepted role f log ≡ true
earlier-any role f [] x = absurd (let lt = x.before in omega arith)
earlier-any role f (e ∷ past) x = go (is_open e.note) refl (earlier-any role (latest_fate role past) past) (earlier-any role f past)
  where
    latest : (accepted (latest_fate role past) ≡ true) ⊎ Earlier role past → (Earlier role past → any_accepted role (latest_fate role past) past ≡ true) → any_accepted role (latest_fate role past) past ≡ true
    latest (inl is) before = accepted-any role (latest_fate role past) past is (has_begun role past is)
    latest (inr y) before = before y

    go : (b : Bool) → is_open e.note ≡ b → (Earlier role past → any_accepted role (latest_fate role past) past ≡ true) → (Earlier role past → any_accepted role f past ≡ true)
        → cond b (accepted f || any_accepted role (latest_fate role past) past) (any_accepted role f past) ≡ true
    go true t before same = or_right (accepted f) (any_accepted role (latest_fate role past) past) (latest (earlier-less role e past x) before)
    go false t before same = same (earlier-same role e past t x)

-- ---- membership where fates are alike

loose-alike : (fates others : ℕ → Option Fate) (n : ℕ) (m : Moment) → number m ≤ n → ((d : ℕ) → d ≤ n → fates d ≡ others d) → IsLoose fates m → IsLoose others m
loose-alike fates others n m le same l =
    let lt = l.begun_before in
    record {
      is_released = l.is_released;
      on_void = ap voided (sym (same (number m) le)) ∙ l.on_void;
      earlier = l.earlier;
      begun_before = l.begun_before;
      is_accepted = ap accepted (sym (same l.earlier (omega arith))) ∙ l.is_accepted;
    }

belongs-alike : (fates others : ℕ → Option Fate) (n : ℕ) (m : Moment) → number m ≤ n → ((d : ℕ) → d ≤ n → fates d ≡ others d)
    → (accepted (fates (number m)) ≡ true) ⊎ IsLoose fates m → (accepted (others (number m)) ≡ true) ⊎ IsLoose others m
belongs-alike fates others n m le same (inl is) = inl (ap accepted (sym (same (number m) le)) ∙ is)
belongs-alike fates others n m le same (inr l) = inr (loose-alike fates others n m le same l)

-- in the session of a later connection too, where each accepted one between is resumed
later-session : (fates others : ℕ → Option Fate) (n c : ℕ) (m : Moment) → number m ≤ n → ((d : ℕ) → d ≤ n → fates d ≡ others d)
    → ((d : ℕ) → n < d → d ≤ c → accepted (others d) ≡ true → resumed (others d) ≡ true) → IsInSession fates n m → IsInSession others c m
later-session fates others n c m le same between s = record {
  belongs = belongs-alike fates others n m le same s.belongs;
  all_resumed = λ d gt most is. go d gt most is (nat_le d n) refl;
}
  where
    go : (d : ℕ) → number m < d → d ≤ c → accepted (others d) ≡ true → (b : Bool) → nat_le d n ≡ b → resumed (others d) ≡ true
    go d gt most is true t =
        let at_most = leb-true d n t in
        ap resumed (sym (same d at_most)) ∙ s.all_resumed d gt at_most (ap accepted (same d at_most) ∙ is)
    go d gt most is false t = between d (leb-false d n t) most is

-- and in that of an earlier one that has begun
earlier-session : (fates others : ℕ → Option Fate) (n c : ℕ) (m : Moment) → number m ≤ n → n ≤ c → ((d : ℕ) → d ≤ n → fates d ≡ others d) → IsInSession others c m → IsInSession fates n m
earlier-session fates others n c m le fits same s = record {
  belongs = belongs-alike others fates n m le (λ d at_most. sym (same d at_most)) s.belongs;
  all_resumed = λ d gt most is. ap resumed (same d most) ∙ s.all_resumed d gt (omega arith) (ap accepted (sym (same d most)) ∙ is);
}

-- ---- membership, both ways

among-number : (m : Moment) (log : List Seen) → Among m (moments log) → number m ≤ begun log
among-number m [] h = absurd h
among-number m (e ∷ past) (inl is) = let same : number m ≡ begun (e ∷ past) = ap number is in omega arith
among-number m (e ∷ past) (inr h) = let least = begun-least e past in let le = among-number m past h in omega arith

with_first-cases : (b : Bool) (m n : Moment) (ms : List Moment) → Among m (with_first b n ms) → ((b ≡ true) × (m ≡ n)) ⊎ Among m ms
with_first-cases true m n ms (inl is) = inl (refl, is)
with_first-cases true m n ms (inr h) = inr h
with_first-cases false m n ms h = inr h

with_first-first : (b : Bool) (m n : Moment) (ms : List Moment) → b ≡ true → m ≡ n → Among m (with_first b n ms)
with_first-first true m n ms h is = inl is
with_first-first false m n ms h is = absurd (cc)

with_first-later : (b : Bool) (m n : Moment) (ms : List Moment) → Among m ms → Among m (with_first b n ms)
with_first-later true m n ms h = inr h
with_first-later false m n ms h = h

-- an OPEN is no RELEASE
release-open : (n : Note) → is_release n ≡ true → is_open n ≡ false
release-open (notes.Release identifier) h = refl
release-open notes.Open h = absurd (cc)
release-open (notes.Close cuts part) h = absurd (cc)
release-open notes.Rest h = absurd (cc)
release-open (notes.Sent item) h = absurd (cc)
release-open (notes.Recv item) h = absurd (cc)

accepted_not_voided : (f : Option Fate) → accepted f ≡ true → voided f ≡ false
accepted_not_voided None h = absurd (cc)
accepted_not_voided (Some Void) h = absurd (cc)
accepted_not_voided (Some Adrift) h = absurd (cc)
accepted_not_voided (Some New) h = refl
accepted_not_voided (Some Forgotten) h = refl
accepted_not_voided (Some Resumed) h = refl
accepted_not_voided (Some Unasked) h = refl
accepted_not_voided (Some Unknown) h = absurd (cc)

begins_resumes : (f : Option Fate) → begins f ≡ false → accepted f ≡ true → resumed f ≡ true
begins_resumes None h is = absurd (cc)
begins_resumes (Some f) h is = go (accepts f) (resumes f) h is
  where
    go : (a r : Bool) → (a && not r) ≡ false → a ≡ true → r ≡ true
    go true true h is = refl
    go true false h is = absurd (cc)
    go false r h is = absurd (cc)

resumes_begins : (f : Option Fate) → (accepted f ≡ true → resumed f ≡ true) → begins f ≡ false
resumes_begins None h = refl
resumes_begins (Some f) h = go (accepts f) (resumes f) h
  where
    go : (a r : Bool) → (a ≡ true → r ≡ true) → (a && not r) ≡ false
    go false r h = refl
    go true true h = refl
    go true false h = absurd (let never = h refl in cc)

-- the newest moment is in the session exactly where `has_session` says so
newest-belongs : (role : Role) (f : Option Fate) (e : Seen) (past : List Seen) → has_session role f e past ≡ true
    → (accepted (fate_under role f (e ∷ past) (begun (e ∷ past))) ≡ true) ⊎ IsLoose (fate_under role f (e ∷ past)) (newest e past)
newest-belongs role f e past h = go (or_parts (accepted f) (is_release e.note && (voided f && any_accepted role f past)) h)
  where
    own : fate_under role f (e ∷ past) (begun (e ∷ past)) ≡ f
    own = under-own role f (e ∷ past) (begun (e ∷ past)) refl

    loose : is_release e.note ≡ true → voided f ≡ true → (accepted f ≡ true) ⊎ Earlier role past → IsLoose (fate_under role f (e ∷ past)) (newest e past)
    loose released void (inl is) = absurd (let never = accepted_not_voided f is in cc)
    loose released void (inr x) =
        let y = earlier-more role e past x in
        let lt = y.before in
        record {
          is_released = released;
          on_void = ap voided own ∙ void;
          earlier = y.at;
          begun_before = lt;
          is_accepted = ap accepted (under-other role f (e ∷ past) y.at (λ is. omega arith)) ∙ y.is_accepted;
        }

    go : (accepted f ≡ true) ⊎ ((is_release e.note && (voided f && any_accepted role f past)) ≡ true) → (accepted (fate_under role f (e ∷ past) (begun (e ∷ past))) ≡ true) ⊎ IsLoose (fate_under role f (e ∷ past)) (newest e past)
    go (inl is) = inl (ap accepted own ∙ is)
    go (inr is) =
        let parts = both_true (is_release e.note) (voided f && any_accepted role f past) is in
        let others = both_true (voided f) (any_accepted role f past) parts.1 in
        inr (loose parts.0 others.0 (any-earlier role f past others.1))

belongs-newest : (role : Role) (f : Option Fate) (e : Seen) (past : List Seen)
    → (accepted (fate_under role f (e ∷ past) (begun (e ∷ past))) ≡ true) ⊎ IsLoose (fate_under role f (e ∷ past)) (newest e past) → has_session role f e past ≡ true
belongs-newest role f e past (inl is) =
    or_left (accepted f) (is_release e.note && (voided f && any_accepted role f past)) (ap accepted (sym (under-own role f (e ∷ past) (begun (e ∷ past)) refl)) ∙ is)
belongs-newest role f e past (inr l) =
    let lt = l.begun_before in
    let x : Earlier role (e ∷ past) = record { at = l.earlier; before = lt; is_accepted = ap accepted (sym (under-other role f (e ∷ past) l.earlier (λ is. omega arith))) ∙ l.is_accepted } in
    let any = earlier-any role f past (earlier-same role e past (release-open e.note l.is_released) x) in
    let void : voided f ≡ true = ap voided (sym (under-own role f (e ∷ past) (begun (e ∷ past)) refl)) ∙ l.on_void in
    or_right (accepted f) (is_release e.note && (voided f && any_accepted role f past))
    (ap (λ b. b && (voided f && any_accepted role f past)) l.is_released ∙ ap (λ b. b && any_accepted role f past) void ∙ any)

pub session-members : (role : Role) (f : Option Fate) (log : List Seen) (m : Moment) → Among m (session role f log) → Among m (moments log) × IsInSession (fate_under role f log) (begun log) m
session-members role f [] m h = absurd h
session-members role f (e ∷ past) m h =
    go (with_first-cases (has_session role f e past) m (newest e past) (cond (is_open e.note) (cond (begins f) [] (session role (latest_fate role past) past)) (session role f past)) h)
    (session-members role (latest_fate role past) past m) (session-members role f past m)
  where
    Member : Type 0
    Member = Among m (moments (e ∷ past)) × IsInSession (fate_under role f (e ∷ past)) (begun (e ∷ past)) m

    first : has_session role f e past ≡ true → IsInSession (fate_under role f (e ∷ past)) (begun (e ∷ past)) (newest e past)
    first h = record { belongs = newest-belongs role f e past h; all_resumed = λ d gt le is. absurd (omega arith) }

    opened : is_open e.note ≡ true → begins f ≡ false → Among m (moments past) × IsInSession (fate_under role (latest_fate role past) past) (begun past) m → Member
    opened t new s = (
      inr s.0,
      later-session (fate_under role (latest_fate role past) past) (fate_under role f (e ∷ past)) (begun past) (begun (e ∷ past)) m (among-number m past s.0)
          (under-open role f e past t)
          (λ d gt le is.
          let own : fate_under role f (e ∷ past) d ≡ f = under-own role f (e ∷ past) d (let more = begun-open e past t in omega arith) in
          ap resumed own ∙ begins_resumes f new (ap accepted (sym own) ∙ is))
          s.1,
    )

    on : is_open e.note ≡ false → Among m (moments past) × IsInSession (fate_under role f past) (begun past) m → Member
    on t s = (
      inr s.0,
      later-session (fate_under role f past) (fate_under role f (e ∷ past)) (begun past) (begun (e ∷ past)) m (among-number m past s.0) (under-same role f e past t)
          (λ d gt le is. absurd (let same = begun-same e past t in omega arith)) s.1,
    )

    Before : Option Fate → Type 0
    Before g = Among m (session role g past) → Among m (moments past) × IsInSession (fate_under role g past) (begun past) m

    rest : (b new : Bool) → is_open e.note ≡ b → begins f ≡ new → Among m (cond b (cond new [] (session role (latest_fate role past) past)) (session role f past)) → Before (latest_fate role past) → Before f → Member
    rest true true t n h latest same = absurd h
    rest true false t n h latest same = opened t n (latest h)
    rest false new t n h latest same = on t (same h)

    go : ((has_session role f e past ≡ true) × (m ≡ newest e past)) ⊎ Among m (cond (is_open e.note) (cond (begins f) [] (session role (latest_fate role past) past)) (session role f past))
        → Before (latest_fate role past) → Before f → Member
    go (inl p) latest same = (inl p.1, subst (IsInSession (fate_under role f (e ∷ past)) (begun (e ∷ past))) (sym p.1) (first p.0))
    go (inr h) latest same = rest (is_open e.note) (begins f) refl refl h latest same

pub members-session : (role : Role) (f : Option Fate) (log : List Seen) (m : Moment) → Among m (moments log) → IsInSession (fate_under role f log) (begun log) m → Among m (session role f log)
members-session role f [] m h s = absurd h
members-session role f (e ∷ past) m h s = go h (members-session role (latest_fate role past) past m) (members-session role f past m)
  where
    Before : Option Fate → Type 0
    Before g = Among m (moments past) → IsInSession (fate_under role g past) (begun past) m → Among m (session role g past)

    opened : Among m (moments past) → is_open e.note ≡ true → Before (latest_fate role past) → (new : Bool) → begins f ≡ new → Among m (cond new [] (session role (latest_fate role past) past))
    opened h t before true n =
        let more = begun-open e past t in
        let le = among-number m past h in
        let own : fate_under role f (e ∷ past) (begun (e ∷ past)) ≡ f = under-own role f (e ∷ past) (begun (e ∷ past)) refl in
        let never = resumes_begins f (λ is. ap resumed (sym own) ∙ s.all_resumed (begun (e ∷ past)) (omega arith) (omega arith) (ap accepted own ∙ is)) in
        absurd (cc)
    opened h t before false n =
        let more = begun-open e past t in
        before h
        (earlier-session (fate_under role (latest_fate role past) past) (fate_under role f (e ∷ past)) (begun past) (begun (e ∷ past)) m (among-number m past h) (omega arith) (under-open role f e past t) s)

    rest : Among m (moments past) → Before (latest_fate role past) → Before f → (b : Bool) → is_open e.note ≡ b → Among m (cond b (cond (begins f) [] (session role (latest_fate role past) past)) (session role f past))
    rest h latest before true t = opened h t latest (begins f) refl
    rest h latest before false t =
        let same = begun-same e past t in
        before h (earlier-session (fate_under role f past) (fate_under role f (e ∷ past)) (begun past) (begun (e ∷ past)) m (among-number m past h) (omega arith) (under-same role f e past t) s)

    go : (m ≡ newest e past) ⊎ Among m (moments past) → Before (latest_fate role past) → Before f → Among m (session role f (e ∷ past))
    go (inl is) latest before = with_first-first (has_session role f e past) m (newest e past) (cond (is_open e.note) (cond (begins f) [] (session role (latest_fate role past) past)) (session role f past))
        (belongs-newest role f e past (subst (IsInSession (fate_under role f (e ∷ past)) (begun (e ∷ past))) is s).belongs) is
    go (inr h) latest before =
        with_first-later (has_session role f e past) m (newest e past) (cond (is_open e.note) (cond (begins f) [] (session role (latest_fate role past) past)) (session role f past)) (rest h latest before (is_open e.note) refl)
