-- What is kept of a session, in a log in order.
use Rattle.std.proofs.Common.{◌≡◌, Bool, true, false, cond, ◌&&◌, ◌||◌, List, [], ◌∷◌, Option, Some, None, refl, ap, sym, ◌∙◌}
use Rattle.std.specs.Prelude.{is_some}
use Rattle.std.proofs.lemmas.Bool.{false_from_ne_true}
use Rattle.std.specs.Option.{option_or}
use Rattle.mq_rules.specs.declared.role.Role.{Role}
use Rattle.mq_rules.specs.declared.fate.Fate.{Fate}
use Rattle.mq_rules.specs.declared.note.Note.{Note}
use Rattle.mq_rules.specs.declared.note.Note.TheVariants as notes
use Rattle.mq_rules.specs.declared.note.Seen.{Seen}
use Rattle.mq_rules.specs.Notes.{is_open, is_release, decides, needs_session}
use Rattle.mq_rules.specs.Moments.{Moment, newest, some, since, latest}
use Rattle.mq_rules.specs.Connections.{latest_fate, gives_fate, accepts, is_void, begins, any_accepted, has_session, with_first, session, IsInOrder}
use Rattle.mq_rules.specs.Folds.{folded, ByPackets, where_in, kept_by, since_by, some_by, latest_by}
use Rattle.mq_rules.proofs.Exports.{begins-gives, latest_fate-next, under-next}

-- ---- the words on moments are folds

pub since-folded : (starts ends : Moment → Bool) (ms : List Moment) → since starts ends ms ≡ folded (since_by starts ends) false ms
since-folded starts ends [] = refl
since-folded starts ends (m ∷ ms) = ap (since_by starts ends m) (since-folded starts ends ms)

pub some-folded : (test : Moment → Bool) (ms : List Moment) → some test ms ≡ folded (some_by test) false ms
some-folded test [] = refl
some-folded test (m ∷ ms) = ap (some_by test m) (some-folded test ms)

pub latest-folded : (test : Moment → Bool) (ms : List Moment) → latest test ms ≡ folded (latest_by test) None ms
latest-folded test [] = refl
latest-folded test (m ∷ ms) = ap (latest_by test m) (latest-folded test ms)

-- ---- in a log in order, from the fate before the event

pub open-idle : (n : Note) → is_open n ≡ true → needs_session n ≡ false
open-idle notes.Open h = refl
open-idle (notes.Close cuts part) h = absurd (cc)
open-idle notes.Rest h = absurd (cc)
open-idle (notes.Release identifier) h = absurd (cc)
open-idle (notes.Sent item) h = absurd (cc)
open-idle (notes.Recv item) h = absurd (cc)

-- what needs a session comes on no undecided connection
undecided-idle : (n : Bool) (o : Option Fate) → (n ≡ true → is_some o ≡ true) → o ≡ None → n ≡ false
undecided-idle n o order h = false_from_ne_true n (λ t. absurd (let there = order t in let never : is_some o ≡ false = ap is_some h in cc))

option_or-left : {A : Type 0} (o p : Option A) → option_or o p ≡ None → o ≡ None
option_or-left None p h = refl
option_or-left (Some a) p h = absurd (cc)

module _ {A : Type 0} (g : Moment → A → A) (z : A) where
  -- what an event keeps that changes nothing
  with_first-idle : (b : Bool) (m : Moment) (ms : List Moment) → ((a : A) → g m a ≡ a) → folded g z (with_first b m ms) ≡ folded g z ms
  with_first-idle true m ms idle = idle (folded g z ms)
  with_first-idle false m ms idle = refl

module _ {A : Type 0} (g : Moment → A → A) (z : A) (packets : ByPackets g) (role : Role) where
  -- on an undecided connection nothing has been of the session
  undecided : (past : List Seen) → IsInOrder role past → latest_fate role past ≡ None → (f : Option Fate)
      → folded g z (session role f past) ≡ cond (begins f) z (folded g z (session role None past))
  undecided [] order h f = absurd (cc)
  undecided (e ∷ past) order h f = go (is_open e.note) refl (sym (latest_fate-next role e past) ∙ h) (undecided past order.1)
    where
      Before : Type 0
      Before = latest_fate role past ≡ None → (f : Option Fate) → folded g z (session role f past) ≡ cond (begins f) z (folded g z (session role None past))

      rest : Bool → Option Fate → List Moment
      rest b f = cond b (cond (begins f) [] (session role (latest_fate role past) past)) (session role f past)

      new : (b : Bool) → folded g z (cond b [] (session role (latest_fate role past) past)) ≡ cond b z (folded g z (session role (latest_fate role past) past))
      new true = refl
      new false = refl

      go : (b : Bool) → is_open e.note ≡ b → cond b None (option_or (latest_fate role past) (gives_fate role (newest e past))) ≡ None → Before
          → folded g z (with_first (has_session role f e past) (newest e past) (rest b f)) ≡ cond (begins f) z (folded g z (with_first (has_session role None e past) (newest e past) (rest b None)))
      go true t h before =
          let idle : (a : A) → g (newest e past) a ≡ a = λ a. packets.idle (newest e past) a (open-idle e.note t) in
          with_first-idle g z (has_session role f e past) (newest e past) (cond (begins f) [] (session role (latest_fate role past) past)) idle
          ∙ new (begins f)
          ∙ ap (cond (begins f) z) (sym (with_first-idle g z (has_session role None e past) (newest e past) (session role (latest_fate role past) past) idle))
      go false t h before =
          let none = option_or-left (latest_fate role past) (gives_fate role (newest e past)) h in
          let idle : (a : A) → g (newest e past) a ≡ a = λ a. packets.idle (newest e past) a (undecided-idle (needs_session e.note) (latest_fate role past) order.0 none) in
          with_first-idle g z (has_session role f e past) (newest e past) (session role f past) idle
          ∙ before none f
          ∙ ap (cond (begins f) z) (sym (with_first-idle g z (has_session role None e past) (newest e past) (session role None past) idle))

  -- a RELEASE on a void connection changes nothing, and no other event there is in a session
  kept-where : (e : Seen) (past : List Seen) (f : Fate) (a : A) → where_in (has_session role (Some f) e past) (g (newest e past)) a ≡ cond (accepts f) (g (newest e past) a) a
  kept-where e past f a = go (accepts f) (is_release e.note) (is_void f && any_accepted role (Some f) past) refl
    where
      go : (inside released any : Bool) → is_release e.note ≡ released → where_in (inside || (released && any)) (g (newest e past)) a ≡ cond inside (g (newest e past) a) a
      go true released any h = refl
      go false true true h = packets.no_release (newest e past) a h
      go false true false h = refl
      go false false any h = refl

  -- the latest connection was decided
  next-decided : (e : Seen) (past : List Seen) (f : Fate) → is_open e.note ≡ false
      → folded g z (session role (Some f) (e ∷ past)) ≡ kept_by role (Some f) e.note (g (newest e past)) z (folded g z (session role (Some f) past))
  next-decided e past f t =
      let old : A = folded g z (session role (Some f) past) in
      let before : A = folded g z (session role (latest_fate role past) past) in
      under-next g z role (Some f) e past
      ∙ ap (λ b. where_in (has_session role (Some f) e past) (g (newest e past)) (cond b (cond (begins (Some f)) z before) old)) t
      ∙ kept-where e past f old
      ∙ sym (ap (λ b. cond b old (cond (accepts f) (g (newest e past) old) old)) t)

  -- it was not, and this event may decide it
  next-undecided : (e : Seen) (past : List Seen) → is_open e.note ≡ false → IsInOrder role (e ∷ past) → latest_fate role past ≡ None
      → folded g z (session role (gives_fate role (newest e past)) (e ∷ past)) ≡ kept_by role None e.note (g (newest e past)) z (folded g z (session role None past))
  next-undecided e past t order none =
      let d : Option Fate = gives_fate role (newest e past) in
      let old : A = folded g z (session role None past) in
      let idle : (a : A) → g (newest e past) a ≡ a = λ a. packets.idle (newest e past) a (undecided-idle (needs_session e.note) (latest_fate role past) order.0 none) in
      with_first-idle g z (has_session role d e past) (newest e past) (cond (is_open e.note) (cond (begins d) [] (session role (latest_fate role past) past)) (session role d past)) idle
      ∙ ap (λ b. folded g z (cond b (cond (begins d) [] (session role (latest_fate role past) past)) (session role d past))) t
      ∙ undecided past order.1 none d
      ∙ ap (λ b. cond b z old) (begins-gives role (newest e past))
      ∙ sym (ap (λ b. cond b old (cond (begins (decides role e.note)) z old)) t)

  next-opened : (e : Seen) (past : List Seen) → is_open e.note ≡ true
      → folded g z (session role None (e ∷ past)) ≡ folded g z (session role (latest_fate role past) past)
  next-opened e past t =
      with_first-idle g z (has_session role None e past) (newest e past) (cond (is_open e.note) (session role (latest_fate role past) past) (session role None past)) (λ a. packets.idle (newest e past) a (open-idle e.note t))
      ∙ ap (λ b. folded g z (cond b (session role (latest_fate role past) past) (session role None past))) t

  kept-open : (f : Option Fate) (n : Note) (act : A → A) (old : A) → is_open n ≡ true → kept_by role f n act z old ≡ old
  kept-open None n act old t = ap (λ b. cond b old (cond (begins (decides role n)) z old)) t
  kept-open (Some f) n act old t = ap (λ b. cond b old (cond (accepts f) (act old) old)) t

  pub folded-next : (e : Seen) (past : List Seen) → IsInOrder role (e ∷ past)
      → folded g z (session role (latest_fate role (e ∷ past)) (e ∷ past)) ≡ kept_by role (latest_fate role past) e.note (g (newest e past)) z (folded g z (session role (latest_fate role past) past))
  folded-next e past order =
      ap (λ f. folded g z (session role f (e ∷ past))) (latest_fate-next role e past) ∙ go (is_open e.note) (latest_fate role past) refl refl
    where
      go : (b : Bool) (o : Option Fate) → is_open e.note ≡ b → latest_fate role past ≡ o
          → folded g z (session role (cond b None (option_or (latest_fate role past) (gives_fate role (newest e past)))) (e ∷ past))
          ≡ kept_by role (latest_fate role past) e.note (g (newest e past)) z (folded g z (session role (latest_fate role past) past))
      go true o t is =
          next-opened e past t ∙ sym (kept-open (latest_fate role past) e.note (g (newest e past)) (folded g z (session role (latest_fate role past) past)) t)
      go false (Some f) t is =
          ap (λ o. folded g z (session role (option_or o (gives_fate role (newest e past))) (e ∷ past))) is
          ∙ next-decided e past f t
          ∙ sym (ap (λ o. kept_by role o e.note (g (newest e past)) z (folded g z (session role o past))) is)
      go false None t is =
          ap (λ o. folded g z (session role (option_or o (gives_fate role (newest e past))) (e ∷ past))) is
          ∙ next-undecided e past t order is
          ∙ sym (ap (λ o. kept_by role o e.note (g (newest e past)) z (folded g z (session role o past))) is)
