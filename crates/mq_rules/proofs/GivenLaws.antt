-- The fate that an event gives to the latest connection.
use Rattle.std.proofs.Common.{◌≡◌, ℕ, ◌+◌, ◌<◌, ◌≤◌, ◌==◌, Bool, true, false, cond, List, [], ◌∷◌, Option, Some, None, is_some, refl, ap, sym, ◌∙◌, arith}
use Rattle.std.proofs.lemmas.Bool.{eqb-true, eq-eqb}
use Rattle.std.specs.Option.{option_or}
use Rattle.std.specs.Prelude.{option_map}
use Rattle.mq_rules.specs.declared.role.Role.{Role}
use Rattle.mq_rules.specs.declared.role.Role.TheVariants.{Client, Server}
use Rattle.mq_rules.specs.declared.fate.Fate.{Fate}
use Rattle.mq_rules.specs.declared.fate.Fate.TheVariants.{Void}
use Rattle.mq_rules.specs.declared.note.Note.{Note}
use Rattle.mq_rules.specs.declared.note.Note.TheVariants as notes
use Rattle.mq_rules.specs.declared.note.Seen.{Seen}
use Rattle.mq_rules.specs.Notes.{is_open, is_rest, decides, needs_session}
use Rattle.mq_rules.specs.Moments.{Moment, newest, moment, is_next}
use Rattle.mq_rules.specs.Connections.{number, begun, fate, fate_by_answer, gives_fate}
use Rattle.mq_rules.specs.Steps.{given}
use Rattle.mq_rules.proofs.BoolLaws.{differ, not_true}
use Rattle.mq_rules.proofs.StepLaws.{fate-step, fate-kept}
use Rattle.mq_rules.proofs.FateLaws.{open-gives}

-- ---- one event

-- no OPEN needs a session
pub open-sessionless : (n : Note) → is_open n ≡ true → needs_session n ≡ false
open-sessionless notes.Open h = refl
open-sessionless (notes.Close cuts part) h = absurd (cc)
open-sessionless notes.Rest h = absurd (cc)
open-sessionless (notes.Release i) h = absurd (cc)
open-sessionless (notes.Sent item) h = absurd (cc)
open-sessionless (notes.Recv item) h = absurd (cc)

-- no REST decides, and none is an OPEN
pub rest-undecided : (role : Role) (n : Note) → is_rest n ≡ true → decides role n ≡ None
rest-undecided Client notes.Rest h = refl
rest-undecided Server notes.Rest h = refl
rest-undecided role notes.Open h = absurd (cc)
rest-undecided role (notes.Close cuts part) h = absurd (cc)
rest-undecided role (notes.Release i) h = absurd (cc)
rest-undecided role (notes.Sent item) h = absurd (cc)
rest-undecided role (notes.Recv item) h = absurd (cc)

pub rest-opens-nothing : (n : Note) → is_rest n ≡ true → is_open n ≡ false
rest-opens-nothing notes.Rest h = refl
rest-opens-nothing notes.Open h = absurd (cc)
rest-opens-nothing (notes.Close cuts part) h = refl
rest-opens-nothing (notes.Release i) h = refl
rest-opens-nothing (notes.Sent item) h = refl
rest-opens-nothing (notes.Recv item) h = refl

-- so an event that gives a fate is no OPEN
pub gives-closed : (role : Role) (e : Seen) (past : List Seen) (f : Fate) → gives_fate role (newest e past) ≡ Some f → is_open e.note ≡ false
gives-closed role e past f h = not_true (is_open e.note) (λ t. let none : gives_fate role (newest e past) ≡ None = open-gives role e past t in absurd (cc))

-- nor does what a REST gives
pub rest-gives : (role : Role) (e : Seen) (past : List Seen) → is_rest e.note ≡ true → gives_fate role (newest e past) ≡ None
unfolding gives_fate
rest-gives role e past h = ap (option_map (fate_by_answer role (newest e past))) (rest-undecided role e.note h)

-- ---- numbers of connections

-- an OPEN begins one connection, and another event none
pub begun-open : (e : Seen) (past : List Seen) → is_open e.note ≡ true → begun (e ∷ past) ≡ 1 + begun past
begun-open e past h = ap (λ b. cond b 1 0 + begun past) h

pub begun-closed : (e : Seen) (past : List Seen) → is_open e.note ≡ false → begun (e ∷ past) ≡ begun past
begun-closed e past h = ap (λ b. cond b 1 0 + begun past) h ∙ omega arith

pub begun-grows : (e : Seen) (past : List Seen) → begun past ≤ begun (e ∷ past)
begun-grows e past = omega arith

-- a moment's connection has begun in the log
pub number-within : (log : List Seen) (k : ℕ) (m : Moment) → moment log k ≡ Some m → number m ≤ begun log
number-within [] k m h = absurd (cc)
number-within (e ∷ past) k m h = go (is_next past k) h (number-within past k m)
  where
    go : (b : Bool) → cond b (Some (newest e past)) (moment past k) ≡ Some m → (moment past k ≡ Some m → number m ≤ begun past) → number m ≤ begun (e ∷ past)
    go true h rest = let same : newest e past ≡ m = cc in let at : begun (e ∷ past) ≡ number m = ap number same in omega arith
    go false h rest = let le : number m ≤ begun past = rest h in let grows : begun past ≤ begun (e ∷ past) = begun-grows e past in omega arith

-- a connection that was decided at a moment is decided so in the log
pub fate-from : (role : Role) (c : ℕ) (f : Fate) (log : List Seen) (k : ℕ) (m : Moment) → moment log k ≡ Some m → fate role c m.past ≡ Some f → fate role c log ≡ Some f
fate-from role c f [] k m at h = absurd (cc)
fate-from role c f (e ∷ past) k m at h = fate-kept role c f e past (go (is_next past k) at (fate-from role c f past k m))
  where
    go : (b : Bool) → cond b (Some (newest e past)) (moment past k) ≡ Some m → (moment past k ≡ Some m → fate role c m.past ≡ Some f → fate role c past ≡ Some f) → fate role c past ≡ Some f
    go true at rest = let same : newest e past ≡ m = cc in ap (λ (n : Moment). fate role c n.past) same ∙ h
    go false at rest = rest at h

-- an event gives a fate to the latest connection alone, which is undecided before it, as it decides it
pub given-gives : (role : Role) (e : Seen) (past : List Seen) (c : ℕ) (f : Fate) → given role e past c ≡ Some f
    → (c ≡ begun past) × (is_open e.note ≡ false) × (gives_fate role (newest e past) ≡ Some f) × (fate role c past ≡ None)
given-gives role e past c f h = go (fate role c past) refl (begun (e ∷ past) == c) refl (ap (cond (is_some (fate role c past)) None) (sym (fate-step role c e past)) ∙ h)
  where
    go : (o : Option Fate) → fate role c past ≡ o → (b : Bool) → (begun (e ∷ past) == c) ≡ b → cond (is_some o) None (option_or o (cond b (gives_fate role (newest e past)) None)) ≡ Some f
        → (c ≡ begun past) × (is_open e.note ≡ false) × (gives_fate role (newest e past) ≡ Some f) × (fate role c past ≡ None)
    go (Some g) is b t h = absurd (cc)
    go None is false t h = absurd (cc)
    go None is true t h =
        let closed : is_open e.note ≡ false = gives-closed role e past f h in
        (sym (eqb-true (begun (e ∷ past)) c t) ∙ begun-closed e past closed, closed, h, is)
