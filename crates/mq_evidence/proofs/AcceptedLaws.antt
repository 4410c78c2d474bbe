-- The connections that were accepted, with one event more.
use Rattle.std.proofs.Common.{◌≡◌, ℕ, ◌+◌, ◌<◌, Bool, true, false, cond, ◌&&◌, ◌||◌, not, nat_lt, List, [], ◌∷◌, Option, Some, None, refl, ap, sym, ◌∙◌, arith, zero-add}
use Rattle.std.specs.Prelude.{is_some, is_none, option_map}
use Rattle.std.specs.Option.{option_or}
use Rattle.std.proofs.lemmas.Bool.{lt-ltb, le-ltb}
use Rattle.mq_rules.specs.declared.role.Role.{Role}
use Rattle.mq_rules.specs.declared.role.Role.TheVariants.{Server}
use Rattle.mq_rules.specs.declared.fate.Fate.{Fate}
use Rattle.mq_rules.specs.declared.rule.Rule.TheVariants.{C08}
use Rattle.mq_rules.specs.declared.note.Seen.{Seen}
use Rattle.mq_rules.specs.Notes.{is_open, decides}
use Rattle.mq_rules.specs.Moments.{Moment, newest, position, note, moments, latest}
use Rattle.mq_rules.specs.Connections.{begun, number, accepts_at, accepted, latest_outcome, latest_fate, gives_fate}
use Rattle.mq_rules.proofs.Exports.{begun-least, fate-outcome, latest_fate-next, gives-decides}
use Rattle.mq_evidence.specs.Evidence.{it, found, reason, accepted_before}

-- ---- whether the latest connection is decided

pub decided-next : (role : Role) (e : Seen) (past : List Seen) → is_some (latest_outcome role (e ∷ past)) ≡ (not (is_open e.note) && (is_some (latest_outcome role past) || is_some (decides role e.note)))
decided-next role e past =
    sym (fate-outcome role (e ∷ past))
    ∙ ap is_some (latest_fate-next role e past)
    ∙ go (is_open e.note) (latest_fate role past) (gives_fate role (newest e past))
    ∙ ap (λ b. not (is_open e.note) && (b || is_some (gives_fate role (newest e past)))) (fate-outcome role past)
    ∙ ap (λ b. not (is_open e.note) && (is_some (latest_outcome role past) || b)) (gives-decides role e past)
  where
    go : (b : Bool) (f g : Option Fate) → is_some (cond b None (option_or f g)) ≡ (not b && (is_some f || is_some g))
    go true f g = refl
    go false None g = refl
    go false (Some x) g = refl

-- the event accepts its connection, if that wasn't decided before
pub accepts-first : (role : Role) (m : Moment) → accepts_at role m ≡ (not (is_some (latest_outcome role m.past)) && accepted (decides role (note m)))
accepts-first role m = go (latest_outcome role m.past)
  where
    go : (o : Option Fate) → (is_none o && accepted (decides role (note m))) ≡ (not (is_some o) && accepted (decides role (note m)))
    go None = refl
    go (Some f) = refl

-- ---- the last one that was accepted before a connection

-- all moments are of connections that have begun
all-before : (role : Role) (past : List Seen) (c : ℕ) → begun past < c → latest (λ m. accepts_at role m && nat_lt (number m) c) (moments past) ≡ latest (accepts_at role) (moments past)
all-before role [] c h = refl
all-before role (e ∷ past) c h =
    ap (λ b. cond (accepts_at role (newest e past) && b) (Some (newest e past)) (latest (λ m. accepts_at role m && nat_lt (number m) c) (moments past))) (lt-ltb (begun (e ∷ past)) c h)
    ∙ go (accepts_at role (newest e past)) (latest (λ m. accepts_at role m && nat_lt (number m) c) (moments past)) (latest (accepts_at role) (moments past))
    (let least = begun-least e past in all-before role past c (omega arith))
  where
    go : (b : Bool) (o p : Option Moment) → o ≡ p → cond (b && true) (Some (newest e past)) o ≡ cond b (Some (newest e past)) p
    go true o p h = refl
    go false o p h = h

-- the connection of the next event is a new one, or the latest
before-of : (role : Role) (past : List Seen) (opens : Bool) → latest (λ m. accepts_at role m && nat_lt (number m) (cond opens 1 0 + begun past)) (moments past)
    ≡ cond opens (latest (accepts_at role) (moments past)) (latest (λ m. accepts_at role m && nat_lt (number m) (begun past)) (moments past))
before-of role past true = all-before role past (1 + begun past) (omega arith)
before-of role past false = ap (λ c. latest (λ m. accepts_at role m && nat_lt (number m) c) (moments past)) (zero-add (begun past))

moved : (b : Bool) (o p : Option Moment) → option_map position (cond b o p) ≡ cond b (option_map position o) (option_map position p)
moved true o p = refl
moved false o p = refl

pub before-next : (role : Role) (e : Seen) (past : List Seen) → option_map position (latest (λ m. accepts_at role m && nat_lt (number m) (begun (e ∷ past))) (moments (e ∷ past)))
    ≡ cond (is_open e.note) (option_map position (latest (accepts_at role) (moments past))) (option_map position (latest (λ m. accepts_at role m && nat_lt (number m) (begun past)) (moments past)))
before-next role e past =
    ap (λ b. option_map position (cond (accepts_at role (newest e past) && b) (Some (newest e past)) (latest (λ m. accepts_at role m && nat_lt (number m) (begun (e ∷ past))) (moments past))))
    (le-ltb (begun (e ∷ past)) (begun (e ∷ past)) (omega arith))
    ∙ go (accepts_at role (newest e past)) (latest (λ m. accepts_at role m && nat_lt (number m) (begun (e ∷ past))) (moments past))
    ∙ ap (option_map position) (before-of role past (is_open e.note))
    ∙ moved (is_open e.note) (latest (accepts_at role) (moments past)) (latest (λ m. accepts_at role m && nat_lt (number m) (begun past)) (moments past))
  where
    go : (b : Bool) (o : Option Moment) → option_map position (cond (b && false) (Some (newest e past)) o) ≡ option_map position o
    go true o = refl
    go false o = refl

-- so it is with the moment that looks back
pub before-found : (role : Role) (k : Moment) → option_map position (accepted_before role k)
    ≡ cond (is_open (note k)) (option_map position (latest (accepts_at role) (moments k.past))) (option_map position (latest (λ m. accepts_at role m && nat_lt (number m) (begun k.past)) (moments k.past)))
before-found role k =
    ap (option_map position) (before-of role k.past (is_open (note k)))
    ∙ moved (is_open (note k)) (latest (accepts_at role) (moments k.past)) (latest (λ m. accepts_at role m && nat_lt (number m) (begun k.past)) (moments k.past))

-- ---- the reason

pub C08-found : (role : Role) (f : Option Fate) (t : Option Moment) (k : Moment) → found (reason role C08) f t k ≡ it (accepted_before Server k)
C08-found role f t k = refl
