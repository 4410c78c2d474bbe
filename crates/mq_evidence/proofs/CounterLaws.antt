-- What is counted on a connection, with one event more.
use Rattle.std.proofs.Common.{◌≡◌, ℕ, ◌+◌, ◌-◌, ◌<◌, ◌≤◌, Bool, true, false, cond, ◌&&◌, ◌||◌, not, List, [], ◌∷◌, length, Option, Some, None, refl, ap, sym, subst, ◌∙◌, arith}
use Rattle.std.specs.Prelude.{is_some}
use Rattle.std.specs.Option.{option_or}
use Rattle.mq_rules.specs.declared.role.Role.{Role}
use Rattle.mq_rules.specs.declared.role.Role.TheVariants.{Client, Server}
use Rattle.mq_rules.specs.declared.fate.Fate.{Fate}
use Rattle.mq_rules.specs.declared.rule.Rule.TheVariants.{S07, E7R}
use Rattle.mq_rules.specs.declared.note.Note.{Note}
use Rattle.mq_rules.specs.declared.note.Note.TheVariants as notes
use Rattle.mq_rules.specs.declared.note.Seen.{Seen}
use Rattle.mq_rules.specs.declared.packet_note.ConnackNote.{ConnackNote}
use Rattle.mq_rules.specs.Notes.{is_open, connack_of, delivery_of, closer_of}
use Rattle.mq_rules.specs.Moments.{Moment, newest, position, those, count}
use Rattle.mq_rules.specs.Connections.{connection, first_connack}
use Rattle.mq_rules.specs.Identifiers.{is_delivery, is_closer, counts}
use Rattle.mq_rules.specs.Counter.{in_flight, in_flight_before}
use Rattle.mq_rules.proofs.Exports.{connection-newest, first_found-next}
use Rattle.mq_evidence.specs.Evidence.{found, reason}
use Rattle.mq_evidence.specs.Stretches.{longer}
use Rattle.mq_evidence.specs.Handshakes.{quota_evidence}
use Rattle.mq_evidence.specs.Counters.{pings_evidence, counted_by, counted, flown}

-- ---- the CONNACK

pub counts-kept : (role : Role) (e : Seen) (past : List Seen) → counts role (newest e past) ≡ counted_by role (is_some (first_connack role (connection past)))
counts-kept Client e past = refl
counts-kept Server e past = refl

pub greeted-next : (role : Role) (e : Seen) (past : List Seen) → is_some (first_connack role (connection (e ∷ past))) ≡ ((not (is_open e.note) && is_some (first_connack role (connection past))) || is_some (connack_of role e.note))
greeted-next role e past = ap is_some (first_found-next (connack_of role) e past) ∙ go (is_open e.note) (first_connack role (connection past)) (connack_of role e.note)
  where
    go : (b : Bool) (o p : Option ConnackNote) → is_some (option_or (cond b None o) p) ≡ ((not b && is_some o) || is_some p)
    go true o p = refl
    go false None p = refl
    go false (Some a) p = refl

-- ---- counts

pub count-next : (test : Moment → Bool) (e : Seen) (past : List Seen) → count test (connection (e ∷ past)) ≡ counted (test (newest e past)) (is_open e.note) (count test (connection past))
count-next test e past = ap (count test) (connection-newest e past) ∙ ap (λ n. cond (test (newest e past)) 1 0 + n) (go (is_open e.note))
  where
    go : (b : Bool) → count test (cond b [] (connection past)) ≡ cond b 0 (count test (connection past))
    go true = refl
    go false = refl

-- the latest connection is longer by the event
pub connection-longer : (e : Seen) (past : List Seen) → longer (is_open e.note) true (newest e past) (connection past) ≡ connection (e ∷ past)
connection-longer e past = sym (connection-newest e past)

-- an OPEN sends nothing, and receives nothing
open-idle : (n : Note) → is_open n ≡ true → (is_some (delivery_of n) ≡ false) × (is_some (closer_of n) ≡ false)
open-idle notes.Open h = (refl, refl)
open-idle _ h = absurd (cc)

pub flown-next : (role : Role) (e : Seen) (past : List Seen) → in_flight (those (counts role) (connection (e ∷ past)))
    ≡ flown (counted_by role (is_some (first_connack role (connection past)))) e.note (in_flight (those (counts role) (connection past)))
flown-next role e past =
    ap (λ ms. in_flight (those (counts role) ms)) (connection-newest e past)
    ∙ ap (λ b. in_flight (cond b (newest e past ∷ those (counts role) (cond (is_open e.note) [] (connection past))) (those (counts role) (cond (is_open e.note) [] (connection past))))) (counts-kept role e past)
    ∙ go (is_open e.note) refl (counted_by role (is_some (first_connack role (connection past))))
  where
    go : (b : Bool) → is_open e.note ≡ b → (c : Bool) → in_flight (cond c (newest e past ∷ those (counts role) (cond b [] (connection past))) (those (counts role) (cond b [] (connection past))))
        ≡ cond b 0 (cond c (cond (is_some (delivery_of e.note)) (in_flight (those (counts role) (connection past)) + 1) (cond (is_some (closer_of e.note)) (in_flight (those (counts role) (connection past)) - 1) (in_flight (those (counts role) (connection past)))))
        (in_flight (those (counts role) (connection past))))
    go true h true = let idle = open-idle e.note h in ap (λ d. cond d 1 (cond (is_some (closer_of e.note)) 0 0)) idle.0 ∙ ap (λ c. cond c 0 0) idle.1
    go true h false = refl
    go false h true = refl
    go false h false = refl

-- ---- there are fewer than events

in_flight-most : (ms : List Moment) → in_flight ms ≤ length ms
in_flight-most [] = omega arith
in_flight-most (m ∷ ms) = go (is_delivery m) (is_closer m) (in_flight-most ms)
  where
    go : (d c : Bool) → in_flight ms ≤ length ms → cond d (in_flight ms + 1) (cond c (in_flight ms - 1) (in_flight ms)) ≤ length (m ∷ ms)
    go true c h = omega arith
    go false true h = omega arith
    go false false h = omega arith

those-most : (test : Moment → Bool) (ms : List Moment) → length (those test ms) ≤ length ms
those-most test [] = omega arith
those-most test (m ∷ ms) = go (test m) (those-most test ms)
  where
    go : (b : Bool) → length (those test ms) ≤ length ms → length (cond b (m ∷ those test ms) (those test ms)) ≤ length (m ∷ ms)
    go true h = omega arith
    go false h = omega arith

count-most : (test : Moment → Bool) (ms : List Moment) → count test ms ≤ length ms
count-most test [] = omega arith
count-most test (m ∷ ms) = go (test m) (count-most test ms)
  where
    go : (b : Bool) → count test ms ≤ length ms → cond b 1 0 + count test ms ≤ length (m ∷ ms)
    go true h = omega arith
    go false h = omega arith

connection-most : (past : List Seen) → length (connection past) ≤ length past
connection-most [] = omega arith
connection-most (e ∷ past) = subst (λ (ms : List Moment). length ms ≤ length (e ∷ past)) (sym (connection-newest e past)) (go (is_open e.note) (connection-most past))
  where
    go : (b : Bool) → length (connection past) ≤ length past → length (newest e past ∷ cond b [] (connection past)) ≤ length (e ∷ past)
    go true h = omega arith
    go false h = omega arith

-- at the next position
pub flying-below : (role : Role) (m : Moment) (at n : ℕ) → position m ≡ at → n ≡ in_flight (those (counts role) (connection m.past)) → n < at
flying-below role m at n is counted_so =
    let a = in_flight-most (those (counts role) (connection m.past)) in
    let b = those-most (counts role) (connection m.past) in
    let c = connection-most m.past in
    omega arith

pub count-below : (test : Moment → Bool) (m : Moment) (at n : ℕ) → position m ≡ at → n ≡ count test (connection m.past) → n < at
count-below test m at n is counted_so =
    let a = count-most test (connection m.past) in
    let b = connection-most m.past in
    omega arith

-- ---- the reasons

pub S07-found : (role : Role) (f : Option Fate) (t : Option Moment) (k : Moment) → found (reason role S07) f t k ≡ quota_evidence role (in_flight_before role k + 1) (connection k.past)
S07-found Client f t k = refl
S07-found Server f t k = refl

pub E7R-found : (role : Role) (f : Option Fate) (t : Option Moment) (k : Moment) → found (reason role E7R) f t k ≡ pings_evidence (connection k.past)
E7R-found role f t k = refl
