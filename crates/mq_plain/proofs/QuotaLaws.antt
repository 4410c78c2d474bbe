-- The send quota, going back over a connection event by event.
use Rattle.std.proofs.Common.{◌≡◌, ℕ, zero, suc, ◌+◌, ◌-◌, ◌<◌, ◌≤◌, ◌==◌, Bool, true, false, cond, ◌&&◌, ◌||◌, nat_lt, nat_le, List, [], ◌∷◌, Option, Some, None, refl, ap, sym, ◌∙◌, arith}
use Rattle.std.specs.Prelude.{is_some}
use Rattle.std.proofs.lemmas.Bool.{eqb-true, lt-ltb, ltb-true, le-ltb, le-leb, leb-true}
use Rattle.std.specs.Option.{option_or}
use Rattle.mq_rules.specs.declared.role.Role.{Role}
use Rattle.mq_rules.specs.declared.role.Role.TheVariants.{Client, Server}
use Rattle.mq_rules.specs.declared.note.Note.{Note}
use Rattle.mq_rules.specs.declared.note.Note.TheVariants as notes
use Rattle.mq_rules.specs.declared.note.Seen.{Seen}
use Rattle.mq_rules.specs.Notes.{is_open, delivery_of, closer_of, connack_of}
use Rattle.mq_rules.specs.Moments.{Moment, newest, note, those, first_found, count, some_stretch}
use Rattle.mq_rules.specs.Connections.{connection}
use Rattle.mq_rules.specs.Pasts.{peer_receive_maximum}
use Rattle.mq_rules.specs.Identifiers.{is_delivery, is_closer, counts, passes, breaks_S07, is_used_up}
use Rattle.mq_rules.proofs.Exports.{same_test, both_true, connection-next}
use Rattle.mq_plain.specs.Quota.{counted, room_back}
use Rattle.mq_plain.proofs.HandshakeLaws.{first_found-next}

-- ---- tests on numbers

shifted : (a b c d : ℕ) → a + d ≡ c + b → nat_lt a b ≡ nat_lt c d
shifted a b c d h = same_test (nat_lt a b) (nat_lt c d)
    (λ t. let lt : a < b = ltb-true a b t in lt-ltb c d (omega arith))
    (λ t. let lt : c < d = ltb-true c d t in lt-ltb a b (omega arith))

strict : (a b c d : ℕ) → a + d ≡ c + b + 1 → nat_le a b ≡ nat_lt c d
strict a b c d h = same_test (nat_le a b) (nat_lt c d)
    (λ t. let le : a ≤ b = leb-true a b t in lt-ltb c d (omega arith))
    (λ t. let lt : c < d = ltb-true c d t in le-leb a b (omega arith))

none_over : (a : ℕ) → nat_lt a 0 ≡ false
none_over a = le-ltb a 0 (omega arith)

-- ---- one event

-- what is sent is not received
apart : (n : Note) → is_some (delivery_of n) ≡ true → is_some (closer_of n) ≡ false
apart notes.Open h = refl
apart (notes.Close cuts part) h = refl
apart notes.Rest h = refl
apart (notes.Release identifier) h = refl
apart (notes.Sent item) h = refl
apart (notes.Recv item) h = absurd (cc)

open-delivery : (n : Note) → is_open n ≡ true → is_some (delivery_of n) ≡ false
open-delivery notes.Open h = refl
open-delivery (notes.Close cuts part) h = absurd (cc)
open-delivery notes.Rest h = absurd (cc)
open-delivery (notes.Release identifier) h = absurd (cc)
open-delivery (notes.Sent item) h = absurd (cc)
open-delivery (notes.Recv item) h = absurd (cc)

-- ---- stretches

stretch-same : (p q : List Moment → Bool) (ms : List Moment) → ((s : List Moment) → p s ≡ q s) → some_stretch p ms ≡ some_stretch q ms
stretch-same p q ms h = λ i. some_stretch (λ s. h s i) ms

-- the empty stretch counts too
stretch-first : (p : List Moment → Bool) (ms : List Moment) → p [] ≡ true → some_stretch p ms ≡ true
stretch-first p [] h = h
stretch-first p (m ∷ ms) h = ap (λ b. b || some_stretch (λ s. p (m ∷ s)) ms) h

-- after one event, which is a PUBLISH or a closer
over : ℕ → Bool → Bool → List Moment → Bool
over room d c s = nat_lt (room + (cond c 1 0 + count is_closer s)) (cond d 1 0 + count is_delivery s)

under : ℕ → List Moment → Bool
under room s = nat_lt (room + count is_closer s) (count is_delivery s)

over-under : (room : ℕ) (d c : Bool) (s : List Moment) → (d ≡ true → c ≡ false) → (d ≡ true → 0 < room)
    → over room d c s ≡ under (cond d (room - 1) (cond c (room + 1) room)) s
unfolding over under
over-under room true true s one some_room = absurd (let bad : true ≡ false = one refl in cc)
over-under room true false s one some_room =
    let has : 0 < room = some_room refl in
    shifted (room + (0 + count is_closer s)) (1 + count is_delivery s) (room - 1 + count is_closer s) (count is_delivery s) (omega arith)
over-under room false true s one some_room =
    shifted (room + (1 + count is_closer s)) (0 + count is_delivery s) (room + 1 + count is_closer s) (count is_delivery s) (omega arith)
over-under room false false s one some_room =
    shifted (room + (0 + count is_closer s)) (0 + count is_delivery s) (room + count is_closer s) (count is_delivery s) (omega arith)

passes-first : (room : ℕ) (m : Moment) (ms : List Moment) → passes room (m ∷ ms) ≡ some_stretch (over room (is_delivery m) (is_closer m)) ms
unfolding over
passes-first room m ms = ap (λ b. b || some_stretch (over room (is_delivery m) (is_closer m)) ms) (none_over (room + 0))

has_room : (d : Bool) (room : ℕ) → (d && (room == 0)) ≡ false → d ≡ true → 0 < room
has_room true zero h t = absurd (cc)
has_room true (suc room) h t = omega arith
has_room false room h t = absurd (cc)

-- where there is room for it
passes-on : (room : ℕ) (m : Moment) (ms : List Moment) → (is_delivery m && (room == 0)) ≡ false → passes room (m ∷ ms) ≡ passes (room_back (note m) room) ms
unfolding over under
passes-on room m ms h =
    passes-first room m ms
    ∙ stretch-same (over room (is_delivery m) (is_closer m)) (under (room_back (note m) room)) ms
    (λ s. over-under room (is_delivery m) (is_closer m) s (apart (note m)) (has_room (is_delivery m) room h))

-- where there is none
passes-over : (m : Moment) (ms : List Moment) → is_delivery m ≡ true → passes 0 (m ∷ ms) ≡ true
unfolding over
passes-over m ms h =
    passes-first 0 m ms ∙ stretch-first (over 0 (is_delivery m) (is_closer m)) ms
    (ap (λ c. over 0 (is_delivery m) c []) (apart (note m) h) ∙ ap (λ d. over 0 d false []) h)

-- ---- the moments of a connection that may be counted

counted-next : (role : Role) (e : Seen) (past : List Seen) → counted role (e ∷ past)
    ≡ cond (counts role (newest e past)) (newest e past ∷ cond (is_open e.note) [] (counted role past)) (cond (is_open e.note) [] (counted role past))
counted-next role e past = ap (those (counts role)) (connection-next e past) ∙ go (is_open e.note) (counts role (newest e past)) refl
  where
    go : (o c : Bool) → counts role (newest e past) ≡ c → those (counts role) (cond o (newest e past ∷ []) (newest e past ∷ connection past))
        ≡ cond c (newest e past ∷ cond o [] (counted role past)) (cond o [] (counted role past))
    go true c is = ap (λ b. cond b (newest e past ∷ []) []) is
    go false c is = ap (λ b. cond b (newest e past ∷ counted role past) (counted role past)) is

-- where the next event isn't counted, neither is the one before it
uncounted-before : (role : Role) (d e : Seen) (past : List Seen) → is_open e.note ≡ false → counts role (newest d (e ∷ past)) ≡ false → counts role (newest e past) ≡ false
uncounted-before Client d e past opens h =
    go (first_found (connack_of Client) (connection past)) (connack_of Client e.note)
    (sym (ap is_some (first_found-next (connack_of Client) e past ∙ ap (λ b. option_or (cond b None (first_found (connack_of Client) (connection past))) (connack_of Client e.note)) opens)) ∙ h)
  where
    go : {A : Type 0} (o p : Option A) → is_some (option_or o p) ≡ false → is_some o ≡ false
    go None p h = refl
    go (Some a) p h = h
uncounted-before Server d e past opens h = absurd (cc)

alone : (room : ℕ) (m : Moment) → is_delivery m ≡ false → passes room (m ∷ []) ≡ false
alone room m h = passes-on room m [] (ap (λ b. b && (room == 0)) h) ∙ none_over (room_back (note m) room + 0)

pub at_open : (role : Role) (room : ℕ) (e : Seen) (past : List Seen) → is_open e.note ≡ true → passes room (counted role (e ∷ past)) ≡ false
at_open role room e past opens =
    ap (passes room) (counted-next role e past ∙ ap (λ o. cond (counts role (newest e past)) (newest e past ∷ cond o [] (counted role past)) (cond o [] (counted role past))) opens)
    ∙ go (counts role (newest e past))
  where
    go : (b : Bool) → passes room (cond b (newest e past ∷ []) []) ≡ false
    go true = alone room (newest e past) (open-delivery e.note opens)
    go false = none_over (room + 0)

-- where the next event isn't counted nothing is
uncounted : (role : Role) (room : ℕ) (d : Seen) (past : List Seen) → counts role (newest d past) ≡ false → passes room (counted role past) ≡ false
uncounted role room d [] h = none_over (room + 0)
uncounted role room d (e ∷ past) h = go (is_open e.note) refl (λ n. uncounted role room e past n)
  where
    go : (o : Bool) → is_open e.note ≡ o → (counts role (newest e past) ≡ false → passes room (counted role past) ≡ false) → passes room (counted role (e ∷ past)) ≡ false
    go true opens before = at_open role room e past opens
    go false opens before =
        let none : counts role (newest e past) ≡ false = uncounted-before role d e past opens h in
        ap (passes room) (counted-next role e past ∙ ap (λ c. cond c (newest e past ∷ cond (is_open e.note) [] (counted role past)) (cond (is_open e.note) [] (counted role past))) none
        ∙ ap (λ o. cond o [] (counted role past)) opens) ∙ before none

-- ---- one event further back

at_same : (role : Role) (e : Seen) (past : List Seen) → is_open e.note ≡ false
    → counted role (e ∷ past) ≡ cond (counts role (newest e past)) (newest e past ∷ counted role past) (counted role past)
at_same role e past opens = counted-next role e past
    ∙ ap (λ o. cond (counts role (newest e past)) (newest e past ∷ cond o [] (counted role past)) (cond o [] (counted role past))) opens

unopened : (n : Note) → is_some (delivery_of n) ≡ true → is_open n ≡ false
unopened notes.Open h = absurd (cc)
unopened (notes.Close cuts part) h = refl
unopened notes.Rest h = refl
unopened (notes.Release identifier) h = refl
unopened (notes.Sent item) h = refl
unopened (notes.Recv item) h = refl

-- a PUBLISH for which there is no room
pub at_full : (role : Role) (room : ℕ) (e : Seen) (past : List Seen) → (is_some (delivery_of e.note) && (room == 0)) ≡ true
    → passes room (counted role (e ∷ past)) ≡ counts role (newest e past)
at_full role room e past h =
    let both = both_true (is_some (delivery_of e.note)) (room == 0) h in
    ap (λ n. passes n (counted role (e ∷ past))) (eqb-true room 0 both.1)
    ∙ ap (passes 0) (at_same role e past (unopened e.note both.0)) ∙ go (counts role (newest e past)) refl both.0
  where
    go : (b : Bool) → counts role (newest e past) ≡ b → is_some (delivery_of e.note) ≡ true → passes 0 (cond b (newest e past ∷ counted role past) (counted role past)) ≡ b
    go true is delivers = passes-over (newest e past) (counted role past) delivers
    go false is delivers = uncounted role 0 e past is

-- any other event
pub at_room : (role : Role) (room next : ℕ) (e : Seen) (past : List Seen) → (is_some (delivery_of e.note) && (room == 0)) ≡ false → is_open e.note ≡ false
    → next ≡ room_back e.note room → passes room (counted role (e ∷ past)) ≡ passes next (counted role past)
at_room role room next e past h opens is =
    ap (passes room) (at_same role e past opens) ∙ go (counts role (newest e past)) refl ∙ ap (λ n. passes n (counted role past)) (sym is)
  where
    go : (b : Bool) → counts role (newest e past) ≡ b → passes room (cond b (newest e past ∷ counted role past) (counted role past)) ≡ passes (room_back e.note room) (counted role past)
    go true is = passes-on room (newest e past) (counted role past) h
    go false is = uncounted role room e past is ∙ sym (uncounted role (room_back e.note room) e past is)

pub at_start : (room : ℕ) → passes room [] ≡ false
at_start room = none_over (room + 0)

-- ---- what the definitions say

-- the quota is used up
used : ℕ → List Moment → Bool
used most s = nat_le (most + count is_closer s) (count is_delivery s)

pub used_up : (role : Role) (room most : ℕ) (e : Seen) (past : List Seen) → most ≡ peer_receive_maximum role (newest e past) → most ≡ room + 1
    → is_used_up role (newest e past) ≡ passes room (counted role past)
unfolding used under
used_up role room most e past is more =
    ap (λ n. some_stretch (used n) (counted role past)) (sym is ∙ more)
    ∙ stretch-same (used (room + 1)) (under room) (counted role past) (λ s. strict (room + 1 + count is_closer s) (count is_delivery s) (room + count is_closer s) (count is_delivery s) (omega arith))

pub used_up-none : (role : Role) (most : ℕ) (e : Seen) (past : List Seen) → most ≡ peer_receive_maximum role (newest e past) → most ≡ 0 → is_used_up role (newest e past) ≡ true
unfolding used
used_up-none role most e past is none =
    ap (λ n. some_stretch (used n) (counted role past)) (sym is ∙ none) ∙ stretch-first (used 0) (counted role past) refl

-- a PUBLISH passes the quota where that is used up before it
pub over_quota : (role : Role) (e : Seen) (past : List Seen) (delivers counting full : Bool) → delivers ≡ is_some (delivery_of e.note) → counting ≡ counts role (newest e past)
    → full ≡ is_used_up role (newest e past) → (delivers && (counting && full)) ≡ breaks_S07 role (newest e past)
unfolding breaks_S07 used over
over_quota role e past delivers counting full is_delivered is_counted is_full =
    rw (is_delivered, is_counted, is_full) (go (is_delivery (newest e past)) refl)
  where
    go : (d : Bool) → is_delivery (newest e past) ≡ d → (d && (counts role (newest e past) && is_used_up role (newest e past)))
        ≡ (d && (counts role (newest e past) && passes (peer_receive_maximum role (newest e past)) (newest e past ∷ counted role past)))
    go false is = refl
    go true is = ap (λ b. counts role (newest e past) && b) (sym (passes-first (peer_receive_maximum role (newest e past)) (newest e past) (counted role past)
        ∙ stretch-same (over (peer_receive_maximum role (newest e past)) (is_delivery (newest e past)) (is_closer (newest e past))) (used (peer_receive_maximum role (newest e past))) (counted role past)
        (λ s. ap (λ d. over (peer_receive_maximum role (newest e past)) d (is_closer (newest e past)) s) is ∙ ap (λ c. over (peer_receive_maximum role (newest e past)) true c s) (apart e.note is)
        ∙ sym (strict (peer_receive_maximum role (newest e past) + count is_closer s) (count is_delivery s) (peer_receive_maximum role (newest e past) + (0 + count is_closer s)) (1 + count is_delivery s) (omega arith)))))

-- an event gives back one at most
pub room_back-bound : (n : Note) (room next : ℕ) → next ≡ room_back n room → next < room + 2
room_back-bound n room next is = go (is_some (delivery_of n)) (is_some (closer_of n)) is
  where
    go : (d c : Bool) → next ≡ cond d (room - 1) (cond c (room + 1) room) → next < room + 2
    go true c is = omega arith
    go false true is = omega arith
    go false false is = omega arith
