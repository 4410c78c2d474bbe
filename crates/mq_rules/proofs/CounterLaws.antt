-- The send quota by a counter says the same as the stretches of a connection.
use Rattle.std.proofs.Common.{◌≡◌, ℕ, zero, suc, ◌+◌, ◌-◌, ◌<◌, ◌≤◌, Bool, true, false, cond, ◌&&◌, ◌||◌, nat_lt, nat_le, List, [], ◌∷◌, refl, ap, sym, ◌∙◌, arith, ◌⊎◌, inl, inr}
use Rattle.std.specs.Prelude.{is_some}
use Rattle.std.proofs.lemmas.Bool.{lt-ltb, ltb-true, le-leb, leb-true}
use Rattle.mq_rules.specs.declared.role.Role.{Role}
use Rattle.mq_rules.specs.declared.note.Note.{Note}
use Rattle.mq_rules.specs.declared.note.Note.TheVariants as notes
use Rattle.mq_rules.specs.Notes.{delivery_of, closer_of}
use Rattle.mq_rules.specs.Moments.{Moment, note, those, count, some_stretch}
use Rattle.mq_rules.specs.Connections.{connection}
use Rattle.mq_rules.specs.Pasts.{peer_receive_maximum}
use Rattle.mq_rules.specs.Identifiers.{is_delivery, is_closer, counts, passes, applies_S07, breaks_S07, is_used_up}
use Rattle.mq_rules.specs.Counter.{in_flight, in_flight_before}
use Rattle.mq_rules.proofs.BoolLaws.{same_test, or_parts, or_left, or_right}

-- ---- tests on numbers

strict : (a b c d : ℕ) → a + d ≡ c + b + 1 → nat_le a b ≡ nat_lt c d
strict a b c d h = same_test (nat_le a b) (nat_lt c d)
    (λ t. let le : a ≤ b = leb-true a b t in lt-ltb c d (omega arith))
    (λ t. let lt : c < d = ltb-true c d t in le-leb a b (omega arith))

shifted : (a b c d : ℕ) → a + d ≡ c + b → nat_lt a b ≡ nat_lt c d
shifted a b c d h = same_test (nat_lt a b) (nat_lt c d)
    (λ t. let lt : a < b = ltb-true a b t in lt-ltb c d (omega arith))
    (λ t. let lt : c < d = ltb-true c d t in lt-ltb a b (omega arith))

-- a test that another one implies adds nothing to it
implied : (p q : Bool) → (p ≡ true → q ≡ true) → (p || q) ≡ q
implied true q f = sym (f refl)
implied false q f = refl

-- ---- one event

-- what is sent is not received
pub apart : (n : Note) → is_some (delivery_of n) ≡ true → is_some (closer_of n) ≡ false
apart notes.Open h = refl
apart (notes.Close cuts part) h = refl
apart notes.Rest h = refl
apart (notes.Release identifier) h = refl
apart (notes.Sent item) h = refl
apart (notes.Recv item) h = absurd (cc)

-- what one event more makes of the greatest difference over stretches: no event at all, or this one and those before it
counted : (d c : Bool) (low high old : ℕ) → (d ≡ true → c ≡ false)
    → (nat_lt low high || nat_lt (low + cond c 1 0) ((high + cond d 1 0) + old)) ≡ nat_lt low (high + cond d (old + 1) (cond c (old - 1) old))
counted true true low high old one = absurd (let bad : true ≡ false = one refl in cc)
counted true false low high old one =
    implied (nat_lt low high) (nat_lt (low + 0) ((high + 1) + old)) (λ t. let lt : low < high = ltb-true low high t in lt-ltb (low + 0) ((high + 1) + old) (omega arith))
    ∙ shifted (low + 0) ((high + 1) + old) low (high + (old + 1)) (omega arith)
counted false true low high old one = same_test (nat_lt low high || nat_lt (low + 1) ((high + 0) + old)) (nat_lt low (high + (old - 1)))
    (λ t. go (or_parts (nat_lt low high) (nat_lt (low + 1) ((high + 0) + old)) t))
    (λ t. let lt : low < high + (old - 1) = ltb-true low (high + (old - 1)) t in back old lt)
  where
    go : (nat_lt low high ≡ true) ⊎ (nat_lt (low + 1) ((high + 0) + old) ≡ true) → nat_lt low (high + (old - 1)) ≡ true
    go (inl t) = let lt : low < high = ltb-true low high t in lt-ltb low (high + (old - 1)) (omega arith)
    go (inr t) = let lt : low + 1 < (high + 0) + old = ltb-true (low + 1) ((high + 0) + old) t in lt-ltb low (high + (old - 1)) (omega arith)

    back : (n : ℕ) → low < high + (n - 1) → (nat_lt low high || nat_lt (low + 1) ((high + 0) + n)) ≡ true
    back zero lt = or_left (nat_lt low high) (nat_lt (low + 1) ((high + 0) + 0)) (lt-ltb low high (omega arith))
    back (suc n) lt = or_right (nat_lt low high) (nat_lt (low + 1) ((high + 0) + suc n)) (lt-ltb (low + 1) ((high + 0) + suc n) (omega arith))
counted false false low high old one =
    implied (nat_lt low high) (nat_lt (low + 0) ((high + 0) + old)) (λ t. let lt : low < high = ltb-true low high t in lt-ltb (low + 0) ((high + 0) + old) (omega arith))
    ∙ shifted (low + 0) ((high + 0) + old) low (high + old) (omega arith)

-- ---- stretches

-- The greatest difference over the stretches that end with the newest moment is what is in flight. Here events that come after them have added to both sides.
pub stretches : (test : List Moment → Bool) (low high : ℕ) (ms : List Moment) → ((s : List Moment) → test s ≡ nat_lt (low + count is_closer s) (high + count is_delivery s))
    → some_stretch test ms ≡ nat_lt low (high + in_flight ms)
stretches test low high [] is = is [] ∙ shifted (low + 0) (high + 0) low (high + 0) (omega arith)
stretches test low high (m ∷ ms) is =
    ap (λ b. b || some_stretch (λ s. test (m ∷ s)) ms) (is [] ∙ shifted (low + 0) (high + 0) low high (omega arith))
    ∙ ap (λ b. nat_lt low high || b) (stretches (λ s. test (m ∷ s)) (low + cond (is_closer m) 1 0) (high + cond (is_delivery m) 1 0) ms
    (λ s. is (m ∷ s) ∙ further (cond (is_closer m) 1 0) (cond (is_delivery m) 1 0) (count is_closer s) (count is_delivery s)))
    ∙ counted (is_delivery m) (is_closer m) low high (in_flight ms) (apart (note m))
  where
    further : (c d x y : ℕ) → nat_lt (low + (c + x)) (high + (d + y)) ≡ nat_lt ((low + c) + x) ((high + d) + y)
    further c d x y = shifted (low + (c + x)) (high + (d + y)) ((low + c) + x) ((high + d) + y) (omega arith)

pub passes-counted : (most : ℕ) (ms : List Moment) → passes most ms ≡ nat_lt most (in_flight ms)
passes-counted most ms =
    stretches (λ s. nat_lt (most + count is_closer s) (count is_delivery s)) most 0 ms
    (λ s. shifted (most + count is_closer s) (count is_delivery s) (most + count is_closer s) (0 + count is_delivery s) (omega arith))
    ∙ shifted most (0 + in_flight ms) most (in_flight ms) (omega arith)

pub full-counted : (most : ℕ) (ms : List Moment) → some_stretch (λ stretch. nat_le (most + count is_closer stretch) (count is_delivery stretch)) ms ≡ nat_le most (in_flight ms)
full-counted most ms =
    stretches (λ s. nat_le (most + count is_closer s) (count is_delivery s)) most 1 ms
    (λ s. strict (most + count is_closer s) (count is_delivery s) (most + count is_closer s) (1 + count is_delivery s) (omega arith))
    ∙ sym (strict most (in_flight ms) most (1 + in_flight ms) (omega arith))

-- ---- S07

pub S07-counted : (role : Role) (k : Moment) → breaks_S07 role k ≡ (is_delivery k && (counts role k && nat_lt (peer_receive_maximum role k) (in_flight (k ∷ those (counts role) (connection k.past)))))
unfolding breaks_S07
S07-counted role k = ap (λ b. is_delivery k && (counts role k && b)) (passes-counted (peer_receive_maximum role k) (k ∷ those (counts role) (connection k.past)))

pub S07-before : (role : Role) (k : Moment) → breaks_S07 role k ≡ (is_delivery k && (counts role k && nat_le (peer_receive_maximum role k) (in_flight_before role k)))
S07-before role k = S07-counted role k ∙ go (is_delivery k) (in_flight_before role k)
  where
    go : (d : Bool) (old : ℕ) → (d && (counts role k && nat_lt (peer_receive_maximum role k) (cond d (old + 1) (cond (is_closer k) (old - 1) old))))
        ≡ (d && (counts role k && nat_le (peer_receive_maximum role k) old))
    go true old = ap (λ b. counts role k && b) (sym (strict (peer_receive_maximum role k) old (peer_receive_maximum role k) (old + 1) (omega arith)))
    go false old = refl

-- where it is put to the test
pub S07-tried : (role : Role) (k : Moment) → applies_S07 role k ≡ (is_delivery k && (counts role k && nat_le (peer_receive_maximum role k) (in_flight_before role k + 1)))
unfolding applies_S07
S07-tried role k = ap (λ b. is_delivery k && (counts role k && b)) (full-counted (peer_receive_maximum role k) (k ∷ those (counts role) (connection k.past))) ∙ go (is_delivery k) (in_flight_before role k)
  where
    go : (d : Bool) (old : ℕ) → (d && (counts role k && nat_le (peer_receive_maximum role k) (cond d (old + 1) (cond (is_closer k) (old - 1) old))))
        ≡ (d && (counts role k && nat_le (peer_receive_maximum role k) (old + 1)))
    go true old = refl
    go false old = refl

pub used_up-counted : (role : Role) (t : Moment) → is_used_up role t ≡ nat_le (peer_receive_maximum role t) (in_flight_before role t)
used_up-counted role t = full-counted (peer_receive_maximum role t) (those (counts role) (connection t.past))
