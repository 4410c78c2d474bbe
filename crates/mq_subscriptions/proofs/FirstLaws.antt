-- What one event more is to what is kept of the first packet of an identifier that isn't answered.
use Rattle.std.proofs.Common.{◌≡◌, ℕ, Bool, true, false, cond, List, [], ◌∷◌, Option, Some, None, refl, ap, sym, ◌∙◌}
use Rattle.std.specs.Option.{option_or, option_and_then}
use Rattle.mq_rules.specs.declared.note.Note.{Note}
use Rattle.mq_rules.specs.declared.note.Note.TheVariants as notes
use Rattle.mq_rules.specs.declared.note.Seen.{Seen}
use Rattle.mq_rules.specs.Words.{is_id}
use Rattle.mq_rules.specs.Notes.{is_boundary, sent_fields, received_fields}
use Rattle.mq_rules.specs.Moments.{Moment, newest, note, earliest_since}
use Rattle.mq_rules.specs.Connections.{on_open, needs_connection, IsOnConnection}
use Rattle.mq_rules.specs.Exchanges.{Exchange, causes, answers}
use Rattle.mq_rules.proofs.Exports.{has_item, on_open-fold}
use Rattle.mq_subscriptions.specs.Firsts.{found_first, first_kept, first_next}

-- what is found earliest passes the first test
pub found-passes : (starts ends : Moment → Bool) (ms : List Moment) (j : Moment) → earliest_since starts ends ms ≡ Some j → starts j ≡ true
found-passes starts ends [] j h = absurd (cc)
found-passes starts ends (m ∷ ms) j h = go (ends m) (earliest_since starts ends ms) (λ i p. found-passes starts ends ms i p) refl (starts m) refl h
  where
    go : (e : Bool) (o : Option Moment) → ((i : Moment) → earliest_since starts ends ms ≡ Some i → starts i ≡ true) → earliest_since starts ends ms ≡ o → (s : Bool) → starts m ≡ s
        → option_or (cond e None o) (cond s (Some m) None) ≡ Some j → starts j ≡ true
    go true o rest p true q h = let same : m ≡ j = cc in ap starts (sym same) ∙ q
    go true o rest p false q h = absurd (cc)
    go false None rest p true q h = let same : m ≡ j = cc in ap starts (sym same) ∙ q
    go false None rest p false q h = absurd (cc)
    go false (Some i) rest p s q h = rest j (p ∙ h)

-- what is neither sent nor received has no packet
none-received : (n : Note) → has_item n ≡ false → received_fields n ≡ None
none-received notes.Open h = refl
none-received (notes.Close cuts part) h = refl
none-received notes.Rest h = refl
none-received (notes.Release identifier) h = refl
none-received (notes.Sent item) h = absurd (cc)
none-received (notes.Recv item) h = absurd (cc)

pub none-sent : (n : Note) → needs_connection n ≡ false → sent_fields n ≡ None
none-sent notes.Open h = refl
none-sent (notes.Close cuts part) h = absurd (cc)
none-sent notes.Rest h = absurd (cc)
none-sent (notes.Release identifier) h = refl
none-sent (notes.Sent item) h = absurd (cc)
none-sent (notes.Recv item) h = absurd (cc)

-- causes are received, and something is kept of each
pub found-next : {K : Type 0} (x : Exchange) (keeps : Moment → Option K) → ((n : Note) (i : ℕ) → received_fields n ≡ None → is_id i (x.cause n) ≡ false) → ((m : Moment) (i : ℕ) → is_id i (x.cause (note m)) ≡ true → (k : K) × (keeps m ≡ Some k))
    → (i : ℕ) (e : Seen) (past : List Seen) → IsOnConnection e past
    → found_first x keeps i (e ∷ past) ≡ first_next (is_boundary e.note) (is_id i (x.cause e.note)) (is_id i (x.answer e.note)) (keeps (newest e past)) (found_first x keeps i past)
found-next {K} x keeps received there i e past on =
    ap (option_and_then keeps) (on_open-fold (earliest_since (causes x i) (answers x i)) more e past (λ ms. refl) idle on)
    ∙ part (is_id i (x.answer e.note)) (is_boundary e.note) (is_id i (x.cause e.note))
  where
    old : Option Moment
    old = earliest_since (causes x i) (answers x i) (on_open past)

    -- what is found with the event, by what is found before it
    more : Option Moment → Option Moment
    more o = option_or (cond (is_id i (x.answer e.note)) None o) (cond (is_id i (x.cause e.note)) (Some (newest e past)) None)

    never : (b : Bool) → cond {A = Option Moment} b None None ≡ None
    never true = refl
    never false = refl

    idle : has_item e.note ≡ false → more None ≡ None
    idle h =
        ap (λ o. option_or o (cond (is_id i (x.cause e.note)) (Some (newest e past)) None)) (never (is_id i (x.answer e.note)))
        ∙ ap (λ b. cond b (Some (newest e past)) None) (received e.note i (none-received e.note h))

    put : (a : Option Moment) (s : Bool) → ((j : Moment) → a ≡ Some j → (k : K) × (keeps j ≡ Some k)) → option_and_then keeps (option_or a (cond s (Some (newest e past)) None)) ≡ option_or (option_and_then keeps a) (cond s (keeps (newest e past)) None)
    put None true h = refl
    put None false h = refl
    put (Some j) s h = let kept = h j refl in kept.1 ∙ sym (ap (λ o. option_or o (cond s (keeps (newest e past)) None)) kept.1)

    has : (j : Moment) → old ≡ Some j → (k : K) × (keeps j ≡ Some k)
    has j p = there j i (found-passes (causes x i) (answers x i) (on_open past) j p)

    part : (b a : Bool) → (s : Bool) → option_and_then keeps (option_or (cond b None (cond a None old)) (cond s (Some (newest e past)) None)) ≡ option_or (cond b None (cond a None (option_and_then keeps old))) (cond s (keeps (newest e past)) None)
    part true a s = put None s (λ j p. absurd (cc))
    part false true s = put None s (λ j p. absurd (cc))
    part false false s = put old s has

pub kept-next : {K : Type 0} (x : Exchange) (keeps : Note → Option K) → ((n : Note) (i : ℕ) → received_fields n ≡ None → is_id i (x.cause n) ≡ false) → ((n : Note) (i : ℕ) → is_id i (x.cause n) ≡ true → (k : K) × (keeps n ≡ Some k))
    → (i : ℕ) (e : Seen) (past : List Seen) → IsOnConnection e past
    → first_kept x keeps i (e ∷ past) ≡ first_next (is_boundary e.note) (is_id i (x.cause e.note)) (is_id i (x.answer e.note)) (keeps e.note) (first_kept x keeps i past)
kept-next x keeps received there i e past on = found-next x (λ m. keeps (note m)) received (λ m i h. there (note m) i h) i e past on
