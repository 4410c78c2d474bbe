-- The Packet Identifiers that are kept of the connection that is open, with one event more; how many there are; and that a PUBLISH above the Receive Maximum is known by them.
use Rattle.std.proofs.Common.{◌≡◌, ℕ, ◌+◌, ◌<◌, nat_eq, nat_lt, Bool, true, false, cond, ◌&&◌, ◌||◌, not, List, [], ◌∷◌, length, Option, Some, None, is_some, option_map, ◌⊎◌, inl, inr, refl, ap, sym, ◌∙◌, arith}
use Rattle.std.proofs.lemmas.Bool.{eq-eqb, eqb-true}
use Rattle.std.proofs.lemmas.Bool.Decides.{nat_tests}
use Rattle.std.proofs.lemmas.Map.Views.{any-filter_same}
use Rattle.std.specs.List.{cons_option, filter, list_any}
use Rattle.std.specs.Option.{option_and_then}
use Rattle.std.specs.Set.{distinct_count, unique_keys}
use Rattle.mq_rules.specs.declared.role.Role.TheVariants.{Server}
use Rattle.mq_rules.specs.declared.note.Note.{Note}
use Rattle.mq_rules.specs.declared.note.Note.TheVariants as notes
use Rattle.mq_rules.specs.declared.note.ItemNote.TheVariants as items
use Rattle.mq_rules.specs.declared.note.Seen.{Seen}
use Rattle.mq_rules.specs.declared.packet_note.PacketFields.{PacketFields}
use Rattle.mq_rules.specs.declared.packet_note.PacketFields.TheVariants.{Publish}
use Rattle.mq_rules.specs.declared.packet_note.ConnackNote.{ConnackNote}
use Rattle.mq_connections.specs.declared.duties.unfinished.Unfinished.{Unfinished}
use Rattle.mq_rules.specs.Words.{is_id, is_some_and, only}
use Rattle.mq_rules.specs.Notes.{is_boundary, is_exactly_once, is_open, publish_in, pubrel_in, received_exactly_once}
use Rattle.mq_rules.specs.Moments.{Moment, newest, note}
use Rattle.mq_rules.specs.Connections.{connection, first_connack, needs_connection, on_open, IsOnConnection}
use Rattle.mq_rules.specs.IdentifierCounts.{ids_where}
use Rattle.mq_rules.specs.ReceiveMaximum.{exceeds_maximum, finishes_id, identifiers_among, is_unfinished, receive_maximum_in, unfinished}
use Rattle.mq_connections.specs.Unfinished.{exceeds_with, finds_excess, has_identifier, kept_with, unfinished_weigh, IsUnfinished, UnfinishedNext}
use Rattle.mq_rules.proofs.Exports.{both_true, has_item, ids-but, ids-none, ids-same, on_open-connected, on_open-fold, or_left, or_parts, or_right, under-within}

-- ---- how many different numbers of two bytes a list has

ids-distinct : (xs : List ℕ) → ((i : ℕ) → list_any (nat_eq i) xs ≡ true → i < 65536) → ids_where (λ i. list_any (nat_eq i) xs) ≡ distinct_count nat_eq xs
ids-distinct [] small = ids-none (λ i. false) (λ i. refl)
ids-distinct (x ∷ xs) small =
    let own : x < 65536 = small x (or_left (nat_eq x x) (list_any (nat_eq x) xs) (eq-eqb x x refl)) in
    go (list_any (nat_eq x) xs)
    (ids-but (λ i. nat_eq i x || list_any (nat_eq i) xs) x own ∙ ap (λ b. cond (b || list_any (nat_eq x) xs) 1 0 + others) (eq-eqb x x refl) ∙ ap (λ n. 1 + n) fewer)
    (ids-but (λ i. list_any (nat_eq i) xs) x own)
    (ids-distinct xs (λ i here. small i (or_right (nat_eq i x) (list_any (nat_eq i) xs) here)))
  where
    others : ℕ
    others = ids_where (λ i. not (nat_eq x i) && (nat_eq i x || list_any (nat_eq i) xs))

    rest : ℕ
    rest = ids_where (λ i. not (nat_eq x i) && list_any (nat_eq i) xs)

    other : (i : ℕ) (b : Bool) → nat_eq x i ≡ b → (not b && (nat_eq i x || list_any (nat_eq i) xs)) ≡ (not b && list_any (nat_eq i) xs)
    other i true is = refl
    other i false is = let apart : nat_eq i x ≡ false = grind (arith, nat_tests) in ap (λ b. b || list_any (nat_eq i) xs) apart

    fewer : others ≡ rest
    fewer = ids-same (λ i. not (nat_eq x i) && (nat_eq i x || list_any (nat_eq i) xs)) (λ i. not (nat_eq x i) && list_any (nat_eq i) xs) (λ i. other i (nat_eq x i) refl)

    go : (b : Bool) → ids_where (λ i. nat_eq i x || list_any (nat_eq i) xs) ≡ 1 + rest → ids_where (λ i. list_any (nat_eq i) xs) ≡ cond b 1 0 + rest → ids_where (λ i. list_any (nat_eq i) xs) ≡ distinct_count nat_eq xs
        → ids_where (λ i. nat_eq i x || list_any (nat_eq i) xs) ≡ length (cond b (unique_keys nat_eq xs) (x ∷ unique_keys nat_eq xs))
    go true all without before = all ∙ sym without ∙ before
    go false all without before = omega (arith, all, without, before)

-- ---- how many identifiers aren't finished

-- one that is came with a PUBLISH
named : (i : ℕ) (ms : List Moment) → is_unfinished ms i ≡ true → list_any (nat_eq i) (identifiers_among ms) ≡ true
named i [] h = absurd (cc)
named i (m ∷ ms) h = go (received_exactly_once (note m)) h (named i ms)
  where
    go : (o : Option ℕ) → (is_id i o || (not (finishes_id i (note m)) && is_unfinished ms i)) ≡ true
        → (is_unfinished ms i ≡ true → list_any (nat_eq i) (identifiers_among ms) ≡ true) → list_any (nat_eq i) (cons_option o (identifiers_among ms)) ≡ true
    go None h before = before (both_true (not (finishes_id i (note m))) (is_unfinished ms i) h).1
    go (Some j) h before = pick (or_parts (nat_eq i j) (not (finishes_id i (note m)) && is_unfinished ms i) h)
      where
        pick : (nat_eq i j ≡ true) ⊎ ((not (finishes_id i (note m)) && is_unfinished ms i) ≡ true) → (nat_eq i j || list_any (nat_eq i) (identifiers_among ms)) ≡ true
        pick (inl is) = or_left (nat_eq i j) (list_any (nat_eq i) (identifiers_among ms)) is
        pick (inr is) = or_right (nat_eq i j) (list_any (nat_eq i) (identifiers_among ms)) (before (both_true (not (finishes_id i (note m))) (is_unfinished ms i) is).1)

-- those of a list that pass a test, where the list has all that do
listed : (test : ℕ → Bool) (xs : List ℕ) → ((i : ℕ) → test i ≡ true → list_any (nat_eq i) xs ≡ true) → (i : ℕ) → list_any (nat_eq i) (filter test xs) ≡ test i
listed test xs has i = any-filter_same (nat_eq i) test (test i) (λ k is. ap test (sym (eqb-true i k is))) xs ∙ go (test i) refl
  where
    go : (b : Bool) → test i ≡ b → (b && list_any (nat_eq i) xs) ≡ b
    go true is = has i is
    go false is = refl

counted : (ms : List Moment) → ((i : ℕ) → is_unfinished ms i ≡ true → i < 65536) → ids_where (is_unfinished ms) ≡ unfinished ms
unfolding unfinished
counted ms small =
    ids-same (is_unfinished ms) (λ i. list_any (nat_eq i) (filter (is_unfinished ms) (identifiers_among ms))) (λ i. sym (same i))
    ∙ ids-distinct (filter (is_unfinished ms) (identifiers_among ms)) (λ i here. small i (sym (same i) ∙ here))
  where
    same : (i : ℕ) → list_any (nat_eq i) (filter (is_unfinished ms) (identifiers_among ms)) ≡ is_unfinished ms i
    same i = listed (is_unfinished ms) (identifiers_among ms) (λ j is. named j ms is) i

-- ---- what is kept

kept-small : (u : Unfinished) (past : List Seen) → IsUnfinished u past → (i : ℕ) → is_unfinished (on_open past) i ≡ true → i < 65536
kept-small u past here i is = under-within u.identifiers i (here.same i ∙ is)

pub unfinished-many : (u : Unfinished) (past : List Seen) → IsUnfinished u past → unfinished_weigh u ≡ unfinished (on_open past)
unfinished-many u past here = ids-same (has_identifier u) (is_unfinished (on_open past)) here.same ∙ counted (on_open past) (kept-small u past here)

-- only what is sent or received brings an identifier, or finishes one
idle : (n : Note) (i : ℕ) (b : Bool) → has_item n ≡ false → (is_id i (received_exactly_once n) || (not (finishes_id i n) && b)) ≡ b
idle notes.Open i b h = refl
idle (notes.Close cuts part) i b h = refl
idle notes.Rest i b h = refl
idle (notes.Release identifier) i b h = refl
idle (notes.Sent item) i b h = absurd (cc)
idle (notes.Recv item) i b h = absurd (cc)

pub unfinished-next : (old new : Unfinished) (e : Seen) (past : List Seen) → IsOnConnection e past → IsUnfinished old past → UnfinishedNext old new e.note → IsUnfinished new (e ∷ past)
unfinished-next old new e past on here more = record {
  same = λ i. more.each i
      ∙ ap (λ b. is_id i (received_exactly_once e.note) || (not (finishes_id i e.note) && b)) (stays (is_boundary e.note) (has_identifier old i) ∙ ap (cond (is_boundary e.note) false) (here.same i))
      ∙ sym (on_open-fold (λ ms. is_unfinished ms i) (λ b. is_id i (received_exactly_once e.note) || (not (finishes_id i e.note) && b)) e past (λ ms. refl) (λ h. idle e.note i false h) on);
}
  where
    stays : (ends had : Bool) → (not ends && had) ≡ cond ends false had
    stays true had = refl
    stays false had = refl

-- one that isn't kept is one more
pub kept-absent : (u : Unfinished) (j : ℕ) → j < 65536 → has_identifier u j ≡ false → unfinished_weigh u + 1 ≡ kept_with u j
kept-absent u j lt none =
    let all = ids-but (λ i. nat_eq i j || has_identifier u i) j lt in
    let before = ids-but (has_identifier u) j lt in
    let rest = ids-same (λ i. not (nat_eq j i) && (nat_eq i j || has_identifier u i)) (λ i. not (nat_eq j i) && has_identifier u i) (λ i. other i (nat_eq j i) refl) in
    let own = ap (λ (b : Bool). cond {A = ℕ} (b || has_identifier u j) 1 0) (eq-eqb j j refl) in
    let absent = ap (λ (b : Bool). cond {A = ℕ} b 1 0) none in
    omega (arith, all, before, rest, own, absent)
  where
    other : (i : ℕ) (b : Bool) → nat_eq j i ≡ b → (not b && (nat_eq i j || has_identifier u i)) ≡ (not b && has_identifier u i)
    other i true is = refl
    other i false is = let apart : nat_eq i j ≡ false = grind (arith, nat_tests) in ap (λ b. b || has_identifier u i) apart

-- before any event
pub unfinished-start : (u : Unfinished) → ((i : ℕ) → has_identifier u i ≡ false) → IsUnfinished u []
unfinished-start u none = record { same = none }

pub none-unfinished : unfinished (on_open []) ≡ 0
unfolding unfinished
none-unfinished = refl

-- ---- whether the next event is a PUBLISH above the Receive Maximum

-- it is received, and finishes nothing
received-closed : (n : Note) → is_some (received_exactly_once n) ≡ true → is_open n ≡ false
received-closed notes.Open h = absurd (cc)
received-closed (notes.Close cuts part) h = refl
received-closed notes.Rest h = refl
received-closed (notes.Release i) h = refl
received-closed (notes.Sent item) h = refl
received-closed (notes.Recv item) h = refl

received-connected : (n : Note) (j : ℕ) → received_exactly_once n ≡ Some j → needs_connection n ≡ true
received-connected notes.Open j h = absurd (cc)
received-connected (notes.Close cuts part) j h = absurd (cc)
received-connected notes.Rest j h = absurd (cc)
received-connected (notes.Release i) j h = absurd (cc)
received-connected (notes.Sent item) j h = absurd (cc)
received-connected (notes.Recv item) j h = refl

fields-finish : (f : PacketFields) (i j : ℕ) → option_and_then (λ p. only (is_exactly_once p.qos) p.identifier) (publish_in f) ≡ Some j → is_id i (pubrel_in f) ≡ false
fields-finish (Publish p) i j h = refl
fields-finish _ i j h = absurd (cc)

received-finishes : (n : Note) (i j : ℕ) → received_exactly_once n ≡ Some j → finishes_id i n ≡ false
received-finishes notes.Open i j h = absurd (cc)
received-finishes (notes.Close cuts part) i j h = absurd (cc)
received-finishes notes.Rest i j h = absurd (cc)
received-finishes (notes.Release k) i j h = absurd (cc)
received-finishes (notes.Sent item) i j h = absurd (cc)
received-finishes (notes.Recv (items.Packet p)) i j h = ap (λ b. b || false) (fields-finish p.fields i j h)
received-finishes (notes.Recv (items.Bad first rule at large)) i j h = absurd (cc)
received-finishes (notes.Recv items.Lost) i j h = absurd (cc)

pub open-no_excess : (e : Seen) (past : List Seen) → exceeds_maximum (newest e past) ≡ true → is_open e.note ≡ false
open-no_excess e past h =
    received-closed e.note
    (both_true (is_some (received_exactly_once e.note)) (is_some_and (λ most. nat_lt most (unfinished (newest e past ∷ connection past))) (option_map receive_maximum_in (first_connack Server (connection past)))) h).0

-- what was kept has two bytes
pub received-small : (old new : Unfinished) (n : Note) → UnfinishedNext old new n → (j : ℕ) → received_exactly_once n ≡ Some j → j < 65536
received-small old new n more j is =
    under-within new.identifiers j
    (more.each j ∙ or_left (is_id j (received_exactly_once n)) (not (finishes_id j n) && (not (is_boundary n) && has_identifier old j)) (ap (is_id j) is ∙ eq-eqb j j refl))

pub excess-known : (u : Unfinished) (e : Seen) (past : List Seen) → IsOnConnection e past → IsUnfinished u past → ((j : ℕ) → received_exactly_once e.note ≡ Some j → j < 65536)
    → finds_excess u (first_connack Server (connection past)) e.note ≡ exceeds_maximum (newest e past)
excess-known u e past on here small = go (received_exactly_once e.note) refl
  where
    connack : Option ConnackNote
    connack = first_connack Server (connection past)

    now : List Moment
    now = newest e past ∷ connection past

    each : (j : ℕ) → received_exactly_once e.note ≡ Some j → (i : ℕ) → (nat_eq i j || has_identifier u i) ≡ is_unfinished now i
    each j is i =
        ap (λ b. nat_eq i j || b) (here.same i ∙ ap (λ ms. is_unfinished ms i) (on_open-connected past (on (received-connected e.note j is))))
        ∙ sym (ap (λ o. is_id i o || (not (finishes_id i e.note) && is_unfinished (connection past) i)) is ∙ ap (λ b. nat_eq i j || (not b && is_unfinished (connection past) i)) (received-finishes e.note i j is))

    within : (j : ℕ) → received_exactly_once e.note ≡ Some j → (i : ℕ) → (nat_eq i j ≡ true) ⊎ (has_identifier u i ≡ true) → i < 65536
    within j is i (inl same) = let equal : i ≡ j = eqb-true i j same in let less : j < 65536 = small j is in omega (arith, equal, less)
    within j is i (inr has) = under-within u.identifiers i has

    many : (j : ℕ) → received_exactly_once e.note ≡ Some j → kept_with u j ≡ unfinished now
    many j is =
        ids-same (λ i. nat_eq i j || has_identifier u i) (is_unfinished now) (each j is)
        ∙ counted now (λ i passes. within j is i (or_parts (nat_eq i j) (has_identifier u i) (each j is i ∙ passes)))

    go : (o : Option ℕ) → received_exactly_once e.note ≡ o
        → is_some_and (exceeds_with u connack) o ≡ (is_some o && is_some_and (λ most. nat_lt most (unfinished now)) (option_map receive_maximum_in connack))
    go None is = refl
    go (Some j) is = ap (λ n. is_some_and (λ most. nat_lt most n) (option_map receive_maximum_in connack)) (many j is)
