-- What was sent on the connection and not acknowledged there, in entries and apart from them.
use Rattle.std.proofs.Common.{◌≡◌, ℕ, ◌+◌, ◌<◌, ◌≤◌, nat_eq, nat_le, nat_lt, arith, Bool, true, false, cond, ◌&&◌, ◌||◌, not, List, [], ◌∷◌, length, Option, Some, None, refl, ap, sym, ◌∙◌}
use Rattle.std.specs.Prelude.{is_some}
use Rattle.std.specs.Option.{option_or}
use Rattle.std.proofs.lemmas.Bool.{ltb-true, ltb-false, le-ltb}
use Rattle.std.proofs.lemmas.Bool.Decides.{nat_tests}
use Rattle.mq_log.specs.declared.place.Place3.{Place3}
use Rattle.mq_rules.specs.declared.fate.Fate.{Fate}
use Rattle.mq_rules.specs.declared.note.Note.{Note}
use Rattle.mq_rules.specs.declared.note.Note.TheVariants as notes
use Rattle.mq_rules.specs.declared.note.Seen.{Seen}
use Rattle.mq_rules.specs.Words.{is_some_and, is_id}
use Rattle.mq_rules.specs.Notes.{is_open, is_close, is_boundary, delivery_of, closer_of, opener_of, sent_as, received_as, pubrel_in, accepting_pubrec_in}
use Rattle.mq_rules.specs.Moments.{Moment, note, since}
use Rattle.mq_rules.specs.Identifiers.{delivers, closes_id, sent_under}
use Rattle.mq_rules.specs.Connections.{needs_connection, accepts, begins}
use Rattle.mq_rules.proofs.Exports.{not_true, or_false}
use Rattle.mq_inflight.specs.declared.inflight.entry.Entry.{Entry}
use Rattle.mq_inflight.specs.Opened.{entry_after, entry_next, opened_if, closed_if, confirmed_if, released_if, sent_if, sends_exactly_once, sends_retained}
use Rattle.mq_inflight.specs.Using.{in_delivery, stray_next, waits_next, ArePublished}
use Rattle.mq_inflight.proofs.OpenedLaws.{opener-delivers}

-- sent since the OPEN at this position; later than so many events
abbrev since_open : ℕ → Option Entry → Bool
since_open opened x = is_some_and (λ (o : Entry). nat_le opened o.published) x

abbrev beyond : ℕ → Option Entry → Bool
beyond n x = is_some_and (λ (o : Entry). nat_lt n o.published) x

-- what is not later than n isn't from n + 1 on
not-since : (n : ℕ) (x : Option Entry) → beyond n x ≡ false → since_open (n + 1) x ≡ false
not-since n None h = refl
not-since n (Some o) h = grind (arith, nat_tests, h)

-- ---- one event

open-quiet : (n : Note) (i : ℕ) → is_open n ≡ true → (is_id i (delivery_of n) ≡ false) × (is_id i (closer_of n) ≡ false)
open-quiet notes.Open i h = (refl, refl)
open-quiet _ i h = absurd (cc)

-- what doesn't end a connection is at a boundary only where it begins one
pub boundary-opens : (n : Note) → is_close n ≡ false → is_boundary n ≡ is_open n
boundary-opens n h = ap (λ b. is_open n || b) h ∙ or_false (is_open n)

-- what is sent isn't received
apart : (n : Note) (i : ℕ) → is_id i (delivery_of n) ≡ true → is_id i (closer_of n) ≡ false
apart notes.Open i h = absurd (cc)
apart (notes.Close cuts part) i h = absurd (cc)
apart notes.Rest i h = absurd (cc)
apart (notes.Release j) i h = absurd (cc)
apart (notes.Sent item) i h = refl
apart (notes.Recv item) i h = absurd (cc)

-- an entry after an event of its session, by what the event does to its identifier
abbrev after : Bool → Bool → Bool → Bool → Bool → Bool → Bool → ℕ → Place3 → Option Entry → Option Entry
after o c p r d x y bounded place old = opened_if o x y place (closed_if c (confirmed_if p (released_if r bounded place.position (sent_if d bounded place.position old))))

within-after : (o c p r d x y : Bool) (bounded : ℕ) (place : Place3) (n : ℕ) (old : Option Entry) → place.position ≡ n + 1 → beyond n old ≡ false → beyond (n + 1) (after o c p r d x y bounded place old) ≡ false
within-after true c p r d x y bounded place n old at h = grind (arith, nat_tests, at)
within-after false true p r d x y bounded place n old at h = refl
within-after false false p r d x y bounded place n None at h = refl
within-after false false p r true x y bounded place n (Some e) at h = grind (arith, nat_tests, at)
within-after false false p r false x y bounded place n (Some e) at h = grind (arith, nat_tests, h)

-- it is in delivery afterwards: it was sent, or it was before and isn't acknowledged
delivering-after : (o c p r d x y s : Bool) (bounded : ℕ) (place : Place3) (opened : ℕ) (old : Option Entry) → (o ≡ true → d ≡ true) → (d ≡ true → c ≡ false) → nat_le opened place.position ≡ true
    → (((d && not (true && is_some (after o c p r d x y bounded place old))) || (not c && s)) || since_open opened (after o c p r d x y bounded place old)) ≡ (d || (not c && (s || since_open opened old)))
delivering-after true c p r true x y true bounded place opened old od dc le = ap (λ b. (not c && true) || b) le ∙ any-true (not c)
  where
    any-true : (b : Bool) → ((b && true) || true) ≡ true
    any-true true = refl
    any-true false = refl
delivering-after true c p r true x y false bounded place opened old od dc le = ap (λ b. (not c && false) || b) le ∙ any-true (not c)
  where
    any-true : (b : Bool) → ((b && false) || true) ≡ true
    any-true true = refl
    any-true false = refl
delivering-after true c p r false x y s bounded place opened old od dc le = absurd (let bad : false ≡ true = od refl in cc)
delivering-after false true p r true x y s bounded place opened old od dc le = absurd (let bad : true ≡ false = dc refl in cc)
delivering-after false true p r false x y s bounded place opened old od dc le = refl
delivering-after false false p r true x y s bounded place opened None od dc le = refl
delivering-after false false p r false x y s bounded place opened None od dc le = refl
delivering-after false false p r true x y s bounded place opened (Some e) od dc le = ap (λ b. s || b) le ∙ any-true s
  where
    any-true : (b : Bool) → (b || true) ≡ true
    any-true true = refl
    any-true false = refl
delivering-after false false p r false x y s bounded place opened (Some e) od dc le = refl

-- ---- what is kept

-- an event that ends no connection
pub delivering-next : (f g : Fate) (n : Note) (bounded : ℕ) (place : Place3) (opened : ℕ) (entry new : ℕ → Option Entry) (stray listed : ℕ → Bool) (past : List Seen) → place.position ≡ length past + 1 → opened ≤ place.position → ArePublished g opened entry past
    → (is_open n ≡ false → g ≡ f) → ((i : ℕ) → new i ≡ entry_next f n bounded place i (entry i)) → ((i : ℕ) → listed i ≡ stray_next f n new i (stray i))
    → is_close n ≡ false → (i : ℕ) → in_delivery (cond (is_open n) place.position opened) new listed i ≡ waits_next (delivery_of n) (closer_of n) (is_open n) i (in_delivery opened entry stray i)
delivering-next f g n bounded place opened entry new stray listed past at le is same grown kept unclosed i =
    go (is_open n) refl (grown i) (kept i ∙ ap (λ b. cond b false ((d && not (accepts f && is_some (new i))) || (not c && stray i))) (boundary-opens n unclosed))
  where
    d : Bool
    d = is_id i (delivery_of n)

    c : Bool
    c = is_id i (closer_of n)

    accepting : (a : Bool) → accepts f ≡ a → is_open n ≡ false → new i ≡ cond a (entry_after bounded i n place (entry i)) (entry i) → listed i ≡ ((d && not (a && is_some (new i))) || (not c && stray i))
        → in_delivery opened new listed i ≡ (d || (not c && in_delivery opened entry stray i))
    accepting true t closed grown kept =
        ap (λ b. b || since_open opened (new i)) kept
        ∙ ap (λ x. ((d && not (true && is_some x)) || (not c && stray i)) || since_open opened x) grown
        ∙ delivering-after (is_id i (opener_of n)) c (is_id i (received_as accepting_pubrec_in n)) (is_id i (sent_as pubrel_in n)) d (sends_exactly_once n) (sends_retained n) (stray i) bounded place opened (entry i)
        (opener-delivers i n) (apart n i) (grind (arith, nat_tests, le))
    accepting false t closed grown kept =
        let none : since_open opened (entry i) ≡ false = is.accepted (ap accepts (same closed) ∙ t) i in
        ap (λ b. b || since_open opened (new i)) kept
        ∙ ap (λ x. ((d && not (false && is_some (new i))) || (not c && stray i)) || since_open opened x) grown
        ∙ ap (λ b. ((d && true) || (not c && stray i)) || b) none
        ∙ plain d c (stray i)
        ∙ ap (λ b. d || (not c && (stray i || b))) (sym none)
      where
        plain : (d c s : Bool) → (((d && true) || (not c && s)) || false) ≡ (d || (not c && (s || false)))
        plain true c s = refl
        plain false true s = refl
        plain false false true = refl
        plain false false false = refl

    go : (b : Bool) → is_open n ≡ b → new i ≡ cond b (cond (begins (Some f)) None (entry i)) (cond (accepts f) (entry_after bounded i n place (entry i)) (entry i))
        → listed i ≡ cond b false ((d && not (accepts f && is_some (new i))) || (not c && stray i))
        → in_delivery (cond b place.position opened) new listed i ≡ (d || (not c && (not b && in_delivery opened entry stray i)))
    go true h grown kept =
        let quiet = open-quiet n i h in
        ap (λ b. b || since_open place.position (new i)) kept
        ∙ ap (λ p. since_open p (new i)) at ∙ ap (since_open (length past + 1)) grown ∙ begun (begins (Some f)) ∙ sym (ap (λ b. b || (not c && false)) quiet.0 ∙ ap (λ b. not b && false) quiet.1)
      where
        begun : (b : Bool) → since_open (length past + 1) (cond b None (entry i)) ≡ false
        begun true = refl
        begun false = not-since (length past) (entry i) (is.within i)
    go false h grown kept = accepting (accepts f) refl h grown kept

-- what is listed was listed or sent while a connection was open, which is still so
pub listed-connected : (f : Fate) (n : Note) (entry : ℕ → Option Entry) (i : ℕ) (old connected : Bool) → (needs_connection n ≡ true → connected ≡ true) → (old ≡ true → connected ≡ true) → stray_next f n entry i old ≡ true
    → (is_open n || (not (is_close n) && connected)) ≡ true
listed-connected f notes.Open entry i old connected on was h = refl
listed-connected f (notes.Close cuts part) entry i old connected on was h = absurd (cc)
listed-connected f notes.Rest entry i old connected on was h = on refl
listed-connected f (notes.Release identifier) entry i old connected on was h = was h
listed-connected f (notes.Sent item) entry i old connected on was h = on refl
listed-connected f (notes.Recv item) entry i old connected on was h = on refl

pub published-next : (f g : Fate) (e : Seen) (bounded opened : ℕ) (entry new : ℕ → Option Entry) (past : List Seen) → e.place.position ≡ length past + 1 → ArePublished g opened entry past → (is_open e.note ≡ false → g ≡ f)
    → ((i : ℕ) → new i ≡ entry_next f e.note bounded e.place i (entry i)) → ArePublished f (cond (is_open e.note) e.place.position opened) new (e ∷ past)
published-next f g e bounded opened entry new past at is same grown = record {
  within = λ i. ap (λ k. beyond k (new i)) more ∙ ap (beyond (length past + 1)) (grown i) ∙ all i (is_open e.note) (accepts f);
  accepted = λ refused i. go (is_open e.note) refl refused i (grown i);
}
  where
    n : Note
    n = e.note

    more : length (e ∷ past) ≡ length past + 1
    more = omega arith

    later : (k : ℕ) (x : Option Entry) → beyond k x ≡ false → beyond (k + 1) x ≡ false
    later k None h = refl
    later k (Some o) h = grind (arith, nat_tests, h)

    all : (i : ℕ) (b a : Bool) → beyond (length past + 1) (cond b (cond (begins (Some f)) None (entry i)) (cond a (entry_after bounded i n e.place (entry i)) (entry i))) ≡ false
    all i true a = begun (begins (Some f))
      where
        begun : (b : Bool) → beyond (length past + 1) (cond b None (entry i)) ≡ false
        begun true = refl
        begun false = later (length past) (entry i) (is.within i)
    all i false true =
        within-after (is_id i (opener_of n)) (is_id i (closer_of n)) (is_id i (received_as accepting_pubrec_in n)) (is_id i (sent_as pubrel_in n)) (is_id i (delivery_of n)) (sends_exactly_once n) (sends_retained n) bounded e.place (length past) (entry i) at (is.within i)
    all i false false = later (length past) (entry i) (is.within i)

    go : (b : Bool) → is_open n ≡ b → accepts f ≡ false → (i : ℕ) → new i ≡ cond b (cond (begins (Some f)) None (entry i)) (cond (accepts f) (entry_after bounded i n e.place (entry i)) (entry i))
        → since_open (cond b e.place.position opened) (new i) ≡ false
    go true h refused i grown = ap (λ p. since_open p (new i)) at ∙ ap (since_open (length past + 1)) grown ∙ begun (begins (Some f))
      where
        begun : (b : Bool) → since_open (length past + 1) (cond b None (entry i)) ≡ false
        begun true = refl
        begun false = not-since (length past) (entry i) (is.within i)
    go false h refused i grown =
        ap (since_open opened) (grown ∙ ap (λ a. cond a (entry_after bounded i n e.place (entry i)) (entry i)) refused) ∙ is.accepted (ap accepts (same h) ∙ refused) i

-- ---- how many there are

-- a PUBLISH that isn't acknowledged waits for its closer
pub delivered-waits : (i : ℕ) (ms : List Moment) → since (delivers i) (closes_id i) ms ≡ true → since (λ m. is_id i (sent_under (note m))) (closes_id i) ms ≡ true
delivered-waits i [] h = absurd (cc)
delivered-waits i (m ∷ ms) h = go (delivery_of (note m)) (closes_id i m) (sent_as pubrel_in (note m)) h (delivered-waits i ms)
  where
    right : (b c : Bool) → c ≡ true → (b || c) ≡ true
    right true c h = refl
    right false c h = h

    go : (d : Option ℕ) (c : Bool) (r : Option ℕ) → (is_id i d || (not c && since (delivers i) (closes_id i) ms)) ≡ true → (since (delivers i) (closes_id i) ms ≡ true → since (λ m. is_id i (sent_under (note m))) (closes_id i) ms ≡ true)
        → (is_id i (option_or d r) || (not c && since (λ m. is_id i (sent_under (note m))) (closes_id i) ms)) ≡ true
    go None true r h rest = absurd (cc)
    go None false r h rest = right (is_id i r) (since (λ m. is_id i (sent_under (note m))) (closes_id i) ms) (rest h)
    go (Some j) c r h rest = by (is_id i (Some j)) c h
      where
        by : (b c : Bool) → (b || (not c && since (delivers i) (closes_id i) ms)) ≡ true → (b || (not c && since (λ m. is_id i (sent_under (note m))) (closes_id i) ms)) ≡ true
        by true c h = refl
        by false true h = absurd (cc)
        by false false h = rest h

-- ---- events that say nothing of it

pub stray-stays : (f : Fate) (n : Note) (entry : ℕ → Option Entry) (i : ℕ) (old : Bool) → is_boundary n ≡ false → delivery_of n ≡ None → closer_of n ≡ None → stray_next f n entry i old ≡ old
stray-stays f n entry i old a b c =
    ap (λ t. cond t false ((is_id i (delivery_of n) && not (accepts f && is_some (entry i))) || (not (is_id i (closer_of n)) && old))) a
    ∙ ap (λ o. (is_id i o && not (accepts f && is_some (entry i))) || (not (is_id i (closer_of n)) && old)) b
    ∙ ap (λ o. not (is_id i o) && old) c

pub kept-anew : (b x y : Bool) (place : Place3) (rest : Option Entry) → (b && not (true && is_some (opened_if b x y place rest))) ≡ false
kept-anew true x y place rest = refl
kept-anew false x y place rest = refl
