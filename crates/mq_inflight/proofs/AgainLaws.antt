-- What is known to have been sent again on the connection.
use Rattle.std.proofs.Common.{◌≡◌, ℕ, ◌≤◌, arith, ◌==◌, nat_eq, nat_lt, ◌<◌, Bool, true, false, cond, ◌&&◌, ◌||◌, not, List, [], ◌∷◌, Option, Some, None, refl, ap, sym, subst, ◌∙◌}
use Rattle.std.specs.Prelude.{is_some}
use Rattle.std.specs.Option.{option_or}
use Rattle.std.specs.List.{list_any}
use Rattle.std.proofs.lemmas.Bool.{eqb-true, ltb-true, le-ltb, lt-ltb}
use Rattle.mq_log.specs.declared.place.Place3.{Place3}
use Rattle.mq_rules.specs.declared.role.Role.{Role}
use Rattle.mq_rules.specs.declared.fate.Fate.{Fate}
use Rattle.mq_rules.specs.declared.note.Note.{Note}
use Rattle.mq_rules.specs.Words.{is_some_and, is_id}
use Rattle.mq_rules.specs.Notes.{is_open, opener_of, closer_of, delivery_of, sent_as, received_as, pubrel_in, accepting_pubrec_in}
use Rattle.mq_rules.specs.Connections.{accepts, begins, resumes}
use Rattle.mq_rules.specs.KeptOrder.{values_of}
use Rattle.mq_rules.proofs.Exports.{and_false, both_true, not_true, or_false, or_left}
use Rattle.mq_inflight.specs.declared.inflight.entry.Entry.{Entry}
use Rattle.mq_inflight.specs.declared.inflight.resends.Resent.{Resent}
use Rattle.mq_inflight.specs.declared.inflight.resends.Bounds.{Bounds}
use Rattle.mq_inflight.specs.declared.inflight.resends.Excused.{Excused}
use Rattle.mq_inflight.specs.Opened.{entry_after, entry_next, opened_if, closed_if, confirmed_if, released_if, sent_if, sends_exactly_once, sends_retained}
use Rattle.mq_inflight.specs.Resending.{by_itself, entire, covers, is_due, is_limited, is_passed, bounds_by, bounds_next, bounded_next, confirms_untouched, IsResent}
use Rattle.mq_inflight.proofs.ValuesLaws.{none-passes}

unset : (b : Bool) → not b ≡ true → b ≡ false
unset false h = refl
unset true h = absurd (cc)

pub found-all : (opened : ℕ) (single : Excused) (entry : ℕ → Option Entry) (r s : Resent) → ((i : ℕ) → is_some (entry i) ≡ true → i < 65536) → s ≡ record { all = not (list_any (is_due opened single) (values_of entry)); confirmed = r.confirmed } → IsResent opened single entry r
    → IsResent opened single entry s
found-all opened single entry r s small same is = record {
  all_are = λ h i. none-passes (is_due opened single) i entry (small i) (unset (list_any (is_due opened single) (values_of entry)) (sym (ap (λ (x : Resent). x.all) same) ∙ h));
  confirmed_are = λ h. is.confirmed_are (sym (ap (λ (x : Resent). x.confirmed) same) ∙ h);
}

pub found-confirmed : (opened : ℕ) (single : Excused) (entry : ℕ → Option Entry) (r s : Resent) → ((i : ℕ) → is_some (entry i) ≡ true → i < 65536) → s ≡ record { all = r.all; confirmed = not (list_any (is_due opened entire) (values_of entry)) } → IsResent opened single entry r
    → IsResent opened single entry s
found-confirmed opened single entry r s small same is = record {
  all_are = λ h. is.all_are (sym (ap (λ (x : Resent). x.all) same) ∙ h);
  confirmed_are = λ h i. none-passes (is_due opened entire) i entry (small i) (unset (list_any (is_due opened entire) (values_of entry)) (sym (ap (λ (x : Resent). x.confirmed) same) ∙ h));
}

-- ---- one event more

-- what is kept of an identifier after an event, by what the event does to it
abbrev after : Bool → Bool → Bool → Bool → Bool → Bool → Bool → ℕ → Place3 → Option Entry → Option Entry
after opens closes confirms releases sends exactly_once retained bounded place old = opened_if opens exactly_once retained place (closed_if closes (confirmed_if confirms (released_if releases bounded place.position (sent_if sends bounded place.position old))))

first-none : (a b : Bool) → a ≡ false → (a && b) ≡ false
first-none a b h = ap (λ c. c && b) h

-- what was not due isn't where no less is excused
due-less : (lt c a b : Bool) → (a ≡ true → b ≡ true) → (lt && (c || not a)) ≡ false → (lt && (c || not b)) ≡ false
due-less false c a b m h = refl
due-less true true a b m h = absurd (cc)
due-less true false true b m h = ap not (m refl)
due-less true false false b m h = absurd (cc)

less-due : (opened : ℕ) (s t : Excused) (q : Option Entry) → ((e : Entry) → covers s e ≡ true → covers t e ≡ true) → is_some_and (is_due opened s) q ≡ false → is_some_and (is_due opened t) q ≡ false
less-due opened s t None more h = refl
less-due opened s t (Some e) more h = due-less (nat_lt e.sent opened) e.confirmed (covers s e) (covers t e) (more e) h

after-due : (o x c p d q r : Bool) (bounded : ℕ) (place : Place3) (opened : ℕ) (s t : Excused) (old : Option Entry) → nat_lt place.position opened ≡ false → ((e : Entry) → covers s e ≡ true → covers t e ≡ true) → is_some_and (is_due opened s) old ≡ false
    → (c && is_some_and (λ (e : Entry). nat_lt e.sent opened) old) ≡ false → is_some_and (is_due opened t) (after o x c p d q r bounded place old) ≡ false
after-due true x c p d q r bounded place opened s t old late more h k = first-none (nat_lt place.position opened) _ late
after-due false true c p d q r bounded place opened s t old late more h k = refl
after-due false false c p d q r bounded place opened s t None late more h k = refl
after-due false false c true d q r bounded place opened s t (Some e) late more h k = first-none (nat_lt place.position opened) _ late
after-due false false c false true q r bounded place opened s t (Some e) late more h k = first-none (nat_lt place.position opened) _ late
after-due false false true false false q r bounded place opened s t (Some e) late more h k = ap (λ b. b && true) k
after-due false false false false false q r bounded place opened s t (Some e) late more h k = due-less (nat_lt e.sent opened) e.confirmed (covers s e) (covers t e) (more e) h

pub same-single : (opened : ℕ) (s t : Excused) (entry : ℕ → Option Entry) (r : Resent) → s ≡ t → IsResent opened s entry r → IsResent opened t entry r
same-single opened s t entry r is h = subst (λ (x : Excused). IsResent opened x entry r) is h

-- what is excused by itself on a connection stays so
pub bounds-keep : (role : Role) (n : Note) (f g : Fate) (old : Option Bounds) (opened bounded at : ℕ) → bounded ≤ opened → (is_open n ≡ false → g ≡ f) → is_open n ≡ false → (e : Entry)
    → covers (by_itself g old opened bounded) e ≡ true → covers (by_itself f (bounds_next role n old) (cond (is_open n) at opened) (bounded_next n g old opened bounded)) e ≡ true
bounds-keep role n f g old opened bounded at within same closed e h =
    ap (λ b. covers (by_itself f (option_or (cond b None old) (bounds_by role n)) (cond b at opened) (cond (b && (resumes g && is_limited old)) opened bounded)) e) closed
    ∙ go old (ap (λ y. covers (by_itself y old opened bounded) e) (sym (same closed)) ∙ h)
  where
    later : (r : Bool) (b : Option Bounds) → (is_passed bounded e || (false && e.retained)) ≡ true → (is_passed (cond (r && is_limited b) opened bounded) e || (is_some_and (λ x. x.refuses_retained) b && e.retained)) ≡ true
    later r b h = or_left (is_passed (cond (r && is_limited b) opened bounded) e) (is_some_and (λ x. x.refuses_retained) b && e.retained) (by (r && is_limited b) (sym (or_false (is_passed bounded e)) ∙ h))
      where
        by : (c : Bool) → is_passed bounded e ≡ true → is_passed (cond c opened bounded) e ≡ true
        by false h = h
        by true h = sooner e.passed h
          where
            sooner : (q : Bool) → (q || nat_lt e.sent bounded) ≡ true → (q || nat_lt e.sent opened) ≡ true
            sooner true h = refl
            sooner false h = let lt = ltb-true e.sent bounded h in lt-ltb e.sent opened (omega (arith, lt, within))

    go : (o : Option Bounds) → covers (by_itself f o opened bounded) e ≡ true → covers (by_itself f (option_or o (bounds_by role n)) opened bounded) e ≡ true
    go (Some b) h = h
    go None h = later (resumes f) (bounds_by role n) (ap (λ c. is_passed (cond c opened bounded) e || (false && e.retained)) (sym (and_false (resumes f))) ∙ h)

unconfirmed : (n : Note) (opened : ℕ) (entry : ℕ → Option Entry) (i : ℕ) → confirms_untouched n opened entry ≡ false → (is_id i (received_as accepting_pubrec_in n) && is_some_and (λ (e : Entry). nat_lt e.sent opened) (entry i)) ≡ false
unconfirmed n opened entry i h = go (received_as accepting_pubrec_in n) h
  where
    go : (q : Option ℕ) → is_some_and (λ j. is_some_and (λ (e : Entry). nat_lt e.sent opened) (entry j)) q ≡ false → (is_id i q && is_some_and (λ (e : Entry). nat_lt e.sent opened) (entry i)) ≡ false
    go None h = refl
    go (Some j) h = by (i == j) refl
      where
        by : (b : Bool) → (i == j) ≡ b → (b && is_some_and (λ (e : Entry). nat_lt e.sent opened) (entry i)) ≡ false
        by true m = ap (λ k. is_some_and (λ (e : Entry). nat_lt e.sent opened) (entry k)) (eqb-true i j m) ∙ h
        by false m = refl

pub again-next : (f : Fate) (n : Note) (bounded : ℕ) (place : Place3) (opened : ℕ) (single next : Excused) (entry new : ℕ → Option Entry) (r : Resent) → opened ≤ place.position
    → (is_open n ≡ false → (e : Entry) → covers single e ≡ true → covers next e ≡ true)
    → ((i : ℕ) → new i ≡ entry_next f n bounded place i (entry i)) → IsResent opened single entry r
    → IsResent (cond (is_open n) place.position opened) next new (record { all = not (is_open n) && (r.all && not (confirms_untouched n opened entry)); confirmed = not (is_open n) && (r.confirmed && not (confirms_untouched n opened entry)) })
again-next f n bounded place opened single next entry new r le more grown is = go (is_open n) refl
  where
    late : nat_lt place.position opened ≡ false
    late = le-ltb place.position opened le

    begun : IsResent place.position next new (record { all = false; confirmed = false })
    begun = record { all_are = λ h. absurd (cc); confirmed_are = λ h. absurd (cc) }

    within : (b : Bool) → ((e : Entry) → covers single e ≡ true → covers next e ≡ true) → ((i : ℕ) → new i ≡ cond b (entry_after bounded i n place (entry i)) (entry i))
        → IsResent opened next new (record { all = r.all && not (confirms_untouched n opened entry); confirmed = r.confirmed && not (confirms_untouched n opened entry) })
    within false more grown = record {
      all_are = λ h i. ap (is_some_and (is_due opened next)) (grown i) ∙ less-due opened single next (entry i) more (is.all_are (both_true r.all (not (confirms_untouched n opened entry)) h).0 i);
      confirmed_are = λ h i. ap (is_some_and (is_due opened entire)) (grown i) ∙ is.confirmed_are (both_true r.confirmed (not (confirms_untouched n opened entry)) h).0 i;
    }
    within true more grown = record {
      all_are = λ h i.
          let flags = both_true r.all (not (confirms_untouched n opened entry)) h in
          ap (is_some_and (is_due opened next)) (grown i)
          ∙ after-due (is_id i (opener_of n)) (is_id i (closer_of n)) (is_id i (received_as accepting_pubrec_in n)) (is_id i (sent_as pubrel_in n)) (is_id i (delivery_of n)) (sends_exactly_once n) (sends_retained n) bounded place opened single next (entry i) late more (is.all_are flags.0 i)
          (unconfirmed n opened entry i (unset (confirms_untouched n opened entry) flags.1));
      confirmed_are = λ h i.
          let flags = both_true r.confirmed (not (confirms_untouched n opened entry)) h in
          ap (is_some_and (is_due opened entire)) (grown i)
          ∙ after-due (is_id i (opener_of n)) (is_id i (closer_of n)) (is_id i (received_as accepting_pubrec_in n)) (is_id i (sent_as pubrel_in n)) (is_id i (delivery_of n)) (sends_exactly_once n) (sends_retained n) bounded place opened entire entire (entry i) late (λ e h. h) (is.confirmed_are flags.0 i)
          (unconfirmed n opened entry i (unset (confirms_untouched n opened entry) flags.1));
    }

    go : (b : Bool) → is_open n ≡ b → IsResent (cond b place.position opened) next new (record { all = not b && (r.all && not (confirms_untouched n opened entry)); confirmed = not b && (r.confirmed && not (confirms_untouched n opened entry)) })
    go true h = begun
    go false h = within (accepts f) (more h) (λ i. grown i ∙ ap (λ b. cond b (cond (begins (Some f)) None (entry i)) (cond (accepts f) (entry_after bounded i n place (entry i)) (entry i))) h)
