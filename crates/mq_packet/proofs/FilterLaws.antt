-- Reading the filters of a body one after another, as a loop does, and what bytes come to as filters.
use Rattle.std.proofs.Common.{◌≡◌, ℕ, zero, suc, ◌+◌, ◌<◌, ◌≤◌, inl, inr, Bool, true, false, eqb, List, [], ◌∷◌, ◌++◌, length, Option, None, Some, Result, Ok, Err, refl, sym, ap, subst, ◌∙◌, append_assoc, length-append, arith}
use Rattle.std.specs.Prelude.{◌≢◌, ◌⊎◌, if◌then◌else◌}
use Rattle.std.specs.List.{AllByRecursion}
use Rattle.std.proofs.lemmas.Bool.{ne_eqb}
use Rattle.std.proofs.lemmas.List.{append-nil}
use Rattle.std.proofs.lemmas.List.Concat.{flat_map-append}
use Rattle.mq_wire.specs.Left.{Left}
use Rattle.mq_wire.specs.Spellings.{AreBytes, text_spelling}
use Rattle.mq_wire.proofs.Exports.{AreBytes-after}
use Rattle.mq_wire.specs.Fields.{◌>>=◌}
use Rattle.mq_packet.specs.declared.fault.DecodeFault.{DecodeFault}
use Rattle.mq_packet.specs.declared.rule.PacketRule.{PacketRule}
use Rattle.mq_packet.specs.declared.rule.PacketRule.TheVariants as rules
use Rattle.mq_packet.specs.Entries.{AskedFilter}
use Rattle.mq_packet.specs.Formats.{Kind, byte, text, ValueOf, Objection, unless_broken, is_filter, filter_objection, are_options, options_objection}
use Rattle.mq_packet.specs.Decoding.{broken, field_on, unless, read_field, some_options, options_on, with_options, options_after, filter_on, filters_within, filters_on}
use Rattle.mq_packet.specs.Asking.{AreOptions, IsAsked, options_spelling, asked_spelling, filters_spelling, AreAsked, AreListed, AreFilters}
use Rattle.mq_packet.specs.Spelled.{spelling, Begin, FailsField, FailsOptions, FailsFilter, BadFilter}
use Rattle.mq_packet.specs.Elements.{asked_at, read_or_none, filters_in, AreRead}
use Rattle.mq_packet.proofs.AskedLaws.{some_is, asked_at_nil, asked_at_spelled}
use Rattle.mq_packet.proofs.FieldLaws.{left_from, Front, given, failed, given_is, failed_is, field_found, field_read, field_misspelled, misspelled_field}
use Rattle.mq_packet.proofs.ValueLaws.{unobjected}

-- ---- steps that succeeded, and steps that failed

pub bind_ok : {A B : Type 0} (r : Result A DecodeFault) (f : A → Result B DecodeFault) (y : B) → (r >>= f) ≡ Ok y → (x : A) × (r ≡ Ok x) × (f x ≡ Ok y)
bind_ok (Ok x) f y e = (x, refl, e)
bind_ok (Err d) f y e = absurd cc

-- The first failed, or the one after it.
abbrev FailedSo : {A B : Type 0} → Result A DecodeFault → (A → Result B DecodeFault) → DecodeFault → Type 0
FailedSo {A} r f fault = (r ≡ Err fault) ⊎ ((x : A) × (r ≡ Ok x) × (f x ≡ Err fault))

bind_err : {A B : Type 0} (r : Result A DecodeFault) (f : A → Result B DecodeFault) (fault : DecodeFault) → (r >>= f) ≡ Err fault → FailedSo r f fault
bind_err (Ok x) f fault e = inr (x, refl, e)
bind_err {A} {B} (Err d) f fault e = inl (ap (λ (g : DecodeFault). failed {A = A} g) (failed_is {A = B} d fault e))

pub unless_ok : {X : Type 0} (at : ℕ) (o : Option Objection) (x y : X) → unless at o x ≡ Ok y → (o ≡ None) × (x ≡ y)
unless_ok at None x y e = (refl, given_is x y e)
unless_ok at (Some objection) x y e = absurd cc

pub unbroken : (good : Bool) (rule : PacketRule) → unless_broken good rule ≡ None → good ≡ true
unbroken true rule e = refl
unbroken false rule e = absurd cc

-- ---- one field

module _ (kind : Kind) (objection : ValueOf kind → Option Objection) (at : ℕ) (bytes : List ℕ) where
  -- What was read, unless it is objected to.
  abbrev judged : Result (ValueOf kind × Left) DecodeFault → Result (ValueOf kind × Left) DecodeFault
  judged found = found >>= (λ x. unless at (objection x.0) x)

  -- A field that is taken stands at the front.
  field_taken : AreBytes bytes → (value : ValueOf kind) (new : Left) → read_field kind objection (left_from at bytes) ≡ Ok (value, new) → Front kind at bytes value new × (objection value ≡ None)
  field_taken known value new e =
      let x = bind_ok (field_on kind (left_from at bytes)) (λ x. unless at (objection x.0) x) (value, new) e in
      let passed = unless_ok at (objection x.0.0) x.0 (value, new) x.2 in
      let here : Front kind at bytes x.0.0 x.0.1 × (objection x.0.0 ≡ None) = (field_found kind at bytes x.0.0 x.0.1 known x.1, passed.0) in
      subst (λ (y : ValueOf kind × Left). Front kind at bytes y.0 y.1 × (objection y.0 ≡ None)) passed.1 here

  -- One that stands there is taken.
  good_field : (value : ValueOf kind) (left : List ℕ) → Begin kind bytes value left → objection value ≡ None → read_field kind objection (left_from at bytes) ≡ given (value, left_from (at + length (spelling kind value)) left)
  good_field value left begin none =
      let read : ValueOf kind × Left = (value, left_from (at + length (spelling kind value)) left) in
      ap judged (field_read kind at bytes value left begin) ∙ ap (λ (o : Option Objection). unless at o read) none

  objected_so : (x : ValueOf kind × Left) → Front kind at bytes x.0 x.1 → (why : Option Objection) → objection x.0 ≡ why → (fault : DecodeFault) → unless at why x ≡ Err fault → FailsField kind objection at bytes fault
  objected_so x front None none fault e = absurd cc
  objected_so x front (Some why) some fault e = inr (why, (x.0, x.1.rest, front.begin, some), sym (failed_is {A = ValueOf kind × Left} _ fault e))

  -- A field that isn't taken is at fault.
  field_fails : AreBytes bytes → (fault : DecodeFault) → read_field kind objection (left_from at bytes) ≡ Err fault → FailsField kind objection at bytes fault
  field_fails known fault e = by_found (field_on kind (left_from at bytes)) refl e
    where
      by_found : (found : Result (ValueOf kind × Left) DecodeFault) → field_on kind (left_from at bytes) ≡ found → judged found ≡ Err fault → FailsField kind objection at bytes fault
      by_found (Ok x) is h = objected_so x (field_found kind at bytes x.0 x.1 known is) (objection x.0) refl fault h
      by_found (Err first) is h = inl (field_misspelled kind at bytes fault known (is ∙ h))

  -- One that is at fault isn't taken.
  fails_field : AreBytes bytes → (fault : DecodeFault) → FailsField kind objection at bytes fault → read_field kind objection (left_from at bytes) ≡ failed fault
  fails_field known fault (inl h) = ap judged (misspelled_field kind at bytes fault known h)
  fails_field known fault (inr h) =
      let read : ValueOf kind × Left = (h.1.0, left_from (at + length (spelling kind h.1.0)) h.1.1) in
      ap judged (field_read kind at bytes h.1.0 h.1.1 h.1.2)
      ∙ ap (λ (o : Option Objection). unless at o read) h.1.3
      ∙ ap (λ (f : DecodeFault). failed {A = ValueOf kind × Left} f) (sym h.2)

-- ---- the options after a filter

-- What was read of them.
abbrev TakesOptions : Bool → ℕ → List ℕ → Option ℕ × Left → Type 0
TakesOptions asks at bytes x = AreOptions asks x.0 × (bytes ≡ options_spelling x.0 ++ x.1.rest) × (x.1 ≡ left_from (at + length (options_spelling x.0)) x.1.rest)

options_taken : (asks : Bool) (at : ℕ) (bytes : List ℕ) → AreBytes bytes → (x : Option ℕ × Left) → options_on asks (left_from at bytes) ≡ Ok x → TakesOptions asks at bytes x
options_taken false at bytes known x e =
    let made : Option ℕ × Left = (None, left_from at bytes) in
    let place : at ≡ at + 0 = omega arith in
    subst (TakesOptions false at bytes) (given_is made x e) (refl, refl, ap (λ (n : ℕ). left_from n bytes) place)
options_taken true at bytes known x e =
    let y = bind_ok (read_field byte options_objection (left_from at bytes)) some_options x e in
    let made : Option ℕ × Left = (Some y.0.0, y.0.1) in
    let front = field_taken byte options_objection at bytes known y.0.0 y.0.1 y.1 in
    subst (TakesOptions true at bytes) (given_is made x y.2)
    ((y.0.0, refl, front.0.begin.is_value, unbroken (are_options y.0.0) rules.W17 front.1), front.0.begin.spelled, front.0.trailing)

options_fail : (asks : Bool) (at : ℕ) (bytes : List ℕ) → AreBytes bytes → (fault : DecodeFault) → options_on asks (left_from at bytes) ≡ Err fault → FailsOptions asks at bytes fault
options_fail false at bytes known fault e = absurd cc
options_fail true at bytes known fault e = by_step (bind_err (read_field byte options_objection (left_from at bytes)) some_options fault e)
  where
    by_step : FailedSo (read_field byte options_objection (left_from at bytes)) some_options fault → FailsField byte options_objection at bytes fault
    by_step (inl h) = field_fails byte options_objection at bytes known fault h
    by_step (inr h) = absurd (let never = h.2 in cc)

fail_options : (asks : Bool) (at : ℕ) (bytes : List ℕ) → AreBytes bytes → (fault : DecodeFault) → FailsOptions asks at bytes fault → options_on asks (left_from at bytes) ≡ failed fault
fail_options false at bytes known fault h = absurd h
fail_options true at bytes known fault h = ap (λ (r : Result (ℕ × Left) DecodeFault). r >>= some_options) (fails_field byte options_objection at bytes known fault h)

options_spelled : (asks : Bool) (at : ℕ) (options : Option ℕ) (rest : List ℕ) → AreOptions asks options → options_on asks (left_from at (options_spelling options ++ rest)) ≡ given (options, left_from (at + length (options_spelling options)) rest)
options_spelled false at None rest is = (let place : at ≡ at + 0 = omega arith in ap (λ (k : ℕ). given (None, left_from k rest)) place)
options_spelled false at (Some options) rest is = absurd cc
options_spelled true at None rest is = absurd (let never = is.1 in cc)
options_spelled true at (Some options) rest is =
    let same : options ≡ is.0 = some_is options is.0 is.1 in
    let good : are_options options ≡ true = ap are_options same ∙ is.3 in
    rw good refl

-- ---- one filter

-- What was read of it.
record TakesFilter (asks : Bool) (at : ℕ) (bytes : List ℕ) (x : AskedFilter × Left) : Type 0 where
  asked : IsAsked asks x.0
  parts : bytes ≡ asked_spelling x.0 ++ x.1.rest
  trailing : x.1 ≡ left_from (at + length (asked_spelling x.0)) x.1.rest

filter_taken : (asks : Bool) (at : ℕ) (bytes : List ℕ) → AreBytes bytes → (x : AskedFilter × Left) → filter_on asks (left_from at bytes) ≡ Ok x → TakesFilter asks at bytes x
filter_taken asks at bytes known x e =
    let y = bind_ok (read_field text filter_objection (left_from at bytes)) (options_after asks) x e in
    let z = bind_ok (options_on asks y.0.1) (with_options y.0.0) x y.2 in
    let front = field_taken text filter_objection at bytes known y.0.0 y.0.1 y.1 in
    let more = options_taken asks y.0.1.at y.0.1.rest (AreBytes-after (text_spelling y.0.0) y.0.1.rest bytes known front.0.begin.spelled) z.0 z.1 in
    let filter : AskedFilter = record { filter = y.0.0; options = z.0.0 } in
    let made : AskedFilter × Left = (filter, z.0.1) in
    let size : length (asked_spelling filter) ≡ length (text_spelling y.0.0) + length (options_spelling z.0.0) = length-append (text_spelling y.0.0) (options_spelling z.0.0) in
    let place : y.0.1.at + length (options_spelling z.0.0) ≡ at + length (asked_spelling filter) = omega (arith, size, ap (λ (l : Left). l.at) front.0.trailing) in
    let here : TakesFilter asks at bytes made = record {
      asked = record { text = front.0.begin.is_value; filter = unbroken (is_filter y.0.0) rules.W15 front.1; options = more.0 };
      parts = front.0.begin.spelled ∙ ap (λ (l : List ℕ). text_spelling y.0.0 ++ l) more.1 ∙ sym (append_assoc (text_spelling y.0.0) (options_spelling z.0.0) z.0.1.rest);
      trailing = more.2 ∙ ap (λ (n : ℕ). left_from n z.0.1.rest) place;
    } in
    subst (TakesFilter asks at bytes) (given_is made x z.2) here

-- A filter has some bytes.
filter_some : (f : AskedFilter) → 0 < length (asked_spelling f)
filter_some f = omega (arith, length-append (text_spelling f.filter) (options_spelling f.options))

filter_shorter_by : (asks : Bool) (at : ℕ) (bytes : List ℕ) (x : AskedFilter × Left) → TakesFilter asks at bytes x → length x.1.rest < length bytes
filter_shorter_by asks at bytes x h = omega (arith, ap (λ (l : List ℕ). length l) h.parts, length-append (asked_spelling x.0) x.1.rest, filter_some x.0)

filter_fails : (asks : Bool) (at : ℕ) (bytes : List ℕ) → AreBytes bytes → (fault : DecodeFault) → filter_on asks (left_from at bytes) ≡ Err fault → FailsFilter asks at bytes fault
filter_fails asks at bytes known fault e = by_text (bind_err (read_field text filter_objection (left_from at bytes)) (options_after asks) fault e)
  where
    by_options : (y : List ℕ × Left) → Front text at bytes y.0 y.1 → filter_objection y.0 ≡ None → FailedSo (options_on asks y.1) (with_options y.0) fault → FailsFilter asks at bytes fault
    by_options y front none (inl h) =
        (let wrong : FailsOptions asks y.1.at y.1.rest fault = options_fail asks y.1.at y.1.rest (AreBytes-after (text_spelling y.0) y.1.rest bytes known front.begin.spelled) fault h in
        inr (y.0, y.1.rest, front.begin, none, subst (λ (n : ℕ). FailsOptions asks n y.1.rest fault) (ap (λ (l : Left). l.at) front.trailing) wrong))
    by_options y front none (inr h) = absurd (let never = h.2 in cc)

    by_text : FailedSo (read_field text filter_objection (left_from at bytes)) (options_after asks) fault → FailsFilter asks at bytes fault
    by_text (inl h) = inl (field_fails text filter_objection at bytes known fault h)
    by_text (inr h) =
        (let front = field_taken text filter_objection at bytes known h.0.0 h.0.1 h.1 in
        by_options h.0 front.0 front.1 (bind_err (options_on asks h.0.1) (with_options h.0.0) fault h.2))

fail_filter : (asks : Bool) (at : ℕ) (bytes : List ℕ) → AreBytes bytes → (fault : DecodeFault) → FailsFilter asks at bytes fault → filter_on asks (left_from at bytes) ≡ failed fault
fail_filter asks at bytes known fault (inl h) = ap (λ (r : Result (List ℕ × Left) DecodeFault). r >>= options_after asks) (fails_field text filter_objection at bytes known fault h)
fail_filter asks at bytes known fault (inr h) =
    ap (λ (r : Result (List ℕ × Left) DecodeFault). r >>= options_after asks) (good_field text filter_objection at bytes h.0 h.1 h.2 h.3)
    ∙ ap (λ (r : Result (Option ℕ × Left) DecodeFault). r >>= with_options h.0) (fail_options asks (at + length (text_spelling h.0)) h.1 (AreBytes-after (text_spelling h.0) h.1 bytes known h.2.spelled) fault h.4)

-- A filter is read at the front of its spelling.
filter_spelled : (asks : Bool) (at : ℕ) (f : AskedFilter) (rest : List ℕ) → IsAsked asks f → filter_on asks (left_from at (asked_spelling f ++ rest)) ≡ given (f, left_from (at + length (asked_spelling f)) rest)
filter_spelled asks at f rest is =
    let more : List ℕ = options_spelling f.options ++ rest in
    let inside : ℕ = at + length (text_spelling f.filter) in
    let begin : Begin text (asked_spelling f ++ rest) f.filter more = record { is_value = is.text; spelled = append_assoc (text_spelling f.filter) (options_spelling f.options) rest } in
    let size : length (asked_spelling f) ≡ length (text_spelling f.filter) + length (options_spelling f.options) = length-append (text_spelling f.filter) (options_spelling f.options) in
    let place : inside + length (options_spelling f.options) ≡ at + length (asked_spelling f) = omega (arith, size) in
    ap (λ (r : Result (List ℕ × Left) DecodeFault). r >>= options_after asks) (good_field text filter_objection at (asked_spelling f ++ rest) f.filter more begin (unobjected (is_filter f.filter) rules.W15 is.filter))
    ∙ ap (λ (r : Result (Option ℕ × Left) DecodeFault). r >>= with_options f.filter) (options_spelled asks inside f.options rest is.options)
    ∙ ap (λ (n : ℕ). given (f, left_from n rest)) place

-- ---- all that is left

pub nil_at : (bytes : List ℕ) → length bytes ≡ 0 → bytes ≡ []
nil_at [] e = refl
nil_at (a ∷ bytes) e = absurd (omega (arith, e))

pub some_left : (bytes : List ℕ) → bytes ≢ [] → eqb (length bytes) 0 ≡ false
some_left bytes some = ne_eqb (length bytes) 0 (λ e. some (nil_at bytes e))

-- Filters before others.
abbrev after : List AskedFilter → List AskedFilter → Result (List AskedFilter) DecodeFault
after fs others = Ok (fs ++ others)

-- One filter, and those that are left after it.
abbrev first_of : AskedFilter → List AskedFilter → Result (List AskedFilter) DecodeFault
first_of f others = Ok (f ∷ others)

abbrev onwards : ℕ → Bool → AskedFilter × Left → Result (List AskedFilter) DecodeFault
onwards n asks x = filters_within n asks x.1 >>= first_of x.0

-- One step, where something is left.
step : (n : ℕ) (asks : Bool) (left : Left) → left.rest ≢ [] → filters_within (suc n) asks left ≡ (filter_on asks left >>= onwards n asks)
step n asks left some = ap (λ (t : Bool). if t then Ok [] else (filter_on asks left >>= onwards n asks)) (some_left left.rest some)

-- None, where nothing is.
finish : (n : ℕ) (asks : Bool) (at : ℕ) → filters_within n asks (left_from at []) ≡ Ok []
finish zero asks at = refl
finish (suc n) asks at = refl

after_none : (r : Result (List AskedFilter) DecodeFault) → r ≡ (r >>= after [])
after_none (Ok fs) = refl
after_none (Err fault) = refl

after_first : (f : AskedFilter) (fs : List AskedFilter) (r : Result (List AskedFilter) DecodeFault) → (r >>= after fs >>= first_of f) ≡ (r >>= after (f ∷ fs))
after_first f fs (Ok others) = refl
after_first f fs (Err fault) = refl

-- Filters that may be are read, and then what follows them.
within_after : (n : ℕ) (asks : Bool) (at : ℕ) (fs : List AskedFilter) (rest : List ℕ) → AllByRecursion (IsAsked asks) fs → length (filters_spelling fs ++ rest) ≤ n
    → (m : ℕ) × (length rest ≤ m) × (filters_within n asks (left_from at (filters_spelling fs ++ rest)) ≡ (filters_within m asks (left_from (at + length (filters_spelling fs)) rest) >>= after fs))
within_after n asks at [] rest each enough =
    let place : at ≡ at + 0 = omega arith in
    (n, enough, after_none (filters_within n asks (left_from at rest)) ∙ ap (λ (k : ℕ). filters_within n asks (left_from k rest) >>= after []) place)
within_after zero asks at (f ∷ fs) rest each enough =
    absurd (omega (arith, enough, length-append (asked_spelling f ++ filters_spelling fs) rest, length-append (asked_spelling f) (filters_spelling fs), filter_some f))
within_after (suc n) asks at (f ∷ fs) rest each enough =
    let trailing : List ℕ = filters_spelling fs ++ rest in
    let there : ℕ = at + length (asked_spelling f) in
    let parts : filters_spelling (f ∷ fs) ++ rest ≡ asked_spelling f ++ trailing = append_assoc (asked_spelling f) (filters_spelling fs) rest in
    let size : length (asked_spelling f ++ trailing) ≡ length (asked_spelling f) + length trailing = length-append (asked_spelling f) trailing in
    let whole : length (filters_spelling (f ∷ fs) ++ rest) ≡ length (asked_spelling f ++ trailing) = ap (λ (l : List ℕ). length l) parts in
    let more = within_after n asks there fs rest each.1 (omega (arith, enough, whole, size, filter_some f)) in
    let place : there + length (filters_spelling fs) ≡ at + length (filters_spelling (f ∷ fs)) = omega (arith, length-append (asked_spelling f) (filters_spelling fs)) in (
      more.0,
      more.1,
      ap (λ (bytes : List ℕ). filters_within (suc n) asks (left_from at bytes)) parts
          ∙ step n asks (left_from at (asked_spelling f ++ trailing)) (λ e. omega (arith, ap (λ (l : List ℕ). length l) e, size, filter_some f))
          ∙ ap (λ (r : Result (AskedFilter × Left) DecodeFault). r >>= onwards n asks) (filter_spelled asks at f trailing each.0)
          ∙ ap (λ (r : Result (List AskedFilter) DecodeFault). r >>= first_of f) more.2
          ∙ after_first f fs (filters_within more.0 asks (left_from (there + length (filters_spelling fs)) rest))
          ∙ ap (λ (k : ℕ). filters_within more.0 asks (left_from k rest) >>= after (f ∷ fs)) place,
    )

-- Filters that may be, one at least, have some bytes.
spelling_some : (fs : List AskedFilter) → fs ≢ [] → filters_spelling fs ≢ []
spelling_some [] some = absurd (some refl)
spelling_some (f ∷ fs) some = λ e. omega (arith, ap (λ (l : List ℕ). length l) e, length-append (asked_spelling f) (filters_spelling fs), filter_some f)

-- Where something is left.
on_some : (asks : Bool) (left : Left) → left.rest ≢ [] → filters_on asks left ≡ filters_within (length left.rest) asks left
unfolding filters_on
on_some asks left some = ap (λ (t : Bool). if t then Err (broken left.at rules.W16) else filters_within (length left.rest) asks left) (some_left left.rest some)

-- Filters that may be are read from their spellings.
within_all : (n : ℕ) (asks : Bool) (at : ℕ) (fs : List AskedFilter) → AllByRecursion (IsAsked asks) fs → length (filters_spelling fs) ≤ n → filters_within n asks (left_from at (filters_spelling fs)) ≡ given fs
within_all n asks at fs each enough =
    let whole : filters_spelling fs ≡ filters_spelling fs ++ [] = sym (append-nil (filters_spelling fs)) in
    let read = within_after n asks at fs [] each (omega (arith, enough, ap (λ (l : List ℕ). length l) whole)) in
    ap (λ (bytes : List ℕ). filters_within n asks (left_from at bytes)) whole
    ∙ read.2
    ∙ ap (λ (r : Result (List AskedFilter) DecodeFault). r >>= after fs) (finish read.0 asks (at + length (filters_spelling fs)))
    ∙ ap (λ (l : List AskedFilter). given l) (append-nil fs)

pub filters_known : (asks : Bool) (left : Left) (fs : List AskedFilter) → AreAsked asks fs → left.rest ≡ filters_spelling fs → filters_on asks left ≡ Ok fs
filters_known asks left fs are parts =
    on_some asks left (λ e. spelling_some fs are.some (sym parts ∙ e))
    ∙ ap (λ (bytes : List ℕ). filters_within (length left.rest) asks (left_from left.at bytes)) parts
    ∙ within_all (length left.rest) asks left.at fs are.each (omega (arith, ap (λ (l : List ℕ). length l) parts))

-- No filter is a fault.
pub filters_none : (asks : Bool) (left : Left) → left.rest ≡ [] → filters_on asks left ≡ Err (broken left.at rules.W16)
unfolding filters_on
filters_none asks left none = rw none refl

-- So is one that may not be, after others that may.
pub filters_bad : (asks : Bool) (left : Left) (fault : DecodeFault) → AreBytes left.rest → BadFilter asks left.at left.rest fault → filters_on asks left ≡ Err fault
filters_bad asks left fault known h =
    let there : ℕ = left.at + length (filters_spelling h.good) in
    let read = within_after (length left.rest) asks left.at h.good h.others h.each (omega (arith, ap (λ (l : List ℕ). length l) h.parts)) in
    let refused : filter_on asks (left_from there h.others) ≡ failed fault = fail_filter asks there h.others (AreBytes-after (filters_spelling h.good) h.others left.rest known h.parts) fault h.refused in
    on_some asks left (λ e. h.some (nothing_after (filters_spelling h.good) h.others (sym h.parts ∙ e)))
    ∙ ap (λ (bytes : List ℕ). filters_within (length left.rest) asks (left_from left.at bytes)) h.parts
    ∙ read.2
    ∙ ap (λ (r : Result (List AskedFilter) DecodeFault). r >>= after h.good) (stops read.0 there h.others read.1 h.some refused)
  where
    nothing_after : (front back : List ℕ) → front ++ back ≡ [] → back ≡ []
    nothing_after [] back e = e
    nothing_after (a ∷ front) back e = absurd cc

    stops : (m there : ℕ) (others : List ℕ) → length others ≤ m → others ≢ [] → filter_on asks (left_from there others) ≡ failed fault → filters_within m asks (left_from there others) ≡ failed fault
    stops zero there others enough some e = absurd (some (nil_at others (omega (arith, enough))))
    stops (suc m) there others enough some e = step m asks (left_from there others) some ∙ ap (λ (r : Result (AskedFilter × Left) DecodeFault). r >>= onwards m asks) e

-- ---- what bytes come to

-- The bytes are filters that may be, of which there may be none; or one of them may not be.
abbrev pub ComeTo : Bool → ℕ → List ℕ → Result (List AskedFilter) DecodeFault → Type 0
ComeTo asks at bytes (Ok fs) = AllByRecursion (IsAsked asks) fs × (bytes ≡ filters_spelling fs)
ComeTo asks at bytes (Err fault) = BadFilter asks at bytes fault

module _ (asks : Bool) (at : ℕ) (bytes : List ℕ) where
  one_more : (x : AskedFilter × Left) → TakesFilter asks at bytes x → (r : Result (List AskedFilter) DecodeFault) → ComeTo asks x.1.at x.1.rest r → ComeTo asks at bytes (r >>= first_of x.0)
  one_more x first (Ok fs) h = ((first.asked, h.0), first.parts ∙ ap (λ (l : List ℕ). asked_spelling x.0 ++ l) h.1)
  one_more x first (Err fault) h =
      let place : x.1.at + length (filters_spelling h.good) ≡ at + length (filters_spelling (x.0 ∷ h.good)) = omega (arith, ap (λ (l : Left). l.at) first.trailing, length-append (asked_spelling x.0) (filters_spelling h.good)) in
      record {
        good = x.0 ∷ h.good;
        each = (first.asked, h.each);
        others = h.others;
        some = h.some;
        parts = first.parts ∙ ap (λ (l : List ℕ). asked_spelling x.0 ++ l) h.parts ∙ sym (append_assoc (asked_spelling x.0) (filters_spelling h.good) h.others);
        refused = subst (λ (n : ℕ). FailsFilter asks n h.others fault) place h.refused;
      }

  -- By the filter at the front, if one is read there.
  by_filter : AreBytes bytes → bytes ≢ [] → (n : ℕ) → ((there : ℕ) (left : List ℕ) → AreBytes left → length left < length bytes → ComeTo asks there left (filters_within n asks (left_from there left)))
      → (r : Result (AskedFilter × Left) DecodeFault) → filter_on asks (left_from at bytes) ≡ r → ComeTo asks at bytes (r >>= onwards n asks)
  by_filter known some n later (Ok x) e =
      let first = filter_taken asks at bytes known x e in
      one_more x first (filters_within n asks x.1) (later x.1.at x.1.rest (AreBytes-after (asked_spelling x.0) x.1.rest bytes known first.parts) (filter_shorter_by asks at bytes x first))
  by_filter known some n later (Err fault) e =
      let place : at ≡ at + 0 = omega arith in
      record {
        good = [];
        each = tt;
        others = bytes;
        some = some;
        parts = refl;
        refused = subst (λ (k : ℕ). FailsFilter asks k bytes fault) place (filter_fails asks at bytes known fault e);
      }

within_come : (n : ℕ) (asks : Bool) (at : ℕ) (bytes : List ℕ) → AreBytes bytes → length bytes ≤ n → ComeTo asks at bytes (filters_within n asks (left_from at bytes))
within_come zero asks at bytes known enough = (tt, nil_at bytes (omega (arith, enough)))
within_come (suc n) asks at [] known enough = (tt, refl)
within_come (suc n) asks at (b ∷ bytes) known enough =
    let P : Result (List AskedFilter) DecodeFault → Type 0 = λ r. ComeTo asks at (b ∷ bytes) r in
    let full : (b ∷ bytes) ≢ [] = λ (e : (b ∷ bytes) ≡ []). cc in
    subst P (sym (step n asks (left_from at (b ∷ bytes)) full))
    (by_filter asks at (b ∷ bytes) known full n (λ there left left_bytes less. within_come n asks there left left_bytes (omega (arith, less, enough))) (filter_on asks (left_from at (b ∷ bytes))) refl)

-- Bytes, of which there are some, come to filters or to a fault.
pub filters_come : (asks : Bool) (at : ℕ) (bytes : List ℕ) → bytes ≢ [] → AreBytes bytes → ComeTo asks at bytes (filters_on asks (left_from at bytes))
filters_come asks at bytes some known =
    let P : Result (List AskedFilter) DecodeFault → Type 0 = λ r. ComeTo asks at bytes r in
    subst P (sym (on_some asks (left_from at bytes) some)) (within_come (length bytes) asks at bytes known (omega arith))

-- ---- filters in memory

in_spelled : (asks : Bool) (fs : List AskedFilter) → AllByRecursion (IsAsked asks) fs → filters_in asks (filters_spelling fs) ≡ fs
unfolding filters_in
in_spelled asks fs each = ap read_or_none (within_all (length (filters_spelling fs)) asks 0 fs each (omega arith))

-- Bytes that spell filters are these in memory.
pub in_memory : (asks : Bool) (bytes : List ℕ) (fs : List AskedFilter) → AllByRecursion (IsAsked asks) fs → bytes ≡ filters_spelling fs → filters_in asks bytes ≡ fs
in_memory asks bytes fs each parts = ap (filters_in asks) parts ∙ in_spelled asks fs each

pub filters_spelled : (asks : Bool) (bytes : List ℕ) → AreFilters asks bytes → bytes ≡ filters_spelling (filters_in asks bytes)
filters_spelled asks bytes h = h.spelled ∙ ap filters_spelling (sym (in_memory asks bytes h.filters h.asked.each h.spelled))

pub filters_asked : (asks : Bool) (bytes : List ℕ) → AreFilters asks bytes → AreAsked asks (filters_in asks bytes)
filters_asked asks bytes h = subst (AreAsked asks) (sym (in_memory asks bytes h.filters h.asked.each h.spelled)) h.asked

pub filters_listed : (asks : Bool) (bytes : List ℕ) → AreFilters asks bytes → AreListed asks bytes
filters_listed asks bytes h = record { filters = h.filters; each = h.asked.each; spelled = h.spelled }

-- There are no more of them than bytes.
pub no_more : (asks : Bool) (bytes : List ℕ) → AreListed asks bytes → length (filters_in asks bytes) ≤ length bytes
no_more asks bytes h =
    let same : length (filters_in asks bytes) ≡ length h.filters = ap (λ (fs : List AskedFilter). length fs) (in_memory asks bytes h.filters h.each h.spelled) in
    omega (arith, same, few h.filters, ap (λ (l : List ℕ). length l) h.spelled)
  where
    few : (fs : List AskedFilter) → length fs ≤ length (filters_spelling fs)
    few [] = omega arith
    few (f ∷ fs) = omega (arith, few fs, filter_some f, length-append (asked_spelling f) (filters_spelling fs))

-- No bytes are no filters.
pub none_listed : (asks : Bool) → AreListed asks []
none_listed asks = record { filters = []; each = tt; spelled = refl }

pub none_in : (asks : Bool) → filters_in asks [] ≡ []
none_in asks = in_spelled asks [] tt

-- Where no filter stands at the front, there are none.
pub next_none : (asks : Bool) (bytes : List ℕ) → AreListed asks bytes → asked_at asks bytes ≡ None → filters_in asks bytes ≡ []
next_none asks bytes h none = by_list h.filters h.each h.spelled
  where
    by_list : (fs : List AskedFilter) → AllByRecursion (IsAsked asks) fs → bytes ≡ filters_spelling fs → filters_in asks bytes ≡ []
    by_list [] each parts = in_memory asks bytes [] each parts
    by_list (f ∷ fs) each parts = absurd (let never = sym none ∙ ap (asked_at asks) parts ∙ asked_at_spelled asks f (filters_spelling fs) each.0 in cc)

-- The filter that stands there is the first, and what is left after it are the others.
pub next_some : (asks : Bool) (bytes : List ℕ) (f : AskedFilter) (left : List ℕ) → AreListed asks bytes → asked_at asks bytes ≡ Some (f, left) → (filters_in asks bytes ≡ f ∷ filters_in asks left) × AreListed asks left
next_some asks bytes f left h found = by_list h.filters h.each h.spelled
  where
    by_list : (fs : List AskedFilter) → AllByRecursion (IsAsked asks) fs → bytes ≡ filters_spelling fs → (filters_in asks bytes ≡ f ∷ filters_in asks left) × AreListed asks left
    by_list [] each parts = absurd (let never = sym found ∙ ap (asked_at asks) parts ∙ asked_at_nil asks in cc)
    by_list (g ∷ fs) each parts =
        (let here : AskedFilter × List ℕ = (f, left) in
        let first : AskedFilter × List ℕ = (g, filters_spelling fs) in
        let same : here ≡ first = some_is here first (sym found ∙ ap (asked_at asks) parts ∙ asked_at_spelled asks g (filters_spelling fs) each.0) in
        let rest : left ≡ filters_spelling fs = ap (λ (x : AskedFilter × List ℕ). x.1) same in
        let one : f ≡ g = ap (λ (x : AskedFilter × List ℕ). x.0) same in (
          in_memory asks bytes (g ∷ fs) each parts ∙ ap (λ (x : AskedFilter). x ∷ fs) (sym one) ∙ ap (λ (others : List AskedFilter). f ∷ others) (sym (in_memory asks left fs each.1 rest)),
          record { filters = fs; each = each.1; spelled = rest },
        ))

-- ---- as a loop goes over them

-- Where the loop stands: after these filters.
pub record Goes (asks : Bool) (start left : Left) : Type 0 where
  pub before : List AskedFilter
  pub each : AllByRecursion (IsAsked asks) before
  pub parts : start.rest ≡ filters_spelling before ++ left.rest
  pub place : left.at ≡ start.at + length (filters_spelling before)
  pub some : before ≡ [] → left.rest ≢ []

pub begins : (asks : Bool) (start : Left) → start.rest ≢ [] → Goes asks start start
begins asks start some = record { before = []; each = tt; parts = refl; place = omega arith; some = λ none. some }

each_more : (asks : Bool) (fs : List AskedFilter) (f : AskedFilter) → AllByRecursion (IsAsked asks) fs → IsAsked asks f → AllByRecursion (IsAsked asks) (fs ++ f ∷ [])
each_more asks [] f each is = (is, tt)
each_more asks (g ∷ fs) f each is = (each.0, each_more asks fs f each.1 is)

more_some : (fs : List AskedFilter) (f : AskedFilter) → fs ++ f ∷ [] ≢ []
more_some fs f e = (let size : length (fs ++ f ∷ []) ≡ length fs + 1 = length-append fs (f ∷ []) in absurd (omega (arith, size, ap length e)))

-- One filter more is spelled after the others.
more_spelled : (fs : List AskedFilter) (f : AskedFilter) → filters_spelling (fs ++ f ∷ []) ≡ filters_spelling fs ++ asked_spelling f
more_spelled fs f = flat_map-append asked_spelling fs (f ∷ []) ∙ ap (λ (l : List ℕ). filters_spelling fs ++ l) (append-nil (asked_spelling f))

module _ (asks : Bool) (start left : Left) (known : AreBytes start.rest) (at : Goes asks start left) where
  left_known : AreBytes left.rest
  left_known = AreBytes-after (filters_spelling at.before) left.rest start.rest known at.parts

  pub filter_shorter : (f : AskedFilter) (new : Left) → filter_on asks left ≡ Ok (f, new) → length new.rest < length left.rest
  filter_shorter f new found = filter_shorter_by asks left.at left.rest (f, new) (filter_taken asks left.at left.rest left_known (f, new) found)

  pub goes_on : (f : AskedFilter) (new : Left) → filter_on asks left ≡ Ok (f, new) → Goes asks start new
  goes_on f new found =
      let first : TakesFilter asks left.at left.rest (f, new) = filter_taken asks left.at left.rest left_known (f, new) found in
      let grown : filters_spelling (at.before ++ f ∷ []) ≡ filters_spelling at.before ++ asked_spelling f = more_spelled at.before f in
      let size : length (filters_spelling (at.before ++ f ∷ [])) ≡ length (filters_spelling at.before) + length (asked_spelling f) = ap (λ (l : List ℕ). length l) grown ∙ length-append (filters_spelling at.before) (asked_spelling f) in
      record {
        before = at.before ++ f ∷ [];
        each = each_more asks at.before f at.each first.asked;
        parts = at.parts
            ∙ ap (λ (rest : List ℕ). filters_spelling at.before ++ rest) first.parts
            ∙ sym (append_assoc (filters_spelling at.before) (asked_spelling f) new.rest)
            ∙ ap (λ (front : List ℕ). front ++ new.rest) (sym grown);
        place = omega (arith, at.place, size, ap (λ (l : Left). l.at) first.trailing);
        some = λ none. absurd (more_some at.before f none);
      }

  -- A filter that is refused is the fault of the whole.
  pub fails : (fault : DecodeFault) → left.rest ≢ [] → filter_on asks left ≡ Err fault → filters_on asks start ≡ Err fault
  fails fault some refused =
      filters_bad asks start fault known (record {
        good = at.before;
        each = at.each;
        others = left.rest;
        some = some;
        parts = at.parts;
        refused = subst (λ (n : ℕ). FailsFilter asks n left.rest fault) at.place (filter_fails asks left.at left.rest left_known fault refused);
      })

  -- With nothing left, these are the filters.
  pub ends : left.rest ≡ [] → AreRead asks start
  ends none =
      let are : AreAsked asks at.before = record { some = λ e. at.some e none; each = at.each } in
      let spelled : start.rest ≡ filters_spelling at.before = at.parts ∙ ap (λ (rest : List ℕ). filters_spelling at.before ++ rest) none ∙ append-nil (filters_spelling at.before) in
      let same : filters_in asks start.rest ≡ at.before = in_memory asks start.rest at.before at.each spelled in
      record {
        filters = record { filters = at.before; asked = are; spelled = spelled };
        reads = filters_known asks start at.before are spelled ∙ ap (λ (fs : List AskedFilter). given fs) (sym same);
      }

-- Filters that may be aren't refused.
pub never_refused : (asks : Bool) (start : Left) (fs : List AskedFilter) (fault : DecodeFault) → AreAsked asks fs → start.rest ≡ filters_spelling fs → filters_on asks start ≡ Err fault → ⊥
never_refused asks start fs fault are parts refused = (let never = sym (filters_known asks start fs are parts) ∙ refused in cc)
