-- What is known of a list, after one more property, and what it says of the list.
use Rattle.std.proofs.Common.{◌≡◌, ℕ, Bool, true, false, ◌||◌, cond, eqb, List, [], ◌∷◌, ◌++◌, Option, None, Some, is_some, option_and_then, refl, sym, ap, ◌∙◌}
use Rattle.std.specs.Option.{option_map}
use Rattle.std.proofs.lemmas.Bool.{eq-eqb, ne_eqb, eqb-true}
use Rattle.mq_props.specs.declared.table.Place.{Place}
use Rattle.mq_props.specs.declared.table.ValueType.{ValueType}
use Rattle.mq_props.specs.declared.table.ValueType.TheVariants as types
use Rattle.mq_props.specs.Identifiers.{topic_alias}
use Rattle.mq_props.specs.Table.{Line, row_of}
use Rattle.mq_props.specs.Values.{Value, four_bytes_value, varint_value, text_value, pair_value, Property, value_type}
use Rattle.mq_props.specs.Allowed.{occurs_in, first_of, AllowedAfter}
use Rattle.mq_props.specs.First.{as_two_bytes, as_four_bytes, as_varint, as_text, as_pair, first_two_bytes}

-- ---- the first of an identifier, with one property more

push_at : (b : Bool) (id : ℕ) (q : Property) (ps : List Property) (p : Property) → eqb q.id id ≡ b → first_of id (ps ++ p ∷ []) ≡ cond (occurs_in id ps) (first_of id ps) (first_of id (p ∷ []))
    → first_of id (q ∷ ps ++ p ∷ []) ≡ cond (eqb q.id id || occurs_in id ps) (first_of id (q ∷ ps)) (first_of id (p ∷ []))
push_at true id q ps p is later = rw is refl
push_at false id q ps p is later = rw is later

pub first_of-push : (id : ℕ) (ps : List Property) (p : Property) → first_of id (ps ++ p ∷ []) ≡ cond (occurs_in id ps) (first_of id ps) (first_of id (p ∷ []))
first_of-push id [] p = refl
first_of-push id (q ∷ ps) p = push_at (eqb q.id id) id q ps p refl (first_of-push id ps p)

absent_at : (b : Bool) (id : ℕ) (q : Property) (ps : List Property) → eqb q.id id ≡ b → (occurs_in id ps ≡ false → first_of id ps ≡ None) → (b || occurs_in id ps) ≡ false → first_of id (q ∷ ps) ≡ None
absent_at true id q ps is later none = absurd cc
absent_at false id q ps is later none = rw is (later none)

-- what doesn't occur has no first
pub absent : (id : ℕ) (ps : List Property) → occurs_in id ps ≡ false → first_of id ps ≡ None
absent id [] none = refl
absent id (q ∷ ps) none = absent_at (eqb q.id id) id q ps refl (absent id ps) none

-- ---- the first Topic Alias, with one property more

abbrev first_alias : Option Value → Option ℕ
first_alias o = option_and_then as_two_bytes o

other_first : (id : ℕ) (ps : List Property) (p : Property) → (p.id ≡ id → ⊥) → first_of id (ps ++ p ∷ []) ≡ first_of id ps
other_first id ps p other = first_of-push id ps p ∙ by_cases (occurs_in id ps) refl
  where
    by_cases : (b : Bool) → occurs_in id ps ≡ b → cond (occurs_in id ps) (first_of id ps) (first_of id (p ∷ [])) ≡ first_of id ps
    by_cases true is = rw is refl
    by_cases false is = rw (is, absent id ps is, ne_eqb p.id id other) refl

pub alias_other : (ps : List Property) (p : Property) → (p.id ≡ topic_alias → ⊥) → first_two_bytes topic_alias (ps ++ p ∷ []) ≡ first_two_bytes topic_alias ps
alias_other ps p other = ap first_alias (other_first topic_alias ps p other)

pub alias_seen : (ps : List Property) (p : Property) → occurs_in topic_alias ps ≡ true → first_two_bytes topic_alias (ps ++ p ∷ []) ≡ first_two_bytes topic_alias ps
alias_seen ps p there =
    let same : first_of topic_alias (ps ++ p ∷ []) ≡ first_of topic_alias ps = first_of-push topic_alias ps p ∙ rw there refl in
    ap first_alias same

pub alias_new : (ps : List Property) (p : Property) → occurs_in topic_alias ps ≡ false → p.id ≡ topic_alias → first_two_bytes topic_alias (ps ++ p ∷ []) ≡ as_two_bytes p.value
alias_new ps p none same =
    let first : first_of topic_alias (ps ++ p ∷ []) ≡ Some p.value = first_of-push topic_alias ps p ∙ rw (none, eq-eqb p.id topic_alias same) refl in
    ap first_alias first

-- ---- what occurs in a valid list has a value of its type

-- the first of an identifier, and its line
pub record FirstOf (id : ℕ) (ps : List Property) : Type 0 where
  pub value : Value
  pub line : Line
  pub first : first_of id ps ≡ Some value
  pub known : row_of id ≡ Some line
  pub typed : value_type value ≡ line.kind

first_from : (b : Bool) (place : Place) (before : List Property) (id : ℕ) (q : Property) (ps : List Property) → eqb q.id id ≡ b → AllowedAfter place before (q ∷ ps) → (occurs_in id ps ≡ true → FirstOf id ps) → (b || occurs_in id ps) ≡ true → FirstOf id (q ∷ ps)
first_from true place before id q ps is allowed later there =
    let same : q.id ≡ id = eqb-true q.id id is in
    record { value = q.value; line = allowed.0.line; first = rw is refl; known = sym (ap row_of same) ∙ allowed.0.known; typed = allowed.0.typed }
first_from false place before id q ps is allowed later there =
    let found = later there in
    record { value = found.value; line = found.line; first = rw is found.first; known = found.known; typed = found.typed }

pub first_typed : (place : Place) (before : List Property) (id : ℕ) (ps : List Property) → AllowedAfter place before ps → occurs_in id ps ≡ true → FirstOf id ps
first_typed place before id [] allowed there = absurd cc
first_typed place before id (q ∷ ps) allowed there = first_from (eqb q.id id) place before id q ps refl allowed (λ e. first_typed place (before ++ q ∷ []) id ps allowed.1 e) there

-- the type of an identifier's values
abbrev kind_of : Option Line → Option ValueType
kind_of o = option_map (λ line. line.kind) o

kind_is : (id : ℕ) (kind : ValueType) (line : Line) → row_of id ≡ Some line → kind_of (row_of id) ≡ Some kind → line.kind ≡ kind
kind_is id kind line known typed = let e : kind_of (Some line) ≡ Some kind = sym (ap kind_of known) ∙ typed in cc

-- values of a type that are looked at as such are there
pub record Shows {X : Type 0} (kind : ValueType) (show : Value → Option X) : Type 0 where
  pub each : (v : Value) → value_type v ≡ kind → is_some (show v) ≡ true

pub four_bytes_shown : Shows types.FourBytes as_four_bytes
four_bytes_shown = record { each = by_cases }
  where
    by_cases : (v : Value) → value_type v ≡ types.FourBytes → is_some (as_four_bytes v) ≡ true
    by_cases (four_bytes_value n) e = refl
    by_cases v e = absurd cc

pub varint_shown : Shows types.Varint as_varint
varint_shown = record { each = by_cases }
  where
    by_cases : (v : Value) → value_type v ≡ types.Varint → is_some (as_varint v) ≡ true
    by_cases (varint_value n) e = refl
    by_cases v e = absurd cc

pub text_shown : Shows types.Text as_text
text_shown = record { each = by_cases }
  where
    by_cases : (v : Value) → value_type v ≡ types.Text → is_some (as_text v) ≡ true
    by_cases (text_value t) e = refl
    by_cases v e = absurd cc

pub pair_shown : Shows types.Pair as_pair
pair_shown = record { each = by_cases }
  where
    by_cases : (v : Value) → value_type v ≡ types.Pair → is_some (as_pair v) ≡ true
    by_cases (pair_value name value) e = refl
    by_cases v e = absurd cc

-- so an identifier occurs exactly if its first value is there, as its type
pub there_is : {X : Type 0} (kind : ValueType) (show : Value → Option X) (place : Place) (id : ℕ) (ps : List Property) → Shows kind show → kind_of (row_of id) ≡ Some kind → AllowedAfter place [] ps
    → occurs_in id ps ≡ is_some (option_and_then show (first_of id ps))
there_is kind show place id ps shows typed allowed = by_cases (occurs_in id ps) refl
  where
    by_cases : (b : Bool) → occurs_in id ps ≡ b → occurs_in id ps ≡ is_some (option_and_then show (first_of id ps))
    by_cases true is =
        let found = first_typed place [] id ps allowed is in
        rw (is, found.first) (sym (shows.each found.value (found.typed ∙ kind_is id kind found.line found.known typed)))
    by_cases false is = rw (is, absent id ps is) refl
