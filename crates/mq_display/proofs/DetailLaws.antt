-- Details that are put one after another.
use Rattle.std.proofs.Common.{◌≡◌, Bool, true, false, ◌<◌, ◌≤◌, ◌+◌, ◌/◌, arith, List, [], ◌∷◌, ◌++◌, length, take, get_or, codes, decimal, ℕ, Option, refl, sym, ap, subst, ◌∙◌, append_assoc, append-nil, if◌then◌else◌}
use Rattle.std.proofs.lemmas.Grind.{take_at_read, flat_map-append}
use Rattle.std.specs.List.{flat_map}
use mir.Val.{bool_byte}
use Rattle.mq_props.specs.Values.{Property}
use Rattle.mq_packet.specs.Entries.{ConnectFields, WillFields}
use Rattle.mq_rules.specs.Notes.{qos_number}
use Rattle.mq_display.specs.Details.{hex_digits, type_words, with_prefix, property_after, property_name, value_words, quoted, flag_text, size_text}
use Rattle.mq_report.specs.TypeNames.{name_beside, type_names}
use Rattle.mq_display.specs.declared.display.outgoing.Outgoing.{Outgoing}
use Rattle.mq_display.specs.ItemText.{flag_number, with_spaces}
use Rattle.mq_display.specs.Outgoing.{Puts}
use Rattle.mq_display.proofs.OutgoingLaws.{puts_nothing, puts_two}

-- words after words
pub with_spaces_append : (xs ys : List (List ℕ)) → with_spaces (xs ++ ys) ≡ with_spaces xs ++ with_spaces ys
with_spaces_append [] ys = refl
with_spaces_append (word ∷ words) ys =
    ap (λ (l : List ℕ). 32 ∷ (word ++ l)) (with_spaces_append words ys)
    ∙ ap (λ (l : List ℕ). 32 ∷ l) (sym (append_assoc word (with_spaces words) (with_spaces ys)))

-- what the next item of a list gives
next_mapped : {X A : Type 0} (f : X → List A) (xs : List X) (i : ℕ) (d : X) → i < length xs → flat_map f (take (i + 1) xs) ≡ flat_map f (take i xs) ++ f (get_or xs i d)
next_mapped f xs i d within =
    ap (λ l. flat_map f l) (take_at_read xs i d within).1
    ∙ flat_map-append f (take i xs) (get_or xs i d ∷ [])
    ∙ ap (λ l. flat_map f (take i xs) ++ l) (append-nil (f (get_or xs i d)))

-- a property's words from those of its detail
pub named_so : (prefix missing name : List ℕ) (value : List (List ℕ)) (property : Property) → missing ++ name ≡ with_prefix prefix name → name ≡ property_name property.id
    → value ≡ value_words property.value → (missing ++ name) ∷ value ≡ property_after prefix property
named_so prefix missing name value property begun named valued =
    ap (λ (l : List ℕ). l ∷ value) (begun ∙ ap (λ (l : List ℕ). with_prefix prefix l) named)
    ∙ ap (λ (l : List (List ℕ)). with_prefix prefix (property_name property.id) ∷ l) valued

-- a flag's number
pub flag_numbers : (flag : Bool) → bool_byte flag ≡ flag_number flag
flag_numbers false = refl
flag_numbers true = refl

-- a byte of a text between quotes, by what it is
abbrev pub escaped_by : (quoting control : Bool) → ℕ → List ℕ
escaped_by quoting control byte = if quoting then 92 ∷ byte ∷ [] else (if control then codes "\\x" ++ hex_digits byte else byte ∷ [])

-- Of all of a text, a part was put, and this is left to put.
pub record PutsSome {W : Type 0} (contents : W → Option (List ℕ)) (old : Outgoing W) (all left : List ℕ) (new : Outgoing W) : Type 0 where
  pub text : List ℕ
  pub puts : Puts contents old text new
  pub is : text ++ left ≡ all

module _ {W : Type 0} (contents : W → Option (List ℕ)) where
  pub puts_some_begin : (out : Outgoing W) (all : List ℕ) → PutsSome contents out all all out
  puts_some_begin out all = record { text = []; puts = puts_nothing contents out; is = refl }

  pub puts_some_more : (old now new : Outgoing W) (all more left : List ℕ) → PutsSome contents old all (more ++ left) now → Puts contents now more new
      → PutsSome contents old all left new
  puts_some_more old now new all more left so_far p = record {
    text = so_far.text ++ more;
    puts = puts_two contents old now new so_far.text more (so_far.text ++ more) so_far.puts p refl;
    is = append_assoc so_far.text more left ∙ so_far.is;
  }

  pub puts_some_end : (old new : Outgoing W) (all left : List ℕ) → PutsSome contents old all left new → left ≡ [] → Puts contents old all new
  puts_some_end old new all left so_far none =
      puts_two contents old new new so_far.text [] all so_far.puts (puts_nothing contents new) (ap (λ (l : List ℕ). so_far.text ++ l) (sym none) ∙ so_far.is)

-- no bytes have no type
pub puts_no_type : {W : Type 0} (contents : W → Option (List ℕ)) (out : Outgoing W) (bytes : List ℕ) → length bytes < 1
    → Puts contents out (with_spaces (type_words bytes)) out
puts_no_type contents out [] none = puts_nothing contents out
puts_no_type contents out (first ∷ others) none = absurd (omega (arith, none))

-- words were put after words
module _ {W : Type 0} (contents : W → Option (List ℕ)) (old now new : Outgoing W) where
  pub puts_words : (xs ys : List (List ℕ)) → Puts contents old (with_spaces xs) now → Puts contents now (with_spaces ys) new
      → Puts contents old (with_spaces (xs ++ ys)) new
  puts_words xs ys p q = puts_two contents old now new (with_spaces xs) (with_spaces ys) (with_spaces (xs ++ ys)) p q (sym (with_spaces_append xs ys))

  -- a space was put, and then a word
  pub puts_word : (word : List ℕ) (words : List (List ℕ)) → Puts contents old (32 ∷ []) now → Puts contents now word new → words ≡ word ∷ []
      → Puts contents old (with_spaces words) new
  puts_word word words p q is =
      puts_two contents old now new (32 ∷ []) word (with_spaces words) p q (ap (λ (l : List ℕ). 32 ∷ l) (sym (append-nil word)) ∙ sym (ap with_spaces is))

  -- the type of a packet's bytes
  pub puts_type : (name bytes : List ℕ) → 1 ≤ length bytes → Puts contents old (codes " type ") now → Puts contents now name new
      → name ≡ name_beside (get_or bytes 0 0 / 16) type_names → Puts contents old (with_spaces (type_words bytes)) new
  puts_type name [] some p q is = absurd (omega (arith, some))
  puts_type name (first ∷ others) some p q is =
      puts_two contents old now new (codes " type ") name (with_spaces (type_words (first ∷ others))) p q
      (ap (λ (l : List ℕ). codes " type " ++ l) (sym (append-nil name)) ∙ ap (λ (l : List ℕ). with_spaces (codes "type" ∷ l ∷ [])) is)

  -- what the next item of a list gives was put
  pub puts_next_item : {X : Type 0} (f : X → List ℕ) (xs : List X) (i : ℕ) (d : X) → i < length xs → Puts contents old (flat_map f (take i xs)) now
      → Puts contents now (f (get_or xs i d)) new → Puts contents old (flat_map f (take (i + 1) xs)) new
  puts_next_item f xs i d within p q =
      puts_two contents old now new (flat_map f (take i xs)) (f (get_or xs i d)) (flat_map f (take (i + 1) xs)) p q (sym (next_mapped f xs i d within))

  -- those of the next item of a list
  pub puts_next : {X : Type 0} (f : X → List (List ℕ)) (xs : List X) (i : ℕ) (d : X) → i < length xs → Puts contents old (with_spaces (flat_map f (take i xs))) now
      → Puts contents now (with_spaces (f (get_or xs i d))) new → Puts contents old (with_spaces (flat_map f (take (i + 1) xs))) new
  puts_next f xs i d within p q =
      subst (λ (l : List (List ℕ)). Puts contents old (with_spaces l) new) (sym (next_mapped f xs i d within))
      (puts_words (flat_map f (take i xs)) (f (get_or xs i d)) p q)

  -- those of the first of the items that are left
  pub puts_first : {X : Type 0} (f : X → List (List ℕ)) (all : List ℕ) (x : X) (before after : List X) → before ≡ x ∷ after
      → PutsSome contents old all (with_spaces (flat_map f before)) now → Puts contents now (with_spaces (f x)) new
      → PutsSome contents old all (with_spaces (flat_map f after)) new
  puts_first f all x before after is so_far p =
      puts_some_more contents old now new all (with_spaces (f x)) (with_spaces (flat_map f after))
      (subst (λ (l : List ℕ). PutsSome contents old all l now) (ap (λ l. with_spaces (flat_map f l)) is ∙ with_spaces_append (f x) (flat_map f after)) so_far) p

-- what stands before the properties of a CONNECT, and of its Will
abbrev pub connect_fields : ConnectFields → List (List ℕ)
connect_fields fields = codes "client" ∷ quoted fields.client_identifier ∷ codes "clean-start" ∷ flag_text fields.clean_start
    ∷ codes "keep-alive" ∷ decimal fields.keep_alive ∷ []

abbrev pub will_fields : WillFields → List (List ℕ)
will_fields will = codes "will-topic" ∷ quoted will.topic ∷ codes "will-payload" ∷ size_text will.payload ∷ codes "will-qos" ∷ decimal (qos_number will.qos)
    ∷ codes "will-retain" ∷ flag_text will.retain ∷ []

-- for tactics: details that were put one after another
pub ruleset detailing = (with_spaces_append, puts_words, puts_some_begin, puts_some_more, puts_some_end)
