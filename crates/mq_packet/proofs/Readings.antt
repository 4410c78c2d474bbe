-- Reading by a format gives what the bytes come to by it, and nothing else comes of them.
use Rattle.std.proofs.Common.{◌≡◌, ◌≢◌, ℕ, ◌+◌, Bool, true, false, inl, inr, List, [], ◌∷◌, length, Option, Some, None, Result, Ok, Err, refl, sym, ◌∙◌, ap, subst, arith, eqb}
use Rattle.std.proofs.lemmas.Bool.{ne_eqb}
use Rattle.std.specs.Prelude.{if◌then◌else◌, IfOk, IfErr}
use Rattle.std.specs.List.{list_all, prefix_len}
use Rattle.mq_wire.specs.Spellings.{AreBytes}
use Rattle.mq_wire.specs.Left.{Left, Gives}
use Rattle.mq_wire.proofs.Exports.{AreBytes-after}
use Rattle.mq_wire.specs.Fields.{◌>>=◌}
use Rattle.mq_packet.specs.declared.rule.PacketRule.{PacketRule}
use Rattle.mq_packet.specs.declared.rule.PacketRule.TheVariants as rules
use Rattle.mq_packet.specs.declared.fault.DecodeFault.{DecodeFault}
use Rattle.mq_packet.specs.declared.fault.DecodeFault.TheVariants.{Broken, OtherVersion}
use Rattle.mq_packet.specs.declared.packet.Packet.{Packet}
use Rattle.mq_packet.specs.Entries.{Entry, AskedFilter}
use Rattle.mq_packet.specs.Asking.{filters_spelling}
use Rattle.mq_packet.specs.Reading.{view}
use Rattle.mq_packet.specs.Formats.{Kind, ValueOf, Objection, is_code, Format, done, rest, all_codes, all_filters, bad_first_byte, field, at_end, format_of}
use Rattle.mq_packet.specs.Decoding.{broken, body_start, field_on, unless, codes_on, filters_on, read, decoded}
use Rattle.mq_packet.specs.Spelled.{spelling, Begin, Is, IsSpelled, HasFault, DecodesTo}
use Rattle.mq_packet.proofs.CodeLaws.{codes_known, codes_bad, first_bad}
use Rattle.mq_packet.proofs.FilterLaws.{ComeTo, filters_known, filters_none, filters_bad, filters_come}
use Rattle.mq_packet.proofs.FieldLaws.{left_from, Front, field_found, field_read, field_misspelled, misspelled_field}

-- The reading of a field and of what follows it, by what the field was read as.
abbrev pub by_field : (kind : Kind) → (ValueOf kind → Option Objection) → (ValueOf kind → Format) → ℕ → Result (ValueOf kind × Left) DecodeFault → Result Entry DecodeFault
by_field kind objection next at found =
    (found >>= (λ x. unless at (objection x.0) x)) >>= (λ x. read (next x.0) x.1)

-- The same for a field that is spelled, by what is objected to it.
abbrev pub by_objection : (kind : Kind) → (ValueOf kind → Format) → ℕ → ValueOf kind × Left → Option Objection → Result Entry DecodeFault
by_objection kind next at x why = unless at why x >>= (λ y. read (next y.0) y.1)

-- Reading gives what the bytes come to by a format.
abbrev IsRead : Format → Type 0
IsRead format = (at : ℕ) (bytes : List ℕ) → AreBytes bytes → Is format at bytes (read format (left_from at bytes))

not_empty : (b : ℕ) (bytes : List ℕ) → eqb (length (b ∷ bytes)) 0 ≡ false
not_empty b bytes = ne_eqb (length (b ∷ bytes)) 0 (λ (e : length (b ∷ bytes) ≡ 0). omega arith)

module _ (kind : Kind) (objection : ValueOf kind → Option Objection) (next : ValueOf kind → Format) (at : ℕ) (bytes : List ℕ) (known : AreBytes bytes) where
  good_next : (value : ValueOf kind) (left : List ℕ) → Begin kind bytes value left → objection value ≡ None → (r : Result Entry DecodeFault) → Is (next value) (at + length (spelling kind value)) left r → Is (field kind objection next) at bytes r
  good_next value left begin none (Ok entry) h = (value, left, begin, none, h)
  good_next value left begin none (Err fault) h = inr (inr (value, left, begin, none, h))

  spelled_is : ((value : ValueOf kind) → IsRead (next value)) → (x : ValueOf kind × Left) → Front kind at bytes x.0 x.1 → (why : Option Objection) → objection x.0 ≡ why → Is (field kind objection next) at bytes (by_objection kind next at x why)
  spelled_is later x front None none =
      (let there : ℕ = at + length (spelling kind x.0) in
      let P : Left → Type 0 = λ l. Is (next x.0) there x.1.rest (read (next x.0) l) in
      let found : P (left_from there x.1.rest) = later x.0 there x.1.rest (AreBytes-after (spelling kind x.0) x.1.rest bytes known front.begin.spelled) in
      good_next x.0 x.1.rest front.begin none (read (next x.0) x.1) (subst P (sym front.trailing) found))
  spelled_is later x front (Some why) some = inr (inl (why, (x.0, x.1.rest, front.begin, some), refl))

  field_is : ((value : ValueOf kind) → IsRead (next value)) → (found : Result (ValueOf kind × Left) DecodeFault) → field_on kind (left_from at bytes) ≡ found → Is (field kind objection next) at bytes (by_field kind objection next at found)
  field_is later (Ok x) e = spelled_is later x (field_found kind at bytes x.0 x.1 known e) (objection x.0) refl
  field_is later (Err fault) e = inl (field_misspelled kind at bytes fault known e)

whole_is : (whole more : Format) (at : ℕ) (r : Result Entry DecodeFault) → Is whole at [] r → Is (at_end whole more) at [] r
whole_is whole more at (Ok entry) h = h
whole_is whole more at (Err fault) h = h

more_is : (whole more : Format) (at b : ℕ) (bytes : List ℕ) (r : Result Entry DecodeFault) → Is more at (b ∷ bytes) r → Is (at_end whole more) at (b ∷ bytes) r
more_is whole more at b bytes (Ok entry) h = h
more_is whole more at b bytes (Err fault) h = h

is_done : (packet : Entry) → IsRead (done packet)
is_done packet at [] known = (refl, refl)
is_done packet at (b ∷ bytes) known =
    (let P : Bool → Type 0 = λ t. Is (done packet) at (b ∷ bytes) (if t then Ok packet else Err (broken at rules.W06)) in
    let full : (b ∷ bytes) ≢ [] = λ (e : (b ∷ bytes) ≡ []). cc in
    let found : Is (done packet) at (b ∷ bytes) (Err (broken at rules.W06)) = (full, refl) in
    subst P (sym (not_empty b bytes)) found)

is_at_end : (whole more : Format) → IsRead whole → IsRead more → IsRead (at_end whole more)
is_at_end whole more one two at [] known = whole_is whole more at (read whole (left_from at [])) (one at [] known)
is_at_end whole more one two at (b ∷ bytes) known =
    (let P : Bool → Type 0 = λ t. Is (at_end whole more) at (b ∷ bytes) (if t then read whole (left_from at (b ∷ bytes)) else read more (left_from at (b ∷ bytes))) in
    subst P (sym (not_empty b bytes)) (more_is whole more at b bytes (read more (left_from at (b ∷ bytes))) (two at (b ∷ bytes) known)))

is_codes : (table : List ℕ) (packet : List ℕ → Entry) → IsRead (all_codes table packet)
unfolding codes_on
is_codes table packet at bytes known =
    elim (list_all (is_code table) bytes) as (λ t. list_all (is_code table) bytes ≡ t → Is (all_codes table packet) at bytes ((if t then Ok bytes else Err (broken (at + prefix_len (is_code table) bytes) rules.W13)) >>= (λ reasons. Ok (packet reasons)))) [
      | true ↦ λ all. (all, refl)
      | false ↦ λ some. first_bad table at bytes some
    ] refl

module _ (asks : Bool) (packet : List AskedFilter → Entry) (at : ℕ) where
  filters_are : (bytes : List ℕ) → bytes ≢ [] → (r : Result (List AskedFilter) DecodeFault) → ComeTo asks at bytes r → Is (all_filters asks packet) at bytes (r >>= (λ filters. Ok (packet filters)))
  filters_are bytes some (Ok fs) h = (fs, record { some = λ none. some (h.1 ∙ ap filters_spelling none); each = h.0 }, h.1, refl)
  filters_are bytes some (Err fault) h = inr h

  is_filters : (bytes : List ℕ) → AreBytes bytes → Is (all_filters asks packet) at bytes (read (all_filters asks packet) (left_from at bytes))
  is_filters [] known =
      (let P : Result (List AskedFilter) DecodeFault → Type 0 = λ r. Is (all_filters asks packet) at [] (r >>= (λ filters. Ok (packet filters))) in
      subst P (sym (filters_none asks (left_from at []) refl)) (inl (refl, refl)))
  is_filters (b ∷ bytes) known =
      (let full : (b ∷ bytes) ≢ [] = λ (e : (b ∷ bytes) ≡ []). cc in
      filters_are (b ∷ bytes) full (filters_on asks (left_from at (b ∷ bytes))) (filters_come asks at (b ∷ bytes) full known))

pub is_read : (format : Format) → IsRead format
is_read (done packet) at bytes known = is_done packet at bytes known
is_read (rest packet) at bytes known = refl
is_read (all_codes table packet) at bytes known = is_codes table packet at bytes known
is_read (all_filters asks packet) at bytes known = is_filters asks packet at bytes known
is_read (bad_first_byte rule) at bytes known = refl
is_read (field kind objection next) at bytes known = field_is kind objection next at bytes known (λ value. is_read (next value)) (field_on kind (left_from at bytes)) refl
is_read (at_end whole more) at bytes known = is_at_end whole more (is_read whole) (is_read more) at bytes known

-- What bytes come to by a format is what is read.
abbrev OnlyRead : Format → Type 0
OnlyRead format = (at : ℕ) (bytes : List ℕ) (r : Result Entry DecodeFault) → AreBytes bytes → Is format at bytes r → read format (left_from at bytes) ≡ r

module _ (kind : Kind) (objection : ValueOf kind → Option Objection) (next : ValueOf kind → Format) (at : ℕ) (bytes : List ℕ) (known : AreBytes bytes) where
  -- a value that is read, by what is objected to it
  only_spelled : (value : ValueOf kind) (left : List ℕ) → Begin kind bytes value left → (why : Option Objection) → objection value ≡ why
      → by_field kind objection next at (field_on kind (left_from at bytes)) ≡ by_objection kind next at (value, left_from (at + length (spelling kind value)) left) why
  only_spelled value left begin why e =
      ap (by_field kind objection next at) (field_read kind at bytes value left begin)
      ∙ ap (by_objection kind next at (value, left_from (at + length (spelling kind value)) left)) e

  only_good : ((value : ValueOf kind) → OnlyRead (next value)) → (value : ValueOf kind) (left : List ℕ) → Begin kind bytes value left → objection value ≡ None → (r : Result Entry DecodeFault) → Is (next value) (at + length (spelling kind value)) left r → by_field kind objection next at (field_on kind (left_from at bytes)) ≡ r
  only_good later value left begin none r h =
      only_spelled value left begin None none
      ∙ later value (at + length (spelling kind value)) left r (AreBytes-after (spelling kind value) left bytes known begin.spelled) h

  only_field : ((value : ValueOf kind) → OnlyRead (next value)) → (r : Result Entry DecodeFault) → Is (field kind objection next) at bytes r → by_field kind objection next at (field_on kind (left_from at bytes)) ≡ r
  only_field later (Ok entry) h = only_good later h.0 h.1 h.2 h.3 (Ok entry) h.4
  only_field later (Err fault) (inl h) = ap (by_field kind objection next at) (misspelled_field kind at bytes fault known h)
  only_field later (Err fault) (inr (inl h)) = only_spelled h.1.0 h.1.1 h.1.2 (Some h.0) h.1.3 ∙ ap (λ (f : DecodeFault). Err f) (sym h.2)
  only_field later (Err fault) (inr (inr h)) = only_good later h.0 h.1 h.2 h.3 (Err fault) h.4

is_whole : (whole more : Format) (at : ℕ) (r : Result Entry DecodeFault) → Is (at_end whole more) at [] r → Is whole at [] r
is_whole whole more at (Ok entry) h = h
is_whole whole more at (Err fault) h = h

is_more : (whole more : Format) (at b : ℕ) (bytes : List ℕ) (r : Result Entry DecodeFault) → Is (at_end whole more) at (b ∷ bytes) r → Is more at (b ∷ bytes) r
is_more whole more at b bytes (Ok entry) h = h
is_more whole more at b bytes (Err fault) h = h

only_done : (packet : Entry) → OnlyRead (done packet)
only_done packet at [] (Ok entry) known h = ap (λ (e : Entry). Ok e) h.1
only_done packet at [] (Err fault) known h = absurd (h.0 refl)
only_done packet at (b ∷ bytes) (Ok entry) known h = (let none : (b ∷ bytes) ≡ [] = h.0 in cc)
only_done packet at (b ∷ bytes) (Err fault) known h =
    ap (λ (t : Bool). if t then Ok packet else Err (broken at rules.W06)) (not_empty b bytes) ∙ ap (λ (f : DecodeFault). Err f) (sym h.1)

only_at_end : (whole more : Format) → OnlyRead whole → OnlyRead more → OnlyRead (at_end whole more)
only_at_end whole more one two at [] r known h = one at [] r known (is_whole whole more at r h)
only_at_end whole more one two at (b ∷ bytes) r known h =
    ap (λ (t : Bool). if t then read whole (left_from at (b ∷ bytes)) else read more (left_from at (b ∷ bytes))) (not_empty b bytes) ∙ two at (b ∷ bytes) r known (is_more whole more at b bytes r h)

only_rest : (packet : List ℕ → Entry) → OnlyRead (rest packet)
only_rest packet at bytes (Ok entry) known h = ap (λ (e : Entry). Ok e) h
only_rest packet at bytes (Err fault) known h = absurd h

-- The packet that is made of what is read.
abbrev made_of : {X : Type 0} → (X → Entry) → Result X DecodeFault → Result Entry DecodeFault
made_of packet found = found >>= (λ x. Ok (packet x))

only_codes : (table : List ℕ) (packet : List ℕ → Entry) → OnlyRead (all_codes table packet)
only_codes table packet at bytes (Ok entry) known h = ap (made_of packet) (codes_known table (left_from at bytes) h.0) ∙ ap (λ (e : Entry). Ok e) h.1
only_codes table packet at bytes (Err fault) known h = ap (made_of packet) (codes_bad table (left_from at bytes) fault h)

only_filters : (asks : Bool) (packet : List AskedFilter → Entry) → OnlyRead (all_filters asks packet)
only_filters asks packet at bytes (Ok entry) known h = ap (made_of packet) (filters_known asks (left_from at bytes) h.0 h.1 h.2) ∙ ap (λ (e : Entry). Ok e) h.3
only_filters asks packet at bytes (Err fault) known (inl h) = ap (made_of packet) (filters_none asks (left_from at bytes) h.0) ∙ ap (λ (f : DecodeFault). Err f) (sym h.1)
only_filters asks packet at bytes (Err fault) known (inr h) = ap (made_of packet) (filters_bad asks (left_from at bytes) fault known h)

only_refused : (rule : PacketRule) → OnlyRead (bad_first_byte rule)
only_refused rule at bytes (Ok entry) known h = absurd h
only_refused rule at bytes (Err fault) known h = ap (λ (f : DecodeFault). Err f) (sym h)

pub only_read : (format : Format) → OnlyRead format
only_read (done packet) at bytes r known h = only_done packet at bytes r known h
only_read (rest packet) at bytes r known h = only_rest packet at bytes r known h
only_read (all_codes table packet) at bytes r known h = only_codes table packet at bytes r known h
only_read (all_filters asks packet) at bytes r known h = only_filters asks packet at bytes r known h
only_read (bad_first_byte rule) at bytes r known h = only_refused rule at bytes r known h
only_read (field kind objection next) at bytes r known h = only_field kind objection next at bytes known (λ value. only_read (next value)) r h
only_read (at_end whole more) at bytes r known h = only_at_end whole more (only_read whole) (only_read more) at bytes r known h

-- A first byte and a body come to what is decoded, and to nothing else.
comes_of : (first : ℕ) (body : List ℕ) (r : Result Entry DecodeFault) → Is (format_of first) (body_start (length body)) body r → DecodesTo first body r
comes_of first body (Ok entry) h = h
comes_of first body (Err (Broken fault)) h = h
comes_of first body (Err (OtherVersion version)) h = h

is_of : (first : ℕ) (body : List ℕ) (r : Result Entry DecodeFault) → DecodesTo first body r → Is (format_of first) (body_start (length body)) body r
is_of first body (Ok entry) h = h
is_of first body (Err (Broken fault)) h = h
is_of first body (Err (OtherVersion version)) h = h

pub comes_to_decoded : (first : ℕ) (body : List ℕ) → AreBytes body → DecodesTo first body (decoded first body)
unfolding decoded
comes_to_decoded first body known = comes_of first body (decoded first body) (is_read (format_of first) (body_start (length body)) body known)

pub decoded_only : (first : ℕ) (body : List ℕ) (r : Result Entry DecodeFault) → AreBytes body → DecodesTo first body r → decoded first body ≡ r
unfolding decoded
decoded_only first body r known h = only_read (format_of first) (body_start (length body)) body r known (is_of first body r h)

-- exactly one thing
pub one_outcome : (first : ℕ) (body : List ℕ) → AreBytes body → (outcome : Result Entry DecodeFault) × DecodesTo first body outcome × ((other : Result Entry DecodeFault) → DecodesTo first body other → outcome ≡ other)
one_outcome first body known = (decoded first body, comes_to_decoded first body known, λ other h. decoded_only first body other known h)

-- A call that gives what is decoded answers a packet that the bytes spell, or a fault that they have.
spells_decoded : (first : ℕ) (body : List ℕ) → AreBytes body → (r : Result Entry DecodeFault) → decoded first body ≡ r → DecodesTo first body r
spells_decoded first body known r e =
    (let P : Result Entry DecodeFault → Type 0 = λ r. DecodesTo first body r in subst P e (comes_to_decoded first body known))

pub packet_given : (result : Result Packet DecodeFault) (first : ℕ) (body : List ℕ) → AreBytes body → Gives view result (decoded first body) → IfOk result (λ packet. IsSpelled first body (view packet))
packet_given (Ok packet) first body known given = spells_decoded first body known (Ok (view packet)) given
packet_given (Err fault) first body known given = tt

pub fault_given : (result : Result Packet DecodeFault) (first : ℕ) (body : List ℕ) → AreBytes body → Gives view result (decoded first body) → IfErr result (λ fault. HasFault first body fault)
fault_given (Ok packet) first body known given = tt
fault_given (Err fault) first body known given = spells_decoded first body known (Err fault) given

-- A call that gives what is decoded gives what the bytes come to.
pub only_gives : (result : Result Packet DecodeFault) (first : ℕ) (body : List ℕ) (outcome : Result Entry DecodeFault) → AreBytes body → Gives view result (decoded first body) → DecodesTo first body outcome → Gives view result outcome
only_gives result first body outcome known given comes =
    (let P : Result Entry DecodeFault → Type 0 = λ r. Gives view result r in subst P (decoded_only first body outcome known comes) given)
