-- What `show --long` says of an event stays on its line.
use Rattle.std.proofs.Common.{◌≡◌, ℕ, ◌+◌, ◌/◌, ◌%◌, ◌==◌, nat_lt, nat_le, Bool, true, false, List, [], ◌∷◌, ◌++◌, length, codes, decimal, Option, Some, None, if◌then◌else◌, refl, arith}
use Rattle.std.proofs.lemmas.Bool.{and_from, and_parts, or_parts}
use Rattle.std.proofs.lemmas.Grind.{common_steps}
use Rattle.std.specs.Fmt.{digit_glyph}
use Rattle.std.specs.List.{flat_map, list_all, starts_with}
use Rattle.mq_props.specs.Values.{Value, Property, byte_value, two_bytes_value, four_bytes_value, varint_value, text_value, pair_value, binary_value}
use Rattle.mq_props.specs.Listed.{Listed}
use Rattle.mq_packet.specs.Entries.{Entry, ConnectFields, PublishFields, WillFields, AskedFilter, connect, connack, publish, acknowledgement, request, answer, pingreq, pingresp, disconnect, auth}
use Rattle.mq_packet.specs.declared.rule.PacketRule.{PacketRule}
use Rattle.mq_log.specs.Events.{Event, Item, UnfinishedPackets, packet as whole_item, bad as broken_item, lost as lost_item, opened, closed, rested, released, sent, received}
use Rattle.mq_rules.specs.Notes.{qos_number}
use Rattle.mq_display.specs.ItemText.{flag_number, with_spaces}
use Rattle.mq_display.specs.Marking.{between, marked_at}
use Rattle.mq_report.specs.OneLine.{is_on_one_line}
use Rattle.mq_display.specs.Details.{hex_digits, is_quoting, is_control, escaped, quoted, reason_text, flag_text, size_text, property_names, property_name, value_words, with_prefix, property_after, properties_after, property_words, will_words, user_words, password_words, connect_words, publish_words, option_words, filter_words, code_words, packet_words, type_words, hex_words, marked, gap_words, shown_from, words_from, mark_words, words_around, broken_words, broken_details, item_details, first_words, begun_words, unfinished_words, closing_words, detail_text, broken_detail_text}
use Rattle.mq_report.specs.TypeNames.{name_beside, type_names}
use Rattle.mq_report.proofs.Exports.{all_both, both, before, digit_fits, decimal_fits}

all_mapped : {X Y : Type 0} (test : Y → Bool) (f : X → List Y) → ((x : X) → list_all test (f x) ≡ true) → (xs : List X) → list_all test (flat_map f xs) ≡ true
all_mapped test f each [] = refl
all_mapped test f each (x ∷ xs) = all_both test (f x) (flat_map f xs) (each x) (all_mapped test f each xs)

hex_fits : (byte : ℕ) → is_on_one_line (hex_digits byte) ≡ true
hex_fits byte = before (digit_glyph true (byte / 16)) (digit_glyph true (byte % 16) ∷ []) (digit_fits true (byte / 16))
    (before (digit_glyph true (byte % 16)) [] (digit_fits true (byte % 16)) refl)

-- a byte between quotes
quoting_fits : (byte : ℕ) → is_quoting byte ≡ true → nat_le 32 byte ≡ true
quoting_fits byte e = grind (arith, common_steps)

plain_fits : (byte : ℕ) → is_control byte ≡ false → nat_le 32 byte ≡ true
plain_fits byte e = let low : nat_lt byte 32 ≡ false = (or_parts (nat_lt byte 32) (byte == 127) e).0 in grind (arith, common_steps)

escaped_fits : (byte : ℕ) → is_on_one_line (escaped byte) ≡ true
escaped_fits byte =
    elim (is_quoting byte) as (λ t. is_quoting byte ≡ t
    → is_on_one_line (if t then 92 ∷ byte ∷ [] else (if is_control byte then codes "\\x" ++ hex_digits byte else byte ∷ [])) ≡ true) [
      | true ↦ λ e. before byte [] (quoting_fits byte e) refl
      | false ↦ λ _.
          elim (is_control byte) as (λ t. is_control byte ≡ t → is_on_one_line (if t then codes "\\x" ++ hex_digits byte else byte ∷ []) ≡ true) [
            | true ↦ λ _. hex_fits byte
            | false ↦ λ e. before byte [] (plain_fits byte e) refl
          ] refl
    ] refl

quoted_fits : (words : List ℕ) → is_on_one_line (quoted words) ≡ true
quoted_fits words = both (flat_map escaped words) (34 ∷ []) (all_mapped (λ byte. nat_le 32 byte) escaped escaped_fits words) refl

-- words with a space before each
spaces_fit : (words : List (List ℕ)) → list_all is_on_one_line words ≡ true → is_on_one_line (with_spaces words) ≡ true
spaces_fit [] p = refl
spaces_fit (word ∷ words) p =
    let parts : (is_on_one_line word ≡ true) × (list_all is_on_one_line words ≡ true) = and_parts (is_on_one_line word) (list_all is_on_one_line words) p in
    both word (with_spaces words) parts.0 (spaces_fit words parts.1)

first : (word : List ℕ) (words : List (List ℕ)) → is_on_one_line word ≡ true → list_all is_on_one_line words ≡ true → list_all is_on_one_line (word ∷ words) ≡ true
first word words p q = and_from (is_on_one_line word) (list_all is_on_one_line words) p q

alone : (word : List ℕ) → is_on_one_line word ≡ true → list_all is_on_one_line (word ∷ []) ≡ true
alone word p = first word [] p refl

-- properties
name_fits : (id : ℕ) (rows : List (ℕ × List ℕ)) → list_all (λ (row : ℕ × List ℕ). is_on_one_line row.1) rows ≡ true → is_on_one_line (name_beside id rows) ≡ true
name_fits id [] p = refl
name_fits id (row ∷ rows) p =
    let parts : (is_on_one_line row.1 ≡ true) × (list_all (λ (r : ℕ × List ℕ). is_on_one_line r.1) rows ≡ true) =
    and_parts (is_on_one_line row.1) (list_all (λ (r : ℕ × List ℕ). is_on_one_line r.1) rows) p in
    elim (row.0 == id) as (λ t. is_on_one_line (if t then row.1 else name_beside id rows) ≡ true) [ true ↦ parts.0 | false ↦ name_fits id rows parts.1 ]

begun_fits : (prefix name : List ℕ) → is_on_one_line prefix ≡ true → is_on_one_line name ≡ true → is_on_one_line (with_prefix prefix name) ≡ true
begun_fits prefix name p q =
    elim (starts_with (λ a b. a == b) name prefix) as (λ t. is_on_one_line (if t then name else prefix ++ name) ≡ true) [ true ↦ q | false ↦ both prefix name p q ]

values_fit : (value : Value) → list_all is_on_one_line (value_words value) ≡ true
values_fit (byte_value n) = alone (decimal n) (decimal_fits n)
values_fit (two_bytes_value n) = alone (decimal n) (decimal_fits n)
values_fit (four_bytes_value n) = alone (decimal n) (decimal_fits n)
values_fit (varint_value n) = alone (decimal n) (decimal_fits n)
values_fit (text_value t) = alone (quoted t) (quoted_fits t)
values_fit (pair_value a b) = first (quoted a) (quoted b ∷ []) (quoted_fits a) (alone (quoted b) (quoted_fits b))
values_fit (binary_value b) = alone (size_text b) (decimal_fits _)

properties_fit : (prefix : List ℕ) (properties : Listed) → is_on_one_line prefix ≡ true → list_all is_on_one_line (properties_after prefix properties) ≡ true
properties_fit prefix properties p =
    all_mapped is_on_one_line (property_after prefix) (λ (property : Property). first (with_prefix prefix (property_name property.id)) (value_words property.value)
    (begun_fits prefix (property_name property.id) p (name_fits property.id property_names refl)) (values_fit property.value)) properties.items

own_fit : (properties : Listed) → list_all is_on_one_line (property_words properties) ≡ true
own_fit properties = properties_fit [] properties refl

-- packets
flag_fits : (flag : Bool) → is_on_one_line (flag_text flag) ≡ true
flag_fits flag = decimal_fits (flag_number flag)

will_fits : (will : Option WillFields) → list_all is_on_one_line (will_words will) ≡ true
will_fits None = refl
will_fits (Some will) =
    let rest = properties_after (codes "will-") will.properties in
    first (quoted will.topic) (size_text will.payload ∷ decimal (qos_number will.qos) ∷ flag_text will.retain ∷ rest) (quoted_fits will.topic)
    (first (size_text will.payload) (decimal (qos_number will.qos) ∷ flag_text will.retain ∷ rest) (decimal_fits _)
    (first (decimal (qos_number will.qos)) (flag_text will.retain ∷ rest) (decimal_fits (qos_number will.qos))
    (first (flag_text will.retain) rest (flag_fits will.retain) (properties_fit (codes "will-") will.properties refl))))

user_fits : (name : Option (List ℕ)) → list_all is_on_one_line (user_words name) ≡ true
user_fits None = refl
user_fits (Some name) = alone (quoted name) (quoted_fits name)

password_fits : (password : Option (List ℕ)) → list_all is_on_one_line (password_words password) ≡ true
password_fits None = refl
password_fits (Some password) = alone (size_text password) (decimal_fits _)

words_both : (xs ys : List (List ℕ)) → list_all is_on_one_line xs ≡ true → list_all is_on_one_line ys ≡ true → list_all is_on_one_line (xs ++ ys) ≡ true
words_both xs ys p q = all_both is_on_one_line xs ys p q

connect_fits : (fields : ConnectFields) → list_all is_on_one_line (connect_words fields) ≡ true
connect_fits fields =
    let names = user_words fields.user_name ++ password_words fields.password in
    let rest = property_words fields.properties ++ (will_words fields.will ++ names) in
    first (quoted fields.client_identifier) (flag_text fields.clean_start ∷ decimal fields.keep_alive ∷ rest) (quoted_fits fields.client_identifier)
    (first (flag_text fields.clean_start) (decimal fields.keep_alive ∷ rest) (flag_fits fields.clean_start)
    (first (decimal fields.keep_alive) rest (decimal_fits fields.keep_alive)
    (words_both (property_words fields.properties) (will_words fields.will ++ names) (own_fit fields.properties)
    (words_both (will_words fields.will) names (will_fits fields.will)
    (words_both (user_words fields.user_name) (password_words fields.password) (user_fits fields.user_name) (password_fits fields.password))))))

publish_fits : (fields : PublishFields) → list_all is_on_one_line (publish_words fields) ≡ true
publish_fits fields =
    let rest = property_words fields.properties in
    first (flag_text fields.retain) (quoted fields.topic ∷ size_text fields.payload ∷ rest) (flag_fits fields.retain)
    (first (quoted fields.topic) (size_text fields.payload ∷ rest) (quoted_fits fields.topic)
    (first (size_text fields.payload) rest (decimal_fits _) (own_fit fields.properties)))

options_fit : (options : Option ℕ) → list_all is_on_one_line (option_words options) ≡ true
options_fit None = refl
options_fit (Some options) =
    let no_local = decimal (options / 4 % 2) in
    let as_published = decimal (options / 8 % 2) in
    let handling = decimal (options / 16 % 4) in
    first (decimal (options % 4)) (no_local ∷ as_published ∷ handling ∷ []) (decimal_fits (options % 4))
    (first no_local (as_published ∷ handling ∷ []) (decimal_fits (options / 4 % 2))
    (first as_published (handling ∷ []) (decimal_fits (options / 8 % 2)) (alone handling (decimal_fits (options / 16 % 4)))))

filter_fits : (asked : AskedFilter) → list_all is_on_one_line (filter_words asked) ≡ true
filter_fits asked = first (quoted asked.filter) (option_words asked.options) (quoted_fits asked.filter) (options_fit asked.options)

code_fits : (code : ℕ) → list_all is_on_one_line (code_words code) ≡ true
code_fits code = alone (reason_text code) (hex_fits code)

packet_fits : (entry : Entry) → list_all is_on_one_line (packet_words entry) ≡ true
packet_fits (connect fields) = connect_fits fields
packet_fits (connack session_present code properties) =
    first (reason_text code) (flag_text session_present ∷ property_words properties) (hex_fits code) (first (flag_text session_present) (property_words properties) (flag_fits session_present) (own_fit properties))
packet_fits (publish fields) = publish_fits fields
packet_fits (acknowledgement kind identifier code properties) = words_both (code_words code) (property_words properties) (code_fits code) (own_fit properties)
packet_fits (request kind identifier properties filters) =
    words_both (property_words properties) (flat_map filter_words filters) (own_fit properties) (all_mapped is_on_one_line filter_words filter_fits filters)
packet_fits (answer kind identifier properties reasons) =
    words_both (property_words properties) (flat_map code_words reasons) (own_fit properties) (all_mapped is_on_one_line code_words code_fits reasons)
packet_fits pingreq = refl
packet_fits pingresp = refl
packet_fits (disconnect code properties) = words_both (code_words code) (property_words properties) (code_fits code) (own_fit properties)
packet_fits (auth code properties) = words_both (code_words code) (property_words properties) (code_fits code) (own_fit properties)

-- packets that break a rule
type_fits : (bytes : List ℕ) → list_all is_on_one_line (type_words bytes) ≡ true
type_fits [] = refl
type_fits (byte ∷ others) = alone (name_beside (byte / 16) type_names) (name_fits (byte / 16) type_names refl)

hex_all_fit : (bytes : List ℕ) → list_all is_on_one_line (flat_map hex_words bytes) ≡ true
hex_all_fit bytes = all_mapped is_on_one_line hex_words (λ byte. alone (hex_digits byte) (hex_fits byte)) bytes

marked_fits : (bytes : List ℕ) → is_on_one_line (marked bytes) ≡ true
marked_fits bytes = both (flat_map hex_digits bytes) (codes "]") (all_mapped (λ byte. nat_le 32 byte) hex_digits hex_fits bytes) refl

gap_fits : (left_out : Bool) → list_all is_on_one_line (gap_words left_out) ≡ true
gap_fits true = refl
gap_fits false = refl

from_fit : (start at : ℕ) (bytes : List ℕ) → list_all is_on_one_line (words_from start at bytes) ≡ true
from_fit start at bytes =
    let there = marked (between at (at + 1) bytes) in
    let after = flat_map hex_words (between (at + 1) (start + 64) bytes) in
    let end = gap_words (nat_lt (start + 64) (length bytes)) in
    words_both (gap_words (nat_lt 0 start)) (flat_map hex_words (between start at bytes) ++ (there ∷ (after ++ end))) (gap_fits (nat_lt 0 start))
    (words_both (flat_map hex_words (between start at bytes)) (there ∷ (after ++ end)) (hex_all_fit (between start at bytes))
    (first there (after ++ end) (marked_fits (between at (at + 1) bytes))
    (words_both after end (hex_all_fit (between (at + 1) (start + 64) bytes)) (gap_fits (nat_lt (start + 64) (length bytes))))))

mark_fits : (at mark : ℕ) → list_all is_on_one_line (mark_words at mark) ≡ true
mark_fits at mark = elim (mark == at) as (λ t. list_all is_on_one_line (if t then [] else codes "at" ∷ decimal mark ∷ []) ≡ true) [
  | true ↦ refl
  | false ↦ alone (decimal mark) (decimal_fits mark)
]

around_fit : (at mark : ℕ) (bytes : List ℕ) → list_all is_on_one_line (words_around at mark bytes) ≡ true
around_fit at mark bytes = words_both (mark_words at mark) (words_from (shown_from mark) mark bytes) (mark_fits at mark) (from_fit (shown_from mark) mark bytes)

broken_fits : (bytes : List ℕ) (rule : PacketRule) (at : ℕ) → list_all is_on_one_line (broken_words bytes rule at) ≡ true
broken_fits bytes rule at = let mark = marked_at bytes rule at in words_both (type_words bytes) (words_around at mark bytes) (type_fits bytes) (around_fit at mark bytes)

broken_item_fits : (item : Item) → list_all is_on_one_line (broken_details item) ≡ true
broken_item_fits (whole_item size entry) = refl
broken_item_fits (broken_item bytes rule at) = broken_fits bytes rule at
broken_item_fits lost_item = refl

item_fits : (item : Item) → list_all is_on_one_line (item_details item) ≡ true
item_fits (whole_item size entry) = packet_fits entry
item_fits (broken_item bytes rule at) = broken_fits bytes rule at
item_fits lost_item = refl

-- packets that aren't whole
first_fit : (bytes : List ℕ) → list_all is_on_one_line (first_words bytes) ≡ true
first_fit bytes =
    words_both (flat_map hex_words (between 0 64 bytes)) (gap_words (nat_lt 64 (length bytes))) (hex_all_fit (between 0 64 bytes)) (gap_fits (nat_lt 64 (length bytes)))

begun_packet_fits : (direction bytes : List ℕ) → is_on_one_line direction ≡ true → list_all is_on_one_line (begun_words direction bytes) ≡ true
begun_packet_fits direction bytes p =
    let size = size_text bytes ∷ first_words bytes in
    first direction (type_words bytes ++ (codes "size" ∷ size)) p
    (words_both (type_words bytes) (codes "size" ∷ size) (type_fits bytes) (first (size_text bytes) (first_words bytes) (decimal_fits _) (first_fit bytes)))

unfinished_fits : (direction bytes : List ℕ) → is_on_one_line direction ≡ true → list_all is_on_one_line (unfinished_words direction bytes) ≡ true
unfinished_fits direction bytes p =
    elim (length bytes == 0) as (λ t. list_all is_on_one_line (if t then [] else begun_words direction bytes) ≡ true) [
      | true ↦ refl
      | false ↦ begun_packet_fits direction bytes p
    ]

closing_fits : (unfinished : UnfinishedPackets) → list_all is_on_one_line (closing_words unfinished) ≡ true
closing_fits unfinished =
    words_both (unfinished_words (codes "sent") unfinished.sent) (unfinished_words (codes "received") unfinished.received)
    (unfinished_fits (codes "sent") unfinished.sent refl) (unfinished_fits (codes "received") unfinished.received refl)

-- whatever the event
pub details_fit : (event : Event) → is_on_one_line (detail_text event) ≡ true
details_fit opened = refl
details_fit (closed unfinished) = spaces_fit (closing_words unfinished) (closing_fits unfinished)
details_fit rested = refl
details_fit (released identifier) = refl
details_fit (sent item) = spaces_fit (item_details item) (item_fits item)
details_fit (received item) = spaces_fit (item_details item) (item_fits item)

pub broken_details_fit : (event : Event) → is_on_one_line (broken_detail_text event) ≡ true
broken_details_fit opened = refl
broken_details_fit (closed unfinished) = spaces_fit (closing_words unfinished) (closing_fits unfinished)
broken_details_fit rested = refl
broken_details_fit (released identifier) = refl
broken_details_fit (sent item) = spaces_fit (broken_details item) (broken_item_fits item)
broken_details_fit (received item) = spaces_fit (broken_details item) (broken_item_fits item)
