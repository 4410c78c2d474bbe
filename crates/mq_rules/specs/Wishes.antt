-- What a SUBSCRIBE asks for, as far as the further statements look at it: wildcards, a Subscription Identifier and shared subscriptions.
use Rattle.std.specs.Prelude.{ℕ, ◌/◌, ◌%◌, ◌==◌, Bool, false, ◌&&◌, ◌||◌, not, cond, List, length, take, codes, Option, None, unwrap_or}
use Rattle.std.specs.Str.{bytes_eq}
use Rattle.std.specs.List.{after_first, before_first, list_any}
use Rattle.mq_topic.specs.Levels.{is_name}
use Rattle.mq_packet.specs.Entries.{AskedFilter}
use Rattle.mq_rules.specs.declared.packet_note.WishesNote.{WishesNote}

-- ---- one filter

-- it begins with `$share/`, and asks for a shared subscription (MQTT 5.0, section 4.8.2)
abbrev pub is_share : List ℕ → Bool
is_share text = bytes_eq (take 7 text) (codes "$share/")

-- 47 is `/`
abbrev pub is_slash : ℕ → Bool
is_slash byte = byte == 47

-- of a shared one the ShareName, which is its second level, and the Topic Filter after that; none if no `/` follows the name
abbrev pub share_name : List ℕ → List ℕ
share_name text = before_first is_slash (after_first is_slash text)

abbrev pub shared_filter : List ℕ → List ℕ
shared_filter text = after_first is_slash (after_first is_slash text)

-- it has a wildcard, a shared one after its name (MQTT 5.0, section 4.7.1)
abbrev pub asks_by_wildcard : List ℕ → Bool
asks_by_wildcard text = not (is_name (cond (is_share text) (shared_filter text) text))

-- it asks for a shared subscription, but has an empty ShareName, or one with a wildcard, or no Topic Filter (MQTT-4.8.2-1 and MQTT-4.8.2-2)
abbrev pub is_misnamed : List ℕ → Bool
is_misnamed text = is_share text && ((length (share_name text) == 0) || (not (is_name (share_name text)) || (length (shared_filter text) == 0)))

-- No Local, bit 2 of the Subscription Options, is 1 (MQTT 5.0, section 3.8.3.1)
abbrev pub is_no_local : ℕ → Bool
is_no_local options = options / 4 % 2 == 1

-- it asks for a shared subscription with No Local
abbrev pub is_shared_no_local : AskedFilter → Bool
is_shared_no_local f = is_share f.filter && is_no_local (unwrap_or f.options 0)

-- ---- all filters of a SUBSCRIBE

abbrev pub nothing_wished : WishesNote
nothing_wished = record { has_wildcard = false; subscription_identifier = None; has_share = false; has_misnamed_share = false; has_no_local_share = false }

-- with this Subscription Identifier, or without one, and with these filters
abbrev pub wishes_of : Option ℕ → List AskedFilter → WishesNote
wishes_of identifier filters = record {
  has_wildcard = list_any (λ f. asks_by_wildcard f.filter) filters;
  subscription_identifier = identifier;
  has_share = list_any (λ f. is_share f.filter) filters;
  has_misnamed_share = list_any (λ f. is_misnamed f.filter) filters;
  has_no_local_share = list_any is_shared_no_local filters;
}

-- what was asked for so far, with one filter more
abbrev pub wishes_with : WishesNote → AskedFilter → WishesNote
wishes_with w f = record {
  has_wildcard = w.has_wildcard || asks_by_wildcard f.filter;
  subscription_identifier = w.subscription_identifier;
  has_share = w.has_share || is_share f.filter;
  has_misnamed_share = w.has_misnamed_share || is_misnamed f.filter;
  has_no_local_share = w.has_no_local_share || is_shared_no_local f;
}
