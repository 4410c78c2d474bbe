-- What a SUBSCRIBE asks for is found filter by filter.
use Rattle.std.proofs.Common.{◌≡◌, Bool, true, false, ◌||◌, List, [], ◌∷◌, refl}
use Rattle.std.specs.List.{list_any}
use Rattle.mq_packet.specs.Entries.{AskedFilter}
use Rattle.mq_rules.specs.declared.packet_note.WishesNote.{WishesNote}
use Rattle.mq_rules.specs.Wishes.{asks_by_wildcard, is_misnamed, is_share, is_shared_no_local, wishes_with}

-- what was asked for so far, and by these filters
abbrev pub wishes_with_all : WishesNote → List AskedFilter → WishesNote
wishes_with_all w fs = record {
  has_wildcard = w.has_wildcard || list_any (λ f. asks_by_wildcard f.filter) fs;
  subscription_identifier = w.subscription_identifier;
  has_share = w.has_share || list_any (λ f. is_share f.filter) fs;
  has_misnamed_share = w.has_misnamed_share || list_any (λ f. is_misnamed f.filter) fs;
  has_no_local_share = w.has_no_local_share || list_any is_shared_no_local fs;
}

or-first : (a b c : Bool) → ((a || b) || c) ≡ (a || (b || c))
or-first true b c = refl
or-first false b c = refl

or-none : (a : Bool) → (a || false) ≡ a
or-none true = refl
or-none false = refl

pub wishes_next : (w : WishesNote) (f : AskedFilter) (fs : List AskedFilter) → wishes_with_all (wishes_with w f) fs ≡ wishes_with_all w (f ∷ fs)
wishes_next w f fs = λ i. record {
  has_wildcard = or-first w.has_wildcard (asks_by_wildcard f.filter) (list_any (λ f. asks_by_wildcard f.filter) fs) i;
  subscription_identifier = w.subscription_identifier;
  has_share = or-first w.has_share (is_share f.filter) (list_any (λ f. is_share f.filter) fs) i;
  has_misnamed_share = or-first w.has_misnamed_share (is_misnamed f.filter) (list_any (λ f. is_misnamed f.filter) fs) i;
  has_no_local_share = or-first w.has_no_local_share (is_shared_no_local f) (list_any is_shared_no_local fs) i;
}

pub wishes_none : (w : WishesNote) → wishes_with_all w [] ≡ w
wishes_none w = λ i. record {
  has_wildcard = or-none w.has_wildcard i;
  subscription_identifier = w.subscription_identifier;
  has_share = or-none w.has_share i;
  has_misnamed_share = or-none w.has_misnamed_share i;
  has_no_local_share = or-none w.has_no_local_share i;
}
