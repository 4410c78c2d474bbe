-- How much is kept of subscriptions: no more than the filters of the session's SUBSCRIBEs, and those of the SUBSCRIBEs that wait.
use Rattle.std.proofs.Common.{◌≡◌, ℕ, ◌+◌, ◌≤◌, ◌==◌, arith, nat_eq, nat_le, Bool, true, false, cond, ◌&&◌, ◌||◌, List, [], ◌∷◌, ◌++◌, length, Option, Some, None, refl, ap, sym, ◌∙◌, ◌⊎◌, inl, inr}
use Rattle.std.specs.Prelude.{unwrap_or, option_map}
use Rattle.std.specs.Option.{option_and_then}
use Rattle.std.specs.Str.{bytes_eq}
use Rattle.std.specs.List.{list_any, sum_by, IsDistinct}
use Rattle.std.specs.Map.{keys_of, lookup}
use Rattle.std.specs.Set.{unique_keys, distinct_count}
use Rattle.std.proofs.lemmas.Bool.{eq-eqb, eqb-true, le-leb}
use Rattle.std.proofs.lemmas.Bool.Decides.{nat_tests}
use Rattle.std.proofs.lemmas.List.Sums.{sum_by-cons}
use Rattle.std.proofs.lemmas.Map.Made.{distinct_count-le}
use Rattle.std.proofs.lemmas.Slice.Eq.{bytes_eq-Decides}
use Rattle.std.proofs.lemmas.List.Folds.{list_any-append}
use Rattle.mq_rules.specs.declared.role.Tested.{Tested}
use Rattle.mq_rules.specs.declared.fate.Fate.{Fate}
use Rattle.mq_rules.specs.declared.note.Seen.{Seen}
use Rattle.mq_rules.specs.declared.text.NotedFilter.{NotedFilter}
use Rattle.mq_rules.specs.Words.{is_id, only}
use Rattle.mq_rules.specs.Notes.{Subscription, refuses, received_subscription}
use Rattle.mq_rules.specs.Moments.{Moment, note, some, earliest_since, Among}
use Rattle.mq_rules.specs.Connections.{is_connected, connection, accepted, session}
use Rattle.mq_rules.specs.Exchanges.{causes, answers, subscribe_suback}
use Rattle.mq_rules.specs.Subscriptions.{Standing, requested}
use Rattle.mq_rules.specs.Wishes.{is_share, shared_filter}
use Rattle.mq_rules.specs.MatchingSubscriptions.{Subscribed, subscribed_to, subscribed_by, identifier_at}
use Rattle.mq_rules.proofs.Exports.{and_true, both_true, or_left, or_parts, or_right, some-among}
use Rattle.mq_filters.specs.Standings.{allows}
use Rattle.mq_subscriptions.specs.Burden.{at_least_one, asked_filters, texts_of, texts_in, texts_asked, subscribed_texts, texts_with, identified_texts}
use Rattle.mq_subscriptions.specs.Deletings.{codes_given}
use Rattle.mq_subscriptions.specs.Firsts.{found_first}
use Rattle.mq_subscriptions.specs.Standings.{first_code, other_codes}
use Rattle.mq_subscriptions.specs.Matchings.{Kind, bearing, of_kind, has_text, serves, Asks, asks_of, subscribed_one, waits, subscribed_in, settled_from, AreSubscriptions}
use Rattle.mq_subscriptions.specs.Subscribings.{AreCounted}
use Rattle.mq_subscriptions.proofs.EntrySizeLaws.{HasOne, apart, distinct-sum}
use Rattle.mq_subscriptions.proofs.GrantSizeLaws.{counted, first-waits}
use Rattle.mq_subscriptions.proofs.MatchingLaws.{one_more}

-- ---- filters

-- whatever may be sent for it
any_qos : (f : List ℕ) (s : Standing) → allows (bytes_eq f) 0 s ≡ bytes_eq f s.filter
any_qos f s = ap (λ b. bytes_eq f s.filter && b) (le-leb 0 s.ceiling (omega arith)) ∙ whole (bytes_eq f s.filter)
  where
    whole : (b : Bool) → (b && true) ≡ b
    whole true = refl
    whole false = refl

module _ (kind : Kind) (f : List ℕ) where
  abbrev test : Subscribed → Bool
  test = serves kind (bytes_eq f) 0

  -- a filter that serves for this text has it
  has-text : (identifier : Option ℕ) (g : NotedFilter) (qos : ℕ) → test (subscribed_to identifier g qos) ≡ true → list_any (bytes_eq f) (texts_of g) ≡ true
  has-text identifier g qos h =
      let s = subscribed_to identifier g qos in
      let serving = both_true (of_kind kind s) (has_text (bytes_eq f) s && nat_le 0 s.ceiling) h in
      let has = both_true (has_text (bytes_eq f) s) (nat_le 0 s.ceiling) serving.1 in
      go (is_share g.filter) (or_parts (bytes_eq f g.filter) (is_share g.filter && bytes_eq f (shared_filter g.filter)) has.0)
    where
      go : (b : Bool) → (bytes_eq f g.filter ≡ true) ⊎ ((b && bytes_eq f (shared_filter g.filter)) ≡ true) → (bytes_eq f g.filter || list_any (bytes_eq f) (cond b (shared_filter g.filter ∷ []) [])) ≡ true
      go b (inl is) = or_left (bytes_eq f g.filter) (list_any (bytes_eq f) (cond b (shared_filter g.filter ∷ []) [])) is
      go true (inr is) = or_right (bytes_eq f g.filter) (bytes_eq f (shared_filter g.filter) || false) (or_left (bytes_eq f (shared_filter g.filter)) false is)
      go false (inr is) = absurd (cc)

  one-text : (identifier : Option ℕ) (g : NotedFilter) (code : Option ℕ) → list_any test (subscribed_one identifier g code) ≡ true → list_any (bytes_eq f) (texts_of g) ≡ true
  one-text identifier g None h = by (or_parts (test (subscribed_to identifier g (requested g))) false h)
    where
      by : (test (subscribed_to identifier g (requested g)) ≡ true) ⊎ (false ≡ true) → list_any (bytes_eq f) (texts_of g) ≡ true
      by (inl is) = has-text identifier g (requested g) is
      by (inr is) = absurd (cc)
  one-text identifier g (Some code) h = go (refuses code) h
    where
      by : (test (subscribed_to identifier g code) ≡ true) ⊎ (false ≡ true) → list_any (bytes_eq f) (texts_of g) ≡ true
      by (inl is) = has-text identifier g code is
      by (inr is) = absurd (cc)

      go : (b : Bool) → list_any test (cond b [] (subscribed_to identifier g code ∷ [])) ≡ true → list_any (bytes_eq f) (texts_of g) ≡ true
      go true h = absurd (cc)
      go false h = by (or_parts (test (subscribed_to identifier g code)) false h)

  each-text : (identifier : Option ℕ) (gs : List NotedFilter) (codes : List ℕ) → list_any test (subscribed_by identifier gs codes) ≡ true → list_any (bytes_eq f) (texts_in gs) ≡ true
  each-text identifier [] codes h = absurd (cc)
  each-text identifier (g ∷ gs) codes h =
      list_any-append (bytes_eq f) (texts_of g) (texts_in gs)
      ∙ go (or_parts (list_any test (subscribed_one identifier g (first_code codes))) (list_any test (subscribed_by identifier gs (other_codes codes))) (sym (one_more test identifier g gs codes) ∙ h)) (each-text identifier gs (other_codes codes))
    where
      go : (list_any test (subscribed_one identifier g (first_code codes)) ≡ true) ⊎ (list_any test (subscribed_by identifier gs (other_codes codes)) ≡ true)
          → (list_any test (subscribed_by identifier gs (other_codes codes)) ≡ true → list_any (bytes_eq f) (texts_in gs) ≡ true) → (list_any (bytes_eq f) (texts_of g) || list_any (bytes_eq f) (texts_in gs)) ≡ true
      go (inl is) rest = or_left (list_any (bytes_eq f) (texts_of g)) (list_any (bytes_eq f) (texts_in gs)) (one-text identifier g (first_code codes) is)
      go (inr is) rest = or_right (list_any (bytes_eq f) (texts_of g)) (list_any (bytes_eq f) (texts_in gs)) (rest is)

  -- what a moment settles is among what it asks for
  settled-text : (past : List Seen) (j : Moment) → list_any test (settled_from past j) ≡ true → list_any (bytes_eq f) (texts_asked (received_subscription (note j))) ≡ true
  settled-text past j h = by (received_subscription (note j)) (go (waits past j) h)
    where
      go : (b : Bool) → list_any test (cond b [] (subscribed_in past j)) ≡ true → list_any test (subscribed_in past j) ≡ true
      go true h = absurd (cc)
      go false h = h

      by : (o : Option Subscription) → list_any test (unwrap_or (option_map (λ s. subscribed_by (identifier_at j) s.filters (unwrap_or (codes_given past j) [])) o) []) ≡ true → list_any (bytes_eq f) (texts_asked o) ≡ true
      by None h = absurd (cc)
      by (Some s) h = each-text (identifier_at j) s.filters (unwrap_or (codes_given past j) []) h

  session-text : (past : List Seen) (ms : List Moment) → some (λ j. list_any test (settled_from past j)) ms ≡ true → list_any (bytes_eq f) (subscribed_texts ms) ≡ true
  session-text past [] h = h
  session-text past (j ∷ js) h =
      list_any-append (bytes_eq f) (texts_asked (received_subscription (note j))) (subscribed_texts js)
      ∙ go (or_parts (list_any test (settled_from past j)) (some (λ j. list_any test (settled_from past j)) js) h) (session-text past js)
    where
      go : (list_any test (settled_from past j) ≡ true) ⊎ (some (λ j. list_any test (settled_from past j)) js ≡ true) → (some (λ j. list_any test (settled_from past j)) js ≡ true → list_any (bytes_eq f) (subscribed_texts js) ≡ true)
          → (list_any (bytes_eq f) (texts_asked (received_subscription (note j))) || list_any (bytes_eq f) (subscribed_texts js)) ≡ true
      go (inl is) rest = or_left (list_any (bytes_eq f) (texts_asked (received_subscription (note j)))) (list_any (bytes_eq f) (subscribed_texts js)) (settled-text past j is)
      go (inr is) rest = or_right (list_any (bytes_eq f) (texts_asked (received_subscription (note j)))) (list_any (bytes_eq f) (subscribed_texts js)) (rest is)

  -- each text of a set is one of the session's
  pub set-named : (sets : Kind → List Standing) (waiting : List (ℕ × Asks)) (tested : Tested) (taken : Option Fate) (past : List Seen) → AreSubscriptions sets waiting tested taken past
      → list_any (λ s. bytes_eq f s.filter) (sets kind) ≡ true → list_any (bytes_eq f) (subscribed_texts (session tested.role taken past)) ≡ true
  set-named sets waiting tested taken past are h =
      session-text past (session tested.role taken past) (sym (are.sets_are kind (bytes_eq f) 0) ∙ (λ i. list_any (λ x. any_qos f x i) (sets kind)) ∙ h)

-- ---- filters with a Subscription Identifier

module _ (i : ℕ) (f : List ℕ) where
  abbrev named : Subscribed → Bool
  named = serves (bearing i) (bytes_eq f) 0

  -- a subscription that serves has the identifier
  bears : (s : Subscribed) → named s ≡ true → is_id i s.identifier ≡ true
  bears s h = (both_true (is_id i s.identifier) (has_text (bytes_eq f) s && nat_le 0 s.ceiling) h).0

  one-bears : (identifier : Option ℕ) (g : NotedFilter) (code : Option ℕ) → list_any named (subscribed_one identifier g code) ≡ true → is_id i identifier ≡ true
  one-bears identifier g None h = by (or_parts (named (subscribed_to identifier g (requested g))) false h)
    where
      by : (named (subscribed_to identifier g (requested g)) ≡ true) ⊎ (false ≡ true) → is_id i identifier ≡ true
      by (inl is) = bears (subscribed_to identifier g (requested g)) is
      by (inr is) = absurd (cc)
  one-bears identifier g (Some code) h = go (refuses code) h
    where
      by : (named (subscribed_to identifier g code) ≡ true) ⊎ (false ≡ true) → is_id i identifier ≡ true
      by (inl is) = bears (subscribed_to identifier g code) is
      by (inr is) = absurd (cc)

      go : (b : Bool) → list_any named (cond b [] (subscribed_to identifier g code ∷ [])) ≡ true → is_id i identifier ≡ true
      go true h = absurd (cc)
      go false h = by (or_parts (named (subscribed_to identifier g code)) false h)

  each-bears : (identifier : Option ℕ) (gs : List NotedFilter) (codes : List ℕ) → list_any named (subscribed_by identifier gs codes) ≡ true → is_id i identifier ≡ true
  each-bears identifier [] codes h = absurd (cc)
  each-bears identifier (g ∷ gs) codes h =
      go (or_parts (list_any named (subscribed_one identifier g (first_code codes))) (list_any named (subscribed_by identifier gs (other_codes codes))) (sym (one_more named identifier g gs codes) ∙ h)) (each-bears identifier gs (other_codes codes))
    where
      go : (list_any named (subscribed_one identifier g (first_code codes)) ≡ true) ⊎ (list_any named (subscribed_by identifier gs (other_codes codes)) ≡ true)
          → (list_any named (subscribed_by identifier gs (other_codes codes)) ≡ true → is_id i identifier ≡ true) → is_id i identifier ≡ true
      go (inl is) rest = one-bears identifier g (first_code codes) is
      go (inr is) rest = rest is

  settled-bears : (past : List Seen) (j : Moment) → list_any named (settled_from past j) ≡ true → is_id i (identifier_at j) ≡ true
  settled-bears past j h = by (received_subscription (note j)) (go (waits past j) h)
    where
      go : (b : Bool) → list_any named (cond b [] (subscribed_in past j)) ≡ true → list_any named (subscribed_in past j) ≡ true
      go true h = absurd (cc)
      go false h = h

      by : (o : Option Subscription) → list_any named (unwrap_or (option_map (λ s. subscribed_by (identifier_at j) s.filters (unwrap_or (codes_given past j) [])) o) []) ≡ true → is_id i (identifier_at j) ≡ true
      by None h = absurd (cc)
      by (Some s) h = each-bears (identifier_at j) s.filters (unwrap_or (codes_given past j) []) h

  -- a text after its identifier
  with-identifier : (o : Option ℕ) (fs : List (List ℕ)) → is_id i o ≡ true → list_any (bytes_eq f) fs ≡ true → list_any (bytes_eq (i ∷ f)) (texts_with o fs) ≡ true
  with-identifier None fs is h = absurd (cc)
  with-identifier (Some j) [] is h = absurd (cc)
  with-identifier (Some j) (g ∷ gs) is h = go (or_parts (bytes_eq f g) (list_any (bytes_eq f) gs) h) (with-identifier (Some j) gs is)
    where
      go : (bytes_eq f g ≡ true) ⊎ (list_any (bytes_eq f) gs ≡ true) → (list_any (bytes_eq f) gs ≡ true → list_any (bytes_eq (i ∷ f)) (texts_with (Some j) gs) ≡ true)
          → (bytes_eq (i ∷ f) (j ∷ g) || list_any (bytes_eq (i ∷ f)) (texts_with (Some j) gs)) ≡ true
      go (inl same) rest = or_left (bytes_eq (i ∷ f) (j ∷ g)) (list_any (bytes_eq (i ∷ f)) (texts_with (Some j) gs)) (and_true (i == j) (bytes_eq f g) is same)
      go (inr there) rest = or_right (bytes_eq (i ∷ f) (j ∷ g)) (list_any (bytes_eq (i ∷ f)) (texts_with (Some j) gs)) (rest there)

  session-bears : (past : List Seen) (ms : List Moment) → some (λ j. list_any named (settled_from past j)) ms ≡ true → list_any (bytes_eq (i ∷ f)) (identified_texts ms) ≡ true
  session-bears past [] h = h
  session-bears past (j ∷ js) h =
      list_any-append (bytes_eq (i ∷ f)) here (identified_texts js)
      ∙ go (or_parts (list_any named (settled_from past j)) (some (λ j. list_any named (settled_from past j)) js) h) (session-bears past js)
    where
      here : List (List ℕ)
      here = texts_with (identifier_at j) (texts_asked (received_subscription (note j)))

      go : (list_any named (settled_from past j) ≡ true) ⊎ (some (λ j. list_any named (settled_from past j)) js ≡ true) → (some (λ j. list_any named (settled_from past j)) js ≡ true → list_any (bytes_eq (i ∷ f)) (identified_texts js) ≡ true)
          → (list_any (bytes_eq (i ∷ f)) here || list_any (bytes_eq (i ∷ f)) (identified_texts js)) ≡ true
      go (inl is) rest =
          or_left (list_any (bytes_eq (i ∷ f)) here) (list_any (bytes_eq (i ∷ f)) (identified_texts js))
          (with-identifier (identifier_at j) (texts_asked (received_subscription (note j))) (settled-bears past j is) (settled-text (bearing i) f past j is))
      go (inr is) rest = or_right (list_any (bytes_eq (i ∷ f)) here) (list_any (bytes_eq (i ∷ f)) (identified_texts js)) (rest is)

  -- each text of the set under an identifier is one of the session's with it
  pub set-identified : (sets : Kind → List Standing) (waiting : List (ℕ × Asks)) (tested : Tested) (taken : Option Fate) (past : List Seen) → AreSubscriptions sets waiting tested taken past
      → list_any (λ s. bytes_eq f s.filter) (sets (bearing i)) ≡ true → list_any (bytes_eq (i ∷ f)) (identified_texts (session tested.role taken past)) ≡ true
  set-identified sets waiting tested taken past are h =
      session-bears past (session tested.role taken past) (sym (are.sets_are (bearing i) (bytes_eq f) 0) ∙ (λ x. list_any (λ s. any_qos f s x) (sets (bearing i))) ∙ h)

-- ---- how many there are under all identifiers

-- of texts that begin with a number: what follows it in those that begin with this one, and the other ones
abbrev tails : ℕ → List (List ℕ) → List (List ℕ)
tails i [] = []
tails i ([] ∷ ys) = tails i ys
tails i ((j ∷ g) ∷ ys) = cond (i == j) (g ∷ tails i ys) (tails i ys)

abbrev others : ℕ → List (List ℕ) → List (List ℕ)
others i [] = []
others i ([] ∷ ys) = others i ys
others i ((j ∷ g) ∷ ys) = cond (i == j) (others i ys) ((j ∷ g) ∷ others i ys)

parted : (i : ℕ) (ys : List (List ℕ)) → length (tails i ys) + length (others i ys) ≤ length ys
parted i [] = omega arith
parted i ([] ∷ ys) = let rest = parted i ys in omega (arith, rest)
parted i ((j ∷ g) ∷ ys) = go (i == j) (parted i ys)
  where
    go : (b : Bool) → length (tails i ys) + length (others i ys) ≤ length ys → length (cond b (g ∷ tails i ys) (tails i ys)) + length (cond b (others i ys) ((j ∷ g) ∷ others i ys)) ≤ length ((j ∷ g) ∷ ys)
    go true rest = omega (arith, rest)
    go false rest = omega (arith, rest)

in-tails : (i : ℕ) (f : List ℕ) (ys : List (List ℕ)) → list_any (bytes_eq (i ∷ f)) ys ≡ list_any (bytes_eq f) (tails i ys)
in-tails i f [] = refl
in-tails i f ([] ∷ ys) = in-tails i f ys
in-tails i f ((j ∷ g) ∷ ys) = go (i == j) (in-tails i f ys)
  where
    go : (b : Bool) → list_any (bytes_eq (i ∷ f)) ys ≡ list_any (bytes_eq f) (tails i ys) → ((b && bytes_eq f g) || list_any (bytes_eq (i ∷ f)) ys) ≡ list_any (bytes_eq f) (cond b (g ∷ tails i ys) (tails i ys))
    go true rest = ap (λ b. bytes_eq f g || b) rest
    go false rest = rest

in-others : (i k : ℕ) (f : List ℕ) (ys : List (List ℕ)) → (k == i) ≡ false → list_any (bytes_eq (k ∷ f)) ys ≡ list_any (bytes_eq (k ∷ f)) (others i ys)
in-others i k f [] other = refl
in-others i k f ([] ∷ ys) other = in-others i k f ys other
in-others i k f ((j ∷ g) ∷ ys) other = go (i == j) refl (in-others i k f ys other)
  where
    go : (b : Bool) → (i == j) ≡ b → list_any (bytes_eq (k ∷ f)) ys ≡ list_any (bytes_eq (k ∷ f)) (others i ys)
        → (((k == j) && bytes_eq f g) || list_any (bytes_eq (k ∷ f)) ys) ≡ list_any (bytes_eq (k ∷ f)) (cond b (others i ys) ((j ∷ g) ∷ others i ys))
    go true is rest = ap (λ n. ((k == n) && bytes_eq f g) || list_any (bytes_eq (k ∷ f)) ys) (sym (eqb-true i j is)) ∙ ap (λ b. (b && bytes_eq f g) || list_any (bytes_eq (k ∷ f)) ys) other ∙ rest
    go false is rest = ap (λ b. ((k == j) && bytes_eq f g) || b) rest

-- sets under different numbers, each text of which is among these after its number, have no more than these
sets-within : (es : List (ℕ × List Standing)) → IsDistinct nat_eq (keys_of es) → AreCounted es → (ys : List (List ℕ))
    → ((i : ℕ) (f : List ℕ) → list_any (λ s. bytes_eq f s.filter) (unwrap_or (lookup (nat_eq i) es) []) ≡ true → list_any (bytes_eq (i ∷ f)) ys ≡ true) → sum_by (λ e. length e.1) es ≤ length ys
unfolding IsDistinct
sets-within [] distinct counted ys each = omega arith
sets-within (e ∷ es) distinct counted ys each =
    let sum = sum_by-cons (λ (e : ℕ × List Standing). length e.1) e es in
    let first = counted.0 (tails e.0 ys) (λ f h. sym (in-tails e.0 f ys) ∙ each e.0 f (ap (λ b. list_any (λ s. bytes_eq f s.filter) (unwrap_or (cond b (Some e.1) (lookup (nat_eq e.0) es)) [])) (eq-eqb e.0 e.0 refl) ∙ h)) in
    let most = distinct_count-le bytes_eq (tails e.0 ys) in
    let rest = sets-within es distinct.1 counted.1 (others e.0 ys) (λ i f h. later i f (lookup (nat_eq i) es) refl h) in
    let both = parted e.0 ys in
    omega (arith, sum, first, most, rest, both)
  where
    later : (i : ℕ) (f : List ℕ) (o : Option (List Standing)) → lookup (nat_eq i) es ≡ o → list_any (λ s. bytes_eq f s.filter) (unwrap_or o []) ≡ true → list_any (bytes_eq (i ∷ f)) (others e.0 ys) ≡ true
    later i f None p h = absurd (cc)
    later i f (Some set) p h =
        let other : nat_eq e.0 i ≡ false = apart e.0 es distinct.0 i set p in
        let back : nat_eq i e.0 ≡ false = grind (arith, nat_tests) in
        sym (in-others e.0 i f ys back)
        ∙ each i f (ap (λ b. list_any (λ s. bytes_eq f s.filter) (unwrap_or (cond b (Some e.1) (lookup (nat_eq i) es)) [])) back ∙ ap (λ o. list_any (λ s. bytes_eq f s.filter) (unwrap_or o [])) p ∙ h)

-- what one has that another one has it too, that one has still when repeats are left out
in-unique : (f : List ℕ) (ys : List (List ℕ)) → list_any (bytes_eq f) ys ≡ true → list_any (bytes_eq f) (unique_keys bytes_eq ys) ≡ true
in-unique f [] h = h
in-unique f (y ∷ ys) h = go (list_any (bytes_eq y) ys) refl (or_parts (bytes_eq f y) (list_any (bytes_eq f) ys) h) (in-unique f ys)
  where
    go : (b : Bool) → list_any (bytes_eq y) ys ≡ b → (bytes_eq f y ≡ true) ⊎ (list_any (bytes_eq f) ys ≡ true) → (list_any (bytes_eq f) ys ≡ true → list_any (bytes_eq f) (unique_keys bytes_eq ys) ≡ true)
        → list_any (bytes_eq f) (cond b (unique_keys bytes_eq ys) (y ∷ unique_keys bytes_eq ys)) ≡ true
    go true is (inl same) rest = rest (ap (λ g. list_any (bytes_eq g) ys) ((bytes_eq-Decides f y).0 same) ∙ is)
    go true is (inr there) rest = rest there
    go false is (inl same) rest = or_left (bytes_eq f y) (list_any (bytes_eq f) (unique_keys bytes_eq ys)) same
    go false is (inr there) rest = or_right (bytes_eq f y) (list_any (bytes_eq f) (unique_keys bytes_eq ys)) (rest there)

pub identified-within : (es : List (ℕ × List Standing)) → IsDistinct nat_eq (keys_of es) → AreCounted es → (texts : List (List ℕ))
    → ((i : ℕ) (f : List ℕ) → list_any (λ s. bytes_eq f s.filter) (unwrap_or (lookup (nat_eq i) es) []) ≡ true → list_any (bytes_eq (i ∷ f)) texts ≡ true) → sum_by (λ e. length e.1) es ≤ distinct_count bytes_eq texts
identified-within es distinct counted texts each = sets-within es distinct counted (unique_keys bytes_eq texts) (λ i f h. in-unique (i ∷ f) texts (each i f h))

-- ---- SUBSCRIBEs that wait

abbrev asks_weigh : Asks → ℕ
asks_weigh v = at_least_one (length v.filters)

pub asking-within : (taken : Option Fate) (es : List (ℕ × Asks)) (log : List Seen) → IsDistinct nat_eq (keys_of es) → ((i : ℕ) → lookup (nat_eq i) es ≡ only (accepted taken) (found_first subscribe_suback asks_of i log))
    → sum_by (λ e. at_least_one (length e.1.filters)) es ≤ asked_filters log
unfolding asked_filters
asking-within taken es log distinct are = distinct-sum subscribe_suback asks_weigh es distinct (connection log) (counted log) (λ i v h. kept i v (accepted taken) (is_connected log) refl (sym (are i) ∙ h))
  where
    find : ℕ → List Moment → Option Moment
    find i ms = earliest_since (causes subscribe_suback i) (answers subscribe_suback i) ms

    some_is : (a b : Asks) → Some a ≡ Some b → a ≡ b
    some_is a b h = cc

    at : (i : ℕ) (v : Asks) → is_connected log ≡ true → (o : Option Moment) → find i (connection log) ≡ o → option_and_then asks_of o ≡ Some v → HasOne subscribe_suback asks_weigh (connection log) (counted log) i v
    at i v connected None p h = absurd (cc)
    at i v connected (Some j) p h =
        let w = first-waits log i j connected p in
        let same = some_is (record { filters = w.asked_is.filters; identifier = identifier_at j }) v (sym (ap (option_map (λ (s : Subscription). record { filters = s.filters; identifier = identifier_at j })) w.request) ∙ h) in
        let counts : counted log j ≡ asks_weigh v = w.counts ∙ ap asks_weigh same in
        (j, w.there, w.named, omega (arith, counts))

    kept : (i : ℕ) (v : Asks) (b c : Bool) → is_connected log ≡ c → only b (option_and_then asks_of (find i (cond c (connection log) []))) ≡ Some v → HasOne subscribe_suback asks_weigh (connection log) (counted log) i v
    kept i v true true connected h = at i v connected (find i (connection log)) refl h
    kept i v true false closed h = absurd (cc)
    kept i v false c closed h = absurd (cc)
