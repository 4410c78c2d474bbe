-- What was found for topics, and what it says of a delivery.
use Rattle.std.proofs.Common.{◌≡◌, ℕ, nat_le, arith, Bool, true, false, cond, if◌then◌else◌, ◌&&◌, ◌||◌, not, List, [], ◌∷◌, Option, Some, None, refl, ap, sym, ◌∙◌, subst}
use Rattle.std.specs.Prelude.{is_some, is_none}
use Rattle.std.specs.declared.string.String.{String}
use Rattle.std.specs.String.{string_bytes, string_eq}
use Rattle.std.specs.Str.{bytes_eq}
use Rattle.std.specs.List.{list_any}
use Rattle.std.specs.Map.{lookup}
use Rattle.std.proofs.lemmas.Slice.Eq.{bytes_eq-Decides}
use Rattle.std.proofs.lemmas.Bool.Decides.{nat_tests}
use Rattle.indexmap.specs.IndexMap.{insert_entry}
use Rattle.mq_packet.specs.declared.packet.Qos.{Qos}
use Rattle.mq_topic.specs.Matching.{matches}
use Rattle.mq_rules.specs.Words.{is_some_and, only}
use Rattle.mq_rules.specs.Notes.{qos_number}
use Rattle.mq_rules.specs.Subscriptions.{Standing}
use Rattle.mq_filters.specs.Standings.{has_ceiling}
use Rattle.mq_subscriptions.specs.Standings.{Waits, any_kept, is_unasked, is_above, allows_topic, Remembers}

-- it allows just the QoS that is allowed for the topic
abbrev pub IsFound : List Standing → List Waits → List ℕ → Option ℕ → Type 0
IsFound settled waiting topic o = (qos : ℕ) → has_ceiling (nat_le qos) o ≡ allows_topic settled waiting topic qos

module _ {Y : Type 0} where
  pub remembered : (settled : List Standing) (waiting : List Waits) (topic : List ℕ) (v : Option ℕ) (es : List (String Y × Option ℕ)) → lookup (λ k. bytes_eq topic (string_bytes k)) es ≡ Some v → Remembers settled waiting es → IsFound settled waiting topic v
  remembered settled waiting topic v [] h all = absurd (cc)
  remembered settled waiting topic v (e ∷ es) h all = go (bytes_eq topic (string_bytes e.0)) refl h (λ rest. remembered settled waiting topic v es rest all.1)
    where
      go : (b : Bool) → bytes_eq topic (string_bytes e.0) ≡ b → cond b (Some e.1) (lookup (λ k. bytes_eq topic (string_bytes k)) es) ≡ Some v → (lookup (λ k. bytes_eq topic (string_bytes k)) es ≡ Some v → IsFound settled waiting topic v) → IsFound settled waiting topic v
      go true n h rest =
          let same : e.1 ≡ v = cc in
          subst (λ (o : Option ℕ). IsFound settled waiting topic o) same
          (subst (λ (t : List ℕ). IsFound settled waiting t e.1) (sym ((bytes_eq-Decides topic (string_bytes e.0)).0 n)) all.0)
      go false n h rest = rest h

  pub remembers-more : (settled : List Standing) (waiting : List Waits) (k : String Y) (v : Option ℕ) (es : List (String Y × Option ℕ)) → IsFound settled waiting (string_bytes k) v → Remembers settled waiting es → Remembers settled waiting (insert_entry string_eq es k v)
  remembers-more settled waiting k v [] found all = (found, tt)
  remembers-more settled waiting k v (e ∷ es) found all = go (string_eq k e.0) refl (remembers-more settled waiting k v es found all.1)
    where
      go : (b : Bool) → string_eq k e.0 ≡ b → Remembers settled waiting (insert_entry string_eq es k v) → Remembers settled waiting (if b then (e.0, v) ∷ es else e ∷ insert_entry string_eq es k v)
      go true n rest = (subst (λ (t : List ℕ). IsFound settled waiting t v) ((bytes_eq-Decides (string_bytes k) (string_bytes e.0)).0 n) found, all.1)
      go false n rest = (all.0, rest)

-- ---- what a delivery breaks

each-allows : (topic : List ℕ) (ss : List Standing) → list_any (λ s. matches s.filter topic && nat_le 0 s.ceiling) ss ≡ list_any (λ s. matches s.filter topic) ss
each-allows topic [] = refl
each-allows topic (s ∷ ss) =
    let least : nat_le 0 s.ceiling ≡ true = grind (arith, nat_tests) in
    ap (λ b. (matches s.filter topic && b) || list_any (λ s. matches s.filter topic && nat_le 0 s.ceiling) ss) least
    ∙ ap (λ b. b || list_any (λ s. matches s.filter topic && nat_le 0 s.ceiling) ss) (whole (matches s.filter topic))
    ∙ ap (λ b. matches s.filter topic || b) (each-allows topic ss)
  where
    whole : (b : Bool) → (b && true) ≡ b
    whole true = refl
    whole false = refl

each-waits : (topic : List ℕ) (ws : List Waits) → list_any (λ w. list_any (λ s. matches s.filter topic && nat_le 0 s.ceiling) w.filters) ws ≡ list_any (λ w. list_any (λ s. matches s.filter topic) w.filters) ws
each-waits topic [] = refl
each-waits topic (w ∷ ws) =
    ap (λ b. b || list_any (λ w. list_any (λ s. matches s.filter topic && nat_le 0 s.ceiling) w.filters) ws) (each-allows topic w.filters)
    ∙ ap (λ b. list_any (λ s. matches s.filter topic) w.filters || b) (each-waits topic ws)

-- each ceiling allows QoS 0
found-named : (settled : List Standing) (waiting : List Waits) (topic : List ℕ) (o : Option ℕ) → IsFound settled waiting topic o → is_some o ≡ any_kept (λ s. matches s.filter topic) settled waiting
found-named settled waiting topic o found =
    least o ∙ found 0
    ∙ ap (λ b. b || list_any (λ w. list_any (λ s. matches s.filter topic && nat_le 0 s.ceiling) w.filters) waiting) (each-allows topic settled)
    ∙ ap (λ b. list_any (λ s. matches s.filter topic) settled || b) (each-waits topic waiting)
  where
    least : (o : Option ℕ) → is_some o ≡ has_ceiling (nat_le 0) o
    least None = refl
    least (Some c) = let l : nat_le 0 c ≡ true = grind (arith, nat_tests) in sym l

pub found-unasked : (settled : List Standing) (waiting : List Waits) (topic : List ℕ) (o : Option ℕ) → IsFound settled waiting topic o → is_none o ≡ is_unasked settled waiting topic
found-unasked settled waiting topic o found = turned o ∙ ap not (found-named settled waiting topic o found)
  where
    turned : (o : Option ℕ) → is_none o ≡ not (is_some o)
    turned None = refl
    turned (Some c) = refl

pub found-above : (settled : List Standing) (waiting : List Waits) (qos : Qos) (topic : List ℕ) (o : Option ℕ) → IsFound settled waiting topic o → (is_some o && not (has_ceiling (nat_le (qos_number qos)) o)) ≡ is_above settled waiting qos topic
found-above settled waiting qos topic o found =
    ap (λ b. b && not (has_ceiling (nat_le (qos_number qos)) o)) (found-named settled waiting topic o found)
    ∙ ap (λ b. any_kept (λ s. matches s.filter topic) settled waiting && not b) (found (qos_number qos))

-- in three parts
pub judged-so : (broken judged bound accepted delivers : Bool) → broken ≡ (judged && delivers) → judged ≡ (bound && accepted) → broken ≡ (bound && (accepted && delivers))
judged-so broken judged bound accepted delivers is both = is ∙ ap (λ b. b && delivers) both ∙ go bound
  where
    go : (b : Bool) → ((b && accepted) && delivers) ≡ (b && (accepted && delivers))
    go true = refl
    go false = refl

-- a delivery with this topic, where it is judged
pub judged-topic : (broken judged bound accepted delivers : Bool) (test : List ℕ → Bool) (topic named : Option (List ℕ)) → broken ≡ is_some_and test topic → topic ≡ only judged named → judged ≡ (bound && accepted) → delivers ≡ is_some_and test named → broken ≡ (bound && (accepted && delivers))
judged-topic broken judged bound accepted delivers test topic named is same both d =
    judged-so broken judged bound accepted delivers (is ∙ ap (is_some_and test) same ∙ go judged ∙ ap (λ b. judged && b) (sym d)) both
  where
    go : (j : Bool) → is_some_and test (only j named) ≡ (j && is_some_and test named)
    go true = refl
    go false = refl
