-- What an UNSUBACK says of filters.
use Rattle.std.proofs.Common.{◌≡◌, ℕ, Bool, true, false, ◌&&◌, ◌||◌, not, List, [], ◌∷◌, ◌++◌, length, Option, Some, None, option_map, refl, ap, ◌∙◌}
use Rattle.std.specs.Prelude.{slice_get}
use Rattle.std.specs.Option.{option_and_then}
use Rattle.std.specs.Str.{bytes_eq}
use Rattle.mq_rules.specs.declared.role.Role.{Role}
use Rattle.mq_rules.specs.declared.fate.Fate.{Fate}
use Rattle.mq_rules.specs.declared.note.Seen.{Seen}
use Rattle.mq_rules.specs.declared.text.NotedFilter.{NotedFilter}
use Rattle.mq_rules.specs.Words.{is_some_and}
use Rattle.mq_rules.specs.Notes.{Subscription, Grant, received_unsubscription, sent_deletion}
use Rattle.mq_rules.specs.Moments.{Moment, newest, note}
use Rattle.mq_rules.specs.FurtherSubscriptions.{has_filter, is_clear_before, is_denied, is_unsubscribed_so, breaks_B06, breaks_B07}
use Rattle.mq_plain.specs.Lookback.{first_unsubscribe_after}
use Rattle.mq_plain.specs.Subscribed.{some_denied, some_unfounded, stood_after, told_after, told_under, told_with, was_subscribed_after}

-- ---- the UNSUBSCRIBE that it answers

-- an UNSUBACK that answers an UNSUBSCRIBE, by what is told of that
unsubscribed-told : (role : Role) (f : Fate) (e : Seen) (past : List Seen) (test : List Seen → List NotedFilter → List ℕ → Bool)
    → is_unsubscribed_so role f (newest e past) (λ u asked codes. test u.past asked codes) ≡ (is_clear_before role f (newest e past) && is_some_and (λ t. test t.past t.filters t.codes) (told_after e.note past))
unsubscribed-told role f e past test = ap (λ b. is_clear_before role f (newest e past) && b) (go (sent_deletion e.note))
  where
    asked : (codes : List ℕ) (at : List Seen) (s : Option Subscription) → is_some_and (λ s. test at s.filters codes) s ≡ is_some_and (λ t. test t.past t.filters t.codes) (option_map (told_with codes at) s)
    asked codes at None = refl
    asked codes at (Some s) = refl

    first : (codes : List ℕ) (u : Option Moment) → is_some_and (λ u. is_some_and (λ s. test u.past s.filters codes) (received_unsubscription (note u))) u
        ≡ is_some_and (λ t. test t.past t.filters t.codes) (option_and_then (λ u. option_map (told_with codes u.past) (received_unsubscription (note u))) u)
    first codes None = refl
    first codes (Some u) = asked codes u.past (received_unsubscription (note u))

    go : (a : Option Grant) → is_some_and (λ a. is_some_and (λ u. is_some_and (λ s. test u.past s.filters a.codes) (received_unsubscription (note u))) (first_unsubscribe_after a.identifier past)) a
        ≡ is_some_and (λ t. test t.past t.filters t.codes) (option_and_then (λ a. told_under a.identifier a.codes past) a)
    go None = refl
    go (Some a) = first a.codes (first_unsubscribe_after a.identifier past)

pub denying-told : (role : Role) (f : Fate) (e : Seen) (past : List Seen)
    → breaks_B06 role f (newest e past) ≡ (is_clear_before role f (newest e past) && is_some_and (λ t. some_denied (stood_after role f past t.past) t.filters t.codes) (told_after e.note past))
unfolding breaks_B06
denying-told role f e past = unsubscribed-told role f e past (λ at asked codes. some_denied (stood_after role f past at) asked codes)

pub deleting-told : (role : Role) (f : Fate) (e : Seen) (past : List Seen)
    → breaks_B07 role f (newest e past) ≡ (is_clear_before role f (newest e past) && is_some_and (λ t. some_unfounded (was_subscribed_after role f past) t.filters t.codes) (told_after e.note past))
unfolding breaks_B07
deleting-told role f e past = unsubscribed-told role f e past (λ at asked codes. some_unfounded (was_subscribed_after role f past) asked codes)

-- ---- what is said of the last filter of an UNSUBSCRIBE

-- the filter passes the test, isn't among the others, and the Reason Code at its place says that it isn't subscribed
abbrev pub is_denied_last : (List ℕ → Bool) → List NotedFilter → NotedFilter → List ℕ → Bool
is_denied_last stood others g codes = is_some_and is_denied (slice_get codes (length others)) && (stood g.filter && not (has_filter g.filter others))

pub denied-last : (stood : List ℕ → Bool) (others : List NotedFilter) (g : NotedFilter) (codes : List ℕ)
    → some_denied stood (others ++ g ∷ []) codes ≡ (some_denied stood others codes || is_denied_last stood others g codes)
denied-last stood [] g [] = refl
denied-last stood [] g (code ∷ codes) = go (stood g.filter) (is_denied code)
  where
    go : (s d : Bool) → ((s && d) || false) ≡ (d && (s && true))
    go true true = refl
    go true false = refl
    go false true = refl
    go false false = refl
denied-last stood (h ∷ others) g [] = refl
denied-last stood (h ∷ others) g (code ∷ codes) =
    ap (λ b. (stood h.filter && is_denied code) || b) (denied-last (λ filter. stood filter && not (bytes_eq filter h.filter)) others g codes)
    ∙ go (stood h.filter && is_denied code) (some_denied (λ filter. stood filter && not (bytes_eq filter h.filter)) others codes)
    (is_some_and is_denied (slice_get codes (length others))) (stood g.filter) (bytes_eq g.filter h.filter) (has_filter g.filter others)
  where
    go : (a b d s x y : Bool) → (a || (b || (d && ((s && not x) && not y)))) ≡ ((a || b) || (d && (s && not (x || y))))
    go true b d s x y = refl
    go false true d s x y = refl
    go false false false s x y = refl
    go false false true false x y = refl
    go false false true true true y = refl
    go false false true true false y = refl
