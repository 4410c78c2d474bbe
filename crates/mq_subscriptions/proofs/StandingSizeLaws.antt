-- A filter that is settled is one of those that stand in the session.
use Rattle.std.proofs.Common.{◌≡◌, ℕ, Bool, true, false, cond, ◌||◌, List, [], ◌∷◌, Option, refl, ap, sym, ◌∙◌}
use Rattle.std.specs.Str.{bytes_eq}
use Rattle.std.specs.List.{list_any}
use Rattle.std.proofs.lemmas.List.Folds.{list_any-append}
use Rattle.mq_rules.specs.declared.role.Tested.{Tested}
use Rattle.mq_rules.specs.declared.fate.Fate.{Fate}
use Rattle.mq_rules.specs.declared.note.Seen.{Seen}
use Rattle.mq_rules.specs.Notes.{Subscription, received_subscription}
use Rattle.mq_rules.specs.Moments.{Moment, note, some}
use Rattle.mq_rules.specs.Connections.{session}
use Rattle.mq_rules.specs.Subscriptions.{Standing}
use Rattle.mq_subscriptions.specs.Standings.{Waits, is_on_open, codes_in, waits_by, standing_by, settled_by, settled_from, IsStanding}
use Rattle.mq_subscriptions.specs.Burden.{filters_of, standing_filters}
use Rattle.mq_subscriptions.proofs.StandingLaws.{settled-named}

filters-any : (f : List ℕ) (ss : List Standing) → list_any (bytes_eq f) (filters_of ss) ≡ list_any (λ s. bytes_eq f s.filter) ss
filters-any f [] = refl
filters-any f (s ∷ ss) = ap (λ b. bytes_eq f s.filter || b) (filters-any f ss)

settled-stands : (t : Standing → Bool) (here : Bool) (codes : ℕ → Option (List ℕ)) (o : Option Subscription) → list_any t (settled_by here codes o) ≡ true → list_any t (standing_by codes o) ≡ true
settled-stands t here codes o h = go (waits_by here codes o) h
  where
    go : (b : Bool) → list_any t (cond b [] (standing_by codes o)) ≡ true → list_any t (standing_by codes o) ≡ true
    go true h = absurd (cc)
    go false h = h

some-stand : (f : List ℕ) (log : List Seen) (ms : List Moment) → some (λ j. list_any (λ s. bytes_eq f s.filter) (settled_from log j)) ms ≡ true → list_any (bytes_eq f) (standing_filters log ms) ≡ true
some-stand f log [] h = h
some-stand f log (j ∷ js) h =
    list_any-append (bytes_eq f) (filters_of here) (standing_filters log js)
    ∙ ap (λ b. b || list_any (bytes_eq f) (standing_filters log js)) (filters-any f here)
    ∙ go (list_any (λ s. bytes_eq f s.filter) (settled_from log j)) refl h (some-stand f log js)
  where
    here : List Standing
    here = standing_by (codes_in log j) (received_subscription (note j))

    right : (b : Bool) → (b || true) ≡ true
    right true = refl
    right false = refl

    go : (b : Bool) → list_any (λ s. bytes_eq f s.filter) (settled_from log j) ≡ b → (b || some (λ j. list_any (λ s. bytes_eq f s.filter) (settled_from log j)) js) ≡ true
        → (some (λ j. list_any (λ s. bytes_eq f s.filter) (settled_from log j)) js ≡ true → list_any (bytes_eq f) (standing_filters log js) ≡ true)
        → (list_any (λ s. bytes_eq f s.filter) here || list_any (bytes_eq f) (standing_filters log js)) ≡ true
    go true n h rest = ap (λ b. b || list_any (bytes_eq f) (standing_filters log js)) (settled-stands (λ s. bytes_eq f s.filter) (is_on_open log j) (codes_in log j) (received_subscription (note j)) n)
    go false n h rest = ap (λ b. list_any (λ s. bytes_eq f s.filter) here || b) (rest h) ∙ right (list_any (λ s. bytes_eq f s.filter) here)

pub settled-stand : (tested : Tested) (fate : Fate) (settled : List Standing) (waiting : List Waits) (sharing : Bool) (topics : ℕ → Option (List ℕ)) (taken : Option Fate) (past : List Seen) → IsStanding fate settled waiting sharing topics tested taken past
    → (f : List ℕ) → list_any (λ s. bytes_eq f s.filter) settled ≡ true → list_any (bytes_eq f) (standing_filters past (session tested.role taken past)) ≡ true
settled-stand tested fate settled waiting sharing topics taken past s f here =
    some-stand f past (session tested.role taken past) (sym (settled-named tested fate settled waiting sharing topics taken past (bytes_eq f) s) ∙ here)
