-- How much is held.
use Rattle.std.proofs.Common.{◌≡◌, ℕ, ◌+◌, arith, cond, List, [], ◌∷◌, ◌++◌, Option, refl, ap, sym, ◌∙◌}
use Rattle.std.specs.Prelude.{is_some, reverse}
use Rattle.std.specs.List.{sum_by}
use Rattle.std.proofs.lemmas.List.{reverse-append}
use Rattle.std.proofs.lemmas.List.Sums.{sum_by-append}
use Rattle.mq_rules.specs.declared.role.Role.{Role}
use Rattle.mq_rules.specs.declared.role.Tested.{Tested}
use Rattle.mq_rules.specs.declared.fate.Fate.{Fate}
use Rattle.mq_rules.specs.declared.note.Note.{Note}
use Rattle.mq_rules.specs.declared.history.History.{History}
use Rattle.mq_rules.specs.declared.note.Seen.{Seen}
use Rattle.mq_rules.specs.Moments.{newest, note}
use Rattle.mq_rules.specs.Connections.{latest_fate, connection}
use Rattle.mq_rules.proofs.Exports.{connection-newest as connection-next}
use Rattle.mq_fates.specs.Holding.{total, AreHeld, settled, event_size, waiting, Holds}

-- a sum with one element more
sum-more : (number : Seen → ℕ) (e : Seen) (es : List Seen) → sum_by number (e ∷ es) ≡ number e + sum_by number es
sum-more number e es =
    let parts : sum_by number ((e ∷ []) ++ es) ≡ sum_by number (e ∷ []) + sum_by number es = sum_by-append number (e ∷ []) es in
    let first : sum_by number (e ∷ []) ≡ number e = omega arith in
    omega (arith, parts, first)

-- the order of a sum
sum-reverse : (number : Seen → ℕ) (es : List Seen) → sum_by number (reverse es) ≡ sum_by number es
sum-reverse number [] = refl
sum-reverse number (e ∷ es) =
    let parts : sum_by number (reverse (e ∷ es)) ≡ sum_by number (reverse es) + sum_by number (e ∷ []) = ap (sum_by number) (reverse-append (e ∷ []) es) ∙ sum_by-append number (reverse es) (e ∷ []) in
    let first : sum_by number (e ∷ []) ≡ number e = omega arith in
    let more = sum-more number e es in
    let rest = sum-reverse number es in
    omega (arith, parts, first, more, rest)

-- held events are their whole connection
held-sum : (number : Note → ℕ) (role : Role) (e : Seen) (hs base : List Seen) → AreHeld role (e ∷ hs) base → total (λ m. number (note m)) (connection (e ∷ (hs ++ base))) ≡ sum_by (λ d. number d.note) (e ∷ hs)
held-sum number role e [] base held =
    let one : total (λ m. number (note m)) (connection (e ∷ base)) ≡ number e.note + 0 = ap (total (λ m. number (note m))) (connection-next e base ∙ ap (λ b. newest e base ∷ cond b [] (connection base)) held.0) in
    let more = sum-more (λ d. number d.note) e [] in
    omega (arith, one, more)
held-sum number role e (d ∷ hs) base held =
    let rest = held-sum number role d hs base held.2 in
    let first : total (λ m. number (note m)) (connection (e ∷ (d ∷ (hs ++ base)))) ≡ number e.note + total (λ m. number (note m)) (connection (d ∷ (hs ++ base)))
    = ap (total (λ m. number (note m))) (connection-next e (d ∷ (hs ++ base)) ∙ ap (λ b. newest e (d ∷ (hs ++ base)) ∷ cond b [] (connection (d ∷ (hs ++ base)))) held.0) in
    let more = sum-more (λ d. number d.note) e (d ∷ hs) in
    omega (arith, first, rest, more)

pub held-waiting : (agrees : Option Fate → List Seen → Type 0) (role : Role) (fate : Option Fate) (kept : History) (held : List Seen) (tested : Tested) (past : List Seen) → Holds agrees role fate kept held tested past → sum_by (λ e. event_size e.note) held ≡ waiting tested.role past
unfolding waiting
held-waiting agrees role fate kept held tested past h = sym (sum-reverse (λ e. event_size e.note) held) ∙ go (reverse held) h.joined h.are_held
  where
    base : List Seen
    base = settled tested.role past

    here : ℕ
    here = total (λ m. event_size (note m)) (connection past)

    go : (hs : List Seen) → past ≡ hs ++ base → AreHeld tested.role hs base → sum_by (λ e. event_size e.note) hs ≡ waiting tested.role past
    go [] j held = sym (ap (λ b. cond b 0 here) (ap (λ log. is_some (latest_fate tested.role log)) j ∙ h.known))
    go (e ∷ hs) j held =
        sym (ap (λ o. cond (is_some {T = Fate} o) 0 here) (ap (latest_fate tested.role) j ∙ held.1) ∙ ap (λ log. total (λ m. event_size (note m)) (connection log)) j ∙ held-sum event_size tested.role e hs base held)
