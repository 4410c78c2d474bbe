-- No statement on requests is judged for an end that they don't bind.
use Rattle.std.proofs.Common.{◌≡◌, ℕ, Bool, true, false, cond, ◌&&◌, ◌+◌, List, [], ◌∷◌, Option, Some, None, refl, ap, sym, ◌∙◌}
use Rattle.mq_rules.specs.declared.role.Role.{Role}
use Rattle.mq_rules.specs.declared.role.Role.TheVariants.{Client, Server}
use Rattle.mq_rules.specs.declared.role.Further.{Further}
use Rattle.mq_rules.specs.declared.role.Tested.{Tested}
use Rattle.mq_rules.specs.declared.fate.Fate.{Fate}
use Rattle.mq_rules.specs.declared.fate.Fate.TheVariants.{Void}
use Rattle.mq_rules.specs.declared.rule.Rule.{Rule}
use Rattle.mq_rules.specs.declared.rule.Rule.TheVariants.{W01}
use Rattle.mq_rules.specs.declared.note.Seen.{Seen}
use Rattle.mq_rules.specs.Words.{is_some_and}
use Rattle.mq_rules.specs.Moments.{Moment, count, moments, position}
use Rattle.mq_rules.specs.Connections.{fate_under, latest_fate}
use Rattle.mq_rules.specs.Occasions.{applies_under, occasion, occurs, places_under}
use Rattle.mq_rules.specs.Statements.{statement}
use Rattle.mq_rules.specs.Rules.{line_of, found_line, lines, binds}
use Rattle.mq_rules.specs.FaultKeys.{FaultMap}
use Rattle.mq_rules.specs.Under.{shows_with, turns_with, turns_known}
use Rattle.mq_rules.specs.Growing.{Gains}
use Rattle.mq_rules.proofs.Exports.{and_false, gains_nothing, places-under-start}
use Rattle.mq_exchanges.specs.Grouping.{of_requests, by_requests, requests_add}
use Rattle.mq_exchanges.specs.Requesting.{binds_requests, CountsIfBound}

unbound : (role : Role) (releases : Bool) (further : Further) (r : Rule) → binds_requests role ≡ false → (of_requests r && binds r (record { role = role; releases = releases; further = further })) ≡ false
unfolding line_of found_line lines
unbound Client releases further W01 h = refl
unbound Client releases further _ h = refl
unbound Server releases further r h = absurd (cc)

first_two : (a b c : Bool) → (a && b) ≡ false → (a && (b && c)) ≡ false
first_two false b c h = refl
first_two true b c h = ap (λ t. t && c) h

turns-none : (tested : Tested) → binds_requests tested.role ≡ false → (f : Fate) (e : Seen) (past : List Seen) (k : ℕ) (r : Rule) → (of_requests r && turns_with tested f e past k r) ≡ false
unfolding turns_with
turns-none tested h f e past k r = first_two (of_requests r) (binds r tested) (shows_with tested.role f (statement tested.role r) e past k) (unbound tested.role tested.releases tested.further r h)

known-none : (tested : Tested) → binds_requests tested.role ≡ false → (e : Seen) (past : List Seen) (k : ℕ) (r : Rule) → (of_requests r && turns_known tested e past k r) ≡ false
known-none tested h e past k r = go (latest_fate tested.role (e ∷ past))
  where
    go : (o : Option Fate) → (of_requests r && is_some_and (λ f. turns_with tested f e past k r) o) ≡ false
    go None = and_false (of_requests r)
    go (Some f) = turns-none tested h f e past k r

-- nothing is added, whatever the fate of the connection
pub unbound-gains : (tested : Tested) → binds_requests tested.role ≡ false → (f : Fate) (e : Seen) (past : List Seen) (at : ℕ) (m : FaultMap) → Gains (λ k r. of_requests r && turns_with tested f e past k r) tested (e ∷ past) at m m
unbound-gains tested h f e past at m = gains_nothing (λ k r. of_requests r && turns_with tested f e past k r) tested (e ∷ past) at m (turns-none tested h f e past)

pub unbound-adds : (tested : Tested) → binds_requests tested.role ≡ false → (e : Seen) (past : List Seen) (at : ℕ) (m : FaultMap) → Gains (λ k r. by_requests r (turns_known tested e past k r)) tested (e ∷ past) at m m
unbound-adds tested h e past at m =
    gains_nothing (λ k r. by_requests r (turns_known tested e past k r)) tested (e ∷ past) at m (λ k r. requests_add r (turns_known tested e past k r) ∙ known-none tested h e past k r)

-- ---- how often they are put to the test

-- a statement that doesn't bind the end has no place
unbound-under : (tested : Tested) (taken : Option Fate) (past : List Seen) (r : Rule) → binds r tested ≡ false → places_under tested taken past r ≡ 0
unfolding places_under applies_under
unbound-under tested taken past r h =
    none (λ m. binds r tested && occurs tested.role (fate_under tested.role taken past) (occasion tested.role r) past (position m)) (moments past)
    (λ m. ap (λ b. b && occurs tested.role (fate_under tested.role taken past) (occasion tested.role r) past (position m)) h)
  where
    none : (test : Moment → Bool) (ms : List Moment) → ((m : Moment) → test m ≡ false) → count test ms ≡ 0
    none test [] never = refl
    none test (m ∷ ms) never = ap (λ b. cond b 1 0 + count test ms) (never m) ∙ ap (λ n. 0 + n) (none test ms never)

-- those of an end that they don't bind are the counts of no events
pub requests-counted : {P : Type 0} {counts : P → Tested → Option Fate → List Seen → Type 0} {places : P} (tested : Tested) (taken : Option Fate) (past : List Seen) (r : Rule) (n : ℕ)
    → CountsIfBound counts places tested taken past → of_requests r ≡ true
    → ((f : Option Fate) (log : List Seen) → counts places tested f log → of_requests r ≡ true → n ≡ places_under tested f log r)
    → n ≡ places_under tested taken past r
requests-counted tested taken past r n was judged each = go (binds_requests tested.role) refl
  where
    go : (b : Bool) → binds_requests tested.role ≡ b → n ≡ places_under tested taken past r
    go true on = each taken past (was.bound on) judged
    go false off =
        let out : binds r tested ≡ false = sym (ap (λ b. b && binds r tested) judged) ∙ unbound tested.role tested.releases tested.further r off in
        each (Some Void) [] (was.unbound off) judged ∙ places-under-start tested (Some Void) r ∙ sym (unbound-under tested taken past r out)
