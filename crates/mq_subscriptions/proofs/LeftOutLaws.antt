-- An event that doesn't concern a book is no place of its statements.
use Rattle.std.proofs.Common.{◌≡◌, ℕ, Bool, true, false, ◌&&◌, ◌||◌, List, ◌∷◌, Option, Some, ap, sym, ◌∙◌}
use Rattle.std.specs.Prelude.{is_some}
use Rattle.mq_rules.specs.declared.role.Role.{Role}
use Rattle.mq_rules.specs.declared.role.Tested.{Tested}
use Rattle.mq_rules.specs.declared.rule.Rule.{Rule}
use Rattle.mq_rules.specs.declared.rule.Rule.TheVariants.{B01, B02}
use Rattle.mq_rules.specs.declared.fate.Fate.{Fate}
use Rattle.mq_rules.specs.declared.note.Seen.{Seen}
use Rattle.mq_rules.specs.Notes.{is_boundary, is_acknowledged, received_subscription, sent_grant, sent_publish}
use Rattle.mq_rules.specs.Moments.{Moment}
use Rattle.mq_rules.specs.Connections.{accepts}
use Rattle.mq_rules.specs.Pasts.{set_alias}
use Rattle.mq_rules.specs.Subscriptions.{Standing}
use Rattle.mq_rules.specs.Occasions.{occasion, places_under}
use Rattle.mq_rules.specs.Rules.{binds}
use Rattle.mq_rules.specs.Statements.{in_session}
use Rattle.mq_rules.specs.Under.{IsUnder, fate_before}
use Rattle.mq_subscriptions.specs.Concerns.{concerns_count, concerns_deliveries}
use Rattle.mq_subscriptions.specs.Countings.{Counting, IsCounting, IsCounted, answers_one, answers_kept}
use Rattle.mq_subscriptions.specs.Standings.{IsStanding, Waits}
use Rattle.mq_fates.proofs.Exports.{and2_false, neither, nothing, none-counted}
use Rattle.mq_subscriptions.proofs.ConcernLaws.{undelivered}
use Rattle.mq_subscriptions.proofs.CountLaws.{counts-places}
use Rattle.mq_subscriptions.proofs.DeliveryPlacesLaws.{B01-places, B02-places}

-- ---- how many Reason Codes there are

pub count-leaves : (tested : Tested) (rule : Rule) (c : Counting) (breaks applies : Moment → Bool) → IsCounting c breaks → ((m : Moment) → applies m ≡ answers_one c m) → ((role : Role) → occasion role rule ≡ Some (in_session (λ f. applies)))
    → (fate f : Fate) (counts : ℕ → Option ℕ) (at : ℕ) (e : Seen) (past : List Seen) (bound : Bool) (n : ℕ) → concerns_count c e.note ≡ false → IsUnder tested f at e past → IsCounted c fate counts (fate_before tested f e past) past → bound ≡ binds rule tested
    → n ≡ places_under tested (fate_before tested f e past) past rule → n ≡ places_under tested (Some f) (e ∷ past) rule
count-leaves tested rule c breaks applies is asks says fate f counts at e past bound n h under o judged was =
    let h1 = neither (is_boundary e.note) (is_some (c.request e.note) || is_some (c.reply e.note)) h in
    let h2 = neither (is_some (c.request e.note)) (is_some (c.reply e.note)) h1.1 in
    counts-places tested rule c breaks applies is asks says fate f counts (fate_before tested f e past) at e past bound false n n under o judged was
    (sym (and2_false bound (accepts f) (answers_kept counts (c.reply e.note)) (ap (answers_kept counts) (nothing (c.reply e.note) h2.1))))
    (λ low. none-counted n)

-- ---- deliveries

pub deliveries-leave : (tested : Tested) (fate f : Fate) (settled : List Standing) (waiting : List Waits) (sharing : Bool) (topics : ℕ → Option (List ℕ)) (at : ℕ) (e : Seen) (past : List Seen) (bound : Bool) (delivered acknowledged : ℕ)
    → concerns_deliveries tested e.note ≡ false → IsUnder tested f at e past → bound ≡ binds B01 tested → IsStanding fate settled waiting sharing topics tested (fate_before tested f e past) past
    → (delivered ≡ places_under tested (fate_before tested f e past) past B01) × (acknowledged ≡ places_under tested (fate_before tested f e past) past B02)
    → (delivered ≡ places_under tested (Some f) (e ∷ past) B01) × (acknowledged ≡ places_under tested (Some f) (e ∷ past) B02)
deliveries-leave tested fate f settled waiting sharing topics at e past bound delivered acknowledged h under judged kept was =
    let n = e.note in
    let h1 = neither (is_boundary n) (is_some (received_subscription n) || (is_some (sent_grant n) || (is_some (set_alias n) || (is_some (sent_publish n) && binds B01 tested)))) h in
    let h2 = neither (is_some (received_subscription n)) (is_some (sent_grant n) || (is_some (set_alias n) || (is_some (sent_publish n) && binds B01 tested))) h1.1 in
    let h3 = neither (is_some (sent_grant n)) (is_some (set_alias n) || (is_some (sent_publish n) && binds B01 tested)) h2.1 in
    let h4 = neither (is_some (set_alias n)) (is_some (sent_publish n) && binds B01 tested) h3.1 in
    let silent : (is_some (sent_publish n) && bound) ≡ false = ap (λ b. is_some (sent_publish n) && b) judged ∙ h4.1 in (
      B01-places tested fate f settled waiting sharing topics at e past bound false delivered delivered under kept judged was.0
          (sym (undelivered bound (accepts f) n sharing topics (λ p topic. true) silent)) (λ low. none-counted delivered),
      B02-places tested fate f settled waiting sharing topics at e past bound false acknowledged acknowledged under kept judged was.1
          (sym (undelivered bound (accepts f) n sharing topics (λ p topic. is_acknowledged p.qos) silent)) (λ low. none-counted acknowledged),
    )
