-- Events that don't concern a watcher of subscriptions.
use Rattle.std.proofs.Common.{◌≡◌, ℕ, ◌+◌, arith, Bool, true, false, cond, ◌&&◌, ◌||◌, not, List, ◌∷◌, Option, Some, None, option_map, refl, ap, sym, subst, ◌∙◌}
use Rattle.std.specs.Prelude.{is_some}
use Rattle.std.specs.List.{list_any, sum_by}
use Rattle.std.specs.Option.{option_or}
use Rattle.mq_rules.specs.declared.role.Role.{Role}
use Rattle.mq_rules.specs.declared.role.Tested.{Tested}
use Rattle.mq_rules.specs.declared.rule.Rule.{Rule}
use Rattle.mq_rules.specs.declared.rule.Rule.TheVariants.{B01, B02}
use Rattle.mq_rules.specs.declared.fate.Fate.{Fate}
use Rattle.mq_rules.specs.declared.packet_note.PublishNote.{PublishNote}
use Rattle.mq_rules.specs.declared.note.Note.{Note}
use Rattle.mq_rules.specs.declared.note.Seen.{Seen}
use Rattle.mq_rules.specs.Words.{is_some_and, is_id, only}
use Rattle.mq_rules.specs.Notes.{is_open, is_close, is_boundary, received_subscription, sent_grant, sent_publish}
use Rattle.mq_rules.specs.Moments.{Moment}
use Rattle.mq_rules.specs.Connections.{accepts, begins}
use Rattle.mq_rules.specs.Pasts.{set_alias}
use Rattle.mq_rules.specs.Subscriptions.{Standing, is_shared}
use Rattle.mq_rules.specs.Rules.{same_rule, binds}
use Rattle.mq_rules.specs.Statements.{statement, in_session}
use Rattle.mq_rules.specs.Faults.{offset_of}
use Rattle.mq_rules.specs.FaultKeys.{FaultMap}
use Rattle.mq_rules.specs.Under.{IsUnder, fate_before, turns_with}
use Rattle.mq_rules.specs.Growing.{Gains}
use Rattle.mq_rules.proofs.Exports.{and_false, gains_either, option_or-none, or_false}
use Rattle.mq_filters.specs.Standings.{allows}
use Rattle.mq_subscriptions.specs.Concerns.{concerns_count, concerns_deliveries}
use Rattle.mq_subscriptions.specs.Countings.{Counting, IsCounting, IsCounted, counted_next, differs}
use Rattle.mq_subscriptions.specs.Standings.{Waits, IsStanding, weighed, asked, is_answered, goes_on, grants_some, judged_topic, delivers_so, is_unasked as unasked, is_above}
use Rattle.mq_subscriptions.proofs.CountLaws.{counted-next, counted-gains}
use Rattle.mq_subscriptions.proofs.DeliveryLaws.{B01-gains, B02-gains}
use Rattle.mq_subscriptions.proofs.StandingLaws.{standing-next}
use Rattle.mq_fates.proofs.Exports.{and2_false, closed-before, neither, nothing, same_cond, some-same}

-- ---- how many Reason Codes there are

pub counted-passes : (tested : Tested) (rule : Rule) (c : Counting) (breaks : Moment → Bool) → IsCounting c breaks → ((role : Role) → statement role rule ≡ in_session (λ f. breaks)) → ((role : Role) (m : Option Moment) → offset_of (statement role rule) m ≡ None)
    → (fate f : Fate) (counts : ℕ → Option ℕ) (at : ℕ) (e : Seen) (past : List Seen) (bound : Bool) → concerns_count c e.note ≡ false → IsUnder tested f at e past → bound ≡ binds rule tested → IsCounted c fate counts (fate_before tested f e past) past
    → IsCounted c fate counts (Some f) (e ∷ past) × ((m : FaultMap) → Gains (λ k r. same_rule r rule && turns_with tested f e past k r) tested (e ∷ past) at m m)
counted-passes tested rule c breaks is says plain fate f counts at e past bound h under judged was =
    let n = e.note in
    let h1 = neither (is_boundary n) (is_some (c.request n) || is_some (c.reply n)) h in
    let h2 = neither (is_some (c.request n)) (is_some (c.reply n)) h1.1 in
    let h3 = neither (is_open n) (is_close n) h1.0 in
    let o : IsCounted c fate counts (Some f) past = subst (λ (t : Option Fate). IsCounted c fate counts t past) (sym (closed-before tested f e past h3.0)) was in
    let asks : c.request n ≡ None = nothing (c.request n) h2.0 in
    let gives : c.reply n ≡ None = nothing (c.reply n) h2.1 in
    let next : IsCounted c f counts (Some f) (e ∷ past) = counted-next c breaks is fate f counts counts (Some f) e past under.follows.on_connections.0 o (λ i. sym (
    ap (λ b. counted_next b (c.request n) (c.reply n) i (counts i)) h1.0
    ∙ ap (λ q. counted_next false q (c.reply n) i (counts i)) asks
    ∙ ap (λ q. counted_next false None q i (counts i)) gives
    ∙ option_or-none (counts i))) in (
      subst (λ (g : Fate). IsCounted c g counts (Some f) (e ∷ past)) (some-same f fate o.same_fate) next,
      λ m. counted-gains tested rule c breaks is says plain fate f counts (Some f) at e past m bound false under o judged
          (sym (and2_false bound (accepts f) (differs counts (c.reply n)) (ap (λ q. differs counts q) gives))),
    )

-- ---- deliveries

with_true : (a : Bool) → (a && true) ≡ a
with_true true = refl
with_true false = refl

pub undelivered : (bound b : Bool) (n : Note) (sharing : Bool) (topics : ℕ → Option (List ℕ)) (test : PublishNote → List ℕ → Bool) → (is_some (sent_publish n) && bound) ≡ false → (bound && (b && delivers_so n sharing topics test)) ≡ false
undelivered true b n sharing topics test h = ap (λ o. b && is_some_and (λ p. is_some_and (test p) (judged_topic sharing topics p)) o) (nothing (sent_publish n) (sym (with_true (is_some (sent_publish n))) ∙ h)) ∙ and_false b
undelivered false b n sharing topics test h = refl

none-more : (n : ℕ) → 0 + n ≡ n
none-more n = omega arith

-- an event that neither begins nor ends a connection, and says nothing of filters or Topic Aliases
pub standing-stays : (tested : Tested) (fate f : Fate) (settled : List Standing) (waiting : List Waits) (sharing : Bool) (topics : ℕ → Option (List ℕ)) (at : ℕ) (e : Seen) (past : List Seen)
    → is_boundary e.note ≡ false → received_subscription e.note ≡ None → sent_grant e.note ≡ None → set_alias e.note ≡ None → IsUnder tested f at e past
    → IsStanding fate settled waiting sharing topics tested (fate_before tested f e past) past → IsStanding fate settled waiting sharing topics tested (Some f) (e ∷ past)
standing-stays tested fate f settled waiting sharing topics at e past inner asks grants sets under before =
    let n = e.note in
    let unopened : is_open n ≡ false = (neither (is_open n) (is_close n) inner).0 in
    let s : IsStanding fate settled waiting sharing topics tested (Some f) past =
    subst (λ (t : Option Fate). IsStanding fate settled waiting sharing topics tested t past) (sym (closed-before tested f e past unopened)) before in
    let next : IsStanding f settled waiting sharing topics tested (Some f) (e ∷ past) =
    standing-next tested fate f settled settled waiting waiting sharing sharing topics topics e past under.follows.on_connections.0 before
    (λ among qos. sym (
    ap (λ b. cond b (goes_on f n && (list_any (allows among qos) settled || list_any (λ w. list_any (allows among qos) w.filters) waiting)) (list_any (allows among qos) settled || grants_some (allows among qos) (sent_grant n) (λ p. list_any p waiting))) inner
    ∙ ap (λ o. list_any (allows among qos) settled || grants_some (allows among qos) o (λ p. list_any p waiting)) grants
    ∙ or_false (list_any (allows among qos) settled)))
    (λ t. sym (
    ap (λ b. cond b false ((accepts f && is_some_and t (option_map asked (received_subscription n))) || list_any (λ w. not (is_answered (sent_grant n) w) && t w) waiting)) inner
    ∙ ap (λ o. (accepts f && is_some_and t (option_map asked o)) || list_any (λ w. not (is_answered (sent_grant n) w) && t w) waiting) asks
    ∙ ap (λ b. b || list_any (λ w. not (is_answered (sent_grant n) w) && t w) waiting) (and_false (accepts f))
    ∙ ap (λ o. list_any (λ w. not (is_answered o w) && t w) waiting) grants))
    (λ weigh. sym (
    ap (λ b. cond b 0 (cond (accepts f) (weighed weigh (option_map asked (received_subscription n))) 0 + sum_by (λ w. cond (is_answered (sent_grant n) w) 0 (weigh w)) waiting)) inner
    ∙ ap (λ o. cond (accepts f) (weighed weigh (option_map asked o)) 0 + sum_by (λ w. cond (is_answered (sent_grant n) w) 0 (weigh w)) waiting) asks
    ∙ ap (λ o. cond (accepts f) 0 0 + sum_by (λ w. cond (is_answered o w) 0 (weigh w)) waiting) grants
    ∙ ap (λ k. k + sum_by weigh waiting) (same_cond (accepts f) 0)
    ∙ none-more (sum_by weigh waiting)))
    (sym (
    ap (λ o. (accepts f && is_some_and (λ s. list_any is_shared s.filters) o) || (goes_on f n && sharing)) asks
    ∙ ap (λ b. b || (goes_on f n && sharing)) (and_false (accepts f))
    ∙ ap (λ b. not (b && begins (Some f)) && sharing) unopened))
    (λ alias. sym (
    ap (λ o. option_or (only (is_id alias o) (option_map (λ p. p.topic) (sent_publish n))) (cond (is_boundary n) None (topics alias))) sets
    ∙ ap (λ b. cond b None (topics alias)) inner)) in
    subst (λ (g : Fate). IsStanding g settled waiting sharing topics tested (Some f) (e ∷ past)) (some-same f fate s.same_fate) next

pub standing-passes : (tested : Tested) (fate f : Fate) (settled : List Standing) (waiting : List Waits) (sharing : Bool) (topics : ℕ → Option (List ℕ)) (at : ℕ) (e : Seen) (past : List Seen) (bound : Bool)
    → concerns_deliveries tested e.note ≡ false → IsUnder tested f at e past → bound ≡ binds B01 tested → IsStanding fate settled waiting sharing topics tested (fate_before tested f e past) past
    → IsStanding fate settled waiting sharing topics tested (Some f) (e ∷ past)
    × ((m : FaultMap) → Gains (λ k r. (same_rule r B01 || same_rule r B02) && turns_with tested f e past k r) tested (e ∷ past) at m m)
standing-passes tested fate f settled waiting sharing topics at e past bound h under judged before =
    let n = e.note in
    let h1 = neither (is_boundary n) (is_some (received_subscription n) || (is_some (sent_grant n) || (is_some (set_alias n) || (is_some (sent_publish n) && binds B01 tested)))) h in
    let h2 = neither (is_some (received_subscription n)) (is_some (sent_grant n) || (is_some (set_alias n) || (is_some (sent_publish n) && binds B01 tested))) h1.1 in
    let h3 = neither (is_some (sent_grant n)) (is_some (set_alias n) || (is_some (sent_publish n) && binds B01 tested)) h2.1 in
    let h4 = neither (is_some (set_alias n)) (is_some (sent_publish n) && binds B01 tested) h3.1 in
    let asks : received_subscription n ≡ None = nothing (received_subscription n) h2.0 in
    let grants : sent_grant n ≡ None = nothing (sent_grant n) h3.0 in
    let sets : set_alias n ≡ None = nothing (set_alias n) h4.0 in
    let silent : (is_some (sent_publish n) && bound) ≡ false = ap (λ b. is_some (sent_publish n) && b) judged ∙ h4.1 in (
      standing-stays tested fate f settled waiting sharing topics at e past h1.0 asks grants sets under before,
      λ m. gains_either (λ r. same_rule r B01) (λ r. same_rule r B02) (λ k r. turns_with tested f e past k r) tested (e ∷ past) at m m m
          (B01-gains tested fate f settled waiting sharing topics at e past m bound false under before judged (sym (undelivered bound (accepts f) n sharing topics (λ p. unasked settled waiting) silent)))
          (B02-gains tested fate f settled waiting sharing topics at e past m bound false under before judged (sym (undelivered bound (accepts f) n sharing topics (λ p. is_above settled waiting p.qos) silent))),
    )
