-- An event that doesn't concern a book is no place of its statements.
use Rattle.std.proofs.Common.{◌≡◌, ℕ, ◌+◌, ◌<◌, ◌==◌, nat_lt, arith, false, cond, ◌&&◌, ◌||◌, not, List, ◌∷◌, Some, None, refl, ap, sym, ◌∙◌}
use Rattle.std.specs.Prelude.{is_some, nat_le, unwrap_or}
use Rattle.std.specs.Option.{option_or}
use Rattle.mq_rules.specs.KeptOrder.{value_under}
use Rattle.indexmap.specs.IndexSet.{index_set_len}
use Rattle.mq_rules.specs.declared.role.Tested.{Tested}
use Rattle.mq_rules.specs.declared.rule.Rule.TheVariants.{S07}
use Rattle.mq_rules.specs.declared.fate.Fate.{Fate}
use Rattle.mq_rules.specs.declared.note.Seen.{Seen}
use Rattle.mq_rules.specs.Words.{is_some_and}
use Rattle.mq_rules.specs.Notes.{is_open, sent_as, delivery_of, closer_of, resend_of, pubrel_in}
use Rattle.mq_rules.specs.Connections.{accepts, resumes, surprises, is_unasked}
use Rattle.mq_rules.specs.Occasions.{places_under}
use Rattle.mq_rules.specs.Under.{IsUnder, fate_before}
use Rattle.mq_rules.proofs.Exports.{and_false}
use Rattle.mq_inflight.specs.declared.inflight.Inflight.{Inflight}
use Rattle.mq_inflight.specs.declared.inflight.asking.AtOncePlaces.{AtOncePlaces}
use Rattle.mq_inflight.specs.declared.inflight.resuming.ResumedPlaces.{ResumedPlaces}
use Rattle.mq_inflight.specs.declared.quota.Quota.{Quota}
use Rattle.mq_inflight.specs.Concerns.{concerns_flight, concerns_quota}
use Rattle.mq_fates.specs.Knowing.{excused}
use Rattle.mq_inflight.specs.Quotas.{IsQuota, may_count}
use Rattle.mq_fates.specs.Taking.{announced}
use Rattle.mq_inflight.specs.Resumings.{CountsResumed, ended_at, remaining}
use Rattle.mq_inflight.specs.Tried.{CountsAtOnce, any_used}
use Rattle.mq_inflight.specs.Using.{IsUsing, past_pubrel}
use Rattle.mq_fates.proofs.Exports.{and2_false, neither, same_cond, none-counted}
use Rattle.mq_inflight.proofs.QuotaLaws.{quota-places}
use Rattle.mq_inflight.proofs.ResumingLaws.{go-on-next}
use Rattle.mq_inflight.proofs.TriedLaws.{S01-places, S02-places, S03-places, S04-places, S05-places}
use Rattle.mq_inflight.proofs.UsingConcernLaws.{quiet, takes-nothing}

-- ---- the send quota

pub quota-leaves : (tested : Tested) (s : Quota) (f : Fate) (at : ℕ) (e : Seen) (past : List Seen) (n : ℕ) → concerns_quota tested e.note ≡ false → IsUnder tested f at e past → IsQuota s tested (fate_before tested f e past) past
    → n ≡ places_under tested (fate_before tested f e past) past S07 → n ≡ places_under tested (Some f) (e ∷ past) S07
quota-leaves tested s f at e past n h under kept was =
    let x = e.note in
    let h1 = neither (is_open x) (is_some (announced tested.role x) || (is_some (delivery_of x) || is_some (closer_of x))) h in
    let h2 = neither (is_some (announced tested.role x)) (is_some (delivery_of x) || is_some (closer_of x)) h1.1 in
    let h3 = neither (is_some (delivery_of x)) (is_some (closer_of x)) h2.1 in
    quota-places tested s (fate_before tested f e past) f at e past false n n kept under was
    (λ low. sym (ap (λ b. accepts f && (b && (may_count s.role s.peer && nat_le (unwrap_or s.peer 65535) (s.in_flight + 1)))) h3.0 ∙ and_false (accepts f)))
    (λ low. none-counted n)

-- ---- identifiers in use

still : (from old : ℕ) → old ≡ remaining from false None old
still from old = omega arith

pub inflight-leaves : (tested : Tested) (s : Inflight) (f : Fate) (at : ℕ) (e : Seen) (past : List Seen) (p : AtOncePlaces) (q : ResumedPlaces)
    → concerns_flight tested e.note ≡ false → e.place.position < 4294967296 → IsUnder tested f at e past → IsUsing s tested (fate_before tested f e past) past
    → CountsAtOnce p tested (fate_before tested f e past) past × CountsResumed q tested (fate_before tested f e past) past
    → CountsAtOnce p tested (Some f) (e ∷ past) × CountsResumed q tested (Some f) (e ∷ past)
inflight-leaves tested s f at e past p q h small under kept was =
    let n = e.note in
    let c = quiet tested n h in
    let known = at == e.place.position in
    let entry = value_under s.entries in (
      record {
        taking = S01-places tested s f at e past false p.taking p.taking under kept was.0.taking
            (sym (
            ap (λ o. excused (is_unasked f) known (accepts f && (is_some o && any_used s f))) (takes-nothing s.role n c.opener c.subscribe c.unsubscribe)
            ∙ ap (excused (is_unasked f) known) (and_false (accepts f)))) (λ low. none-counted p.taking);
        resending = S02-places tested s f at e past false p.resending p.resending under kept was.0.resending
            (sym (
            ap (λ o. excused (surprises f) known (accepts f && (is_some o && not (s.earlier.cut_on_void || s.earlier.cut)))) c.resend
            ∙ ap (excused (surprises f) known) (and_false (accepts f)))) (λ low. none-counted p.resending);
        repeating = S03-places tested f at e past false p.repeating p.repeating under was.0.repeating
            (sym (ap (λ o. accepts f && is_some o) c.resend ∙ and_false (accepts f))) (λ low. none-counted p.repeating);
        released = S04-places tested s f at e past false p.released p.released under kept was.0.released
            (sym (
            ap (λ o. accepts f && is_some_and (past_pubrel entry) (option_or o (sent_as pubrel_in n))) c.resend
            ∙ ap (λ o. accepts f && is_some_and (past_pubrel entry) o) c.pubrel
            ∙ and_false (accepts f))) (λ low. none-counted p.released);
        ordering = S05-places tested s f at e past false p.ordering p.ordering under kept was.0.ordering
            (sym (and2_false s.ordered (accepts f) (is_some_and (λ i. is_some (entry i)) (resend_of n) && nat_lt 0 s.resent) (ap (λ o. is_some_and (λ i. is_some (entry i)) o && nat_lt 0 s.resent) c.resend)))
            (λ low. none-counted p.ordering);
      },
      go-on-next tested s f at e past q q false None under kept
          (ap (λ b. (resumes f && (b && (known && (accepts f && not s.ended)))) && (index_set_len s.unanswered == 0)) c.awake ∙ ap (λ b. b && (index_set_len s.unanswered == 0)) (and_false (resumes f)))
          c.closed was.1 small
          (sym (ap (λ o. accepts f && is_some o) c.opener ∙ and_false (accepts f)))
          (sym (
          ap (λ o. ended_at entry (cond (accepts f) (option_or o (closer_of n)) None)) c.opener
          ∙ ap (λ o. ended_at entry (cond (accepts f) o None)) c.closer
          ∙ ap (ended_at entry) (same_cond (accepts f) None)))
          refl refl refl (λ low. still q.settled q.fresh) (λ low. still s.opened q.opened),
    )
