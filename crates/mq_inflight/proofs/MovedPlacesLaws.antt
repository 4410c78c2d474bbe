-- What a packet puts to the test that opens or closes an identifier, and sends nothing again.
use Rattle.std.proofs.Common.{◌≡◌, ℕ, ◌+◌, ◌<◌, ◌==◌, nat_eq, nat_lt, arith, eq-eqb, Bool, true, false, cond, ◌&&◌, ◌||◌, not, List, ◌∷◌, Option, Some, None, refl, ap, sym, ◌∙◌}
use Rattle.std.specs.Prelude.{is_some}
use Rattle.std.specs.Option.{option_or}
use Rattle.mq_rules.specs.KeptOrder.{value_under}
use Rattle.indexmap.specs.IndexSet.{index_set_len}
use Rattle.mq_rules.specs.declared.role.Tested.{Tested}
use Rattle.mq_rules.specs.declared.fate.Fate.{Fate}
use Rattle.mq_rules.specs.declared.note.Seen.{Seen}
use Rattle.mq_rules.specs.Words.{is_some_and}
use Rattle.mq_rules.specs.Notes.{opener_of, closer_of, resend_of, sent_as, pubrel_in}
use Rattle.mq_rules.specs.Connections.{accepts, resumes, surprises, is_unasked}
use Rattle.mq_rules.specs.Under.{IsUnder, fate_before}
use Rattle.mq_rules.proofs.Exports.{and_false}
use Rattle.mq_inflight.specs.declared.inflight.Inflight.{Inflight}
use Rattle.mq_inflight.specs.declared.inflight.asking.AtOncePlaces.{AtOncePlaces}
use Rattle.mq_inflight.specs.declared.inflight.resuming.ResumedPlaces.{ResumedPlaces}
use Rattle.mq_fates.specs.Knowing.{excused}
use Rattle.mq_inflight.specs.Moving.{Moves}
use Rattle.mq_inflight.specs.Resumings.{CountsResumed, ended_at, remaining}
use Rattle.mq_inflight.specs.Tried.{CountsAtOnce, any_used}
use Rattle.mq_inflight.specs.Using.{IsUsing, past_pubrel}
use Rattle.mq_fates.proofs.Exports.{and2_false}
use Rattle.mq_inflight.proofs.ResumingLaws.{go-on-next}
use Rattle.mq_inflight.proofs.TriedLaws.{S01-places, S02-places, S03-places, S04-places, S05-places}

pub none-more : (n : ℕ) → n ≡ cond false 1 0 + n
none-more n = omega arith

-- what is known at its event is excused by nothing
known-counts : (surprising b : Bool) → excused surprising true b ≡ b
known-counts true true = refl
known-counts true false = refl
known-counts false true = refl
known-counts false false = refl

-- What S01 to S05 have after it: nothing but S01 can be put to the test.
pub moved-at-once : (tested : Tested) (s : Inflight) (f : Fate) (e : Seen) (past : List Seen) (opener : Option ℕ) (x : Bool) (closer pubrec : Option ℕ) (p new : AtOncePlaces) (taking : Bool)
    → Moves e.note opener x closer None pubrec → accepts f ≡ true → IsUnder tested f e.place.position e past → IsUsing s tested (fate_before tested f e past) past → CountsAtOnce p tested (fate_before tested f e past) past
    → taking ≡ (is_some opener && any_used s f) → (p.taking < e.place.position → new.taking ≡ cond taking 1 0 + p.taking)
    → new.resending ≡ p.resending → new.repeating ≡ p.repeating → new.released ≡ p.released → new.ordering ≡ p.ordering → CountsAtOnce new tested (Some f) (e ∷ past)
moved-at-once tested s f e past opener x closer pubrec p new taking m accepted under kept was takes more same_resending same_repeating same_released same_ordering =
    let n = e.note in
    let at = e.place.position in
    let entry = value_under s.entries in record {
      taking = S01-places tested s f at e past taking p.taking new.taking under kept was.taking
          (takes
          ∙ sym (
          ap (λ o. excused (is_unasked f) (at == at) (accepts f && (is_some o && any_used s f))) (m.takes s.role)
          ∙ ap (λ b. excused (is_unasked f) (at == at) (b && (is_some opener && any_used s f))) accepted
          ∙ ap (λ b. excused (is_unasked f) b (is_some opener && any_used s f)) (eq-eqb at at refl)
          ∙ known-counts (is_unasked f) (is_some opener && any_used s f))) more;
      resending = S02-places tested s f at e past false p.resending new.resending under kept was.resending
          (sym (
          ap (λ o. excused (surprises f) (at == at) (accepts f && (is_some o && not (s.earlier.cut_on_void || s.earlier.cut)))) m.resends
          ∙ ap (excused (surprises f) (at == at)) (and_false (accepts f)))) (λ low. same_resending ∙ none-more p.resending);
      repeating = S03-places tested f at e past false p.repeating new.repeating under was.repeating
          (sym (ap (λ o. accepts f && is_some o) m.resends ∙ and_false (accepts f))) (λ low. same_repeating ∙ none-more p.repeating);
      released = S04-places tested s f at e past false p.released new.released under kept was.released
          (sym (
          ap (λ o. accepts f && is_some_and (past_pubrel entry) (option_or o (sent_as pubrel_in n))) m.resends
          ∙ ap (λ o. accepts f && is_some_and (past_pubrel entry) o) m.releases
          ∙ and_false (accepts f))) (λ low. same_released ∙ none-more p.released);
      ordering = S05-places tested s f at e past false p.ordering new.ordering under kept was.ordering
          (sym (and2_false s.ordered (accepts f) (is_some_and (λ i. is_some (entry i)) (resend_of n) && nat_lt 0 s.resent) (ap (λ o. is_some_and (λ i. is_some (entry i)) o && nat_lt 0 s.resent) m.resends)))
          (λ low. same_ordering ∙ none-more p.ordering);
    }

-- What is kept for S06 after it.
pub moved-resumed : (tested : Tested) (s : Inflight) (f : Fate) (e : Seen) (past : List Seen) (opener : Option ℕ) (x : Bool) (closer pubrel pubrec : Option ℕ) (q new : ResumedPlaces)
    → Moves e.note opener x closer pubrel pubrec → accepts f ≡ true → e.place.position < 4294967296 → IsUnder tested f e.place.position e past → IsUsing s tested (fate_before tested f e past) past → CountsResumed q tested (fate_before tested f e past) past
    → new ≡ record q { fresh = new.fresh; opened = new.opened }
    → (q.fresh < 4294967295 → new.fresh ≡ remaining q.settled (is_some opener) (ended_at (value_under s.entries) (option_or opener closer)) q.fresh)
    → (q.opened < 4294967295 → new.opened ≡ remaining s.opened (is_some opener) (ended_at (value_under s.entries) (option_or opener closer)) q.opened) → CountsResumed new tested (Some f) (e ∷ past)
moved-resumed tested s f e past opener x closer pubrel pubrec q new m accepted small under kept was same fresh opened =
    let n = e.note in
    let at = e.place.position in
    let entry = value_under s.entries in
    go-on-next tested s f at e past q new (is_some opener) (ended_at entry (option_or opener closer)) under kept
    (ap (λ b. (resumes f && (b && ((at == at) && (accepts f && not s.ended)))) && (index_set_len s.unanswered == 0)) m.awake ∙ ap (λ b. b && (index_set_len s.unanswered == 0)) (and_false (resumes f)))
    m.closed was small
    (sym (ap (λ b. b && is_some (opener_of n)) accepted ∙ ap (λ o. is_some o) m.opens))
    (sym (
    ap (λ b. ended_at entry (cond b (option_or (opener_of n) (closer_of n)) None)) accepted
    ∙ ap (λ o. ended_at entry (option_or o (closer_of n))) m.opens
    ∙ ap (λ o. ended_at entry (option_or opener o)) m.closes))
    (ap (λ (p : ResumedPlaces). p.counted) same) (ap (λ (p : ResumedPlaces). p.due) same) (ap (λ (p : ResumedPlaces). p.settled) same) fresh opened
