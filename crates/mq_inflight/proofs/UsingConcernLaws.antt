-- Events that don't concern the book of identifiers in use.
use Rattle.std.proofs.Common.{◌≡◌, ℕ, ◌+◌, ◌-◌, ◌<◌, ◌==◌, nat_eq, nat_lt, arith, Bool, true, false, cond, ◌&&◌, ◌||◌, not, List, [], ◌∷◌, Option, Some, None, option_map, refl, ap, sym, subst, ◌∙◌}
use Rattle.std.specs.Prelude.{is_some}
use Rattle.std.proofs.lemmas.Bool.{ltb-true}
use Rattle.std.specs.Option.{option_or}
use Rattle.mq_rules.specs.KeptOrder.{value_under, values_of}
use Rattle.indexmap.specs.IndexSet.{contains, index_set_len}
use Rattle.mq_log.specs.declared.place.Place3.{Place3}
use Rattle.mq_rules.specs.declared.role.Role.{Role}
use Rattle.mq_rules.specs.declared.role.Role.TheVariants.{Client, Server}
use Rattle.mq_rules.specs.declared.role.Tested.{Tested}
use Rattle.mq_rules.specs.declared.fate.Fate.{Fate}
use Rattle.mq_rules.specs.declared.note.Note.{Note}
use Rattle.mq_rules.specs.declared.note.Seen.{Seen}
use Rattle.mq_rules.specs.Words.{is_some_and, is_id}
use Rattle.mq_rules.specs.Notes.{is_open, is_close, is_boundary, is_rest, sent_as, received_as, delivery_of, closer_of, opener_of, resend_of, pubrel_in, accepting_pubrec_in, subscribe_in, suback_in, unsubscribe_in, unsuback_in}
use Rattle.mq_rules.specs.Connections.{accepts, begins, resumes, is_void}
use Rattle.mq_rules.specs.Identifiers.{taken_by}
use Rattle.mq_rules.specs.FaultKeys.{FaultMap}
use Rattle.mq_rules.specs.Under.{IsUnder, fate_before, turns_with}
use Rattle.mq_rules.specs.Growing.{Gains}
use Rattle.mq_rules.proofs.Exports.{and_false, option_or-none}
use Rattle.mq_inflight.specs.declared.inflight.Inflight.{Inflight}
use Rattle.mq_inflight.specs.declared.inflight.broken.Broken.{Broken}
use Rattle.mq_inflight.specs.declared.inflight.entry.Entry.{Entry}
use Rattle.mq_inflight.specs.Concerns.{moves_identifiers, concerns_flight}
use Rattle.mq_inflight.specs.Opened.{entry_after, entry_next, opened_if, closed_if, confirmed_if, released_if, sent_if, sends_exactly_once, sends_retained}
use Rattle.mq_fates.specs.Taking.{ends_by, announced}
use Rattle.mq_inflight.specs.Quotas.{may_count, flown}
use Rattle.mq_inflight.specs.Resending.{by_itself, is_limited, passed_since, bounds_by, excuses, settles}
use Rattle.mq_inflight.specs.Using.{is_taken, delivering, waits_next, unanswered_next, void_next, resent_next, greater, resent_by, takes_busy, unopened, past_pubrel, out_of_order, breaks, is_inflight, IsUsing, all_excused}
use Rattle.mq_fates.proofs.Exports.{nothing, neither, same_cond, some-same, and2_false, closed-before}
use Rattle.mq_inflight.proofs.StrayLaws.{stray-stays}
use Rattle.mq_inflight.specs.Earlier.{may_resend}
use Rattle.mq_inflight.proofs.EarlierLaws.{earlier-stays, inside-uncut}
use Rattle.mq_inflight.proofs.InflightLaws.{inflight-next, inflight-gains}

-- nothing of these is there
pub record Quiet (tested : Tested) (n : Note) : Type 0 where
  pub closed : is_open n ≡ false
  pub inside : is_boundary n ≡ false
  pub awake : is_rest n ≡ false
  pub unended : ends_by n ≡ false
  pub delivery : delivery_of n ≡ None
  pub closer : closer_of n ≡ None
  pub opener : opener_of n ≡ None
  pub resend : resend_of n ≡ None
  pub pubrel : sent_as pubrel_in n ≡ None
  pub pubrec : received_as accepting_pubrec_in n ≡ None
  pub subscribe : sent_as subscribe_in n ≡ None
  pub suback : received_as suback_in n ≡ None
  pub unsubscribe : sent_as unsubscribe_in n ≡ None
  pub unsuback : received_as unsuback_in n ≡ None
  pub room : announced tested.role n ≡ None
  pub bounds : bounds_by tested.role n ≡ None

pub quiet : (tested : Tested) (n : Note) → concerns_flight tested n ≡ false → Quiet tested n
quiet tested n h =
    let h1 = neither (is_boundary n) (is_rest n || (ends_by n || (moves_identifiers n || (is_some (announced tested.role n) || is_some (bounds_by tested.role n))))) h in
    let h2 = neither (is_rest n) (ends_by n || (moves_identifiers n || (is_some (announced tested.role n) || is_some (bounds_by tested.role n)))) h1.1 in
    let h3 = neither (ends_by n) (moves_identifiers n || (is_some (announced tested.role n) || is_some (bounds_by tested.role n))) h2.1 in
    let h4 = neither (moves_identifiers n) (is_some (announced tested.role n) || is_some (bounds_by tested.role n)) h3.1 in
    let h5 = neither (is_some (announced tested.role n)) (is_some (bounds_by tested.role n)) h4.1 in
    let a : Bool = is_some (delivery_of n) || (is_some (closer_of n) || (is_some (opener_of n) || is_some (resend_of n))) in
    let b : Bool = is_some (sent_as pubrel_in n) || is_some (received_as accepting_pubrec_in n) in
    let c : Bool = is_some (sent_as subscribe_in n) || is_some (received_as suback_in n) in
    let d : Bool = is_some (sent_as unsubscribe_in n) || is_some (received_as unsuback_in n) in
    let m = neither a (b || (c || d)) h4.0 in
    let m2 = neither b (c || d) m.1 in
    let m3 = neither c d m2.1 in
    let a1 = neither (is_some (delivery_of n)) (is_some (closer_of n) || (is_some (opener_of n) || is_some (resend_of n))) m.0 in
    let a2 = neither (is_some (closer_of n)) (is_some (opener_of n) || is_some (resend_of n)) a1.1 in
    let a3 = neither (is_some (opener_of n)) (is_some (resend_of n)) a2.1 in
    let b1 = neither (is_some (sent_as pubrel_in n)) (is_some (received_as accepting_pubrec_in n)) m2.0 in
    let c1 = neither (is_some (sent_as subscribe_in n)) (is_some (received_as suback_in n)) m3.0 in
    let d1 = neither (is_some (sent_as unsubscribe_in n)) (is_some (received_as unsuback_in n)) m3.1 in
    record {
      closed = (neither (is_open n) (is_close n) h1.0).0;
      inside = h1.0;
      awake = h2.0;
      unended = h3.0;
      delivery = nothing (delivery_of n) a1.0;
      closer = nothing (closer_of n) a2.0;
      opener = nothing (opener_of n) a3.0;
      resend = nothing (resend_of n) a3.1;
      pubrel = nothing (sent_as pubrel_in n) b1.0;
      pubrec = nothing (received_as accepting_pubrec_in n) b1.1;
      subscribe = nothing (sent_as subscribe_in n) c1.0;
      suback = nothing (received_as suback_in n) c1.1;
      unsubscribe = nothing (sent_as unsubscribe_in n) d1.0;
      unsuback = nothing (received_as unsuback_in n) d1.1;
      room = nothing (announced tested.role n) h5.0;
      bounds = nothing (bounds_by tested.role n) h5.1;
    }

-- ---- what is kept stays

same-entry : (i bounded at : ℕ) (x y : Bool) (place : Place3) (old : Option Entry) → opened_if (is_id i None) x y place (closed_if (is_id i None) (confirmed_if (is_id i None) (released_if (is_id i None) bounded at (sent_if (is_id i None) bounded at old)))) ≡ old
same-entry i bounded at x y place None = refl
same-entry i bounded at x y place (Some o) = refl

entry-stays : (tested : Tested) (f : Fate) (n : Note) (bounded : ℕ) (place : Place3) (i : ℕ) (old : Option Entry) → Quiet tested n → entry_next f n bounded place i old ≡ old
entry-stays tested f n bounded place i old q =
    ap (λ b. cond b (cond (begins (Some f)) None old) (cond (accepts f) (entry_after bounded i n place old) old)) q.closed
    ∙ ap (λ o. cond (accepts f) o old) same
    ∙ same_cond (accepts f) old
  where
    same : entry_after bounded i n place old ≡ old
    same =
        ap (λ o. opened_if (is_id i o) (sends_exactly_once n) (sends_retained n) place (closed_if (is_id i (closer_of n)) (confirmed_if (is_id i (received_as accepting_pubrec_in n)) (released_if (is_id i (sent_as pubrel_in n)) bounded place.position (sent_if (is_id i (delivery_of n)) bounded place.position old))))) q.opener
        ∙ ap (λ o. opened_if (is_id i None) (sends_exactly_once n) (sends_retained n) place (closed_if (is_id i o) (confirmed_if (is_id i (received_as accepting_pubrec_in n)) (released_if (is_id i (sent_as pubrel_in n)) bounded place.position (sent_if (is_id i (delivery_of n)) bounded place.position old))))) q.closer
        ∙ ap (λ o. opened_if (is_id i None) (sends_exactly_once n) (sends_retained n) place (closed_if (is_id i None) (confirmed_if (is_id i o) (released_if (is_id i (sent_as pubrel_in n)) bounded place.position (sent_if (is_id i (delivery_of n)) bounded place.position old))))) q.pubrec
        ∙ ap (λ o. opened_if (is_id i None) (sends_exactly_once n) (sends_retained n) place (closed_if (is_id i None) (confirmed_if (is_id i None) (released_if (is_id i o) bounded place.position (sent_if (is_id i (delivery_of n)) bounded place.position old))))) q.pubrel
        ∙ ap (λ o. opened_if (is_id i None) (sends_exactly_once n) (sends_retained n) place (closed_if (is_id i None) (confirmed_if (is_id i None) (released_if (is_id i None) bounded place.position (sent_if (is_id i o) bounded place.position old))))) q.delivery
        ∙ same-entry i bounded place.position (sends_exactly_once n) (sends_retained n) place old

pub wait-stays : (starts ends : Option ℕ) (boundary : Bool) (i : ℕ) (old : Bool) → starts ≡ None → ends ≡ None → boundary ≡ false → waits_next starts ends boundary i old ≡ old
wait-stays starts ends boundary i old a b c = ap (λ o. waits_next o ends boundary i old) a ∙ ap (λ o. waits_next None o boundary i old) b ∙ ap (λ t. waits_next None None t i old) c

unanswered-stays : {tested : Tested} (f : Fate) (n : Note) (i : ℕ) (old : Bool) → Quiet tested n → unanswered_next f n i old ≡ old
unanswered-stays f n i old q =
    ap (λ b. cond b false (cond (resumes f) (is_id i (option_or (delivery_of n) (sent_as pubrel_in n)) || (not (is_id i (closer_of n)) && old)) old)) q.inside
    ∙ ap (λ o. cond (resumes f) (is_id i (option_or o (sent_as pubrel_in n)) || (not (is_id i (closer_of n)) && old)) old) q.delivery
    ∙ ap (λ o. cond (resumes f) (is_id i o || (not (is_id i (closer_of n)) && old)) old) q.pubrel
    ∙ ap (λ o. cond (resumes f) (not (is_id i o) && old) old) q.closer
    ∙ same_cond (resumes f) old

greater-stays : (old : ℕ) → greater 0 old ≡ old
greater-stays old = go (nat_lt old 0) refl
  where
    go : (b : Bool) → nat_lt old 0 ≡ b → cond b 0 old ≡ old
    go true h = absurd (let few = ltb-true old 0 h in omega arith)
    go false h = refl

pub resent-stays : (n : Note) (entry : ℕ → Option Entry) (old : ℕ) → is_open n ≡ false → resend_of n ≡ None → resent_next n entry old ≡ old
resent-stays n entry old a b = ap (λ t. cond t 0 (greater (resent_by (resend_of n) entry) old)) a ∙ ap (λ o. greater (resent_by o entry) old) b ∙ greater-stays old

flown-stays : (counted : Bool) (n : Note) (old : ℕ) → is_open n ≡ false → delivery_of n ≡ None → closer_of n ≡ None → flown counted n old ≡ old
flown-stays counted n old a b c =
    ap (λ t. cond t 0 (cond counted (cond (is_some (delivery_of n)) (old + 1) (cond (is_some (closer_of n)) (old - 1) old)) old)) a
    ∙ ap (λ o. cond counted (cond (is_some o) (old + 1) (cond (is_some (closer_of n)) (old - 1) old)) old) b
    ∙ ap (λ o. cond counted (cond (is_some o) (old - 1) old) old) c
    ∙ same_cond counted old

-- ---- nothing is broken

pub takes-nothing : (role : Role) (n : Note) → opener_of n ≡ None → sent_as subscribe_in n ≡ None → sent_as unsubscribe_in n ≡ None → taken_by role n ≡ None
takes-nothing Client n a b c =
    ap (λ o. option_or o (option_or (sent_as subscribe_in n) (sent_as unsubscribe_in n))) a ∙ ap (λ o. option_or o (sent_as unsubscribe_in n)) b ∙ c
takes-nothing Server n a b c = a

unbroken : (tested : Tested) (s : Inflight) (f : Fate) (n : Note) → Quiet tested n → record { takes_busy = false; unopened = false; twice = false; past_pubrel = false; out_of_order = false } ≡ breaks s f n
unbroken tested s f n q =
    sym (
    ap (λ o. broken (accepts f && is_some_and (λ i. is_some_and (is_taken (passed_since f s.bounds s.opened s.bounded)) (value_under s.entries i) || (contains nat_eq s.subscribing i || contains nat_eq s.unsubscribing i)) o) (resend_of n)) (takes-nothing s.role n q.opener q.subscribe q.unsubscribe)
    ∙ ap (λ o. broken (accepts f && false) o) q.resend
    ∙ ap (λ b. broken_by b (b) (b) (b) (s.ordered && b)) (and_false (accepts f))
    ∙ ap (λ b. broken_by false false false false b) (and_false s.ordered))
  where
    broken_by : Bool → Bool → Bool → Bool → Bool → Broken
    broken_by a b c d e = record { takes_busy = a; unopened = b; twice = c; past_pubrel = d; out_of_order = e }

    broken : Bool → Option ℕ → Broken
    broken a o =
        broken_by a (accepts f && is_some_and (unopened (value_under s.entries) (contains nat_eq s.void) (may_resend s.earlier f)) o) (accepts f && is_some_and (delivering s) o)
        (accepts f && is_some_and (past_pubrel (value_under s.entries)) o) (s.ordered && (accepts f && is_some_and (out_of_order (value_under s.entries) s.resent) o))

pub inflight-passes : (tested : Tested) (s : Inflight) (f : Fate) (at : ℕ) (e : Seen) (past : List Seen) → concerns_flight tested e.note ≡ false → IsUnder tested f at e past → IsUsing s tested (fate_before tested f e past) past
    → IsUsing s tested (Some f) (e ∷ past) × ((m : FaultMap) → Gains (λ k r. is_inflight r && turns_with tested f e past k r) tested (e ∷ past) at m m)
inflight-passes tested s f at e past h under before =
    let n = e.note in
    let q = quiet tested n h in
    let u : IsUsing s tested (Some f) past = subst (λ (t : Option Fate). IsUsing s tested t past) (sym (closed-before tested f e past q.closed)) before in
    let room : announced s.role n ≡ None = ap (λ r. announced r n) u.same_role ∙ q.room in
    let bounds : bounds_by s.role n ≡ None = ap (λ r. bounds_by r n) u.same_role ∙ q.bounds in (
      inflight-next tested s s f at e past under before refl (sym (some-same f s.fate u.same_fate)) refl
          (λ i. sym (entry-stays tested f n s.bounded e.place i (value_under s.entries i) q))
          (λ i. sym (stray-stays f n (value_under s.entries) i (contains nat_eq s.stray i) q.inside q.delivery q.closer))
          (λ i. sym (unanswered-stays f n i (contains nat_eq s.unanswered i) q))
          (λ i. sym (ap (λ o. (is_id i o && is_void f) || contains nat_eq s.void i) q.delivery))
          (earlier-stays s.earlier s.role s.fate f (at == e.place.position) n q.closed (inside-uncut n q.inside) (λ i. ap (λ o. not (at == e.place.position) && is_id i o) q.delivery ∙ and_false (not (at == e.place.position))))
          (λ i. sym (wait-stays (sent_as subscribe_in n) (received_as suback_in n) (is_boundary n) i (contains nat_eq s.subscribing i) q.subscribe q.suback q.inside))
          (λ i. sym (wait-stays (sent_as unsubscribe_in n) (received_as unsuback_in n) (is_boundary n) i (contains nat_eq s.unsubscribing i) q.unsubscribe q.unsuback q.inside))
          (sym (resent-stays n (value_under s.entries) s.resent q.closed q.resend))
          (sym (ap (λ b. b || (not (is_open n) && s.ended)) q.unended ∙ ap (λ b. not b && s.ended) q.closed))
          (sym (ap (λ b. cond b e.place.position s.opened) q.closed))
          (sym (ap (λ o. option_or (cond (is_open n) None s.peer) o) room ∙ ap (λ b. option_or (cond b None s.peer) None) q.closed ∙ option_or-none s.peer))
          (λ below. sym (flown-stays (may_count s.role s.peer) n s.in_flight q.closed q.delivery q.closer))
          (sym (ap (λ o. option_or (cond (is_open n) None s.bounds) o) bounds ∙ ap (λ b. option_or (cond b None s.bounds) None) q.closed ∙ option_or-none s.bounds))
          (sym (ap (λ b. cond (b && (resumes s.fate && is_limited s.bounds)) s.opened s.bounded) q.closed))
          u.resent_are,
      λ m. inflight-gains tested s f at e past m (record { takes_busy = false; unopened = false; twice = false; past_pubrel = false; out_of_order = false }) false (excuses s.peer s.in_flight (by_itself s.fate s.bounds s.opened s.bounded)) under before
          (ap (all_excused f (at == e.place.position)) (unbroken tested s f n q))
          (sym (ap (λ b. (resumes f && (b && ((at == e.place.position) && (accepts f && not s.ended)))) && (index_set_len s.unanswered == 0)) q.awake ∙ ap (λ b. b && (index_set_len s.unanswered == 0)) (and_false (resumes f))))
          refl,
    )
