-- The book of the identifiers in use, with one event more.
use Rattle.std.proofs.Common.{◌≡◌, ℕ, ◌+◌, ◌<◌, ◌≤◌, ◌==◌, nat_eq, arith, Bool, true, false, cond, refl, ◌&&◌, ◌||◌, not, List, ◌∷◌, length, Some, None, ap, sym, subst, ◌∙◌}
use Rattle.std.specs.Option.{option_or}
use Rattle.mq_rules.specs.KeptOrder.{value_under, values_of}
use Rattle.indexmap.specs.IndexSet.{contains, index_set_len}
use Rattle.mq_rules.specs.declared.role.Tested.{Tested}
use Rattle.mq_rules.specs.declared.fate.Fate.{Fate}
use Rattle.mq_rules.specs.declared.rule.Rule.TheVariants.{S06}
use Rattle.mq_rules.specs.declared.note.Seen.{Seen}
use Rattle.mq_rules.specs.Notes.{is_open, is_close, is_boundary, closer_of, delivery_of, sent_as, received_as, subscribe_in, suback_in, unsubscribe_in, unsuback_in}
use Rattle.mq_rules.specs.Connections.{is_connected, IsOnConnection, latest_fate, resumes, resumed, session, ends_binding}
use Rattle.mq_rules.specs.Rules.{same_rule}
use Rattle.mq_rules.specs.FaultKeys.{FaultMap}
use Rattle.mq_rules.proofs.Exports.{gains_either, some-next}
use Rattle.mq_inflight.specs.declared.inflight.Inflight.{Inflight}
use Rattle.mq_inflight.specs.declared.inflight.broken.Broken.{Broken}
use Rattle.mq_inflight.specs.declared.inflight.resends.Excused.{Excused}
use Rattle.mq_rules.specs.Under.{IsUnder, fate_before, turns_with}
use Rattle.mq_rules.specs.Growing.{Gains}
use Rattle.mq_fates.specs.Taking.{ends_by, announced}
use Rattle.mq_inflight.specs.Quotas.{peer_room, may_count, flown}
use Rattle.mq_inflight.specs.Opened.{entry_next, entry_in}
use Rattle.mq_inflight.specs.Earlier.{GoesOn}
use Rattle.mq_inflight.specs.Resending.{by_itself, bounds_next, excuses, settles, told, IsResent, peer_bounds, is_limited, is_passed, bounded_at, bounded_next}
use Rattle.mq_inflight.specs.Using.{in_delivery, delivering, stray_next, ArePublished, waits_next, void_next, resent_next, breaks, judged_all, is_at_once, is_inflight, IsUsing, unanswered_next, all_excused}
use Rattle.mq_rules.specs.Passing.{opened_at}
use Rattle.mq_inflight.proofs.DueLaws.{opened-within}
use Rattle.mq_inflight.proofs.StrayLaws.{delivering-next, listed-connected, published-next}
use Rattle.mq_inflight.proofs.QuotaLaws.{peer-next, flown-next, flying-most}
use Rattle.mq_inflight.proofs.VoidLaws.{void_sent-next}
use Rattle.mq_inflight.proofs.EarlierLaws.{earlier-next}
use Rattle.mq_inflight.proofs.OpenedLaws.{entry-under}
use Rattle.mq_inflight.proofs.PassingLaws.{passed-next}
use Rattle.mq_inflight.proofs.UsingLaws.{unanswered-under, waiting, delivering-waits, sent-none, resent-next, using-gains}
use Rattle.mq_inflight.proofs.ResendsLaws.{bounds-next, resends-gains}

pub inflight-gains : (tested : Tested) (s : Inflight) (f : Fate) (at : ℕ) (e : Seen) (past : List Seen) (m : FaultMap) (b : Broken) (rests : Bool) (excused : Excused) → IsUnder tested f at e past → IsUsing s tested (fate_before tested f e past) past
    → b ≡ all_excused f (at == e.place.position) (breaks s f e.note) → rests ≡ (settles f (at == e.place.position) s.ended e.note && (index_set_len s.unanswered == 0)) → excused ≡ excuses s.peer s.in_flight (by_itself s.fate s.bounds s.opened s.bounded)
    → Gains (λ k r. is_inflight r && turns_with tested f e past k r) tested (e ∷ past) at m (told rests s.again excused s.opened at (values_of (value_under s.entries)) (judged_all b e.place at m))
inflight-gains tested s f at e past m b rests excused under u b_is rest_is excused_is =
    gains_either is_at_once (λ r. same_rule r S06) (λ k r. turns_with tested f e past k r) tested (e ∷ past) at m (judged_all b e.place at m) (told rests s.again excused s.opened at (values_of (value_under s.entries)) (judged_all b e.place at m))
    (using-gains tested s f at e past m b under u b_is)
    (resends-gains tested s f at e past (judged_all b e.place at m) rests excused under u rest_is excused_is)

pub inflight-next : (tested : Tested) (s t : Inflight) (f : Fate) (at : ℕ) (e : Seen) (past : List Seen) → IsUnder tested f at e past → IsUsing s tested (fate_before tested f e past) past
    → t.role ≡ s.role → t.fate ≡ f → t.ordered ≡ s.ordered
    → ((i : ℕ) → value_under t.entries i ≡ entry_next f e.note s.bounded e.place i (value_under s.entries i))
    → ((i : ℕ) → contains nat_eq t.stray i ≡ stray_next f e.note (value_under t.entries) i (contains nat_eq s.stray i))
    → ((i : ℕ) → contains nat_eq t.unanswered i ≡ unanswered_next f e.note i (contains nat_eq s.unanswered i))
    → ((i : ℕ) → contains nat_eq t.void i ≡ void_next f e.note i (contains nat_eq s.void i))
    → GoesOn s.earlier t.earlier s.role s.fate f (at == e.place.position) e.note
    → ((i : ℕ) → contains nat_eq t.subscribing i ≡ waits_next (sent_as subscribe_in e.note) (received_as suback_in e.note) (is_boundary e.note) i (contains nat_eq s.subscribing i))
    → ((i : ℕ) → contains nat_eq t.unsubscribing i ≡ waits_next (sent_as unsubscribe_in e.note) (received_as unsuback_in e.note) (is_boundary e.note) i (contains nat_eq s.unsubscribing i))
    → t.resent ≡ resent_next e.note (value_under s.entries) s.resent → t.ended ≡ (ends_by e.note || (not (is_open e.note) && s.ended)) → t.opened ≡ cond (is_open e.note) e.place.position s.opened
    → t.peer ≡ option_or (cond (is_open e.note) None s.peer) (announced s.role e.note) → (s.in_flight < e.place.position → t.in_flight ≡ flown (may_count s.role s.peer) e.note s.in_flight)
    → t.bounds ≡ bounds_next s.role e.note s.bounds → t.bounded ≡ bounded_next e.note s.fate s.bounds s.opened s.bounded → IsResent t.opened (by_itself t.fate t.bounds t.opened t.bounded) (value_under t.entries) t.again → IsUsing t tested (Some f) (e ∷ past)
inflight-next tested s t f at e past under u role fate ordered entries stray unanswered void earlier subscribing unsubscribing resent ended opened peer flying bounds bounded again = record {
  same_role = role ∙ u.same_role;
  same_fate = ap Some (sym fate);
  is_ordered = ordered ∙ u.is_ordered;
  entries_are = λ i. grown i ∙ entry-under tested f i (value_under s.entries i) e past (u.entries_are i);
  delivering_are = delivering-waits (delivering s) (delivering t) e past on u.delivering_are delivered;
  stray_are = λ i there. listed-connected f e.note (value_under t.entries) i (contains nat_eq s.stray i) (is_connected past) on (u.stray_are i) (sym (stray i) ∙ there);
  published_are = subst (λ g. ArePublished g t.opened (value_under t.entries) (e ∷ past)) (sym fate)
      (subst (λ o. ArePublished f o (value_under t.entries) (e ∷ past)) (sym opened) (published-next f s.fate e s.bounded s.opened (value_under s.entries) (value_under t.entries) past under.follows.placed.0 u.published_are same entries));
  unanswered_are = λ i. unanswered i ∙ unanswered-under f s.fate t.fate i e past (contains nat_eq s.unanswered i) on fate same (u.unanswered_are i);
  void_are = λ i. void i ∙ ap (void_next f e.note i) (u.void_are i) ∙ sym (void_sent-next tested i f e past);
  earlier_is = earlier-next tested s.earlier t.earlier s.fate f at e past under u.same_fate u.earlier_is (subst (λ r. GoesOn s.earlier t.earlier r s.fate f (at == e.place.position) e.note) u.same_role earlier);
  subscribing_are = waiting (sent_as subscribe_in) (received_as suback_in) (contains nat_eq s.subscribing) (contains nat_eq t.subscribing) e past (sent-none subscribe_in e.note) on u.subscribing_are subscribing;
  unsubscribing_are = waiting (sent_as unsubscribe_in) (received_as unsuback_in) (contains nat_eq s.unsubscribing) (contains nat_eq t.unsubscribing) e past (sent-none unsubscribe_in e.note) on u.unsubscribing_are unsubscribing;
  resent_is = resent ∙ resent-next tested s f e past u;
  is_ended = ended ∙ ap (λ b. ends_by e.note || (not (is_open e.note) && b)) u.is_ended ∙ sym (some-next ends_binding e past);
  opened_is = opened ∙ ap (λ n. cond (is_open e.note) n s.opened) under.follows.placed.0 ∙ ap (cond (is_open e.note) (length past + 1)) u.opened_is;
  same_peer = peer ∙ ap (λ o. option_or (cond (is_open e.note) None o) (announced s.role e.note)) u.same_peer
      ∙ ap (λ r. option_or (cond (is_open e.note) None (peer_room tested.role past)) (announced r e.note)) u.same_role ∙ sym (peer-next tested.role e past);
  flying = flying below ∙ ap (λ r. flown (may_count r s.peer) e.note s.in_flight) u.same_role ∙ ap (λ o. flown (may_count tested.role o) e.note s.in_flight) u.same_peer
      ∙ ap (flown (may_count tested.role (peer_room tested.role past)) e.note) u.flying ∙ sym (flown-next tested.role e past);
  bounds_are = bounds ∙ ap (λ r. bounds_next r e.note s.bounds) u.same_role ∙ ap (bounds_next tested.role e.note) u.bounds_are ∙ sym (bounds-next tested.role e past);
  bounded_is = bounded ∙ bounded-now;
  passed_are = λ i o there. ap (λ n. is_passed n o) (bounded ∙ bounded-now)
      ∙ passed-next tested.role f s.fate e past (value_under s.entries) (value_under t.entries) under.follows.placed before kept
      (λ j x has. ap (λ n. is_passed n x) (sym u.bounded_is) ∙ u.passed_are j x has) grown i o there;
  resent_are = again;
}
  where
    -- at an OPEN the state is one under the fate of the connection before it
    before : is_open e.note ≡ true → latest_fate tested.role past ≡ Some s.fate
    before opens = sym (ap (λ b. cond b (latest_fate tested.role past) (Some f)) opens) ∙ u.same_fate

    kept : is_open e.note ≡ true → (i : ℕ) → value_under s.entries i ≡ entry_in tested.role i (session tested.role (Some s.fate) past)
    kept opens i = u.entries_are i ∙ ap (λ o. entry_in tested.role i (session tested.role o past)) u.same_fate

    grown : (i : ℕ) → value_under t.entries i ≡ entry_next f e.note (bounded_at tested.role past) e.place i (value_under s.entries i)
    grown i = entries i ∙ ap (λ n. entry_next f e.note n e.place i (value_under s.entries i)) u.bounded_is

    bounded-now : bounded_next e.note s.fate s.bounds s.opened s.bounded ≡ bounded_at tested.role (e ∷ past)
    bounded-now =
        ap (λ b. bounded_next e.note s.fate b s.opened s.bounded) u.bounds_are ∙ ap (λ n. bounded_next e.note s.fate (peer_bounds tested.role past) n s.bounded) u.opened_is
        ∙ ap (bounded_next e.note s.fate (peer_bounds tested.role past) (opened_at past)) u.bounded_is ∙ by (is_open e.note) refl
      where
        by : (b : Bool) → is_open e.note ≡ b → cond (b && (resumes s.fate && is_limited (peer_bounds tested.role past))) (opened_at past) (bounded_at tested.role past)
            ≡ cond (b && (resumed (latest_fate tested.role past) && is_limited (peer_bounds tested.role past))) (opened_at past) (bounded_at tested.role past)
        by false h = refl
        by true h = ap (λ o. cond (resumed o && is_limited (peer_bounds tested.role past)) (opened_at past) (bounded_at tested.role past)) (sym (before h))

    on : IsOnConnection e past
    on = under.follows.on_connections.0

    same : is_open e.note ≡ false → s.fate ≡ f
    same closed = let h : Some s.fate ≡ Some f = sym u.same_fate ∙ ap (λ b. cond b (latest_fate tested.role past) (Some f)) closed in cc

    delivered : is_close e.note ≡ false → (i : ℕ) → delivering t i ≡ waits_next (delivery_of e.note) (closer_of e.note) (is_open e.note) i (delivering s i)
    delivered unclosed i =
        ap (λ o. in_delivery o (value_under t.entries) (contains nat_eq t.stray) i) opened
        ∙ delivering-next f s.fate e.note s.bounded e.place s.opened (value_under s.entries) (value_under t.entries) (contains nat_eq s.stray) (contains nat_eq t.stray) past under.follows.placed.0
        (let a = u.opened_is in let b = opened-within past in let c = under.follows.placed.0 in omega arith) u.published_are same entries stray unclosed i

    below : s.in_flight < e.place.position
    below = let a = flying-most tested.role past in let b = u.flying in let c = under.follows.placed.0 in omega arith
