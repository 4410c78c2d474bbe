-- What is kept of what is due and of its order, and the faults of both statements.
use Rattle.std.proofs.Common.{◌≡◌, ℕ, ◌+◌, ◌*◌, ◌<◌, ◌≤◌, ◌==◌, arith, Bool, true, false, cond, ◌&&◌, ◌||◌, not, List, [], ◌∷◌, ◌++◌, length, Option, Some, None, refl, ap, sym, ◌∙◌, subst}
use Rattle.std.specs.Prelude.{is_some}
use Rattle.std.specs.Option.{option_or}
use Rattle.mq_rules.specs.KeptOrder.{values_of}
use Rattle.mq_log.specs.declared.place.Place3.{Place3}
use Rattle.mq_rules.specs.declared.role.Tested.{Tested}
use Rattle.mq_rules.specs.declared.rule.Rule.{Rule}
use Rattle.mq_rules.specs.declared.fate.Fate.{Fate}
use Rattle.mq_rules.specs.declared.note.Seen.{Seen}
use Rattle.mq_rules.specs.Words.{is_some_and, is_id}
use Rattle.mq_rules.specs.Notes.{is_open, is_release}
use Rattle.mq_rules.specs.Moments.{some}
use Rattle.mq_rules.specs.Connections.{latest_fate, accepts, resumes, begins, session}
use Rattle.mq_rules.specs.Exchanges.{Exchange, causes, breaks_O, shows_R}
use Rattle.mq_rules.specs.Rules.{same_rule}
use Rattle.mq_rules.specs.Statements.{statement, in_session, at_rest}
use Rattle.mq_rules.specs.FaultKeys.{FaultMap}
use Rattle.mq_rules.proofs.Exports.{and_false}
use Rattle.mq_exchanges.specs.declared.ordering.Debt.{Debt}
use Rattle.mq_rules.specs.Under.{IsUnder, fate_before, turns_with}
use Rattle.mq_rules.specs.Growing.{Gains}
use Rattle.mq_fates.specs.Taking.{ends_by, binds_by}
use Rattle.mq_exchanges.specs.Answering.{IsApart}
use Rattle.mq_exchanges.specs.Owings.{due_next, IsOwing}
use Rattle.mq_fates.specs.Judgements.{blamed}
use Rattle.mq_exchanges.specs.Orderings.{looked_at, left_by, passes_over, fallen, queued_next, ordered_by, IsQueue, IsTidied}
use Rattle.mq_rules.specs.IdentifierCounts.{ids_where}
use Rattle.mq_exchanges.specs.Burden.{caused_ids}
use Rattle.mq_exchanges.proofs.OwedLaws.{owed-next, owed-gains}
use Rattle.mq_exchanges.proofs.QueueLaws.{answered-queue, still-queue, queue-next, tidied-queue}
use Rattle.mq_exchanges.proofs.OrderLaws.{order-gains}
use Rattle.mq_exchanges.proofs.AskedLaws.{caused-more, caused-new}
use Rattle.mq_fates.proofs.Exports.{ids-more}
use Rattle.mq_exchanges.proofs.SizeLaws.{caused-some}
use Rattle.mq_exchanges.proofs.QueueSizeLaws.{left-length, left-none, tidied-length, joined-length, tidied-none}

pub owing-next : (tested : Tested) (x : Exchange) → IsApart x → (settled : Rule) (ordered : Option Rule) (binding order_binding : Bool) (f fate : Fate) (at : ℕ) (ended now : Bool) (due mid next : ℕ → Option Place3) (queue looked after tidied : List Debt) (e : Seen) (past : List Seen)
    → IsUnder tested f at e past → IsOwing x settled ordered binding order_binding fate ended due queue tested (fate_before tested f e past) past → now ≡ (ends_by e.note || (not (is_open e.note) && ended))
    → ((i : ℕ) → mid i ≡ cond (accepts f && is_id i (x.answer e.note)) None (due i))
    → (accepts f ≡ true → (i : ℕ) → next i ≡ due_next e.note (x.cause e.note) None e.place i (mid i)) → (accepts f ≡ false → (i : ℕ) → next i ≡ mid i)
    → looked ≡ cond (accepts f) (cond order_binding (left_by due mid (x.answer e.note) queue) queue) queue
    → after ≡ cond (is_some ordered && accepts f) (queued_next e.note (x.cause e.note) e.place.position mid looked) looked
    → IsTidied next after tidied
    → ((n : ℕ) (test : ℕ → Bool) → is_some (x.cause e.note) ≡ true → IsQueue next after n → ((i : ℕ) → is_some (next i) ≡ true → test i ≡ true) → length tidied ≤ 2 * ids_where test)
    → IsOwing x settled ordered binding order_binding f now next tidied tested (Some f) (e ∷ past)
unfolding caused_ids
owing-next tested x packets settled ordered binding order_binding f fate at ended now due mid next queue looked after tidied e past under o is answered begun stays looks queues less short = record {
  binds_are = o.binds_are;
  order_binds_are = o.order_binds_are;
  owed = owed-next tested x f fate at ended now due next e past packets under o.owed is grown;
  queued = λ has ok. tidied-queue next after tidied (length (e ∷ past)) less (after-queue has ok);
  unordered = λ none. tidied-none next after tidied less (after-none none);
  due_caused = due-caused;
  queue_within = by-fate (accepts f) refl;
}
  where
    grows : length past + 1 ≡ length (e ∷ past)
    grows = omega arith

    -- what is due after the answer, and after the event
    left : accepts f ≡ true → (i : ℕ) → mid i ≡ cond (is_id i (x.answer e.note)) None (due i)
    left ok i = answered i ∙ ap (λ b. cond (b && is_id i (x.answer e.note)) None (due i)) ok

    grown : accepts f ≡ true → (i : ℕ) → next i ≡ due_next e.note (x.cause e.note) (x.answer e.note) e.place i (due i)
    grown ok i = begun ok i ∙ ap (λ o. due_next e.note (x.cause e.note) None e.place i o) (left ok i) ∙ both (is_id i (x.answer e.note)) (is_open e.note)
      where
        both : (a b : Bool) → option_or (cond b None (cond a None (due i))) (cond (is_id i (x.cause e.note)) (Some e.place) None) ≡ option_or (cond a None (cond b None (due i))) (cond (is_id i (x.cause e.note)) (Some e.place) None)
        both true true = refl
        both true false = refl
        both false b = refl

    same : accepts f ≡ false → (i : ℕ) → next i ≡ due i
    same never i = stays never i ∙ answered i ∙ ap (λ b. cond (b && is_id i (x.answer e.note)) None (due i)) never

    either : (b : Bool) → accepts f ≡ true → IsQueue due queue (length past) → IsQueue mid (cond b (left_by due mid (x.answer e.note) queue) queue) (length past)
    either true ok h = answered-queue due mid (x.answer e.note) queue (length past) (left ok) h
    either false ok h = still-queue due mid (x.answer e.note) queue (length past) (left ok) h

    old : is_some ordered ≡ true → accepts f ≡ true → is_open e.note ≡ false → fate_before tested f e past ≡ Some fate → IsQueue mid looked (length past)
    old has ok n fates =
        let closed : Some f ≡ Some fate = ap (λ b. cond b (latest_fate tested.role past) (Some f)) (sym n) ∙ fates in
        let one : f ≡ fate = cc in
        subst (λ (q : List Debt). IsQueue mid q (length past)) (sym (looks ∙ ap (λ b. cond b (cond order_binding (left_by due mid (x.answer e.note) queue) queue) queue) ok)) (either order_binding ok (o.queued has (ap accepts (sym one) ∙ ok)))

    -- the queue before it is tidied
    put : List Debt
    put = queued_next e.note (x.cause e.note) e.place.position mid looked

    after-is : is_some ordered ≡ true → accepts f ≡ true → after ≡ put
    after-is has ok = queues ∙ ap (λ b. cond (b && accepts f) put looked) has ∙ ap (λ b. cond b put looked) ok

    no-cause : is_open e.note ≡ true → x.cause e.note ≡ None
    no-cause n = (packets.none e.note (ap (λ b. b || is_release e.note) n)).0

    after-queue : is_some ordered ≡ true → accepts f ≡ true → IsQueue next after (length (e ∷ past))
    after-queue has ok =
        subst (λ (q : List Debt). IsQueue next q (length (e ∷ past))) (sym (after-is has ok))
        (subst (λ n. IsQueue next put n) grows
        (queue-next mid next looked (length past) e.note (x.cause e.note) None e.place under.follows.placed.0 no-cause (λ i h. refl) (begun ok) (λ n. old has ok n o.owed.same_fate)))

    -- without a statement on the order the queue is empty
    after-none : is_some ordered ≡ false → after ≡ []
    after-none none =
        let nothing : looked ≡ [] = looks ∙ (λ i. cond (accepts f) (cond order_binding (left_by due mid (x.answer e.note) (o.unordered none i)) (o.unordered none i)) (o.unordered none i)) ∙ empty (accepts f) order_binding in
        queues ∙ ap (λ b. cond (b && accepts f) put looked) none ∙ nothing
      where
        empty : (a b : Bool) → cond a (cond b (left_by due mid (x.answer e.note) []) []) [] ≡ []
        empty true true = left-none due mid (x.answer e.note)
        empty true false = refl
        empty false b = refl

    -- what is due has a cause in the session
    has_cause : ℕ → Bool
    has_cause i = some (causes x i) (session tested.role (Some f) (e ∷ past))

    had_cause : ℕ → Bool
    had_cause i = some (causes x i) (session tested.role (fate_before tested f e past) past)

    goes-on : (is_open e.note && begins (Some f)) ≡ false → (i : ℕ) → had_cause i ≡ true → has_cause i ≡ true
    goes-on on i there =
        sym (caused-some tested.role x (Some f) (e ∷ past) i)
        ∙ caused-more tested x packets i f e past on (caused-some tested.role x (fate_before tested f e past) past i ∙ there)

    stale : accepts f ≡ false → (is_open e.note && begins (Some f)) ≡ false
    stale n = ap (λ a. is_open e.note && (a && not (resumes f))) n ∙ and_false (is_open e.note)

    due-caused : (i : ℕ) → is_some (next i) ≡ true → has_cause i ≡ true
    due-caused i here = by (accepts f) refl
      where
        kept : (a b c : Bool) → is_open e.note ≡ a → is_id i (x.answer e.note) ≡ b → is_id i (x.cause e.note) ≡ c → accepts f ≡ true → (q : Option Place3) → due i ≡ q
            → is_some (option_or (cond b None (cond a None q)) (cond c (Some e.place) None)) ≡ true → has_cause i ≡ true
        kept a b true opens answer starts ok q d h = sym (caused-some tested.role x (Some f) (e ∷ past) i) ∙ caused-new tested x packets i f e past ok starts
        kept a true false opens answer starts ok q d h = absurd (cc)
        kept true false false opens answer starts ok q d h = absurd (cc)
        kept false false false opens answer starts ok None d h = absurd (cc)
        kept false false false opens answer starts ok (Some p) d h = goes-on (ap (λ a. a && begins (Some f)) opens) i (o.due_caused i (ap is_some d))

        by : (b : Bool) → accepts f ≡ b → has_cause i ≡ true
        by false n = goes-on (stale n) i (o.due_caused i (ap is_some (sym (same n i)) ∙ here))
        by true n = kept (is_open e.note) (is_id i (x.answer e.note)) (is_id i (x.cause e.note)) refl refl refl n (due i) refl (ap is_some (sym (grown n i)) ∙ here)

    -- how long the queue is
    looked-least : length looked ≤ length queue
    looked-least = let is : length looked ≡ length (cond (accepts f) (cond order_binding (left_by due mid (x.answer e.note) queue) queue) queue) = ap (length {A = Debt}) looks in let le = go (accepts f) order_binding in omega (arith, is, le)
      where
        go : (a b : Bool) → length (cond a (cond b (left_by due mid (x.answer e.note) queue) queue) queue) ≤ length queue
        go true true = left-length due mid (x.answer e.note) queue
        go true false = omega arith
        go false b = omega arith

    tidied-least : length tidied ≤ length after
    tidied-least = tidied-length next after tidied less

    within-more : (is_open e.note && begins (Some f)) ≡ false → length after ≤ length looked → length tidied ≤ 2 * caused_ids x tested.role (Some f) (e ∷ past)
    within-more on le = let more = ids-more had_cause has_cause (goes-on on) in let old_bound = o.queue_within in omega (arith, le, more, old_bound, looked-least, tidied-least)

    by-fate : (b : Bool) → accepts f ≡ b → length tidied ≤ 2 * caused_ids x tested.role (Some f) (e ∷ past)
    by-fate false n =
        let is : length after ≡ length looked = ap (length {A = Debt}) (queues ∙ ap (λ a. cond (is_some ordered && a) put looked) n ∙ ap (λ b. cond b put looked) (and_false (is_some ordered))) in
        within-more (stale n) (omega (arith, is))
    by-fate true n = by-order (is_some ordered) refl
      where
        nothing : after ≡ [] → length tidied ≤ 2 * caused_ids x tested.role (Some f) (e ∷ past)
        nothing none = let is : length tidied ≡ 0 = ap (length {A = Debt}) (tidied-none next after tidied less none) in omega (arith, is)

        by-cause : (c : Option ℕ) → x.cause e.note ≡ c → is_open e.note ≡ false → after ≡ looked ++ fallen mid e.place.position c → is_some ordered ≡ true → length tidied ≤ 2 * caused_ids x tested.role (Some f) (e ∷ past)
        by-cause None q opens is has =
            let long : length after ≡ length (looked ++ []) = ap (length {A = Debt}) is in
            let joined = joined-length looked [] in
            within-more (ap (λ a. a && begins (Some f)) opens) (omega (arith, long, joined))
        by-cause (Some c) q opens is has = short (length (e ∷ past)) has_cause (ap is_some q) (after-queue has n) due-caused

        by-open : (a : Bool) → is_open e.note ≡ a → is_some ordered ≡ true → length tidied ≤ 2 * caused_ids x tested.role (Some f) (e ∷ past)
        by-open true opens has = nothing (after-is has n ∙ ap (λ a. cond a [] (looked ++ fallen mid e.place.position (x.cause e.note))) opens)
        by-open false opens has = by-cause (x.cause e.note) refl opens (after-is has n ∙ ap (λ a. cond a [] (looked ++ fallen mid e.place.position (x.cause e.note))) opens) has

        by-order : (b : Bool) → is_some ordered ≡ b → length tidied ≤ 2 * caused_ids x tested.role (Some f) (e ∷ past)
        by-order false none = nothing (after-none none)
        by-order true has = by-open (is_open e.note) refl has

-- the faults of a REST
pub rest-gains : (tested : Tested) (x : Exchange) → IsApart x → (settled : Rule) (ordered : Option Rule) → statement tested.role settled ≡ at_rest (shows_R x) → (binding order_binding : Bool) (f fate : Fate) (ended : Bool) (due : ℕ → Option Place3) (queue : List Debt) (at : ℕ) (e : Seen) (past : List Seen) (m : FaultMap) (rests : Bool)
    → IsUnder tested f at e past → ((i : ℕ) → is_some (due i) ≡ true → i < 65536) → IsOwing x settled ordered binding order_binding fate ended due queue tested (fate_before tested f e past) past
    → rests ≡ (binding && binds_by f (at == e.place.position) ended e.note)
    → Gains (λ k r. same_rule r settled && turns_with tested f e past k r) tested (e ∷ past) at m (cond rests (blamed settled at (values_of due) m) m)
rest-gains tested x packets settled ordered says binding order_binding f fate ended due queue at e past m rests under within o r =
    owed-gains tested settled x packets says f fate ended due at e past m binding rests under within o.owed o.binds_are r

-- the fault of an answer
pub answer-gains : (tested : Tested) (x : Exchange) → IsApart x → (settled : Rule) (ordered : Option Rule) → ((rule : Rule) → ordered ≡ Some rule → statement tested.role rule ≡ in_session (λ f. breaks_O x)) → (binding order_binding : Bool) (f fate : Fate) (ended : Bool) (due : ℕ → Option Place3) (queue : List Debt) (at : ℕ) (e : Seen) (past : List Seen) (m : FaultMap) (b : Bool)
    → IsUnder tested f at e past → IsOwing x settled ordered binding order_binding fate ended due queue tested (fate_before tested f e past) past
    → b ≡ (order_binding && (accepts f && passes_over due (x.answer e.note) (looked_at due (x.answer e.note) queue)))
    → Gains (λ k r. is_some_and (same_rule r) ordered && turns_with tested f e past k r) tested (e ∷ past) at m (ordered_by ordered b e.place at m)
answer-gains tested x packets settled ordered says binding order_binding f fate ended due queue at e past m b under o is =
    order-gains tested ordered x packets says f fate due queue (length past) at e past m order_binding b under.follows.placed o.owed.same_fate o.queued o.owed.due_are o.order_binds_are is
