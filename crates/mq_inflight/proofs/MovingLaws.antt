-- Events whose packets have no properties, in the book of identifiers in use.
use Rattle.std.proofs.Common.{◌≡◌, ℕ, ◌+◌, ◌-◌, ◌<◌, ◌≤◌, ◌==◌, nat_eq, nat_lt, arith, Bool, true, false, cond, ◌&&◌, ◌||◌, not, List, ◌∷◌, length, Option, Some, None, Bor, refl, ap, sym, subst, ◌∙◌}
use Rattle.std.specs.Prelude.{is_some}
use Rattle.std.specs.Option.{option_or}
use Rattle.std.proofs.lemmas.Bool.{eq-eqb}
use Rattle.mq_rules.specs.KeptOrder.{value_under}
use Rattle.indexmap.specs.IndexSet.{contains, index_set_len}
use Rattle.mq_log.specs.declared.place.Place3.{Place3}
use Rattle.mq_rules.specs.declared.role.Tested.{Tested}
use Rattle.mq_rules.specs.declared.fate.Fate.{Fate}
use Rattle.mq_rules.specs.declared.note.Note.{Note}
use Rattle.mq_rules.specs.declared.note.Seen.{Seen}
use Rattle.mq_rules.specs.declared.rule.Rule.{Rule}
use Rattle.mq_rules.specs.declared.rule.Rule.TheVariants.{S01}
use Rattle.mq_packet.specs.declared.packet.Qos.{Qos}
use Rattle.mq_log.specs.declared.kind.Direction.TheVariants.{Sent, Recv}
use Rattle.mq_rules.specs.declared.bare.Bare.{Bare}
use Rattle.mq_rules.specs.declared.bare.BareFields.{BareFields}
use Rattle.mq_rules.specs.declared.bare.BareFields.TheVariants as bares
use Rattle.mq_rules.specs.declared.packet_note.PacketFields.TheVariants.{Publish, Puback, Pubrec, Pubrel, Pubcomp}
use Rattle.mq_rules.specs.declared.role.Role.{Role}
use Rattle.mq_rules.specs.declared.role.Role.TheVariants.{Client, Server}
use Rattle.mq_rules.specs.Identifiers.{taken_by}
use Rattle.mq_rules.specs.Words.{is_some_and, is_id, only}
use Rattle.mq_rules.specs.Notes.{bare_note, bare_publish_note, bare_fields, kept_topic, note_of_bare, is_acknowledged, is_exactly_once, refuses, is_open, is_boundary, is_rest, sent_as, received_as, delivery_of, closer_of, opener_of, resend_of, pubrel_in, accepting_pubrec_in, subscribe_in, suback_in, unsubscribe_in, unsuback_in}
use Rattle.mq_rules.specs.Connections.{latest_fate, accepts, begins, resumes}
use Rattle.mq_rules.specs.FaultKeys.{FaultMap}
use Rattle.mq_rules.specs.Under.{Follows, IsUnder, IsKnown, fate_before, turns_with, turns_known}
use Rattle.mq_rules.specs.Growing.{Gains, GainsWithin}
use Rattle.mq_rules.proofs.Exports.{and_false, option_or-none, within_nothing}
use Rattle.mq_inflight.specs.declared.inflight.Inflight.{Inflight}
use Rattle.mq_inflight.specs.declared.inflight.broken.Broken.{Broken}
use Rattle.mq_inflight.specs.declared.inflight.entry.Entry.{Entry}
use Rattle.mq_inflight.specs.declared.inflight.resends.Resent.{Resent}
use Rattle.mq_inflight.specs.declared.inflight.resends.Excused.{Excused}
use Rattle.mq_inflight.specs.Moving.{Moves, KeepsOthers, IsMoved, moved, untouched, IsStep, IsWithin}
use Rattle.mq_inflight.specs.Opened.{entry_after, entry_next, opened_if, closed_if, confirmed_if, released_if, sent_if, sends_exactly_once, sends_retained}
use Rattle.mq_fates.specs.Taking.{ends_by, announced}
use Rattle.mq_inflight.specs.Quotas.{may_count, flown}
use Rattle.mq_fates.specs.Judgements.{judged_by}
use Rattle.mq_inflight.specs.Resending.{by_itself, bounds_by, confirms_untouched, excuses, settles, IsResent, is_limited, passed_since}
use Rattle.mq_inflight.specs.Using.{delivering, stray_next, void_next, resent_next, breaks, unopened, past_pubrel, out_of_order, is_inflight, IsUsing, unanswered_next, is_taken}
use Rattle.mq_inflight.specs.Earlier.{may_resend, GoesOn}
use Rattle.mq_inflight.proofs.EarlierLaws.{earlier-stays, inside-uncut}
use Rattle.mq_inflight.proofs.BrokenLaws.{all_excused-late}
use Rattle.mq_inflight.proofs.VoidLaws.{accepted-unvoided}
use Rattle.mq_inflight.proofs.AgainLaws.{again-next}
use Rattle.mq_inflight.proofs.DueLaws.{opened-within}
use Rattle.mq_inflight.proofs.InflightLaws.{inflight-next, inflight-gains}
use Rattle.mq_fates.proofs.Exports.{knows, known-gains, known-within}
use Rattle.mq_inflight.proofs.StrayLaws.{kept-anew}
use Rattle.mq_inflight.proofs.UsingConcernLaws.{wait-stays, resent-stays}

-- ---- what is kept of an identifier

-- how it is sent matters only where it is opened
quality : (i : ℕ) (opener : Option ℕ) (x y r : Bool) (place : Place3) (old : Option Entry) → (is_some opener ≡ true → y ≡ x) → opened_if (is_id i opener) x r place old ≡ opened_if (is_id i opener) y r place old
quality i None x y r place old h = refl
quality i (Some j) x y r place old h = ap (λ b. opened_if (is_id i (Some j)) b r place old) (sym (h refl))

-- what is sent under an identifier that is opened anew doesn't matter
sent-anew : (b x y c p r : Bool) (place : Place3) (bounded at : ℕ) (old : Option Entry) → opened_if b x y place (closed_if c (confirmed_if p (released_if r bounded at old))) ≡ opened_if b x y place (closed_if c (confirmed_if p (released_if r bounded at (sent_if b bounded at old))))
sent-anew true x y c p r place bounded at old = refl
sent-anew false x y c p r place bounded at None = refl
sent-anew false x y c p r place bounded at (Some o) = refl

entry-moves : (f : Fate) (n : Note) (bounded : ℕ) (place : Place3) (i : ℕ) (old : Option Entry) (opener : Option ℕ) (x : Bool) (closer pubrel pubrec : Option ℕ) → Moves n opener x closer pubrel pubrec → accepts f ≡ true
    → opened_if (is_id i opener) x false place (closed_if (is_id i closer) (confirmed_if (is_id i pubrec) (released_if (is_id i pubrel) bounded place.position old))) ≡ entry_next f n bounded place i old
entry-moves f n bounded place i old opener x closer pubrel pubrec m accepted =
    quality i opener x (sends_exactly_once n) false place (closed_if (is_id i closer) (confirmed_if (is_id i pubrec) (released_if (is_id i pubrel) bounded place.position old))) m.quality
    ∙ sent-anew (is_id i opener) (sends_exactly_once n) false (is_id i closer) (is_id i pubrec) (is_id i pubrel) place bounded place.position old
    ∙ sym (
    ap (λ b. cond b (cond (begins (Some f)) None old) (cond (accepts f) (entry_after bounded i n place old) old)) m.closed
    ∙ ap (λ b. cond b (entry_after bounded i n place old) old) accepted
    ∙ ap (λ o. opened_if (is_id i o) (sends_exactly_once n) (sends_retained n) place (closed_if (is_id i (closer_of n)) (confirmed_if (is_id i (received_as accepting_pubrec_in n)) (released_if (is_id i (sent_as pubrel_in n)) bounded place.position (sent_if (is_id i (delivery_of n)) bounded place.position old))))) m.opens
    ∙ ap (λ o. opened_if (is_id i opener) (sends_exactly_once n) (sends_retained n) place (closed_if (is_id i o) (confirmed_if (is_id i (received_as accepting_pubrec_in n)) (released_if (is_id i (sent_as pubrel_in n)) bounded place.position (sent_if (is_id i (delivery_of n)) bounded place.position old))))) m.closes
    ∙ ap (λ o. opened_if (is_id i opener) (sends_exactly_once n) (sends_retained n) place (closed_if (is_id i closer) (confirmed_if (is_id i o) (released_if (is_id i (sent_as pubrel_in n)) bounded place.position (sent_if (is_id i (delivery_of n)) bounded place.position old))))) m.confirms
    ∙ ap (λ o. opened_if (is_id i opener) (sends_exactly_once n) (sends_retained n) place (closed_if (is_id i closer) (confirmed_if (is_id i pubrec) (released_if (is_id i o) bounded place.position (sent_if (is_id i (delivery_of n)) bounded place.position old))))) m.releases
    ∙ ap (λ o. opened_if (is_id i opener) (sends_exactly_once n) (sends_retained n) place (closed_if (is_id i closer) (confirmed_if (is_id i pubrec) (released_if (is_id i pubrel) bounded place.position (sent_if (is_id i o) bounded place.position old))))) m.delivers
    ∙ ap (λ b. opened_if (is_id i opener) (sends_exactly_once n) b place (closed_if (is_id i closer) (confirmed_if (is_id i pubrec) (released_if (is_id i pubrel) bounded place.position (sent_if (is_id i opener) bounded place.position old))))) m.plain)

-- ---- the others

flown-moves : (n : Note) (counted : Bool) (old : ℕ) (opener : Option ℕ) (x : Bool) (closer pubrel pubrec : Option ℕ) → Moves n opener x closer pubrel pubrec → moved counted opener closer old ≡ flown counted n old
flown-moves n counted old opener x closer pubrel pubrec m =
    sym (
    ap (λ b. cond b 0 (cond counted (cond (is_some (delivery_of n)) (old + 1) (cond (is_some (closer_of n)) (old - 1) old)) old)) m.closed
    ∙ ap (λ o. cond counted (cond (is_some o) (old + 1) (cond (is_some (closer_of n)) (old - 1) old)) old) m.delivers
    ∙ ap (λ o. cond counted (cond (is_some opener) (old + 1) (cond (is_some o) (old - 1) old)) old) m.closes)

resent-moves : (n : Note) (opened at : ℕ) (single : Excused) (entry new : ℕ → Option Entry) (r : Resent) (opener : Option ℕ) (x : Bool) (closer pubrel pubrec : Option ℕ) → Moves n opener x closer pubrel pubrec
    → IsResent (cond (is_open n) at opened) single new (record { all = not (is_open n) && (r.all && not (confirms_untouched n opened entry)); confirmed = not (is_open n) && (r.confirmed && not (confirms_untouched n opened entry)) })
    → IsResent opened single new (record { all = r.all && not (untouched opened entry pubrec); confirmed = r.confirmed && not (untouched opened entry pubrec) })
resent-moves n opened at single entry new r opener x closer pubrel pubrec m is =
    subst (λ o. IsResent opened single new (record { all = r.all && not (untouched opened entry o); confirmed = r.confirmed && not (untouched opened entry o) })) m.confirms
    (subst (λ b. IsResent (cond b at opened) single new (record { all = not b && (r.all && not (confirms_untouched n opened entry)); confirmed = not b && (r.confirmed && not (confirms_untouched n opened entry)) })) m.closed is)

-- ---- what is kept

pub moved-next : (tested : Tested) (s t : Inflight) (f : Fate) (at : ℕ) (e : Seen) (past : List Seen) (opener : Option ℕ) (x : Bool) (closer pubrel pubrec : Option ℕ) → IsUnder tested f at e past → at ≡ e.place.position → IsUsing s tested (fate_before tested f e past) past
    → Moves e.note opener x closer pubrel pubrec → accepts f ≡ true → f ≡ s.fate → IsMoved e.place opener x closer pubrel pubrec s t → IsUsing t tested (Some f) (e ∷ past)
moved-next tested s t f at e past opener x closer pubrel pubrec under now u m accepted same w =
    inflight-next tested s t f at e past under u w.others.role (w.others.fate ∙ sym same) w.others.ordered entries
    (λ i. w.stray i ∙ sym (stray-moves i))
    (λ i. w.unanswered i ∙ ap (λ g. cond (resumes g) (is_id i (option_or opener pubrel) || (not (is_id i closer) && contains nat_eq s.unanswered i)) (contains nat_eq s.unanswered i)) (sym same) ∙ sym (unanswered-moves i))
    (λ i. ap (λ v. contains nat_eq v i) w.others.void
    ∙ sym (ap (λ b. (is_id i (delivery_of n) && b) || contains nat_eq s.void i) (accepted-unvoided f accepted) ∙ ap (λ b. b || contains nat_eq s.void i) (and_false (is_id i (delivery_of n)))))
    (subst (λ r. GoesOn s.earlier r s.role s.fate f (at == e.place.position) n) (sym w.others.earlier)
    (earlier-stays s.earlier s.role s.fate f (at == e.place.position) n m.closed (inside-uncut n m.inside) (λ i. ap (λ b. not b && is_id i (delivery_of n)) (eq-eqb at e.place.position now))))
    (λ i. ap (λ v. contains nat_eq v i) w.others.subscribing ∙ sym (wait-stays (sent_as subscribe_in n) (received_as suback_in n) (is_boundary n) i (contains nat_eq s.subscribing i) m.subscribe m.suback m.inside))
    (λ i. ap (λ v. contains nat_eq v i) w.others.unsubscribing ∙ sym (wait-stays (sent_as unsubscribe_in n) (received_as unsuback_in n) (is_boundary n) i (contains nat_eq s.unsubscribing i) m.unsubscribe m.unsuback m.inside))
    (w.others.resent ∙ sym (resent-stays n (value_under s.entries) s.resent m.closed m.resends))
    (w.others.ended ∙ sym (ap (λ b. b || (not (is_open n) && s.ended)) m.unended ∙ ap (λ b. not b && s.ended) m.closed))
    (w.others.opened ∙ sym (ap (λ b. cond b e.place.position s.opened) m.closed))
    (w.others.peer ∙ sym (ap (λ o. option_or (cond (is_open n) None s.peer) o) (m.room s.role) ∙ ap (λ b. option_or (cond b None s.peer) None) m.closed ∙ option_or-none s.peer))
    (λ below. w.flying below ∙ flown-moves n (may_count s.role s.peer) s.in_flight opener x closer pubrel pubrec m)
    (w.others.bounds ∙ sym (ap (λ o. option_or (cond (is_open n) None s.bounds) o) (m.bounds s.role) ∙ ap (λ b. option_or (cond b None s.bounds) None) m.closed ∙ option_or-none s.bounds))
    (w.others.bounded ∙ sym (ap (λ b. cond (b && (resumes s.fate && is_limited s.bounds)) s.opened s.bounded) m.closed))
    (subst (λ r. IsResent t.opened (by_itself t.fate t.bounds t.opened t.bounded) (value_under t.entries) r) (sym w.again)
    (subst (λ o. IsResent o (by_itself t.fate t.bounds o t.bounded) (value_under t.entries) known) (sym w.others.opened)
    (subst (λ o. IsResent s.opened (by_itself t.fate o s.opened t.bounded) (value_under t.entries) known) (sym w.others.bounds)
    (subst (λ o. IsResent s.opened (by_itself o s.bounds s.opened t.bounded) (value_under t.entries) known) (sym w.others.fate)
    (subst (λ o. IsResent s.opened (by_itself s.fate s.bounds s.opened o) (value_under t.entries) known) (sym w.others.bounded)
    (resent-moves n s.opened e.place.position single (value_under s.entries) (value_under t.entries) s.again opener x closer pubrel pubrec m
    (again-next f n s.bounded e.place s.opened single single (value_under s.entries) (value_under t.entries) s.again below (λ closed y h. h) entries u.resent_are)))))))
  where
    n : Note
    n = e.note

    single : Excused
    single = by_itself s.fate s.bounds s.opened s.bounded

    known : Resent
    known = record { all = s.again.all && not (untouched s.opened (value_under s.entries) pubrec); confirmed = s.again.confirmed && not (untouched s.opened (value_under s.entries) pubrec) }

    rest : ℕ → Option Entry
    rest i = closed_if (is_id i closer) (confirmed_if (is_id i pubrec) (released_if (is_id i pubrel) s.bounded e.place.position (value_under s.entries i)))

    stray-moves : (i : ℕ) → stray_next f n (value_under t.entries) i (contains nat_eq s.stray i) ≡ (not (is_id i closer) && contains nat_eq s.stray i)
    stray-moves i =
        ap (λ b. cond b false ((is_id i (delivery_of n) && not (accepts f && is_some (value_under t.entries i))) || (not (is_id i (closer_of n)) && contains nat_eq s.stray i))) m.inside
        ∙ ap (λ o. (is_id i o && not (accepts f && is_some (value_under t.entries i))) || (not (is_id i (closer_of n)) && contains nat_eq s.stray i)) m.delivers
        ∙ ap (λ b. (is_id i opener && not (b && is_some (value_under t.entries i))) || (not (is_id i (closer_of n)) && contains nat_eq s.stray i)) accepted
        ∙ ap (λ z. (is_id i opener && not (true && is_some z)) || (not (is_id i (closer_of n)) && contains nat_eq s.stray i)) (w.entries i)
        ∙ ap (λ b. b || (not (is_id i (closer_of n)) && contains nat_eq s.stray i)) (kept-anew (is_id i opener) x false e.place (rest i))
        ∙ ap (λ o. not (is_id i o) && contains nat_eq s.stray i) m.closes

    unanswered-moves : (i : ℕ) → unanswered_next f n i (contains nat_eq s.unanswered i) ≡ cond (resumes f) (is_id i (option_or opener pubrel) || (not (is_id i closer) && contains nat_eq s.unanswered i)) (contains nat_eq s.unanswered i)
    unanswered-moves i =
        ap (λ b. cond b false (cond (resumes f) (is_id i (option_or (delivery_of n) (sent_as pubrel_in n)) || (not (is_id i (closer_of n)) && contains nat_eq s.unanswered i)) (contains nat_eq s.unanswered i))) m.inside
        ∙ ap (λ o. cond (resumes f) (is_id i (option_or o (sent_as pubrel_in n)) || (not (is_id i (closer_of n)) && contains nat_eq s.unanswered i)) (contains nat_eq s.unanswered i)) m.delivers
        ∙ ap (λ o. cond (resumes f) (is_id i (option_or opener o) || (not (is_id i (closer_of n)) && contains nat_eq s.unanswered i)) (contains nat_eq s.unanswered i)) m.releases
        ∙ ap (λ o. cond (resumes f) (is_id i (option_or opener pubrel) || (not (is_id i o) && contains nat_eq s.unanswered i)) (contains nat_eq s.unanswered i)) m.closes

    entries : (i : ℕ) → value_under t.entries i ≡ entry_next f n s.bounded e.place i (value_under s.entries i)
    entries i = w.entries i ∙ entry-moves f n s.bounded e.place i (value_under s.entries i) opener x closer pubrel pubrec m accepted

    below : s.opened ≤ e.place.position
    below = let a = u.opened_is in let b = opened-within past in let d = under.follows.placed.0 in omega (arith, a, b, d)

-- ---- what it breaks

abbrev busy : Inflight → Fate → ℕ → Bool
busy s f i = is_some_and (is_taken (passed_since f s.bounds s.opened s.bounded)) (value_under s.entries i) || (contains nat_eq s.subscribing i || contains nat_eq s.unsubscribing i)

abbrev broken_by : Bool → Bool → Bool → Bool → Bool → Broken
broken_by a b c d e = record { takes_busy = a; unopened = b; twice = c; past_pubrel = d; out_of_order = e }

-- only that it takes an identifier that is busy
breaks-moves : (s : Inflight) (f : Fate) (n : Note) (opener : Option ℕ) (x : Bool) (closer pubrel pubrec : Option ℕ) → Moves n opener x closer pubrel pubrec → accepts f ≡ true
    → record { takes_busy = is_some_and (busy s f) opener; unopened = false; twice = false; past_pubrel = false; out_of_order = false } ≡ breaks s f n
breaks-moves s f n opener x closer pubrel pubrec m accepted =
    sym (
    ap (λ o. broken (accepts f) o (resend_of n)) (m.takes s.role)
    ∙ ap (λ o. broken (accepts f) opener o) m.resends
    ∙ ap (λ a. broken a opener None) accepted
    ∙ ap (λ b. broken_by (is_some_and (busy s f) opener) false false false b) (and_false s.ordered))
  where
    broken : Bool → Option ℕ → Option ℕ → Broken
    broken a t o =
        broken_by (a && is_some_and (busy s f) t) (a && is_some_and (unopened (value_under s.entries) (contains nat_eq s.void) (may_resend s.earlier f)) o) (a && is_some_and (delivering s) o)
        (a && is_some_and (past_pubrel (value_under s.entries)) o) (s.ordered && (a && is_some_and (out_of_order (value_under s.entries) s.resent) o))

pub moved-gains : (tested : Tested) (s : Inflight) (f : Fate) (at : ℕ) (e : Seen) (past : List Seen) (m : FaultMap) (opener : Option ℕ) (x : Bool) (closer pubrel pubrec : Option ℕ) → IsUnder tested f at e past
    → at ≡ e.place.position → IsUsing s tested (fate_before tested f e past) past → Moves e.note opener x closer pubrel pubrec → accepts f ≡ true
    → Gains (λ k r. is_inflight r && turns_with tested f e past k r) tested (e ∷ past) at m (judged_by (is_some_and (busy s f) opener) S01 e.place at m)
moved-gains tested s f at e past m opener x closer pubrel pubrec under now u w accepted =
    inflight-gains tested s f at e past m (record { takes_busy = is_some_and (busy s f) opener; unopened = false; twice = false; past_pubrel = false; out_of_order = false }) false (excuses s.peer s.in_flight (by_itself s.fate s.bounds s.opened s.bounded)) under u
    (breaks-moves s f e.note opener x closer pubrel pubrec w accepted ∙ all_excused-late f at e.place.position (breaks s f e.note) now)
    (sym (ap (λ b. (resumes f && (b && ((at == e.place.position) && (accepts f && not s.ended)))) && (index_set_len s.unanswered == 0)) w.awake ∙ ap (λ b. b && (index_set_len s.unanswered == 0)) (and_false (resumes f))))
    refl

-- ---- a step

pub moved-step : (tested : Tested) (s t : Inflight) (taken : Option Fate) (e : Seen) (past : List Seen) (m new : FaultMap) (opener : Option ℕ) (x : Bool) (closer pubrel pubrec : Option ℕ) → Follows tested e past → IsKnown tested taken e past → IsUsing s tested taken past
    → Moves e.note opener x closer pubrel pubrec → accepts s.fate ≡ true → IsMoved e.place opener x closer pubrel pubrec s t → new ≡ judged_by (is_some_and (busy s s.fate) opener) S01 e.place e.place.position m → IsStep e.place e.note t tested past m new
moved-step tested s t taken e past m new opener x closer pubrel pubrec follows known u w accepted is now =
    let k = knows tested s.fate taken e past follows known u.same_fate in
    let v = subst (λ o. IsUsing s tested o past) k.before u in
    record {
      agrees = subst (λ o. IsUsing t tested o (e ∷ past)) k.after (moved-next tested s t s.fate e.place.position e past opener x closer pubrel pubrec k.under refl v w accepted refl is);
      grows = known-gains tested s.fate taken is_inflight e past m new k
          (subst (λ (n : FaultMap). Gains (λ k r. is_inflight r && turns_with tested s.fate e past k r) tested (e ∷ past) e.place.position m n) (sym now)
          (moved-gains tested s s.fate e.place.position e past m opener x closer pubrel pubrec k.under refl v w accepted));
    }

-- ---- what each bare packet does

moves-publish : (size : ℕ) (o : Option ℕ) (q : Qos) (d : Bool) (t : List ℕ) (i : ℕ) → only (not d) (only (is_acknowledged q) o) ≡ Some i → Moves (bare_note Sent size (Publish (bare_publish_note Sent o q d t))) (Some i) (is_exactly_once q) None None None
moves-publish size o q true t i h = absurd (cc)
moves-publish size o q false t i h = record {
  closed = refl;
  inside = refl;
  awake = refl;
  unended = refl;
  delivers = h;
  opens = h;
  plain = refl;
  quality = λ some. refl;
  closes = refl;
  releases = refl;
  confirms = refl;
  resends = refl;
  takes = takes;
  subscribe = refl;
  suback = refl;
  unsubscribe = refl;
  unsuback = refl;
  room = room;
  bounds = bounds;
}
  where
    n : Note
    n = bare_note Sent size (Publish (bare_publish_note Sent o q false t))

    takes : (role : Role) → taken_by role n ≡ Some i
    takes Client = ap (λ x. option_or x None) h
    takes Server = h

    room : (role : Role) → announced role n ≡ None
    room Client = refl
    room Server = refl

    bounds : (role : Role) → bounds_by role n ≡ None
    bounds Client = refl
    bounds Server = refl

pub publish-moves : (b : Bare) (o : Option ℕ) (q : Qos) (d : Bool) (topic : Bor (List ℕ)) (i : ℕ) → b.direction ≡ Sent → b.fields ≡ bares.Publish o q d topic → only (not d) (only (is_acknowledged q) o) ≡ Some i
    → Moves (note_of_bare b) (Some i) (is_exactly_once q) None None None
unfolding note_of_bare
publish-moves b o q d topic i way is h =
    subst (λ x. Moves (bare_note x b.size (bare_fields x b.fields)) (Some i) (is_exactly_once q) None None None) (sym way)
    (subst (λ (y : BareFields). Moves (bare_note Sent b.size (bare_fields Sent y)) (Some i) (is_exactly_once q) None None None) (sym is) (moves-publish b.size o q d (kept_topic topic.now) i h))

moves-puback : (size i code : ℕ) → Moves (bare_note Recv size (Puback i code)) None false (Some i) None None
moves-puback size i code = record {
  closed = refl;
  inside = refl;
  awake = refl;
  unended = refl;
  delivers = refl;
  opens = refl;
  plain = refl;
  quality = λ some. absurd (cc);
  closes = refl;
  releases = refl;
  confirms = refl;
  resends = refl;
  takes = takes;
  subscribe = refl;
  suback = refl;
  unsubscribe = refl;
  unsuback = refl;
  room = room;
  bounds = bounds;
}
  where
    n : Note
    n = bare_note Recv size (Puback i code)

    takes : (role : Role) → taken_by role n ≡ None
    takes Client = refl
    takes Server = refl

    room : (role : Role) → announced role n ≡ None
    room Client = refl
    room Server = refl

    bounds : (role : Role) → bounds_by role n ≡ None
    bounds Client = refl
    bounds Server = refl

pub puback-moves : (b : Bare) (i code : ℕ) → b.direction ≡ Recv → b.fields ≡ bares.Puback i code → Moves (note_of_bare b) None false (Some i) None None
unfolding note_of_bare
puback-moves b i code way is =
    subst (λ x. Moves (bare_note x b.size (bare_fields x b.fields)) None false (Some i) None None) (sym way)
    (subst (λ (y : BareFields). Moves (bare_note Recv b.size (bare_fields Recv y)) None false (Some i) None None) (sym is) (moves-puback b.size i code))

moves-pubcomp : (size i code : ℕ) → Moves (bare_note Recv size (Pubcomp i code)) None false (Some i) None None
moves-pubcomp size i code = record {
  closed = refl;
  inside = refl;
  awake = refl;
  unended = refl;
  delivers = refl;
  opens = refl;
  plain = refl;
  quality = λ some. absurd (cc);
  closes = refl;
  releases = refl;
  confirms = refl;
  resends = refl;
  takes = takes;
  subscribe = refl;
  suback = refl;
  unsubscribe = refl;
  unsuback = refl;
  room = room;
  bounds = bounds;
}
  where
    n : Note
    n = bare_note Recv size (Pubcomp i code)

    takes : (role : Role) → taken_by role n ≡ None
    takes Client = refl
    takes Server = refl

    room : (role : Role) → announced role n ≡ None
    room Client = refl
    room Server = refl

    bounds : (role : Role) → bounds_by role n ≡ None
    bounds Client = refl
    bounds Server = refl

pub pubcomp-moves : (b : Bare) (i code : ℕ) → b.direction ≡ Recv → b.fields ≡ bares.Pubcomp i code → Moves (note_of_bare b) None false (Some i) None None
unfolding note_of_bare
pubcomp-moves b i code way is =
    subst (λ x. Moves (bare_note x b.size (bare_fields x b.fields)) None false (Some i) None None) (sym way)
    (subst (λ (y : BareFields). Moves (bare_note Recv b.size (bare_fields Recv y)) None false (Some i) None None) (sym is) (moves-pubcomp b.size i code))

moves-pubrel : (size i code : ℕ) → Moves (bare_note Sent size (Pubrel i code)) None false None (Some i) None
moves-pubrel size i code = record {
  closed = refl;
  inside = refl;
  awake = refl;
  unended = refl;
  delivers = refl;
  opens = refl;
  plain = refl;
  quality = λ some. absurd (cc);
  closes = refl;
  releases = refl;
  confirms = refl;
  resends = refl;
  takes = takes;
  subscribe = refl;
  suback = refl;
  unsubscribe = refl;
  unsuback = refl;
  room = room;
  bounds = bounds;
}
  where
    n : Note
    n = bare_note Sent size (Pubrel i code)

    takes : (role : Role) → taken_by role n ≡ None
    takes Client = refl
    takes Server = refl

    room : (role : Role) → announced role n ≡ None
    room Client = refl
    room Server = refl

    bounds : (role : Role) → bounds_by role n ≡ None
    bounds Client = refl
    bounds Server = refl

pub pubrel-moves : (b : Bare) (i code : ℕ) → b.direction ≡ Sent → b.fields ≡ bares.Pubrel i code → Moves (note_of_bare b) None false None (Some i) None
unfolding note_of_bare
pubrel-moves b i code way is =
    subst (λ x. Moves (bare_note x b.size (bare_fields x b.fields)) None false None (Some i) None) (sym way)
    (subst (λ (y : BareFields). Moves (bare_note Sent b.size (bare_fields Sent y)) None false None (Some i) None) (sym is) (moves-pubrel b.size i code))

moves-pubrec : (size i code : ℕ) → Moves (bare_note Recv size (Pubrec i code)) None false (only (refuses code) (Some i)) None (only (not (refuses code)) (Some i))
moves-pubrec size i code = record {
  closed = refl;
  inside = refl;
  awake = refl;
  unended = refl;
  delivers = refl;
  opens = refl;
  plain = refl;
  quality = λ some. absurd (cc);
  closes = refl;
  releases = refl;
  confirms = refl;
  resends = refl;
  takes = takes;
  subscribe = refl;
  suback = refl;
  unsubscribe = refl;
  unsuback = refl;
  room = room;
  bounds = bounds;
}
  where
    n : Note
    n = bare_note Recv size (Pubrec i code)

    takes : (role : Role) → taken_by role n ≡ None
    takes Client = refl
    takes Server = refl

    room : (role : Role) → announced role n ≡ None
    room Client = refl
    room Server = refl

    bounds : (role : Role) → bounds_by role n ≡ None
    bounds Client = refl
    bounds Server = refl

pub pubrec-moves : (b : Bare) (i code : ℕ) → b.direction ≡ Recv → b.fields ≡ bares.Pubrec i code → Moves (note_of_bare b) None false (only (refuses code) (Some i)) None (only (not (refuses code)) (Some i))
unfolding note_of_bare
pubrec-moves b i code way is =
    subst (λ x. Moves (bare_note x b.size (bare_fields x b.fields)) None false (only (refuses code) (Some i)) None (only (not (refuses code)) (Some i))) (sym way)
    (subst (λ (y : BareFields). Moves (bare_note Recv b.size (bare_fields Recv y)) None false (only (refuses code) (Some i)) None (only (not (refuses code)) (Some i))) (sym is) (moves-pubrec b.size i code))
