-- Events that don't concern a watcher of exchanges, of pings or of releases.
use Rattle.std.proofs.Common.{◌≡◌, ℕ, ◌+◌, ◌<◌, ◌==◌, nat_lt, arith, Bool, true, false, cond, ◌&&◌, ◌||◌, not, List, [], ◌∷◌, ◌++◌, inl, Option, Some, None, refl, ap, sym, subst, ◌∙◌, append-nil}
use Rattle.std.specs.Prelude.{is_some}
use Rattle.std.specs.Option.{option_or}
use Rattle.mq_log.specs.declared.place.Place3.{Place3}
use Rattle.mq_rules.specs.declared.role.Role.{Role}
use Rattle.mq_rules.specs.declared.role.Tested.{Tested}
use Rattle.mq_rules.specs.declared.rule.Rule.{Rule}
use Rattle.mq_rules.specs.declared.rule.Rule.TheVariants.{E7R, L1, L2, L3}
use Rattle.mq_rules.specs.declared.fate.Fate.{Fate}
use Rattle.mq_rules.specs.declared.note.Seen.{Seen}
use Rattle.mq_rules.specs.Words.{is_some_and, is_id, only}
use Rattle.mq_rules.specs.Notes.{is_open, is_rest, is_release, released_id, received_exactly_once, sent_as, ended_in, unmatched_pubrec_in, success_pubcomp_in, is_received_pingreq, is_sent_pingresp}
use Rattle.mq_rules.specs.Connections.{accepts, begins, surprises}
use Rattle.mq_rules.specs.Exchanges.{Exchange, breaks_A, breaks_O, shows_R}
use Rattle.mq_rules.specs.Rules.{same_rule, binds}
use Rattle.mq_rules.specs.Statements.{statement, in_session, at_rest, if_early}
use Rattle.mq_rules.specs.FaultKeys.{FaultMap}
use Rattle.mq_rules.specs.Under.{IsUnder, fate_before, turns_with}
use Rattle.mq_rules.specs.Growing.{Gains}
use Rattle.mq_rules.proofs.Exports.{and_false, gains_either, option_or-none, or_false}
use Rattle.mq_exchanges.specs.declared.ordering.Debt.{Debt}
use Rattle.mq_exchanges.specs.declared.pings.Pings.{Pings}
use Rattle.mq_exchanges.specs.Concerns.{concerns_asked, concerns_owed, concerns_pings, concerns_releases}
use Rattle.mq_exchanges.specs.Answering.{IsApart}
use Rattle.mq_exchanges.specs.Askings.{IsAsked, answered_next, is_unasked}
use Rattle.mq_exchanges.specs.Owings.{due_next, IsOwing}
use Rattle.mq_exchanges.specs.Orderings.{left_by, looked_at, passes_over, queued_next, ordered_by}
use Rattle.mq_fates.specs.Taking.{ends_by}
use Rattle.mq_exchanges.specs.Pingings.{counted, is_server, IsPings}
use Rattle.mq_exchanges.specs.Releasing as releasing
use Rattle.mq_exchanges.specs.Releasing.{IsReleasing, is_inside, starts_over, kept_next, lasting}
use Rattle.mq_fates.specs.Knowing.{excused, is_placed}
use Rattle.mq_exchanges.proofs.AskedLaws.{asked-next, asked-gains}
use Rattle.mq_exchanges.proofs.OwingLaws.{owing-next, rest-gains, answer-gains}
use Rattle.mq_exchanges.proofs.PingLaws.{pings-next, pings-gains}
use Rattle.mq_exchanges.proofs.ReleaseLaws.{releasing-next, releases-gains}
use Rattle.mq_fates.proofs.Exports.{and2_false, closed-before, neither, nothing, only-none, same_cond, some-same}

-- ---- whether answers were asked for

pub asked-passes : (tested : Tested) (rule : Rule) (x : Exchange) (early : Bool) → IsApart x → statement tested.role rule ≡ in_session (if_early early tested.role (breaks_A x tested.role)) → (f fate : Fate) (opened : ℕ) (answered : ℕ → Option ℕ) (at : ℕ) (e : Seen) (past : List Seen) (bound : Bool)
    → concerns_asked x e.note ≡ false → IsUnder tested f at e past → bound ≡ binds rule tested → IsAsked x fate opened answered tested (fate_before tested f e past) past
    → IsAsked x fate opened answered tested (Some f) (e ∷ past) × ((m : FaultMap) → Gains (λ k r. same_rule r rule && turns_with tested f e past k r) tested (e ∷ past) at m m)
asked-passes tested rule x early apart says f fate opened answered at e past bound h under judged before =
    let n = e.note in
    let h1 = neither (is_open n) (is_some (x.cause n) || is_some (x.answer n)) h in
    let h2 = neither (is_some (x.cause n)) (is_some (x.answer n)) h1.1 in
    let asks : x.cause n ≡ None = nothing (x.cause n) h2.0 in
    let gives : x.answer n ≡ None = nothing (x.answer n) h2.1 in
    let o : IsAsked x fate opened answered tested (Some f) past = subst (λ (t : Option Fate). IsAsked x fate opened answered tested t past) (sym (closed-before tested f e past h1.0)) before in
    let next : IsAsked x f opened answered tested (Some f) (e ∷ past) =
    asked-next tested x f fate opened opened answered answered e past apart under.follows.placed.0 before (sym (ap (λ b. cond b e.place.position opened) h1.0)) (λ i. sym (
    ap (λ q. answered_next f n q (x.answer n) e.place.position i (answered i)) asks
    ∙ ap (λ q. answered_next f n None q e.place.position i (answered i)) gives
    ∙ ap (λ b. cond b (cond (begins (Some f)) None (answered i)) (cond (accepts f) (answered i) (answered i))) h1.0
    ∙ same_cond (accepts f) (answered i))) in (
      subst (λ (g : Fate). IsAsked x g opened answered tested (Some f) (e ∷ past)) (some-same f fate o.same_fate) next,
      λ m. asked-gains tested rule x early apart says f fate opened answered at e past m bound false under before judged
          (ap (excused (early && surprises f) (at == e.place.position)) (sym (ap (λ q. bound && is_unasked f opened q answered) gives ∙ and2_false bound (accepts f) false refl))),
    )

-- ---- what is owed

pub owing-passes : (tested : Tested) (x : Exchange) → IsApart x → (settled : Rule) (ordered : Option Rule) → statement tested.role settled ≡ at_rest (shows_R x) → ((rule : Rule) → ordered ≡ Some rule → statement tested.role rule ≡ in_session (λ f. breaks_O x))
    → (binding order_binding : Bool) (f fate : Fate) (ended : Bool) (due : ℕ → Option Place3) (queue : List Debt) (at : ℕ) (e : Seen) (past : List Seen)
    → concerns_owed x e.note ≡ false → IsUnder tested f at e past → ((i : ℕ) → is_some (due i) ≡ true → i < 65536) → IsOwing x settled ordered binding order_binding fate ended due queue tested (fate_before tested f e past) past
    → IsOwing x settled ordered binding order_binding fate ended due queue tested (Some f) (e ∷ past)
    × ((m : FaultMap) → Gains (λ k r. (same_rule r settled || is_some_and (same_rule r) ordered) && turns_with tested f e past k r) tested (e ∷ past) at m m)
owing-passes tested x apart settled ordered says_settled says_ordered binding order_binding f fate ended due queue at e past h under within before =
    let n = e.note in
    let h1 = neither (is_open n) (is_rest n || (ends_by n || (is_some (x.cause n) || is_some (x.answer n)))) h in
    let h2 = neither (is_rest n) (ends_by n || (is_some (x.cause n) || is_some (x.answer n))) h1.1 in
    let h3 = neither (ends_by n) (is_some (x.cause n) || is_some (x.answer n)) h2.1 in
    let h4 = neither (is_some (x.cause n)) (is_some (x.answer n)) h3.1 in
    let asks : x.cause n ≡ None = nothing (x.cause n) h4.0 in
    let gives : x.answer n ≡ None = nothing (x.answer n) h4.1 in
    let o : IsOwing x settled ordered binding order_binding fate ended due queue tested (Some f) past =
    subst (λ (t : Option Fate). IsOwing x settled ordered binding order_binding fate ended due queue tested t past) (sym (closed-before tested f e past h1.0)) before in
    let next : IsOwing x settled ordered binding order_binding f ended due queue tested (Some f) (e ∷ past) =
    owing-next tested x apart settled ordered binding order_binding f fate at ended ended due due due queue queue queue queue e past under before
    (sym (ap (λ b. b || (not (is_open n) && ended)) h3.0 ∙ ap (λ b. not b && ended) h1.0))
    (λ i. sym (ap (λ q. cond (accepts f && is_id i q) None (due i)) gives ∙ ap (λ b. cond b None (due i)) (and_false (accepts f))))
    (λ accepted i. sym (
    ap (λ q. due_next n q None e.place i (due i)) asks
    ∙ ap (λ b. option_or (cond b None (due i)) None) h1.0
    ∙ option_or-none (due i)))
    (λ rejected i. refl)
    (sym (ap (λ q. cond (accepts f) (cond order_binding (left_by due due q queue) queue) queue) gives
    ∙ ap (λ q. cond (accepts f) q queue) (same_cond order_binding queue)
    ∙ same_cond (accepts f) queue))
    (sym (ap (λ q. cond (is_some ordered && accepts f) (queued_next n q e.place.position due queue) queue) asks
    ∙ ap (λ b. cond (is_some ordered && accepts f) (cond b [] (queue ++ [])) queue) h1.0
    ∙ ap (λ q. cond (is_some ordered && accepts f) q queue) (append-nil queue)
    ∙ same_cond (is_some ordered && accepts f) queue))
    (inl refl)
    (λ m test has queued passes. absurd (let bad : false ≡ true = sym h4.0 ∙ has in cc)) in (
      subst (λ (g : Fate). IsOwing x settled ordered binding order_binding g ended due queue tested (Some f) (e ∷ past)) (some-same f fate o.owed.same_fate) next,
      λ m. gains_either (λ r. same_rule r settled) (λ r. is_some_and (same_rule r) ordered) (turns_with tested f e past) tested (e ∷ past) at m m m
          (rest-gains tested x apart settled ordered says_settled binding order_binding f fate ended due queue at e past m false under within before
          (sym (ap (λ b. binding && (b && ((at == e.place.position) && (accepts f && not ended)))) h2.0 ∙ and_false binding)))
          (silent-order ordered m (answer-gains tested x apart settled ordered says_ordered binding order_binding f fate ended due queue at e past m false under before
          (sym (ap (λ q. order_binding && (accepts f && passes_over due q (looked_at due q queue))) gives ∙ and2_false order_binding (accepts f) false refl)))),
    )
  where
    silent-order : (o : Option Rule) (m : FaultMap) → Gains (λ k r. is_some_and (same_rule r) o && turns_with tested f e past k r) tested (e ∷ past) at m (ordered_by o false e.place at m)
        → Gains (λ k r. is_some_and (same_rule r) o && turns_with tested f e past k r) tested (e ∷ past) at m m
    silent-order None m g = g
    silent-order (Some rule) m g = g

-- ---- pings

zero-more : (n : ℕ) → 0 + n ≡ n
zero-more n = omega arith

pub pings-passes : (tested : Tested) (s : Pings) (f : Fate) (at : ℕ) (e : Seen) (past : List Seen) → concerns_pings e.note ≡ false → IsUnder tested f at e past → IsPings s tested (fate_before tested f e past) past
    → IsPings s tested (Some f) (e ∷ past) × ((m : FaultMap) → Gains (λ k r. same_rule r E7R && turns_with tested f e past k r) tested (e ∷ past) at m m)
pings-passes tested s f at e past h under was =
    let n = e.note in
    let h1 = neither (is_open n) (is_rest n || (ends_by n || (is_received_pingreq n || is_sent_pingresp n))) h in
    let h2 = neither (is_rest n) (ends_by n || (is_received_pingreq n || is_sent_pingresp n)) h1.1 in
    let h3 = neither (ends_by n) (is_received_pingreq n || is_sent_pingresp n) h2.1 in
    let h4 = neither (is_received_pingreq n) (is_sent_pingresp n) h3.1 in
    let p : IsPings s tested (Some f) past = subst (λ (t : Option Fate). IsPings s tested t past) (sym (closed-before tested f e past h1.0)) was in
    let next : IsPings (record { role = s.role; fate = f; ended = s.ended; asked = s.asked; answered = s.answered }) tested (Some f) (e ∷ past) =
    pings-next tested s (Some f) f at e past s.ended s.asked s.answered p under
    (sym (ap (λ b. b || (not (is_open n) && s.ended)) h3.0 ∙ ap (λ b. not b && s.ended) h1.0))
    (λ below. sym (ap (λ b. counted b (is_open n) s.asked) h4.0 ∙ ap (λ b. counted false b s.asked) h1.0 ∙ zero-more s.asked))
    (λ below. sym (ap (λ b. counted b (is_open n) s.answered) h4.1 ∙ ap (λ b. counted false b s.answered) h1.0 ∙ zero-more s.answered)) in (
      subst (λ (g : Fate). IsPings (record { role = s.role; fate = g; ended = s.ended; asked = s.asked; answered = s.answered }) tested (Some f) (e ∷ past)) (some-same f s.fate p.same_fate) next,
      λ m. pings-gains tested s f (Some f) at e past m false under p
          (sym (ap (λ b. is_server s.role && (accepts f && ((b && ((at == e.place.position) && (accepts f && not s.ended))) && nat_lt s.answered s.asked))) h2.0 ∙ and2_false (is_server s.role) (accepts f) false refl)),
    )

-- ---- releases

gained-nothing : (inside over old : Bool) → over ≡ false → kept_next over inside None None 0 old ≡ old
gained-nothing inside over old h = ap (λ b. kept_next b inside None None 0 old) h ∙ same_cond inside old

pub releasing-passes : (tested : Tested) (role : Role) (releases : Bool) (fate f : Fate) (any : Bool) (brought released due : ℕ → Bool) (at : ℕ) (e : Seen) (past : List Seen)
    → concerns_releases e.note ≡ false → IsUnder tested f at e past → IsReleasing role releases fate any brought released due tested (fate_before tested f e past) past
    → IsReleasing role releases fate any brought released due tested (Some f) (e ∷ past)
    × ((m : FaultMap) → Gains (λ k r. ((same_rule r L1 || same_rule r L2) || same_rule r L3) && turns_with tested f e past k r) tested (e ∷ past) at m m)
releasing-passes tested role releases fate f any brought released due at e past h under before =
    let n = e.note in
    let h1 = neither (is_open n) (is_release n || (is_some (released_id n) || (is_some (received_exactly_once n) || (is_some (sent_as ended_in n) || (is_some (sent_as unmatched_pubrec_in n) || is_some (sent_as success_pubcomp_in n)))))) h in
    let h2 = neither (is_release n) (is_some (released_id n) || (is_some (received_exactly_once n) || (is_some (sent_as ended_in n) || (is_some (sent_as unmatched_pubrec_in n) || is_some (sent_as success_pubcomp_in n))))) h1.1 in
    let h3 = neither (is_some (released_id n)) (is_some (received_exactly_once n) || (is_some (sent_as ended_in n) || (is_some (sent_as unmatched_pubrec_in n) || is_some (sent_as success_pubcomp_in n)))) h2.1 in
    let h4 = neither (is_some (received_exactly_once n)) (is_some (sent_as ended_in n) || (is_some (sent_as unmatched_pubrec_in n) || is_some (sent_as success_pubcomp_in n))) h3.1 in
    let h5 = neither (is_some (sent_as ended_in n)) (is_some (sent_as unmatched_pubrec_in n) || is_some (sent_as success_pubcomp_in n)) h4.1 in
    let h6 = neither (is_some (sent_as unmatched_pubrec_in n)) (is_some (sent_as success_pubcomp_in n)) h5.1 in
    let frees : released_id n ≡ None = nothing (released_id n) h3.0 in
    let brings : received_exactly_once n ≡ None = nothing (received_exactly_once n) h4.0 in
    let ends : sent_as ended_in n ≡ None = nothing (sent_as ended_in n) h5.0 in
    let unmatched : sent_as unmatched_pubrec_in n ≡ None = nothing (sent_as unmatched_pubrec_in n) h6.0 in
    let completes : sent_as success_pubcomp_in n ≡ None = nothing (sent_as success_pubcomp_in n) h6.1 in
    let over : starts_over f n ≡ false = ap (λ b. b && begins (Some f)) h1.0 in
    let inside = is_inside f n any in
    let r : IsReleasing role releases fate any brought released due tested (Some f) past =
    subst (λ (t : Option Fate). IsReleasing role releases fate any brought released due tested t past) (sym (closed-before tested f e past h1.0)) before in
    let lasts : lasting n brought ≡ None = ap (λ o. only (not (is_some_and brought o) && not (releasing.expires n)) o) brings ∙ only-none {A = ℕ} (true && not (releasing.expires n)) in
    let next : IsReleasing role releases f any brought released due tested (Some f) (e ∷ past) =
    releasing-next tested role releases fate f any brought released due inside (starts_over f n) any brought released due e past before refl refl
    (sym (ap (λ b. any || (b && accepts f)) h1.0 ∙ or_false any))
    (λ i. sym (
    ap (λ o. kept_next false inside o (sent_as ended_in n) i (kept_next (starts_over f n) inside None (sent_as unmatched_pubrec_in n) i (due i))) lasts
    ∙ ap (λ o. kept_next false inside None o i (kept_next (starts_over f n) inside None (sent_as unmatched_pubrec_in n) i (due i))) ends
    ∙ ap (λ o. kept_next false inside None None i (kept_next (starts_over f n) inside None o i (due i))) unmatched
    ∙ gained-nothing inside false (kept_next (starts_over f n) inside None None i (due i)) refl
    ∙ gained-nothing inside (starts_over f n) (due i) over))
    (λ i. sym (
    ap (λ o. kept_next (starts_over f n) inside o (sent_as ended_in n) i (brought i)) brings
    ∙ ap (λ o. kept_next (starts_over f n) inside None o i (brought i)) ends
    ∙ gained-nothing inside (starts_over f n) (brought i) over))
    (λ i. sym (
    ap (λ o. kept_next (starts_over f n) inside o (sent_as ended_in n) i (released i)) frees
    ∙ ap (λ o. kept_next (starts_over f n) inside None o i (released i)) ends
    ∙ gained-nothing inside (starts_over f n) (released i) over)) in (
      subst (λ (g : Fate). IsReleasing role releases g any brought released due tested (Some f) (e ∷ past)) (some-same f fate r.same_fate) next,
      λ m. releases-gains tested role releases fate f any brought released due at e past m m m m false false false under before
          (ap (λ b. b && is_placed f (at == e.place.position)) (sym (ap (λ o. releases && is_some_and (λ i. not (brought i)) o) frees ∙ and_false releases))) refl
          (ap (λ b. b && is_placed f (at == e.place.position)) (sym (ap (λ o. releases && is_some_and released o) frees ∙ and_false releases))) refl
          (sym (and2_false releases (accepts f) (is_some_and (λ i. not (released i) && due i) (sent_as success_pubcomp_in n)) (ap (λ o. is_some_and (λ i. not (released i) && due i) o) completes))) refl,
    )
