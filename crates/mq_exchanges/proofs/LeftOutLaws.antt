-- An event that doesn't concern a book is no place of its statements.
use Rattle.std.proofs.Common.{◌≡◌, ℕ, ◌+◌, ◌<◌, ◌==◌, nat_lt, Bool, true, false, cond, ◌&&◌, ◌||◌, not, List, ◌∷◌, Option, Some, refl, ap, sym, ◌∙◌}
use Rattle.std.specs.Prelude.{is_some}
use Rattle.mq_log.specs.declared.place.Place3.{Place3}
use Rattle.mq_rules.specs.declared.role.Role.{Role}
use Rattle.mq_rules.specs.declared.role.Tested.{Tested}
use Rattle.mq_rules.specs.declared.rule.Rule.{Rule}
use Rattle.mq_rules.specs.declared.rule.Rule.TheVariants.{E7R, L1, L2, L3}
use Rattle.mq_rules.specs.declared.fate.Fate.{Fate}
use Rattle.mq_rules.specs.declared.note.Seen.{Seen}
use Rattle.mq_rules.specs.Words.{is_some_and}
use Rattle.mq_rules.specs.Notes.{is_open, is_rest, is_release, released_id, received_exactly_once, sent_as, ended_in, unmatched_pubrec_in, success_pubcomp_in, is_received_pingreq, is_sent_pingresp}
use Rattle.mq_rules.specs.Connections.{accepts, surprises}
use Rattle.mq_rules.specs.Exchanges.{Exchange, applies_A, applies_O, applies_R}
use Rattle.mq_rules.specs.Occasions.{occasion, places_under}
use Rattle.mq_rules.specs.Rules.{binds}
use Rattle.mq_rules.specs.Statements.{at_rest, if_early, in_session}
use Rattle.mq_rules.specs.Under.{IsUnder, fate_before}
use Rattle.mq_rules.proofs.Exports.{and_false}
use Rattle.mq_exchanges.specs.declared.pings.Pings.{Pings}
use Rattle.mq_exchanges.specs.Answering.{IsApart}
use Rattle.mq_exchanges.specs.Concerns.{concerns_asked, concerns_owed, concerns_pings, concerns_releases}
use Rattle.mq_fates.specs.Knowing.{excused, is_placed}
use Rattle.mq_exchanges.specs.Orderings.{chooses}
use Rattle.mq_exchanges.specs.Owings.{IsOwed, IsSettling, due_of, place_of}
use Rattle.mq_exchanges.specs.Pingings.{IsPings, is_server}
use Rattle.mq_fates.specs.Taking.{ends_by}
use Rattle.mq_exchanges.specs.Releasing.{IsReleasing}
use Rattle.mq_exchanges.proofs.AskedPlacesLaws.{asked-places}
use Rattle.mq_exchanges.proofs.ChoosingLaws.{ordered-places}
use Rattle.mq_fates.proofs.Exports.{and2_false, neither, nothing, none-counted}
use Rattle.mq_exchanges.proofs.PingLaws.{pings-places}
use Rattle.mq_exchanges.proofs.ReleasePlacesLaws.{L1-places, L2-places, L3-places}
use Rattle.mq_exchanges.proofs.SettlingLaws.{settling-next}

-- ---- pings

pub pings-leaves : (tested : Tested) (s : Pings) (f : Fate) (at : ℕ) (e : Seen) (past : List Seen) (n : ℕ) → concerns_pings e.note ≡ false → IsUnder tested f at e past → IsPings s tested (fate_before tested f e past) past
    → n ≡ places_under tested (fate_before tested f e past) past E7R → n ≡ places_under tested (Some f) (e ∷ past) E7R
pings-leaves tested s f at e past n h under kept was =
    let x = e.note in
    let h1 = neither (is_open x) (is_rest x || (ends_by x || (is_received_pingreq x || is_sent_pingresp x))) h in
    let h2 = neither (is_rest x) (ends_by x || (is_received_pingreq x || is_sent_pingresp x)) h1.1 in
    pings-places tested s (fate_before tested f e past) f at e past false n n kept under was
    (sym (ap (λ b. is_server s.role && (accepts f && ((b && ((at == e.place.position) && (accepts f && not s.ended))) && nat_lt 0 s.asked))) h2.0 ∙ and2_false (is_server s.role) (accepts f) false refl))
    (λ low. none-counted n)

-- ---- whether answers were asked for

pub asked-leaves : (tested : Tested) (rule : Rule) (x : Exchange) (early : Bool) → IsApart x → occasion tested.role rule ≡ Some (in_session (if_early early tested.role (λ f. applies_A x)))
    → (f : Fate) (at : ℕ) (e : Seen) (past : List Seen) (n : ℕ) → concerns_asked x e.note ≡ false → IsUnder tested f at e past
    → n ≡ places_under tested (fate_before tested f e past) past rule → n ≡ places_under tested (Some f) (e ∷ past) rule
asked-leaves tested rule x early packets says f at e past n h under was =
    let h1 = neither (is_open e.note) (is_some (x.cause e.note) || is_some (x.answer e.note)) h in
    let h2 = neither (is_some (x.cause e.note)) (is_some (x.answer e.note)) h1.1 in
    asked-places tested rule x early packets says f at e past false n n under was
    (sym (
    ap (λ b. excused (early && surprises f) (at == e.place.position) (binds rule tested && (accepts f && b))) h2.1
    ∙ ap (excused (early && surprises f) (at == e.place.position)) (and2_false (binds rule tested) (accepts f) false refl)))
    (λ low. none-counted n)

-- ---- what is owed

pub settling-leaves : (tested : Tested) (x : Exchange) (settled : Rule) (f fate : Fate) (at : ℕ) (ended binding : Bool) (due : ℕ → Option Place3) (e : Seen) (past : List Seen) (pending number : ℕ)
    → IsApart x → occasion tested.role settled ≡ Some (at_rest (applies_R x)) → concerns_owed x e.note ≡ false → e.place.position < 4294967296 → IsUnder tested f at e past
    → IsOwed x fate ended due tested (fate_before tested f e past) past → binding ≡ binds settled tested
    → IsSettling x settled pending number tested (fate_before tested f e past) past → IsSettling x settled pending number tested (Some f) (e ∷ past)
settling-leaves tested x settled f fate at ended binding due e past pending number packets says h small under owed binds_are was =
    let n = e.note in
    let h1 = neither (is_open n) (is_rest n || (ends_by n || (is_some (x.cause n) || is_some (x.answer n)))) h in
    let h2 = neither (is_rest n) (ends_by n || (is_some (x.cause n) || is_some (x.answer n))) h1.1 in
    let h3 = neither (ends_by n) (is_some (x.cause n) || is_some (x.answer n)) h2.1 in
    let h4 = neither (is_some (x.cause n)) (is_some (x.answer n)) h3.1 in
    settling-next tested x settled f fate at ended binding due e past pending number false false pending number packets says under owed binds_are was
    (sym (ap (λ b. binding && (b && ((at == e.place.position) && (accepts f && not ended)))) h2.0 ∙ and_false binding))
    (sym (ap (λ o. is_some_and (λ i. not (is_some (due i))) o) (nothing (x.cause n) h4.0)))
    small (λ low. refl)
    (λ low. none-counted pending ∙ sym (ap (λ b. cond false 1 0 + cond (b || false) 0 pending) h1.0))

pub ordered-leaves : (tested : Tested) (rule : Rule) (x : Exchange) → IsApart x → occasion tested.role rule ≡ Some (in_session (λ f. applies_O x)) → (f fate : Fate) (due : ℕ → Option Place3) (at : ℕ) (e : Seen) (past : List Seen) (n : ℕ)
    → concerns_owed x e.note ≡ false → IsUnder tested f at e past → fate_before tested f e past ≡ Some fate → (accepts fate ≡ true → (j : ℕ) → due j ≡ place_of (due_of x j past)) → ((j : ℕ) → is_some (due j) ≡ true → j < 65536)
    → n ≡ places_under tested (fate_before tested f e past) past rule → n ≡ places_under tested (Some f) (e ∷ past) rule
ordered-leaves tested rule x packets says f fate due at e past n h under before are within was =
    let q = e.note in
    let h1 = neither (is_open q) (is_rest q || (ends_by q || (is_some (x.cause q) || is_some (x.answer q)))) h in
    let h2 = neither (is_rest q) (ends_by q || (is_some (x.cause q) || is_some (x.answer q))) h1.1 in
    let h3 = neither (ends_by q) (is_some (x.cause q) || is_some (x.answer q)) h2.1 in
    let h4 = neither (is_some (x.cause q)) (is_some (x.answer q)) h3.1 in
    ordered-places tested rule x packets says f fate due at e past false n n under before are within was
    (sym (and2_false (binds rule tested) (accepts f) (chooses due (x.answer q)) (ap (chooses due) (nothing (x.answer q) h4.1))))
    (λ low. none-counted n)

-- ---- releases

pub releases-leave : (tested : Tested) (role : Role) (releases : Bool) (fate f : Fate) (any : Bool) (brought released due : ℕ → Bool) (at : ℕ) (e : Seen) (past : List Seen) (freed completed : ℕ)
    → concerns_releases e.note ≡ false → IsUnder tested f at e past → IsReleasing role releases fate any brought released due tested (fate_before tested f e past) past
    → (freed ≡ places_under tested (fate_before tested f e past) past L1) × (freed ≡ places_under tested (fate_before tested f e past) past L2) × (completed ≡ places_under tested (fate_before tested f e past) past L3)
    → (freed ≡ places_under tested (Some f) (e ∷ past) L1) × (freed ≡ places_under tested (Some f) (e ∷ past) L2) × (completed ≡ places_under tested (Some f) (e ∷ past) L3)
releases-leave tested role releases fate f any brought released due at e past freed completed h under kept was =
    let n = e.note in
    let h1 = neither (is_open n) (is_release n || (is_some (released_id n) || (is_some (received_exactly_once n) || (is_some (sent_as ended_in n) || (is_some (sent_as unmatched_pubrec_in n) || is_some (sent_as success_pubcomp_in n)))))) h in
    let h2 = neither (is_release n) (is_some (released_id n) || (is_some (received_exactly_once n) || (is_some (sent_as ended_in n) || (is_some (sent_as unmatched_pubrec_in n) || is_some (sent_as success_pubcomp_in n))))) h1.1 in
    let h3 = neither (is_some (released_id n)) (is_some (received_exactly_once n) || (is_some (sent_as ended_in n) || (is_some (sent_as unmatched_pubrec_in n) || is_some (sent_as success_pubcomp_in n)))) h2.1 in
    let h4 = neither (is_some (received_exactly_once n)) (is_some (sent_as ended_in n) || (is_some (sent_as unmatched_pubrec_in n) || is_some (sent_as success_pubcomp_in n))) h3.1 in
    let h5 = neither (is_some (sent_as ended_in n)) (is_some (sent_as unmatched_pubrec_in n) || is_some (sent_as success_pubcomp_in n)) h4.1 in
    let h6 = neither (is_some (sent_as unmatched_pubrec_in n)) (is_some (sent_as success_pubcomp_in n)) h5.1 in
    let here : false ≡ ((releases && is_some (released_id n)) && is_placed f (at == e.place.position)) =
    sym (ap (λ b. (releases && b) && is_placed f (at == e.place.position)) h3.0 ∙ ap (λ b. b && is_placed f (at == e.place.position)) (and_false releases)) in (
      L1-places tested releases f at e past false freed freed kept.same_releases under was.0 here (λ low. none-counted freed),
      L2-places tested releases f at e past false freed freed kept.same_releases under was.1 here (λ low. none-counted freed),
      L3-places tested role releases fate f any brought released due at e past false completed completed kept under was.2
          (sym (and2_false releases (accepts f) (is_some_and due (sent_as success_pubcomp_in n)) (ap (is_some_and due) (nothing (sent_as success_pubcomp_in n) h6.1)))) (λ low. none-counted completed),
    )
