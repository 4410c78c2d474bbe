-- Events whose packets have no properties, in the book of releases.
use Rattle.std.proofs.Common.{◌≡◌, ℕ, ◌==◌, Bool, true, false, cond, ◌&&◌, ◌||◌, not, List, ◌∷◌, Option, Some, None, Bor, refl, ap, sym, subst, ◌∙◌}
use Rattle.mq_packet.specs.declared.packet.Qos.{Qos}
use Rattle.mq_log.specs.declared.kind.Direction.{Direction}
use Rattle.mq_log.specs.declared.kind.Direction.TheVariants.{Sent, Recv}
use Rattle.mq_rules.specs.declared.role.Tested.{Tested}
use Rattle.mq_rules.specs.declared.fate.Fate.{Fate}
use Rattle.mq_rules.specs.declared.rule.Rule.TheVariants.{L3}
use Rattle.mq_rules.specs.declared.note.Note.{Note}
use Rattle.mq_rules.specs.declared.note.Seen.{Seen}
use Rattle.mq_rules.specs.declared.bare.Bare.{Bare}
use Rattle.mq_rules.specs.declared.bare.BareFields.{BareFields}
use Rattle.mq_rules.specs.declared.bare.BareFields.TheVariants as bares
use Rattle.mq_rules.specs.Words.{is_some_and, only}
use Rattle.mq_rules.specs.Notes.{bare_note, bare_fields, note_of_bare, is_exactly_once, refuses, received_exactly_once, sent_as, ended_in}
use Rattle.mq_rules.specs.Connections.{accepts, begins, is_void}
use Rattle.mq_rules.specs.FaultKeys.{FaultMap}
use Rattle.mq_rules.specs.Under.{Follows, IsKnown, fate_before, turns_with}
use Rattle.mq_rules.specs.Growing.{Gains}
use Rattle.mq_rules.proofs.Exports.{and_false, or_false}
use Rattle.mq_exchanges.specs.declared.releases.Releases.{Releases}
use Rattle.mq_fates.specs.Judgements.{judged_by}
use Rattle.mq_exchanges.specs.Releasing.{expires, kept_next, lasting_of, due_by, completes_unreleased, IsReleasing, has_id}
use Rattle.mq_exchanges.specs.Receiving.{Receives, IsReceived, is_release_rule, IsLedTo, IsStep}
use Rattle.mq_fates.specs.Knowing.{is_placed}
use Rattle.mq_fates.proofs.Exports.{Knows, knows, known-gains}
use Rattle.mq_exchanges.proofs.ReleaseLaws.{releasing-next, releases-gains}

-- ---- what is kept

received-next : (tested : Tested) (s t : Releases) (e : Seen) (past : List Seen) (brings unmatched ender completed : Option ℕ) → IsLedTo s tested (fate_before tested s.fate e past) past → Receives e.note brings unmatched ender completed
    → IsReceived brings unmatched ender s t → IsLedTo t tested (Some s.fate) (e ∷ past)
received-next tested s t e past brings unmatched ender completed before m w =
    record {
      same_role = w.same_role ∙ r.same_role;
      same_releases = w.same_releases ∙ r.same_releases;
      same_fate = ap Some (sym w.same_fate);
      any_are = w.same_accepted ∙ r.any_are;
      brought_are = r.brought_are;
      released_are = r.released_are;
      due_are = r.due_are;
    }
  where
    n : Note
    n = e.note

    r : IsReleasing s.role s.releases s.fate s.has_accepted (has_id t.brought) (has_id t.released) (has_id t.due) tested (Some s.fate) (e ∷ past)
    r = releasing-next tested s.role s.releases s.fate s.fate s.has_accepted (has_id s.brought) (has_id s.released) (has_id s.due) (accepts s.fate) false s.has_accepted (has_id t.brought) (has_id t.released) (has_id t.due) e past before
        (sym (ap (λ b. accepts s.fate || (b && (is_void s.fate && s.has_accepted))) m.unreleased ∙ or_false (accepts s.fate)))
        (sym (ap (λ b. b && begins (Some s.fate)) m.closed))
        (sym (ap (λ b. s.has_accepted || (b && accepts s.fate)) m.closed ∙ or_false s.has_accepted))
        (λ i. w.due_are i ∙ sym (
        ap (λ o. due_by false (accepts s.fate) o (lasting_of (received_exactly_once n) (expires n) (has_id s.brought)) (sent_as ended_in n) i (has_id s.due i)) m.lapses
        ∙ ap (λ o. due_by false (accepts s.fate) unmatched (lasting_of o (expires n) (has_id s.brought)) (sent_as ended_in n) i (has_id s.due i)) m.brought
        ∙ ap (λ b. due_by false (accepts s.fate) unmatched (lasting_of brings b (has_id s.brought)) (sent_as ended_in n) i (has_id s.due i)) m.lasts
        ∙ ap (λ o. due_by false (accepts s.fate) unmatched (lasting_of brings false (has_id s.brought)) o i (has_id s.due i)) m.ends))
        (λ i. w.brought_are i ∙ sym (
        ap (λ o. kept_next false (accepts s.fate) o (sent_as ended_in n) i (has_id s.brought i)) m.brought
        ∙ ap (λ o. kept_next false (accepts s.fate) brings o i (has_id s.brought i)) m.ends))
        (λ i. w.released_are i ∙ sym (
        ap (λ o. kept_next false (accepts s.fate) o (sent_as ended_in n) i (has_id s.released i)) m.frees
        ∙ ap (λ o. kept_next false (accepts s.fate) None o i (has_id s.released i)) m.ends))

-- ---- what it shows

abbrev lacking : Releases → Option ℕ → Bool
lacking s completed = s.releases && completes_unreleased s.fate completed (has_id s.released) (has_id s.due)

received-gains : (tested : Tested) (s : Releases) (taken : Option Fate) (e : Seen) (past : List Seen) (m new : FaultMap) (brings unmatched ender completed : Option ℕ) → Knows tested s.fate taken e past
    → IsLedTo s tested (fate_before tested s.fate e past) past → Receives e.note brings unmatched ender completed → new ≡ judged_by (lacking s completed) L3 e.place e.place.position m
    → Gains (λ k r. is_release_rule r && turns_with tested s.fate e past k r) tested (e ∷ past) e.place.position m new
received-gains tested s taken e past m new brings unmatched ender completed k before w now =
    releases-gains tested s.role s.releases s.fate s.fate s.has_accepted (has_id s.brought) (has_id s.released) (has_id s.due) e.place.position e past m m m new false false (lacking s completed) k.under before
    (ap (λ b. b && is_placed s.fate (e.place.position == e.place.position)) (sym (ap (λ o. s.releases && is_some_and (λ i. not (has_id s.brought i)) o) w.frees ∙ and_false s.releases))) refl
    (ap (λ b. b && is_placed s.fate (e.place.position == e.place.position)) (sym (ap (λ o. s.releases && is_some_and (has_id s.released) o) w.frees ∙ and_false s.releases))) refl
    (sym (ap (lacking s) w.completes)) now

-- ---- a step

pub received-step : (tested : Tested) (s t : Releases) (taken : Option Fate) (e : Seen) (past : List Seen) (m new : FaultMap) (brings unmatched ender completed : Option ℕ) → Receives e.note brings unmatched ender completed → Follows tested e past → IsKnown tested taken e past
    → IsLedTo s tested taken past → IsReceived brings unmatched ender s t → new ≡ judged_by (s.releases && completes_unreleased s.fate completed (has_id s.released) (has_id s.due)) L3 e.place e.place.position m → IsStep e t tested past m new
received-step tested s t taken e past m new brings unmatched ender completed w follows known u is now =
    let k = knows tested s.fate taken e past follows known u.same_fate in
    let v = subst (λ o. IsLedTo s tested o past) k.before u in
    record {
      agrees = subst (λ o. IsLedTo t tested o (e ∷ past)) k.after (received-next tested s t e past brings unmatched ender completed v w is);
      grows = known-gains tested s.fate taken is_release_rule e past m new k (received-gains tested s taken e past m new brings unmatched ender completed k v w now);
    }

-- one that completes nothing shows nothing
pub received-unseen : (tested : Tested) (s t : Releases) (taken : Option Fate) (e : Seen) (past : List Seen) (m : FaultMap) (brings unmatched ender : Option ℕ) → Receives e.note brings unmatched ender None → Follows tested e past → IsKnown tested taken e past
    → IsLedTo s tested taken past → IsReceived brings unmatched ender s t → IsStep e t tested past m m
received-unseen tested s t taken e past m brings unmatched ender w follows known u is =
    received-step tested s t taken e past m m brings unmatched ender None w follows known u is
    (sym (ap (λ b. judged_by (s.releases && b) L3 e.place e.place.position m) (and_false (accepts s.fate)) ∙ ap (λ b. judged_by b L3 e.place e.place.position m) (and_false s.releases)))

same : (inside old : Bool) → cond inside old old ≡ old
same true old = refl
same false old = refl

-- one that does nothing leaves the book as it is
pub received-nothing : (tested : Tested) (s : Releases) (taken : Option Fate) (e : Seen) (past : List Seen) (m : FaultMap) → Receives e.note None None None None → Follows tested e past → IsKnown tested taken e past → IsLedTo s tested taken past → IsStep e s tested past m m
received-nothing tested s taken e past m w follows known u =
    received-unseen tested s s taken e past m None None None w follows known u
    (record {
      same_role = refl;
      same_releases = refl;
      same_fate = refl;
      same_accepted = refl;
      brought_are = λ i. sym (same (accepts s.fate) (has_id s.brought i));
      released_are = λ i. sym (same (accepts s.fate) (has_id s.released i));
      due_are = λ i. sym (ap (λ b. cond (accepts s.fate) b b) (same (accepts s.fate) (has_id s.due i)) ∙ same (accepts s.fate) (has_id s.due i));
    })

-- ---- what each bare packet does

-- a packet by its direction and its fields
bare-is : (b : Bare) (way : Direction) (fields : BareFields) → b.direction ≡ way → b.fields ≡ fields → bare_note way b.size (bare_fields way fields) ≡ note_of_bare b
unfolding note_of_bare
bare-is b way fields same_way same_fields = sym (ap (λ x. bare_note x b.size (bare_fields x b.fields)) same_way ∙ ap (λ (y : BareFields). bare_note way b.size (bare_fields way y)) same_fields)

pub publish-receives : (b : Bare) (o : Option ℕ) (q : Qos) (d : Bool) (topic : Bor (List ℕ)) → b.direction ≡ Recv → b.fields ≡ bares.Publish o q d topic → Receives (note_of_bare b) (only (is_exactly_once q) o) None None None
publish-receives b o q d topic way is =
    subst (λ (n : Note). Receives n (only (is_exactly_once q) o) None None None) (bare-is b Recv (bares.Publish o q d topic) way is)
    (record { closed = refl; unreleased = refl; frees = refl; lasts = refl; brought = refl; lapses = refl; ends = refl; completes = refl })

pub pubrec-receives : (b : Bare) (i code : ℕ) → b.direction ≡ Sent → b.fields ≡ bares.Pubrec i code → Receives (note_of_bare b) None (only (code == 16) (Some i)) (only (refuses code) (Some i)) None
pubrec-receives b i code way is =
    subst (λ (n : Note). Receives n None (only (code == 16) (Some i)) (only (refuses code) (Some i)) None) (bare-is b Sent (bares.Pubrec i code) way is)
    (record { closed = refl; unreleased = refl; frees = refl; lasts = refl; brought = refl; lapses = refl; ends = refl; completes = refl })

pub pubcomp-receives : (b : Bare) (i code : ℕ) → b.direction ≡ Sent → b.fields ≡ bares.Pubcomp i code → Receives (note_of_bare b) None None (Some i) (only (code == 0) (Some i))
pubcomp-receives b i code way is =
    subst (λ (n : Note). Receives n None None (Some i) (only (code == 0) (Some i))) (bare-is b Sent (bares.Pubcomp i code) way is)
    (record { closed = refl; unreleased = refl; frees = refl; lasts = refl; brought = refl; lapses = refl; ends = refl; completes = refl })

-- all others do nothing
nothing-sent : (size : ℕ) (fields : BareFields) → ((i code : ℕ) → fields ≡ bares.Pubrec i code → ⊥) → ((i code : ℕ) → fields ≡ bares.Pubcomp i code → ⊥) → Receives (bare_note Sent size (bare_fields Sent fields)) None None None None
nothing-sent size (bares.Pubrec i code) pubrec pubcomp = absurd (pubrec i code refl)
nothing-sent size (bares.Pubcomp i code) pubrec pubcomp = absurd (pubcomp i code refl)
nothing-sent size _ pubrec pubcomp = record { closed = refl; unreleased = refl; frees = refl; lasts = refl; brought = refl; lapses = refl; ends = refl; completes = refl }

pub sent-nothing : (b : Bare) → b.direction ≡ Sent → ((i code : ℕ) → b.fields ≡ bares.Pubrec i code → ⊥) → ((i code : ℕ) → b.fields ≡ bares.Pubcomp i code → ⊥) → Receives (note_of_bare b) None None None None
sent-nothing b way pubrec pubcomp = subst (λ (n : Note). Receives n None None None None) (bare-is b Sent b.fields way refl) (nothing-sent b.size b.fields pubrec pubcomp)

nothing-received : (size : ℕ) (fields : BareFields) → ((o : Option ℕ) (q : Qos) (d : Bool) (topic : Bor (List ℕ)) → fields ≡ bares.Publish o q d topic → ⊥) → Receives (bare_note Recv size (bare_fields Recv fields)) None None None None
nothing-received size (bares.Publish o q d topic) publish = absurd (publish o q d topic refl)
nothing-received size _ publish = record { closed = refl; unreleased = refl; frees = refl; lasts = refl; brought = refl; lapses = refl; ends = refl; completes = refl }

pub received-none : (b : Bare) → b.direction ≡ Recv → ((o : Option ℕ) (q : Qos) (d : Bool) (topic : Bor (List ℕ)) → b.fields ≡ bares.Publish o q d topic → ⊥) → Receives (note_of_bare b) None None None None
received-none b way publish = subst (λ (n : Note). Receives n None None None None) (bare-is b Recv b.fields way refl) (nothing-received b.size b.fields publish)
