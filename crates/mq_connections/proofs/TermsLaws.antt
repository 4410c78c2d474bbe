-- What is kept of the latest connection, by which a Protocol Error is known, with one event more; and that it is known by that.
use Rattle.std.proofs.Common.{◌≡◌, ℕ, ◌+◌, Bool, true, false, cond, ◌&&◌, ◌||◌, not, List, [], ◌∷◌, refl, ap, sym, ◌∙◌}
use Rattle.std.specs.BTreeSet.{contains}
use Rattle.std.specs.Ordering.{nat_cmp}
use Rattle.mq_packet.specs.declared.packet.PacketType.TheVariants as types
use Rattle.mq_rules.specs.declared.role.Role.TheVariants.{Server}
use Rattle.mq_rules.specs.declared.note.Note.{Note}
use Rattle.mq_rules.specs.declared.note.Note.TheVariants as notes
use Rattle.mq_rules.specs.declared.note.Seen.{Seen}
use Rattle.mq_connections.specs.declared.duties.terms.Terms.{Terms}
use Rattle.mq_rules.specs.declared.packet_note.PacketNote.{PacketNote}
use Rattle.mq_rules.specs.Words.{is_id, is_some_and}
use Rattle.mq_rules.specs.Notes.{connect_of, connack_of, is_boundary, is_close, is_open, received_packet, receives_type}
use Rattle.mq_rules.specs.Moments.{newest, note, some, count}
use Rattle.mq_rules.specs.Connections.{connection, first_connack, first_connect, is_connected, needs_connection, IsOnConnection}
use Rattle.mq_rules.specs.Pasts.{came_before, connack_before, connect_before}
use Rattle.mq_rules.specs.ProtocolErrors.{alias_received, is_error, is_protocol_error, receives_broken_publish, was_set_before}
use Rattle.mq_rules.specs.FurtherRests.{receives_connect}
use Rattle.mq_rules.specs.Burden.{aliases_received, sets_another_here}
use Rattle.mq_connections.specs.Finding.{is_another}
use Rattle.mq_connections.specs.Manners.{connack_after, connect_after}
use Rattle.mq_connections.specs.Terms.{finds_error, is_alias_received, may_be_set, stays_set, terms_weigh, IsTerms, TermsNext}
use Rattle.mq_rules.proofs.Exports.{connection-newest as connection-next, first_found-next, or-turn, or_false, some-next}

-- ---- the Topic Aliases that are set, with one event more

alias-next : (e : Seen) (past : List Seen) (alias : ℕ) → is_alias_received (e ∷ past) alias ≡ (is_id alias (alias_received e.note) || (not (is_open e.note) && is_alias_received past alias))
unfolding is_alias_received
alias-next e past alias = some-next (λ m. is_id alias (alias_received (note m))) e past

-- t says that it was set before on the connection, k that the connection is open
set_then : (n : Note) (alias : ℕ) (k t : Bool) → (needs_connection n ≡ true → k ≡ true)
    → ((not (is_boundary n) && (k && t)) || is_id alias (alias_received n)) ≡ ((is_open n || (not (is_close n) && k)) && (is_id alias (alias_received n) || (not (is_open n) && t)))
set_then notes.Open alias k t on = refl
set_then (notes.Close cuts part) alias k t on = refl
set_then notes.Rest alias k t on = or_false (k && t)
set_then (notes.Release identifier) alias k t on = or_false (k && t)
set_then (notes.Sent item) alias k t on = or_false (k && t)
set_then (notes.Recv item) alias k t on =
    ap (λ b. (b && t) || is_id alias (alias_received (notes.Recv item))) (on refl)
    ∙ or-turn t (is_id alias (alias_received (notes.Recv item)))
    ∙ sym (ap (λ b. b && (is_id alias (alias_received (notes.Recv item)) || t)) (on refl))

no_more : (k : Bool) (n : ℕ) → 0 + cond k n 0 ≡ cond k (0 + n) 0
no_more true n = refl
no_more false n = refl

-- how many are set: `many` of them before the event
many_then : (n : Note) (old was : ℕ → Bool) (k : Bool) (many : ℕ) → (needs_connection n ≡ true → k ≡ true) → ((alias : ℕ) → old alias ≡ (k && was alias))
    → cond (is_another (λ alias. not (is_boundary n) && old alias) (alias_received n)) 1 0 + cond (is_boundary n) 0 (cond k many 0)
    ≡ cond (is_open n || (not (is_close n) && k)) (cond (is_another was (alias_received n)) 1 0 + cond (is_open n) 0 many) 0
many_then notes.Open old was k many on same = refl
many_then (notes.Close cuts part) old was k many on same = refl
many_then notes.Rest old was k many on same = no_more k many
many_then (notes.Release identifier) old was k many on same = no_more k many
many_then (notes.Sent item) old was k many on same = no_more k many
many_then (notes.Recv item) old was k many on same =
    (λ i. cond (is_another (λ alias. same alias i) (alias_received (notes.Recv item))) 1 0 + cond k many 0)
    ∙ ap (λ b. cond (is_another (λ alias. b && was alias) (alias_received (notes.Recv item))) 1 0 + cond b many 0) (on refl)
    ∙ sym (ap (λ b. cond b (cond (is_another was (alias_received (notes.Recv item))) 1 0 + many) 0) (on refl))

count-next : (e : Seen) (past : List Seen)
    → count sets_another_here (connection (e ∷ past)) ≡ cond (is_another (is_alias_received past) (alias_received e.note)) 1 0 + cond (is_open e.note) 0 (count sets_another_here (connection past))
unfolding is_alias_received
count-next e past =
    ap (count sets_another_here) (connection-next e past)
    ∙ ap (λ n. cond (sets_another_here (newest e past)) 1 0 + n) (go (is_open e.note))
  where
    go : (b : Bool) → count sets_another_here (cond b [] (connection past)) ≡ cond b 0 (count sets_another_here (connection past))
    go true = refl
    go false = refl

-- ---- what is kept, with one event more

pub terms-next : (old new : Terms) (e : Seen) (past : List Seen) → IsOnConnection e past → IsTerms old past → TermsNext old new e.note → IsTerms new (e ∷ past)
terms-next old new e past on here more = record {
  same_connect = more.connect ∙ ap (λ o. connect_after Server o e.note) here.same_connect ∙ sym (first_found-next (connect_of Server) e past);
  same_connack = more.connack ∙ ap (λ o. connack_after Server o e.note) here.same_connack ∙ sym (first_found-next (connack_of Server) e past);
  same_broken = more.broken
      ∙ ap (λ b. (not (is_open e.note) && b) || receives_broken_publish e.note) here.same_broken
      ∙ or-turn (not (is_open e.note) && some (λ j. receives_broken_publish (note j)) (connection past)) (receives_broken_publish e.note)
      ∙ sym (some-next (λ j. receives_broken_publish (note j)) e past);
  same_aliases = λ alias. more.aliases alias
      ∙ ap (λ b. (not (is_boundary e.note) && b) || is_id alias (alias_received e.note)) (here.same_aliases alias)
      ∙ set_then e.note alias (is_connected past) (is_alias_received past alias) on
      ∙ ap (λ b. is_connected (e ∷ past) && b) (sym (alias-next e past alias));
}

pub terms-many : (old new : Terms) (e : Seen) (past : List Seen) → IsOnConnection e past → IsTerms old past → TermsNext old new e.note → terms_weigh old ≡ aliases_received past
    → terms_weigh new ≡ aliases_received (e ∷ past)
unfolding aliases_received
terms-many old new e past on here more many =
    more.as_many
    ∙ ap (λ n. cond (is_another (stays_set old e.note) (alias_received e.note)) 1 0 + cond (is_boundary e.note) 0 n) many
    ∙ many_then e.note (contains nat_cmp old.aliases) (is_alias_received past) (is_connected past) (count sets_another_here (connection past)) on here.same_aliases
    ∙ sym (ap (λ n. cond (is_connected (e ∷ past)) n 0) (count-next e past))

-- before any event
pub terms-start : (t : Terms) → t.connect ≡ first_connect Server [] → t.connack ≡ first_connack Server [] → t.has_broken_publish ≡ false → ((alias : ℕ) → contains nat_cmp t.aliases alias ≡ false) → IsTerms t []
terms-start t connect connack broken aliases = record { same_connect = connect; same_connack = connack; same_broken = broken; same_aliases = aliases }

pub none-received : aliases_received [] ≡ 0
unfolding aliases_received
none-received = refl

-- ---- whether the next event is a Protocol Error

-- only what is received can be one
pub error-closed : (n : Note) (test : PacketNote → Bool) → is_some_and test (received_packet n) ≡ true → is_open n ≡ false
error-closed notes.Open test h = absurd (cc)
error-closed (notes.Close cuts part) test h = refl
error-closed notes.Rest test h = refl
error-closed (notes.Release i) test h = refl
error-closed (notes.Sent item) test h = refl
error-closed (notes.Recv item) test h = refl

pub open-no_error : (e : Seen) (past : List Seen) → is_protocol_error (newest e past) ≡ true → is_open e.note ≡ false
open-no_error e past h =
    error-closed e.note (is_error (came_before (receives_type types.Connect) (newest e past)) (connect_before Server (newest e past)) (connack_before Server (newest e past)) (was_set_before (newest e past))) h

-- the Topic Aliases that are kept and those that are set are the same where something is received
known_then : (t : Terms) (connected : Bool) (n : Note) (set : ℕ → Bool) → (needs_connection n ≡ true → (alias : ℕ) → may_be_set t alias ≡ set alias)
    → finds_error connected t n ≡ is_some_and (is_error connected t.connect t.connack set) (received_packet n)
known_then t connected (notes.Recv item) set same = λ i. is_some_and (is_error connected t.connect t.connack (λ alias. same refl alias i)) (received_packet (notes.Recv item))
known_then t connected _ set same = refl

pub error-known : (t : Terms) (e : Seen) (past : List Seen) → IsOnConnection e past → IsTerms t past → finds_error (some receives_connect (connection past)) t e.note ≡ is_protocol_error (newest e past)
unfolding is_alias_received
error-known t e past on here =
    known_then t connected e.note (was_set_before (newest e past)) same
    ∙ (λ i. is_some_and (is_error connected (here.same_connect i) (here.same_connack i) (was_set_before (newest e past))) (received_packet e.note))
  where
    connected : Bool
    connected = some receives_connect (connection past)

    same : needs_connection e.note ≡ true → (alias : ℕ) → may_be_set t alias ≡ was_set_before (newest e past) alias
    same needs alias =
        let set = some (λ j. is_id alias (alias_received (note j))) (connection past) in
        (λ i. here.same_broken i || here.same_aliases alias i)
        ∙ ap (λ b. some (λ j. receives_broken_publish (note j)) (connection past) || (b && set)) (on needs)
