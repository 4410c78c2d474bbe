-- By what is kept of a connection, which statements on the past of a connection are false at the next event.
use Rattle.std.proofs.Common.{◌≡◌, ℕ, Bool, true, false, cond, ◌&&◌, ◌||◌, ◌+◌, ◌==◌, ◌⊎◌, inl, inr, not, length, List, [], ◌∷◌, Option, Some, None, refl, ap, sym, ◌∙◌}
use Rattle.std.specs.BTreeSet.{contains}
use Rattle.std.specs.Ordering.{nat_cmp}
use Rattle.std.specs.Option.{option_or}
use Rattle.mq_log.specs.declared.place.Place3.{Place3}
use Rattle.mq_rules.specs.declared.role.Role.{Role}
use Rattle.mq_rules.specs.declared.role.Further.{Further}
use Rattle.mq_rules.specs.declared.role.Role.TheVariants.{Client, Server}
use Rattle.mq_rules.specs.declared.role.Tested.{Tested}
use Rattle.mq_rules.specs.declared.rule.Rule.{Rule}
use Rattle.mq_rules.specs.declared.rule.Rule.TheVariants.{C01, C02, C03, C04, C05, C06, C07, C08, C09, C10, C11, C12, C13, C14, C15, C16, C17, C18, C19, C20, C21, C22, C23}
use Rattle.mq_rules.specs.declared.fault.Fault.{Fault}
use Rattle.mq_rules.specs.declared.note.Note.{Note}
use Rattle.mq_rules.specs.declared.note.Seen.{Seen}
use Rattle.mq_connections.specs.declared.conn.Conn.{Conn}
use Rattle.mq_rules.specs.declared.connection_state.ConnectionState.{ConnectionState}
use Rattle.mq_rules.specs.Notes.{is_open, is_rest, sent_item, sent_packet, sent_publish, sent_connack, sent_disconnect}
use Rattle.mq_rules.specs.Words.{is_id}
use Rattle.mq_rules.specs.Moments.{Moment, newest, note, moment, some}
use Rattle.mq_rules.specs.Connections.{connection}
use Rattle.mq_rules.specs.Pasts.{set_alias, is_sent_disconnect, is_sent_refusal, breaks_C01, breaks_C02, breaks_C03, breaks_C04, breaks_C05, breaks_C06, breaks_C07, breaks_C08, breaks_C09, breaks_C10, breaks_C11, breaks_C12, breaks_C13, breaks_C14, breaks_C15, breaks_C16, breaks_C17, breaks_C18, breaks_C19, breaks_C20, breaks_C21, breaks_C22, breaks_C23}
use Rattle.mq_rules.specs.Rules.{same_rule, binds, found_line, is_further, lines, line_of}
use Rattle.mq_rules.specs.Statements.{Statement, on_bytes, on_past, in_session, at_release, at_rest, by_later, statement, is_by_past, is_on_past}
use Rattle.mq_rules.specs.Steps.{shows, turns}
use Rattle.mq_rules.specs.Growing.{at_place, Judges, JudgesWithin, news, GrowsBy, GrowsByWithin}
use Rattle.mq_rules.specs.Keeping.{kept, connection_after}
use Rattle.mq_connections.specs.Finding.{is_alias_set, item_verdicts, packet_verdicts, publish_verdicts, connack_verdicts, disconnect_verdicts, rest_verdicts, is_among, is_found, Agrees}
use Rattle.mq_rules.specs.FaultKeys.{FaultMap, fault_at}
use Rattle.mq_rules.specs.Faults.{record_of, offset_of}
use Rattle.mq_rules.proofs.Exports.{and_false, kept-next, or-turn, some-next}
use Rattle.mq_connections.proofs.AtPlaceLaws.{nothing_at, judges-same, within-same}

-- the same of a known statement, so that it computes
unfoldable pub pick : Bool → Bool → Bool → Bool
pick true b v = b || v
pick false b v = v

unfoldable pub picked : List (Rule × Bool) → Rule → Bool
picked [] rule = false
picked (v ∷ vs) rule = pick (same_rule rule v.0) v.1 (picked vs rule)

pub among-picked : (vs : List (Rule × Bool)) (rule : Rule) → is_among vs rule ≡ picked vs rule
unfolding picked pick
among-picked [] rule = refl
among-picked (v ∷ vs) rule = go v.1 (same_rule rule v.0) ∙ ap (pick (same_rule rule v.0) v.1) (among-picked vs rule)
  where
    go : (b s : Bool) → ((b && s) || is_among vs rule) ≡ pick s b (is_among vs rule)
    go true true = refl
    go true false = refl
    go false true = refl
    go false false = refl

found_by : Role → ConnectionState → (ℕ → Bool) → Note → Rule → Bool
found_by role s aliases n rule =
    picked (item_verdicts role s (sent_item n)) rule
    || (picked (packet_verdicts role s (sent_packet n)) rule
    || (picked (publish_verdicts role s aliases (sent_publish n)) rule
    || (picked (connack_verdicts role s (sent_connack n)) rule
    || (picked (disconnect_verdicts role s (sent_disconnect n)) rule
    || (picked (rest_verdicts role s (is_rest n)) rule || false)))))

found-found_by : (role : Role) (s : ConnectionState) (aliases : ℕ → Bool) (n : Note) (rule : Rule) → is_found role s aliases n rule ≡ found_by role s aliases n rule
unfolding found_by
found-found_by role s aliases n rule = λ i.
    among-picked (item_verdicts role s (sent_item n)) rule i
    || (among-picked (packet_verdicts role s (sent_packet n)) rule i
    || (among-picked (publish_verdicts role s aliases (sent_publish n)) rule i
    || (among-picked (connack_verdicts role s (sent_connack n)) rule i
    || (among-picked (disconnect_verdicts role s (sent_disconnect n)) rule i
    || (among-picked (rest_verdicts role s (is_rest n)) rule i || false)))))

-- what a statement on the past of a connection says of a moment; the others say nothing
unfoldable pub past_says : Statement → Moment → Bool
past_says (on_bytes rule) m = false
past_says (on_past breaks) m = breaks m
past_says (in_session breaks) m = false
past_says (at_release breaks) m = false
past_says (at_rest test) m = false
past_says (by_later test) m = false

abbrev pub client : Bool → Further → Tested
client releases further = record { role = Client; releases = releases; further = further }

abbrev pub server : Bool → Further → Tested
server releases further = record { role = Server; releases = releases; further = further }

last : (b : Bool) → ((b || false) || false) ≡ (b && true)
last true = refl
last false = refl

some-or : (p q : Moment → Bool) (ms : List Moment) → (some p ms || some q ms) ≡ some (λ m. p m || q m) ms
some-or p q [] = refl
some-or p q (m ∷ ms) = go (p m) (q m) (some p ms) (some q ms) ∙ ap (λ b. (p m || q m) || b) (some-or p q ms)
  where
    go : (a b c d : Bool) → ((a || c) || (b || d)) ≡ ((a || b) || (c || d))
    go true b c d = refl
    go false true true d = refl
    go false true false d = refl
    go false false c d = refl

-- for a client, statement by statement; of those that aren't listed both sides are false
client-finds : (releases : Bool) (further : Further) (e : Seen) (past : List Seen) (rule : Rule)
    → found_by Client (kept Client past) (is_alias_set past) e.note rule ≡ ((not (is_further rule) && past_says (statement Client rule) (newest e past)) && binds rule (client releases further))
unfolding found_by picked pick past_says kept is_alias_set found_line lines line_of breaks_C01 breaks_C02 breaks_C03 breaks_C11 breaks_C13 breaks_C14 breaks_C15 breaks_C16 breaks_C17 breaks_C18 breaks_C20 breaks_C23 breaks_C04 breaks_C05 breaks_C06 breaks_C07 breaks_C08 breaks_C09 breaks_C10 breaks_C12 breaks_C19 breaks_C21 breaks_C22
client-finds releases further e past C01 = last (breaks_C01 Client (newest e past))
client-finds releases further e past C02 = last (breaks_C02 (newest e past))
client-finds releases further e past C03 = last (breaks_C03 (newest e past))
client-finds releases further e past C04 = sym (and_false (breaks_C04 (newest e past)))
client-finds releases further e past C05 = sym (and_false (breaks_C05 (newest e past)))
client-finds releases further e past C06 = sym (and_false (breaks_C06 (newest e past)))
client-finds releases further e past C07 = sym (and_false (breaks_C07 (newest e past)))
client-finds releases further e past C08 = sym (and_false (breaks_C08 (newest e past)))
client-finds releases further e past C09 = sym (and_false (breaks_C09 (newest e past)))
client-finds releases further e past C10 = sym (and_false (breaks_C10 (newest e past)))
client-finds releases further e past C11 = last (breaks_C11 (newest e past))
client-finds releases further e past C12 = sym (and_false (breaks_C12 (newest e past)))
client-finds releases further e past C13 = last (breaks_C13 (newest e past))
client-finds releases further e past C14 = last (breaks_C14 Client (newest e past))
client-finds releases further e past C15 = last (breaks_C15 Client (newest e past))
client-finds releases further e past C16 = last (breaks_C16 (newest e past))
client-finds releases further e past C17 = last (breaks_C17 (newest e past))
client-finds releases further e past C18 = last (breaks_C18 (newest e past))
client-finds releases further e past C19 = sym (and_false (breaks_C19 (newest e past)))
client-finds releases further e past C20 = last (breaks_C20 (newest e past))
client-finds releases further e past C21 = sym (and_false (breaks_C21 (newest e past)))
client-finds releases further e past C22 = sym (and_false (breaks_C22 (newest e past)))
client-finds releases further e past C23 = last (breaks_C23 Client (newest e past))
client-finds releases further e past _ = refl

server-finds : (releases : Bool) (further : Further) (e : Seen) (past : List Seen) (rule : Rule)
    → found_by Server (kept Server past) (is_alias_set past) e.note rule ≡ ((not (is_further rule) && past_says (statement Server rule) (newest e past)) && binds rule (server releases further))
unfolding found_by picked pick past_says kept is_alias_set found_line lines line_of breaks_C01 breaks_C02 breaks_C03 breaks_C11 breaks_C13 breaks_C14 breaks_C15 breaks_C16 breaks_C17 breaks_C18 breaks_C20 breaks_C23 breaks_C04 breaks_C05 breaks_C06 breaks_C07 breaks_C08 breaks_C09 breaks_C10 breaks_C12 breaks_C19 breaks_C21 breaks_C22
server-finds releases further e past C01 = last (breaks_C01 Server (newest e past))
server-finds releases further e past C02 = sym (and_false (breaks_C02 (newest e past)))
server-finds releases further e past C03 = sym (and_false (breaks_C03 (newest e past)))
server-finds releases further e past C04 = last (breaks_C04 (newest e past))
server-finds releases further e past C05 = last (breaks_C05 (newest e past))
server-finds releases further e past C06 = last (breaks_C06 (newest e past))
server-finds releases further e past C07 = last (breaks_C07 (newest e past))
server-finds releases further e past C08 = last (breaks_C08 (newest e past))
server-finds releases further e past C09 = last (breaks_C09 (newest e past))
server-finds releases further e past C10 = last (breaks_C10 (newest e past))
server-finds releases further e past C11 = last (breaks_C11 (newest e past))
server-finds releases further e past C12 = last (breaks_C12 (newest e past))
server-finds releases further e past C13 = sym (and_false (breaks_C13 (newest e past)))
server-finds releases further e past C14 = last (breaks_C14 Server (newest e past))
server-finds releases further e past C15 = last (breaks_C15 Server (newest e past))
server-finds releases further e past C16 = last (breaks_C16 (newest e past))
server-finds releases further e past C17 = sym (and_false (breaks_C17 (newest e past)))
server-finds releases further e past C18 = sym (and_false (breaks_C18 (newest e past)))
server-finds releases further e past C19 = last (breaks_C19 (newest e past))
server-finds releases further e past C20 = sym (and_false (breaks_C20 (newest e past)))
server-finds releases further e past C21 = last (breaks_C21 (newest e past))
server-finds releases further e past C22 = last (breaks_C22 (newest e past))
server-finds releases further e past C23 =
    ap (λ b. (is_rest e.note && b) || false || false) (some-or (λ m. is_sent_disconnect (note m)) (λ m. is_sent_refusal (note m)) (connection past))
    ∙ last (breaks_C23 Server (newest e past))
server-finds releases further e past _ = refl

-- ---- faults

-- what a statement on the past says at the newest moment is what turns out to fail there, if it is the watcher's own
pub found_news : (s : Statement) (own binds_it found : Bool) (role : Role) (e : Seen) (past : List Seen) (k : ℕ) → e.place.position ≡ length past + 1 → found ≡ ((own && past_says s (newest e past)) && binds_it)
    → at_place e.place k found
    ≡ cond {A = Option Fault} ((is_by_past s && own) && (binds_it && shows role s e past k)) (Some (record { decided = length past + 1; record_no = record_of (moment (e ∷ past) k); offset = offset_of s (moment (e ∷ past) k) })) None
unfolding past_says
found_news (on_bytes rule) own b found role e past k placed is = ap (at_place e.place k) (is ∙ ap (λ t. t && b) (and_false own)) ∙ nothing_at e.place k
found_news (in_session breaks) own b found role e past k placed is = ap (at_place e.place k) (is ∙ ap (λ t. t && b) (and_false own)) ∙ nothing_at e.place k
found_news (at_release breaks) own b found role e past k placed is = ap (at_place e.place k) (is ∙ ap (λ t. t && b) (and_false own)) ∙ nothing_at e.place k
found_news (at_rest test) own b found role e past k placed is = ap (at_place e.place k) (is ∙ ap (λ t. t && b) (and_false own)) ∙ nothing_at e.place k
found_news (by_later test) own b found role e past k placed is = ap (at_place e.place k) (is ∙ ap (λ t. t && b) (and_false own)) ∙ nothing_at e.place k
found_news (on_past breaks) own b found role e past k placed is =
    ap (at_place e.place k) is
    ∙ ap (λ n. cond {A = Option Fault} ((k == n) && ((own && breaks (newest e past)) && b)) (Some (record { decided = n; record_no = e.place.record_no; offset = None })) None) placed
    ∙ go own (k == length past + 1) b (breaks (newest e past))
  where
    go : (own t b w : Bool) → cond {A = Option Fault} (t && ((own && w) && b)) (Some (record { decided = length past + 1; record_no = e.place.record_no; offset = None })) None
        ≡ cond {A = Option Fault} (own && (b && (t && w))) (Some (record { decided = length past + 1; record_no = record_of (cond t (Some (newest e past)) (moment past k)); offset = None })) None
    go true true true true = refl
    go true true true false = refl
    go true true false true = refl
    go true true false false = refl
    go true false true w = refl
    go true false false w = refl
    go false true b w = refl
    go false false b w = refl

-- by what is kept, exactly the statements on the past that are false at an event are found there
finds : (tested : Tested) (e : Seen) (past : List Seen) (rule : Rule)
    → is_found tested.role (kept tested.role past) (is_alias_set past) e.note rule ≡ ((not (is_further rule) && past_says (statement tested.role rule) (newest e past)) && binds rule tested)
finds tested e past rule = found-found_by tested.role (kept tested.role past) (is_alias_set past) e.note rule ∙ go tested.role tested.releases tested.further
  where
    go : (role : Role) (releases : Bool) (further : Further) → found_by role (kept role past) (is_alias_set past) e.note rule ≡ ((not (is_further rule) && past_says (statement role rule) (newest e past)) && binds rule (record { role = role; releases = releases; further = further }))
    go Client releases further = client-finds releases further e past rule
    go Server releases further = server-finds releases further e past rule

pub at_place-news : (tested : Tested) (e : Seen) (past : List Seen) (k : ℕ) (rule : Rule) → e.place.position ≡ length past + 1
    → at_place e.place k (is_found tested.role (kept tested.role past) (is_alias_set past) e.note rule) ≡ news (is_on_past tested) tested e past k rule
unfolding turns
at_place-news tested e past k rule placed = found_news (statement tested.role rule) (not (is_further rule)) (binds rule tested) (is_found tested.role (kept tested.role past) (is_alias_set past) e.note rule) tested.role e past k placed (finds tested e past rule)

-- the faults of an event that was judged, in full or in part
pub grows-judged : (tested : Tested) (e : Seen) (past : List Seen) (old new : FaultMap) → e.place.position ≡ length past + 1
    → Judges (is_found tested.role (kept tested.role past) (is_alias_set past) e.note) e.place old new → GrowsBy (is_on_past tested) tested e past old new
grows-judged tested e past old new placed h = record { each = λ k rule. h.each k rule ∙ ap (option_or (fault_at old k rule)) (at_place-news tested e past k rule placed) }

pub grows-judged_within : (tested : Tested) (e : Seen) (past : List Seen) (old new : FaultMap) → e.place.position ≡ length past + 1
    → JudgesWithin (is_found tested.role (kept tested.role past) (is_alias_set past) e.note) e.place old new → GrowsByWithin (is_on_past tested) tested e past old new
grows-judged_within tested e past old new placed h = record { each = λ k rule. go k rule (h.each k rule) }
  where
    go : (k : ℕ) (rule : Rule) → (fault_at new k rule ≡ fault_at old k rule) ⊎ (fault_at new k rule ≡ option_or (fault_at old k rule) (at_place e.place k (is_found tested.role (kept tested.role past) (is_alias_set past) e.note rule)))
        → (fault_at new k rule ≡ fault_at old k rule) ⊎ (fault_at new k rule ≡ option_or (fault_at old k rule) (news (is_on_past tested) tested e past k rule))
    go k rule (inl same) = inl same
    go k rule (inr more) = inr (more ∙ ap (option_or (fault_at old k rule)) (at_place-news tested e past k rule placed))

-- what is found by the state of Conn is what is found by what is kept
pub found-kept : (conn : Conn) (tested : Tested) (past : List Seen) (n : Note) → Agrees conn tested past
    → (rule : Rule) → is_found conn.role conn.state (contains nat_cmp conn.aliases) n rule ≡ is_found tested.role (kept tested.role past) (is_alias_set past) n rule
found-kept conn tested past n here rule = λ i. is_found (here.same_role i) (here.same_state i) (λ alias. here.same_aliases alias i) n rule

-- ---- what is kept, with one event more

-- the Topic Aliases that are set, with one event more
pub is_alias_set-next : (e : Seen) (past : List Seen) (alias : ℕ) → is_alias_set (e ∷ past) alias ≡ (is_id alias (set_alias e.note) || (not (is_open e.note) && is_alias_set past alias))
unfolding is_alias_set
is_alias_set-next e past alias = some-next (λ m. is_id alias (set_alias (note m))) e past

pub agrees-next : (old new : Conn) (tested : Tested) (e : Seen) (past : List Seen) → Agrees old tested past
    → new.role ≡ old.role → new.state ≡ connection_after old.role old.state e.note
    → ((alias : ℕ) → contains nat_cmp new.aliases alias ≡ ((not (is_open e.note) && contains nat_cmp old.aliases alias) || is_id alias (set_alias e.note)))
    → Agrees new tested (e ∷ past)
agrees-next old new tested e past here role state aliases = record {
  same_role = role ∙ here.same_role;
  same_state = state ∙ (λ i. connection_after (here.same_role i) (here.same_state i) e.note) ∙ sym (kept-next tested.role e past);
  same_aliases = λ alias. aliases alias ∙ ap (λ b. (not (is_open e.note) && b) || is_id alias (set_alias e.note)) (here.same_aliases alias)
      ∙ or-turn (not (is_open e.note) && is_alias_set past alias) (is_id alias (set_alias e.note)) ∙ sym (is_alias_set-next e past alias);
}

-- what Conn promises of the faults where an event was refused
abbrev pub StepWithin : Conn → Place3 → Note → FaultMap → FaultMap → Type 0
StepWithin conn place n old new = (tested : Tested) (past : List Seen) → Agrees conn tested past → place.position ≡ length past + 1
    → GrowsByWithin (is_on_past tested) tested (record { place = place; note = n }) past old new

pub step-within : (conn : Conn) (place : Place3) (n : Note) (old new : FaultMap) → JudgesWithin (is_found conn.role conn.state (contains nat_cmp conn.aliases) n) place old new → StepWithin conn place n old new
step-within conn place n old new h = λ tested past here placed.
    grows-judged_within tested (record { place = place; note = n }) past old new placed
    (within-same (is_found conn.role conn.state (contains nat_cmp conn.aliases) n) (is_found tested.role (kept tested.role past) (is_alias_set past) n) place old new (found-kept conn tested past n here) h)

pub step-grows : (conn : Conn) (tested : Tested) (place : Place3) (n : Note) (past : List Seen) (old new : FaultMap) → Agrees conn tested past → place.position ≡ length past + 1
    → Judges (is_found conn.role conn.state (contains nat_cmp conn.aliases) n) place old new → GrowsBy (is_on_past tested) tested (record { place = place; note = n }) past old new
step-grows conn tested place n past old new here placed h =
    grows-judged tested (record { place = place; note = n }) past old new placed
    (judges-same (is_found conn.role conn.state (contains nat_cmp conn.aliases) n) (is_found tested.role (kept tested.role past) (is_alias_set past) n) place old new (found-kept conn tested past n here) h)
