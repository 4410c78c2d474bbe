-- What the watcher of the statements on the past of a connection keeps with one event more, and what it finds at that event.
use Rattle.std.proofs.Common.{◌≡◌, ℕ, ◌+◌, Bool, true, false, cond, ◌&&◌, ◌||◌, not, List, [], ◌∷◌, length, Option, Some, refl, ap, sym, ◌∙◌}
use Rattle.std.specs.BTreeSet.{contains, btree_set_len}
use Rattle.std.specs.Ordering.{nat_cmp}
use Rattle.mq_rules.specs.declared.role.Role.{Role}
use Rattle.mq_rules.specs.declared.role.Role.TheVariants.{Client, Server}
use Rattle.mq_rules.specs.declared.role.Tested.{Tested}
use Rattle.mq_rules.specs.declared.fate.Fate.{Fate}
use Rattle.mq_rules.specs.declared.fate.Fate.TheVariants.{Void}
use Rattle.mq_rules.specs.declared.rule.Rule.{Rule}
use Rattle.mq_rules.specs.declared.note.Note.{Note}
use Rattle.mq_rules.specs.declared.note.Note.TheVariants as notes
use Rattle.mq_rules.specs.declared.note.Seen.{Seen}
use Rattle.mq_connections.specs.declared.conn.Conn.{Conn}
use Rattle.mq_rules.specs.declared.connection_state.ConnectionState.{ConnectionState}
use Rattle.mq_rules.specs.Words.{is_id}
use Rattle.mq_rules.specs.Notes.{is_open, is_close}
use Rattle.mq_rules.specs.Moments.{newest, count}
use Rattle.mq_rules.specs.Connections.{is_connected, connection, latest_fate, needs_connection, IsOnConnection}
use Rattle.mq_rules.specs.Pasts.{set_alias}
use Rattle.mq_rules.specs.Statements.{is_on_past}
use Rattle.mq_rules.specs.Steps.{turns}
use Rattle.mq_rules.specs.Under.{Follows}
use Rattle.mq_rules.specs.Growing.{Gains, GainsWithin, Judges, JudgesWithin}
use Rattle.mq_rules.specs.Burden.{sets_another, aliases_sent}
use Rattle.mq_connections.specs.Finding.{send_bounds, is_alias_set, is_another, is_found, Agrees, IsConn}
use Rattle.mq_rules.specs.Keeping.{kept, connection_after}
use Rattle.mq_rules.specs.FaultKeys.{FaultMap}
use Rattle.mq_rules.proofs.Exports.{connection-newest as connection-next, kept-next, or-turn, or_false}
use Rattle.mq_connections.proofs.FindLaws.{is_alias_set-next, grows-judged, grows-judged_within}
use Rattle.mq_connections.proofs.AtPlaceLaws.{judges-same, within-same}

-- before any event
pub agrees-start : (conn : Conn) (tested : Tested) → IsConn conn tested (Some Void) [] → Agrees conn tested []
unfolding is_alias_set
agrees-start conn tested here = record { same_role = here.same_role; same_state = here.same_state; same_aliases = here.same_aliases }

-- ---- what is kept, with one event more

-- a Topic Alias is set: o that the event sets it, t that it was set before it on the connection, k that the connection is open
aliases_then : (n : Note) (alias : ℕ) (k t : Bool) → (needs_connection n ≡ true → k ≡ true)
    → (not (is_close n) && ((not (is_open n) && (k && t)) || is_id alias (set_alias n))) ≡ ((is_open n || (not (is_close n) && k)) && (is_id alias (set_alias n) || (not (is_open n) && t)))
aliases_then notes.Open alias k t on = refl
aliases_then (notes.Close cuts part) alias k t on = refl
aliases_then notes.Rest alias k t on = or_false (k && t)
aliases_then (notes.Release identifier) alias k t on = or_false (k && t)
aliases_then (notes.Recv item) alias k t on = or_false (k && t)
aliases_then (notes.Sent item) alias k t on =
    ap (λ b. (b && t) || is_id alias (set_alias (notes.Sent item))) (on refl)
    ∙ or-turn t (is_id alias (set_alias (notes.Sent item)))
    ∙ sym (ap (λ b. b && (is_id alias (set_alias (notes.Sent item)) || t)) (on refl))

no_more : (k : Bool) (n : ℕ) → 0 + cond k n 0 ≡ cond k (0 + n) 0
no_more true n = refl
no_more false n = refl

-- how many are set: n of them before the event
as_many_then : (n : Note) (old was : ℕ → Bool) (k : Bool) (many : ℕ) → (needs_connection n ≡ true → k ≡ true) → ((alias : ℕ) → old alias ≡ (k && was alias))
    → cond (is_close n) 0 (cond (is_another (λ alias. not (is_open n) && old alias) (set_alias n)) 1 0 + cond (is_open n) 0 (cond k many 0))
    ≡ cond (is_open n || (not (is_close n) && k)) (cond (is_another was (set_alias n)) 1 0 + cond (is_open n) 0 many) 0
as_many_then notes.Open old was k many on same = refl
as_many_then (notes.Close cuts part) old was k many on same = refl
as_many_then notes.Rest old was k many on same = no_more k many
as_many_then (notes.Release identifier) old was k many on same = no_more k many
as_many_then (notes.Recv item) old was k many on same = no_more k many
as_many_then (notes.Sent item) old was k many on same =
    (λ i. cond (is_another (λ alias. same alias i) (set_alias (notes.Sent item))) 1 0 + cond k many 0)
    ∙ ap (λ b. cond (is_another (λ alias. b && was alias) (set_alias (notes.Sent item))) 1 0 + cond b many 0) (on refl)
    ∙ sym (ap (λ b. cond b (cond (is_another was (set_alias (notes.Sent item))) 1 0 + many) 0) (on refl))

count-next : (e : Seen) (past : List Seen) → count sets_another (connection (e ∷ past)) ≡ cond (is_another (is_alias_set past) (set_alias e.note)) 1 0 + cond (is_open e.note) 0 (count sets_another (connection past))
unfolding is_alias_set
count-next e past =
    ap (count sets_another) (connection-next e past)
    ∙ ap (λ n. cond (sets_another (newest e past)) 1 0 + n) (go (is_open e.note))
  where
    go : (b : Bool) → count sets_another (cond b [] (connection past)) ≡ cond b 0 (count sets_another (connection past))
    go true = refl
    go false = refl

-- What a step makes of what is kept. At a CLOSE the Topic Aliases are forgotten.
pub conn-next : (old new : Conn) (tested : Tested) (taken after : Option Fate) (e : Seen) (past : List Seen) → IsOnConnection e past → IsConn old tested taken past
    → new.role ≡ old.role → new.state ≡ connection_after old.role old.state e.note → new.bounds ≡ send_bounds new.role new.state
    → ((alias : ℕ) → contains nat_cmp new.aliases alias ≡ (not (is_close e.note) && ((not (is_open e.note) && contains nat_cmp old.aliases alias) || is_id alias (set_alias e.note))))
    → btree_set_len new.aliases ≡ cond (is_close e.note) 0 (cond (is_another (λ alias. not (is_open e.note) && contains nat_cmp old.aliases alias) (set_alias e.note)) 1 0 + cond (is_open e.note) 0 (btree_set_len old.aliases))
    → IsConn new tested after (e ∷ past)
unfolding aliases_sent
conn-next old new tested taken after e past on here role state bounds aliases as_many = record {
  same_role = role ∙ here.same_role;
  same_bounds = bounds;
  same_state = state ∙ (λ i. connection_after (here.same_role i) (here.same_state i) e.note) ∙ sym (kept-next tested.role e past);
  same_aliases = λ alias. aliases alias
      ∙ ap (λ b. not (is_close e.note) && ((not (is_open e.note) && b) || is_id alias (set_alias e.note))) (here.same_aliases alias)
      ∙ aliases_then e.note alias (is_connected past) (is_alias_set past alias) on
      ∙ ap (λ b. is_connected (e ∷ past) && b) (sym (is_alias_set-next e past alias));
  as_many = as_many
      ∙ ap (λ n. cond (is_close e.note) 0 (cond (is_another (λ alias. not (is_open e.note) && contains nat_cmp old.aliases alias) (set_alias e.note)) 1 0 + cond (is_open e.note) 0 n)) here.as_many
      ∙ as_many_then e.note (contains nat_cmp old.aliases) (is_alias_set past) (is_connected past) (count sets_another (connection past)) on here.same_aliases
      ∙ sym (ap (λ n. cond (is_connected (e ∷ past)) n 0) (count-next e past));
}

-- ---- what is found

-- only a PUBLISH that is sent looks at the Topic Aliases
found_then : (role : Role) (s : ConnectionState) (kept_ones set_ones : ℕ → Bool) (n : Note) (rule : Rule) → (needs_connection n ≡ true → (alias : ℕ) → kept_ones alias ≡ set_ones alias)
    → is_found role s kept_ones n rule ≡ is_found role s set_ones n rule
found_then role s kept_ones set_ones (notes.Sent item) rule same = λ i. is_found role s (λ alias. same refl alias i) (notes.Sent item) rule
found_then Client s kept_ones set_ones _ rule same = refl
found_then Server s kept_ones set_ones _ rule same = refl

found : (conn : Conn) (tested : Tested) (taken : Option Fate) (e : Seen) (past : List Seen) → IsOnConnection e past → IsConn conn tested taken past
    → (rule : Rule) → is_found conn.role conn.state (contains nat_cmp conn.aliases) e.note rule ≡ is_found tested.role (kept tested.role past) (is_alias_set past) e.note rule
found conn tested taken e past on here rule =
    (λ i. is_found (here.same_role i) (here.same_state i) (contains nat_cmp conn.aliases) e.note rule)
    ∙ found_then tested.role (kept tested.role past) (contains nat_cmp conn.aliases) (is_alias_set past) e.note rule
    (λ needs alias. here.same_aliases alias ∙ ap (λ b. b && is_alias_set past alias) (on needs))

pub conn-gains : (conn : Conn) (tested : Tested) (taken : Option Fate) (e : Seen) (past : List Seen) (old new : FaultMap) → Follows tested e past → IsOnConnection e past → IsConn conn tested taken past
    → Judges (is_found conn.role conn.state (contains nat_cmp conn.aliases) e.note) e.place old new
    → Gains (λ k r. is_on_past tested r && turns tested e past k r) tested (e ∷ past) (length past + 1) old new
conn-gains conn tested taken e past old new follows on here h = record {
  each = (grows-judged tested e past old new follows.placed.0
      (judges-same (is_found conn.role conn.state (contains nat_cmp conn.aliases) e.note) (is_found tested.role (kept tested.role past) (is_alias_set past) e.note) e.place old new (found conn tested taken e past on here) h)).each;
}

pub conn-within : (conn : Conn) (tested : Tested) (taken : Option Fate) (e : Seen) (past : List Seen) (old new : FaultMap) → Follows tested e past → IsOnConnection e past → IsConn conn tested taken past
    → JudgesWithin (is_found conn.role conn.state (contains nat_cmp conn.aliases) e.note) e.place old new
    → GainsWithin (λ k r. is_on_past tested r && turns tested e past k r) tested (e ∷ past) (length past + 1) old new
conn-within conn tested taken e past old new follows on here h = record {
  each = (grows-judged_within tested e past old new follows.placed.0
      (within-same (is_found conn.role conn.state (contains nat_cmp conn.aliases) e.note) (is_found tested.role (kept tested.role past) (is_alias_set past) e.note) e.place old new (found conn tested taken e past on here) h)).each;
}

-- what the watcher promises of what it keeps, and of the faults
abbrev pub ConnAgrees : Conn → Conn → Seen → Type 0
ConnAgrees old new e = (tested : Tested) (taken : Option Fate) (past : List Seen) → Follows tested e past → IsOnConnection e past → IsConn old tested taken past
    → IsConn new tested (latest_fate tested.role (e ∷ past)) (e ∷ past)

abbrev pub ConnGains : Conn → Seen → FaultMap → FaultMap → Type 0
ConnGains conn e old new = (tested : Tested) (taken : Option Fate) (past : List Seen) → Follows tested e past → IsOnConnection e past → IsConn conn tested taken past
    → Gains (λ k r. is_on_past tested r && turns tested e past k r) tested (e ∷ past) (length past + 1) old new

-- what the watcher promises of the faults where an event was refused
abbrev pub ConnWithin : Conn → Seen → FaultMap → FaultMap → Type 0
ConnWithin conn e old new = (tested : Tested) (taken : Option Fate) (past : List Seen) → Follows tested e past → IsOnConnection e past → IsConn conn tested taken past
    → GainsWithin (λ k r. is_on_past tested r && turns tested e past k r) tested (e ∷ past) (length past + 1) old new
