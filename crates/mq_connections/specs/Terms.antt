-- What is kept of the latest connection, so that a Protocol Error is known when it is received: its CONNECT and its CONNACK, whether a PUBLISH came whose bytes break a rule, and the
-- Topic Aliases that the client has set.
use Rattle.std.specs.Prelude.{ℕ, ◌≡◌, ◌+◌, ◌<◌, Bool, ◌&&◌, ◌||◌, not, cond, List, Option}
use Rattle.std.specs.BTreeSet.{contains, btree_set_len}
use Rattle.std.specs.Ordering.{nat_cmp}
use Rattle.mq_rules.specs.declared.role.Role.TheVariants.{Server}
use Rattle.mq_rules.specs.declared.note.Note.{Note}
use Rattle.mq_rules.specs.declared.note.Seen.{Seen}
use Rattle.mq_connections.specs.declared.duties.terms.Terms.{Terms}
use Rattle.mq_rules.specs.Words.{is_some_and, is_id}
use Rattle.mq_rules.specs.Notes.{connect_of, connack_of, is_boundary, is_open, received_packet}
use Rattle.mq_rules.specs.Moments.{note, some}
use Rattle.mq_rules.specs.Connections.{connection, first_connack, first_connect, is_connected}
use Rattle.mq_rules.specs.ProtocolErrors.{alias_received, is_error, receives_broken_publish}
use Rattle.mq_connections.specs.Finding.{is_another}
use Rattle.mq_connections.specs.Manners.{connack_after, connect_after}

-- ---- what is kept

-- the client set this Topic Alias on the latest connection
unfoldable pub is_alias_received : List Seen → ℕ → Bool
is_alias_received past alias = some (λ m. is_id alias (alias_received (note m))) (connection past)

-- What is kept is that of these events, the newest first. The Topic Aliases are those of the connection that is open alone.
pub record IsTerms (t : Terms) (past : List Seen) : Type 0 where
  pub same_connect : t.connect ≡ first_connect Server (connection past)
  pub same_connack : t.connack ≡ first_connack Server (connection past)
  pub same_broken : t.has_broken_publish ≡ some (λ j. receives_broken_publish (note j)) (connection past)
  pub same_aliases : (alias : ℕ) → contains nat_cmp t.aliases alias ≡ (is_connected past && is_alias_received past alias)

-- ---- one event more

-- the Topic Aliases that stay with an event: none where a connection begins or ends
abbrev pub stays_set : Terms → Note → ℕ → Bool
stays_set t n alias = not (is_boundary n) && contains nat_cmp t.aliases alias

-- what is kept with one event more
pub record TermsNext (old new : Terms) (n : Note) : Type 0 where
  pub connect : new.connect ≡ connect_after Server old.connect n
  pub connack : new.connack ≡ connack_after Server old.connack n
  pub broken : new.has_broken_publish ≡ ((not (is_open n) && old.has_broken_publish) || receives_broken_publish n)
  pub aliases : (alias : ℕ) → contains nat_cmp new.aliases alias ≡ (stays_set old n alias || is_id alias (alias_received n))
  pub as_many : btree_set_len new.aliases ≡ cond (is_another (stays_set old n) (alias_received n)) 1 0 + cond (is_boundary n) 0 (btree_set_len old.aliases)

-- ---- what the next event is

-- the client has set the Topic Alias, or may have done so
abbrev pub may_be_set : Terms → ℕ → Bool
may_be_set t alias = t.has_broken_publish || contains nat_cmp t.aliases alias

-- a packet is received that is a Protocol Error; the flag says whether a CONNECT was received before
abbrev pub finds_error : Bool → Terms → Note → Bool
finds_error connected t n = is_some_and (is_error connected t.connect t.connack (may_be_set t)) (received_packet n)

-- how much is kept: the Topic Aliases
abbrev pub terms_weigh : Terms → ℕ
terms_weigh t = btree_set_len t.aliases
