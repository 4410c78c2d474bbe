-- How much a watcher really keeps: the sum of the lengths of its collections.
use Rattle.std.specs.Prelude.{ℕ}
use Rattle.std.specs.BTreeSet.{btree_set_len}
use Rattle.mq_connections.specs.declared.conn.Conn.{Conn}

-- the watcher of C: the Topic Aliases that the tested end has set
abbrev pub conn_weighs : Conn → ℕ
conn_weighs s = btree_set_len s.aliases
