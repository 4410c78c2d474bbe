-- How much a log gives the watchers of exchanges and of releases to keep. Where an item is about a session, the latest connection of the log is taken to have a fate.
use Rattle.std.specs.Prelude.{ℕ, cond, List, Option}
use Rattle.mq_rules.specs.declared.role.Role.{Role}
use Rattle.mq_rules.specs.declared.fate.Fate.{Fate}
use Rattle.mq_rules.specs.declared.rule.Rule.{Rule}
use Rattle.mq_rules.specs.declared.note.Seen.{Seen}
use Rattle.mq_rules.specs.Moments.{some, since}
use Rattle.mq_rules.specs.IdentifierCounts.{ids_where}
use Rattle.mq_rules.specs.Connections.{session}
use Rattle.mq_rules.specs.Rules.{binds_end}
use Rattle.mq_rules.specs.Exchanges.{Exchange, causes}
use Rattle.mq_rules.specs.Releases.{brings, releases_message, ends}
use Rattle.mq_fates.specs.Holding.{settled}

-- how many have a cause of the exchange in the session
unfoldable pub caused_ids : Exchange → Role → Option Fate → List Seen → ℕ
caused_ids x role taken log = ids_where (λ i. some (causes x i) (session role taken log))

-- the same, if the exchange binds the tested end by its statement on a REST; 0 if it doesn't
abbrev pub owing_ids : Rule → Exchange → Role → Option Fate → List Seen → ℕ
owing_ids settled x role taken log = cond (binds_end settled role) (caused_ids x role taken log) 0

-- how many have a QoS 2 PUBLISH received in the session, and no end of its exchange after it
unfoldable pub brought_ids : Role → Option Fate → List Seen → ℕ
brought_ids role taken log = ids_where (λ i. since (brings i) (ends i) (session role taken log))

-- how many have a RELEASE in the session, and no end of its exchange after it
unfoldable pub released_ids : Role → Option Fate → List Seen → ℕ
released_ids role taken log = ids_where (λ i. since (releases_message i) (ends i) (session role taken log))
