-- The topics of what is sent on a connection, for B02, B09, P01, P02, R01 and R02.
use Rattle.std.specs.Prelude.{ℕ, ◌≡◌, ◌==◌, nat_eq, Bool, cond, List, length, Option, Some, None}
use Rattle.std.specs.Option.{option_or, option_and_then}
use Rattle.indexmap.specs.IndexMap.{get}
use Rattle.mq_rules.specs.declared.note.Note.{Note}
use Rattle.mq_rules.specs.declared.packet_note.PublishNote.{PublishNote}
use Rattle.mq_rules.specs.Subscriptions.{topic_set, last_set}
use Rattle.mq_evidence.specs.declared.topics.Topics.{Topics}
use Rattle.mq_evidence.specs.Stretches.{Stretches}

-- the topic of a Topic Alias, with one event more
abbrev pub topic_next : Bool → Note → ℕ → Option (List ℕ) → Option (List ℕ)
topic_next over n alias old = option_or (topic_set alias n) (cond over None old)

-- the topic of a PUBLISH, where Topic Aliases have these topics
abbrev pub topic_by : (ℕ → Option (List ℕ)) → PublishNote → Option (List ℕ)
topic_by topics p = cond (length p.topic == 0) (option_and_then topics p.topic_alias) (Some p.topic)

-- These stretches lead to what is kept.
pub record IsTopics (x : Topics) (s : Stretches) : Type 0 where
  pub topics_are : (alias : ℕ) → get nat_eq x.topics alias ≡ last_set alias s.connection
