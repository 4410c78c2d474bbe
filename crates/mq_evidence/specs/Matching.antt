-- What is kept of the Topic Filters that were asked for in a session, for B09, P01, P02, R01 and R02 (MQTT 5.0, sections 3.8.3 and 4.8.2).
use Rattle.std.specs.Prelude.{ℕ, ◌≡◌, nat_le, Bool, ◌&&◌, ◌||◌, List}
use Rattle.std.specs.List.{list_any}
use Rattle.mq_rules.specs.declared.note.Note.{Note}
use Rattle.mq_rules.specs.Words.{is_some_and}
use Rattle.mq_rules.specs.Notes.{received_subscription}
use Rattle.mq_rules.specs.Moments.{position, note, some}
use Rattle.mq_rules.specs.Wishes.{is_share, shared_filter}
use Rattle.mq_filters.specs.Standings.{allows}
use Rattle.mq_evidence.specs.declared.matching.Matching.{Matching}
use Rattle.mq_evidence.specs.Stretches.{Stretches}
use Rattle.mq_evidence.specs.Topics.{IsTopics}

-- a filter passes the test, or if it is shared that after its ShareName
abbrev pub is_among : (List ℕ → Bool) → List ℕ → Bool
is_among test text = test text || (is_share text && test (shared_filter text))

-- a SUBSCRIBE is received, and one of its filters passes the test so
abbrev pub asks_for : (List ℕ → Bool) → Note → Bool
asks_for test n = is_some_and (λ s. list_any (λ g. is_among test g.filter) s.filters) (received_subscription n)

-- These stretches lead to what is kept: the topics of Topic Aliases, and of each filter the last SUBSCRIBE in the session, as the greatest of the positions that it has.
pub record IsMatching (x : Matching) (s : Stretches) : Type 0 where
  pub topics_are : IsTopics x.topics s
  pub requests_are : (test : List ℕ → Bool) (first : ℕ) → list_any (allows test first) x.requests ≡ some (λ j. asks_for test (note j) && nat_le first (position j)) s.session
