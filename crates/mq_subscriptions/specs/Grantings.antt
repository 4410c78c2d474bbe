-- What the book of what is granted keeps: the QoS that each filter asks for, of the first SUBSCRIBE of an identifier that isn't answered.
use Rattle.std.specs.Prelude.{ℕ, ◌≡◌, ◌==◌, nat_lt, Bool, ◌||◌, not, List, [], ◌∷◌, Option, Some, None, option_map}
use Rattle.mq_rules.specs.declared.note.Note.{Note}
use Rattle.mq_rules.specs.declared.note.Seen.{Seen}
use Rattle.mq_rules.specs.Words.{is_some_and, only}
use Rattle.mq_rules.specs.Notes.{Grant, is_boundary, received_subscription, sent_grant}
use Rattle.mq_rules.specs.Exchanges.{subscribe_suback}
use Rattle.mq_rules.specs.Subscriptions.{requested_each, some_granted}
use Rattle.mq_subscriptions.specs.Firsts.{first_kept, first_next}

-- what the filters of a SUBSCRIBE ask for that is received
abbrev pub asked_in : Note → Option (List ℕ)
asked_in n = option_map (λ s. requested_each s.filters) (received_subscription n)

-- the first, if there is one, and the others
abbrev pub all_of : Option ℕ → List ℕ → List ℕ
all_of None others = []
all_of (Some first) others = first ∷ others

-- a SUBSCRIBE is received under the identifier; a SUBACK is sent under it
abbrev pub asks_under : ℕ → Note → Bool
asks_under i n = is_some_and (λ s. i == s.identifier) (received_subscription n)

abbrev pub grants_under : ℕ → Note → Bool
grants_under i n = is_some_and (λ a. i == a.identifier) (sent_grant n)

-- what the first unanswered SUBSCRIBE of i on the open connection asks for
abbrev pub first_asked : ℕ → List Seen → Option (List ℕ)
first_asked i past = first_kept subscribe_suback asked_in i past

-- what is kept after an event
abbrev pub asked_next : Note → ℕ → Option (List ℕ) → Option (List ℕ)
asked_next n i old = first_next (is_boundary n) (asks_under i n) (grants_under i n) (asked_in n) old

-- These events lead to what is kept: nothing, unless the statement is judged.
pub record AreAsked (bound : Bool) (wanted : ℕ → Option (List ℕ)) (past : List Seen) : Type 0 where
  pub asked_are : (i : ℕ) → wanted i ≡ only bound (first_asked i past)

-- something is granted at all, or more than was asked for
abbrev pub granted_as : Bool → ℕ → ℕ → Bool
granted_as above qos code = not above || nat_lt qos code

-- a SUBACK grants something of what is kept so that it passes the test
abbrev pub grants_kept : (ℕ → ℕ → Bool) → (ℕ → Option (List ℕ)) → Option Grant → Bool
grants_kept test wanted reply = is_some_and (λ a. is_some_and (λ asked. some_granted test asked a.codes) (wanted a.identifier)) reply
