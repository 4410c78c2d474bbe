-- What is kept of the first packet of an identifier, on the connection that is open, that isn't answered.
use Rattle.std.specs.Prelude.{ℕ, Bool, cond, List, Option, None}
use Rattle.std.specs.Option.{option_or, option_and_then}
use Rattle.mq_rules.specs.declared.note.Note.{Note}
use Rattle.mq_rules.specs.declared.note.Seen.{Seen}
use Rattle.mq_rules.specs.Moments.{Moment, note, earliest_since}
use Rattle.mq_rules.specs.Connections.{on_open}
use Rattle.mq_rules.specs.Exchanges.{Exchange, causes, answers}

-- of the first unanswered cause of i, given what is kept of any moment; and of any note
abbrev pub found_first : {K : Type 0} → Exchange → (Moment → Option K) → ℕ → List Seen → Option K
found_first x keeps i past = option_and_then keeps (earliest_since (causes x i) (answers x i) (on_open past))

abbrev pub first_kept : {K : Type 0} → Exchange → (Note → Option K) → ℕ → List Seen → Option K
first_kept x keeps i past = found_first x (λ m. keeps (note m)) i past

-- after an event, with which a connection begins or ends, or not, which is a cause, of which this is kept, or an answer
abbrev pub first_next : {K : Type 0} → Bool → Bool → Bool → Option K → Option K → Option K
first_next boundary cause answer new old = option_or (cond answer None (cond boundary None old)) (cond cause new None)
