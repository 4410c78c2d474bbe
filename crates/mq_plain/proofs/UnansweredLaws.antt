-- The first unanswered event of a connection under each identifier, event by event.
use Rattle.std.proofs.Common.{◌≡◌, ℕ, Bool, true, false, cond, List, [], ◌∷◌, length, Option, Some, None, refl, ap, sym, ◌∙◌}
use Rattle.std.specs.Prelude.{option_map}
use Rattle.std.specs.Option.{option_or}
use Rattle.mq_rules.specs.declared.note.Seen.{Seen}
use Rattle.mq_rules.specs.Words.{is_id}
use Rattle.mq_rules.specs.Notes.{is_open}
use Rattle.mq_rules.specs.Moments.{Moment, newest, earliest_since}
use Rattle.mq_rules.specs.Connections.{connection}
use Rattle.mq_rules.specs.Exchanges.{Exchange, causes, answers}
use Rattle.mq_plain.specs.declared.exchanges.slot.Slot.{Slot}
use Rattle.mq_plain.specs.Unanswered.{first_index, asking_at, answered}
use Rattle.mq_rules.proofs.Exports.{connection-newest}

-- the first unanswered moment, with one event more
pub unanswered-next : (starts ends : Moment → Bool) (e : Seen) (past : List Seen) → earliest_since starts ends (connection (e ∷ past))
    ≡ option_or (cond (ends (newest e past)) None (cond (is_open e.note) None (earliest_since starts ends (connection past)))) (cond (starts (newest e past)) (Some (newest e past)) None)
unanswered-next starts ends e past = ap (earliest_since starts ends) (connection-newest e past) ∙ go (is_open e.note)
  where
    here : Option Moment
    here = cond (starts (newest e past)) (Some (newest e past)) None

    go : (b : Bool) → earliest_since starts ends (newest e past ∷ cond b [] (connection past))
        ≡ option_or (cond (ends (newest e past)) None (cond b None (earliest_since starts ends (connection past)))) here
    go true = refl
    go false = refl

-- what is known of an identifier, and else what stands before all that was looked at
abbrev pub first_back : Slot → Option ℕ → Option ℕ
first_back slot older = option_or (cond slot.is_answered None older) slot.first

pub first_back-next : (x : Exchange) (i : ℕ) (slot : Slot) (e : Seen) (past : List Seen)
    → first_back slot (first_index x i (e ∷ past))
    ≡ first_back (answered (is_id i (x.answer e.note)) (asking_at (is_id i (x.cause e.note)) (length past) slot)) (cond (is_open e.note) None (first_index x i past))
first_back-next x i slot e past =
    ap (λ o. first_back slot (option_map (λ m. length m.past) o)) (unanswered-next (causes x i) (answers x i) e past)
    ∙ go slot (is_id i (x.cause e.note)) (is_id i (x.answer e.note)) (is_open e.note) (earliest_since (causes x i) (answers x i) (connection past))
  where
    go : (s : Slot) (asks answers opens : Bool) (o : Option Moment)
        → first_back s (option_map (λ m. length m.past) (option_or (cond answers None (cond opens None o)) (cond asks (Some (newest e past)) None)))
        ≡ first_back (answered answers (asking_at asks (length past) s)) (cond opens None (option_map (λ m. length m.past) o))
    go s true true opens o = at s.is_answered s.first
      where
        at : (a : Bool) (f : Option ℕ) → option_or (cond a None (Some (length past))) f
            ≡ first_back (answered true (asking_at true (length past) (record { is_answered = a; first = f }))) (cond opens None (option_map (λ m. length m.past) o))
        at true f = refl
        at false f = refl
    go s false true opens o = at s.is_answered s.first
      where
        at : (a : Bool) (f : Option ℕ) → option_or (cond a None None) f
            ≡ first_back (answered true (record { is_answered = a; first = f })) (cond opens None (option_map (λ m. length m.past) o))
        at true f = refl
        at false f = refl
    go s true false opens o = at s.is_answered s.first opens o
      where
        at : (a : Bool) (f : Option ℕ) (opens : Bool) (o : Option Moment) → first_back (record { is_answered = a; first = f }) (option_map (λ m. length m.past) (option_or (cond opens None o) (Some (newest e past))))
            ≡ first_back (asking_at true (length past) (record { is_answered = a; first = f })) (cond opens None (option_map (λ m. length m.past) o))
        at true f opens o = refl
        at false f true o = refl
        at false f false None = refl
        at false f false (Some m) = refl
    go s false false opens o = at opens o
      where
        at : (opens : Bool) (o : Option Moment) → first_back s (option_map (λ m. length m.past) (option_or (cond opens None o) None)) ≡ first_back s (cond opens None (option_map (λ m. length m.past) o))
        at true o = refl
        at false None = refl
        at false (Some m) = refl

pub only_here : (slot : Slot) → first_back slot None ≡ slot.first
only_here slot = go slot.is_answered
  where
    go : (b : Bool) → option_or (cond b None None) slot.first ≡ slot.first
    go true = refl
    go false = refl

-- one event more was looked at
pub first_back-step : (x : Exchange) (i index : ℕ) (slot asking answering : Slot) (e : Seen) (past : List Seen) → index ≡ length past
    → asking ≡ asking_at (is_id i (x.cause e.note)) index slot → answering ≡ answered (is_id i (x.answer e.note)) asking
    → first_back answering (cond (is_open e.note) None (first_index x i past)) ≡ first_back slot (first_index x i (e ∷ past))
first_back-step x i index slot asking answering e past at asks answers =
    ap (λ s. first_back s (cond (is_open e.note) None (first_index x i past))) (answers ∙ ap (answered (is_id i (x.answer e.note))) (asks ∙ ap (λ n. asking_at (is_id i (x.cause e.note)) n slot) at))
    ∙ sym (first_back-next x i slot e past)
