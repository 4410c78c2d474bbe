-- What taking bytes in says of a judge that was told a log.
use Rattle.std.proofs.Common.{◌≡◌, ℕ, Bool, true, false, refl, ◌==◌, ◌⊎◌, inl, inr, List, [], ◌∷◌, length, subst, Option, Some, None, is_some, Ok, Err, sym, ap, ◌∙◌}
use Rattle.std.proofs.lemmas.Bool.{false≢true}
use Rattle.std.specs.Option.{IfSome}
use Rattle.std.specs.Prelude.{Result}
use Rattle.core.specs.Result.{result_ok}
use Rattle.mq_log.specs.declared.refusal.Refusal.{Refusal}
use Rattle.mq_rules.specs.declared.rule.Rule.{Rule}
use Rattle.mq_choice.specs.declared.choice.Choice.{Choice}
use Rattle.mq_choice.specs.declared.list.Unchosen.{Unchosen}
use Rattle.mq_choice.specs.Choices.{ReadsAs, in_choice, wants_further}
use Rattle.mq_choice.specs.Lists.{refused_as}
use Rattle.mq_judge.specs.Coverage.{places_in}
use Rattle.mq_judge.specs.Judging.{Follows, is_counting}
use Rattle.mq_ffi.specs.declared.answer.Trouble.{Trouble}
use Rattle.mq_ffi.specs.declared.answer.Trouble.TheVariants as troubles
use Rattle.mq_ffi.specs.declared.live.Live.{Live}
use Rattle.mq_ffi.specs.declared.live.Source.{Source}
use Rattle.mq_ffi.specs.declared.live.Source.TheVariants as sources
use Rattle.mq_ffi.specs.Living.{Answer, AnswersPlaces, Chooses, IsTold, FeedsBytes, FeedsFrom, ReadsList, Takes, TakesIn, Ends, EndsFrom, is_end}

pub if_none : {A : Type 0} (o : Option A) (P : A → Type 0) → is_some o ≡ false → IfSome o P
if_none None P is = tt
if_none (Some x) P is = absurd (false≢true (sym is))

pub takes : (source : Source) (log piece : List ℕ) (old new : Live) (answer : Answer) → (source ≡ sources.Nothing → ⊥) → IsTold old log → new.source ≡ source → new.choice ≡ old.choice
    → TakesIn piece old.judge new.judge old.refusal new.refusal answer → Takes source log piece new answer
takes source log piece old new (Ok _) more told is same taken =
    let after = taken.1 log told.follows in
    (after.0, record { follows = after.1; unrefused = taken.0 ∙ told.unrefused; first = λ e. absurd (more (sym is ∙ e)); counting = after.2 ∙ told.counting; by_choice = taken.2 ∙ told.by_choice ∙ ap (λ (c : Choice). wants_further (in_choice c)) (sym same) }, is)
takes source log piece old new (Err trouble) more told is same taken = (taken.0, record { refusal = taken.1.0; kept = taken.1.1; why = taken.1.2 log told.follows; by_choice = taken.2 ∙ told.by_choice ∙ ap (λ (c : Choice). wants_further (in_choice c)) (sym same) })

abbrev is_first : Source → Bool
is_first sources.Nothing = true
is_first _ = false

pub events_follow : sources.Events ≡ sources.Nothing → ⊥
events_follow e = false≢true (ap is_first e)

pub ended_is_last : sources.Ended ≡ sources.Nothing → ⊥
ended_is_last e = false≢true (ap is_first e)

pub ends_from : (s : Source) (log : List ℕ) (old new : Live) (answer : Result ℕ Trouble) → is_end s ≡ false → Ends log new answer → EndsFrom s log old new answer
ends_from sources.Ended log old new answer is ends = absurd (false≢true (sym is))
ends_from sources.Nothing log old new answer is ends = ends
ends_from sources.Log log old new answer is ends = ends
ends_from sources.Events log old new answer is ends = ends

pub log_follows : sources.Log ≡ sources.Nothing → ⊥
log_follows e = false≢true (ap is_first e)

-- bytes that aren't none
pub feeds_some : (piece log : List ℕ) (old new : Live) (answer : Answer) → (length piece == 0) ≡ false → Takes sources.Log log piece new answer → FeedsBytes piece log old new answer
feeds_some [] log old new answer some taken = absurd (false≢true (sym some))
feeds_some (byte ∷ later) log old new answer some taken = taken

pub feeds_from : (s : Source) (piece log : List ℕ) (old new : Live) (answer : Answer) → (s ≡ sources.Nothing) ⊎ (s ≡ sources.Log) → FeedsBytes piece log old new answer → FeedsFrom s log piece old new answer
feeds_from s piece log old new answer (inl is) fed = subst (λ (s : Source). FeedsFrom s log piece old new answer) (sym is) fed
feeds_from s piece log old new answer (inr is) fed = subst (λ (s : Source). FeedsFrom s log piece old new answer) (sym is) fed

-- ---- how often a statement was put to the test

-- a refused log has no places that are told
pub refused_places : (rule : Rule) (live : Live) → is_some live.refusal ≡ true → AnswersPlaces rule live (Err troubles.Refused)
refused_places rule live is = record {
  for_ever = go live.refusal;
  counted = λ log told. absurd (false≢true (sym (ap is_some told.unrefused) ∙ is));
}
  where
    said : Result ℕ Trouble
    said = Err troubles.Refused

    go : (o : Option Refusal) → IfSome o (λ _. said ≡ said)
    go None = tt
    go (Some refusal) = refl

-- what is answered for the places that a judge knows
abbrev pub places_or_absent : Option ℕ → Result ℕ Trouble
places_or_absent None = Err troubles.Absent
places_or_absent (Some places) = Ok places

pub counted_places : (rule : Rule) (live : Live) (o : Option ℕ) (answer : Result ℕ Trouble) → is_some live.refusal ≡ false
    → ((log : List ℕ) → is_counting live.judge ≡ true → Follows live.judge log → o ≡ Some (places_in live.judge.further log rule))
    → answer ≡ places_or_absent o → AnswersPlaces rule live answer
counted_places rule live o answer unrefused known is = record {
  for_ever = if_none live.refusal _ unrefused;
  counted = λ log told. is ∙ ap places_or_absent (known log told.counting told.follows ∙ ap (λ b. Some (places_in b log rule)) told.by_choice);
}

-- ---- choosing by a list

pub reads_listed : (list : List ℕ) (read : Result Choice Unchosen) → ReadsAs list read → ReadsList list (result_ok read)
reads_listed list (Ok choice) is = is
reads_listed list (Err why) is = inr (refused_as why, is)

-- once a log is refused nothing is chosen
pub refused_choice : (list : List ℕ) (live : Live) → is_some live.refusal ≡ true → Chooses list live live (Err troubles.Refused)
refused_choice list live is = record {
  for_ever = go live.refusal;
  chosen = λ unrefused. absurd (false≢true (sym (ap is_some unrefused) ∙ is));
}
  where
    said : Answer
    said = Err troubles.Refused

    go : (o : Option Refusal) → IfSome o (λ _. (said ≡ said) × (live ≡ live))
    go None = tt
    go (Some refusal) = (refl, refl)
