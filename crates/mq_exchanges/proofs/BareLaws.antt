-- Bare packets of exchanges.
use Rattle.std.proofs.Common.{◌≡◌, Bool, false, ◌||◌, ap, sym, ◌∙◌}
use Rattle.std.specs.Prelude.{is_some}
use Rattle.mq_rules.specs.declared.bare.Bare.{Bare}
use Rattle.mq_rules.specs.declared.note.Note.{Note}
use Rattle.mq_rules.specs.Notes.{note_of_bare, is_rest}
use Rattle.mq_rules.specs.Exchanges.{Exchange}
use Rattle.mq_rules.proofs.Exports.{bare-closed}
use Rattle.mq_exchanges.specs.Concerns.{concerns_asked, concerns_owed}
use Rattle.mq_fates.specs.Taking.{ends_by}
use Rattle.mq_fates.proofs.Exports.{bare-awake, bare-unended}

-- one that is neither a cause nor an answer of an exchange doesn't concern what is asked and owed there
pub exchange-unconcerned : (x : Exchange) (b : Bare) (is : Bool) → is ≡ (is_some (x.cause (note_of_bare b)) || is_some (x.answer (note_of_bare b))) → is ≡ false
    → (concerns_asked x (note_of_bare b) || concerns_owed x (note_of_bare b)) ≡ false
exchange-unconcerned x b is says unset =
    ap (λ t. (t || (is_some (x.cause n) || is_some (x.answer n))) || (t || (is_rest n || (ends_by n || (is_some (x.cause n) || is_some (x.answer n)))))) (bare-closed b)
    ∙ ap (λ t. (is_some (x.cause n) || is_some (x.answer n)) || (t || (ends_by n || (is_some (x.cause n) || is_some (x.answer n))))) (bare-awake b)
    ∙ ap (λ t. (is_some (x.cause n) || is_some (x.answer n)) || (t || (is_some (x.cause n) || is_some (x.answer n)))) (bare-unended b)
    ∙ ap (λ t. t || t) (sym says ∙ unset)
  where
    n : Note
    n = note_of_bare b
