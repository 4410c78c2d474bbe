-- An event of a decided connection, where nothing is held.
use Rattle.std.proofs.Common.{◌≡◌, ℕ, ◌+◌, Bool, true, false, cond, not, ◌&&◌, List, [], ◌∷◌, ◌++◌, length, Option, Some, None, refl, ap, sym, subst, ◌∙◌}
use Rattle.std.specs.Prelude.{is_some}
use Rattle.std.specs.Option.{option_or}
use Rattle.mq_rules.specs.declared.role.Role.{Role}
use Rattle.mq_rules.specs.declared.role.Tested.{Tested}
use Rattle.mq_rules.specs.declared.fate.Fate.{Fate}
use Rattle.mq_rules.specs.declared.history.History.{History}
use Rattle.mq_rules.specs.declared.rule.Rule.{Rule}
use Rattle.mq_rules.specs.declared.note.Seen.{Seen}
use Rattle.mq_rules.specs.Notes.{is_open}
use Rattle.mq_rules.specs.Connections.{latest_fate}
use Rattle.mq_rules.specs.Histories.{is_left_by, gives_now}
use Rattle.mq_rules.specs.Under.{Follows, IsUnder, fate_before, turns_with}
use Rattle.mq_rules.proofs.Exports.{history-left}
use Rattle.mq_fates.specs.Holding.{is_nothing, turns_session, Holds}
use Rattle.mq_fates.proofs.EarlyLaws.{Passes, passes}
use Rattle.mq_fates.proofs.StepLaws.{Ready, history-goes, ready, holds-none}

-- what a step needs to know of an event of a connection that was decided before it, where nothing is held
pub record AtOnce (agrees others : Option Fate → List Seen → Type 0) (judges : Rule → Bool) (role : Role) (fate : Option Fate) (kept : History) (held : List Seen) (tested : Tested) (f : Fate) (e : Seen) (past : List Seen) : Type 0 where
  pub under : IsUnder tested f e.place.position e past
  pub before : agrees (fate_before tested f e past) past
  pub after : others (Some f) (e ∷ past) → Holds others role fate kept held tested (e ∷ past)
  pub same : (k : ℕ) (r : Rule) → (judges r && turns_with tested f e past k r) ≡ (judges r && turns_session tested e past k r)

pub at-once : (agrees others : Option Fate → List Seen → Type 0) (judges : Rule → Bool) (role : Role) (fate : Option Fate) (kept : History) (held : List Seen) (tested : Tested) (f : Fate) (e : Seen) (past : List Seen)
    → Holds agrees role fate kept held tested past → Follows tested e past → is_left_by kept e.note ≡ true → fate ≡ Some f → is_nothing held ≡ true → is_open e.note ≡ false
    → AtOnce agrees others judges role fate kept held tested f e past
at-once agrees others judges role fate kept (d ∷ ds) tested f e past h follows left decided none closed = absurd (cc)
at-once agrees others judges role fate kept [] tested f e past h follows left decided none closed = record {
  under = subst (λ log. IsUnder tested f e.place.position e log) r.whole p.under;
  before = subst (λ log. agrees (fate_before tested f e log) log) r.whole (subst (λ o. agrees o r.base) p.before r.before);
  after = λ agree. holds-none agrees role fate kept [] tested f e past [] r h.same_role (history-goes role tested kept kept e past h.same_role h.same_history (history-left role kept e.note left)) decided refl others
      (subst (λ log. others (Some f) (e ∷ log)) (sym r.whole) agree);
  same = λ k s. subst (λ log. (judges s && turns_with tested f e log k s) ≡ (judges s && turns_session tested e log k s)) r.whole (ap (λ b. judges s && b) (p.same k s));
}
  where
    r : Ready agrees tested f e past []
    r = ready agrees role fate fate kept [] [] tested f e past h follows (decided ∙ sym (λ i. cond (closed i) None (option_or (decided i) (gives_now role kept e.note)))) decided refl

    p : Passes tested f e [] r.base
    p = passes tested f e [] r.base r.can
