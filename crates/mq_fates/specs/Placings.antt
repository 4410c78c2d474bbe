-- What watchers that count places say of their statements.
use Rattle.std.specs.Prelude.{◌≡◌, Bool, true, false, cond, ◌&&◌, ◌||◌, not, Option, Some, None, refl}
use Rattle.std.proofs.Common.{ap, sym, ◌∙◌}
use denote.Enum.Bare.{same_true}
use Rattle.mq_rules.specs.contracts.rule.Rule.{the_type}
use Rattle.mq_rules.specs.declared.role.Role.{Role}
use Rattle.mq_rules.specs.declared.rule.Rule.{Rule}
use Rattle.mq_rules.specs.Rules.{same_rule}
use Rattle.mq_rules.specs.declared.fate.Fate.{Fate}
use Rattle.mq_rules.specs.Moments.{Moment}
use Rattle.mq_rules.specs.Words.{is_some_and}
use Rattle.mq_rules.specs.Statements.{Statement, in_session, at_rest}
use Rattle.mq_rules.specs.Under.{is_by_session}
use Rattle.mq_rules.specs.Occasions.{occasion}

-- an occasion that is judged on sessions
abbrev pub is_on_sessions : Option Statement → Bool
is_on_sessions None = false
is_on_sessions (Some s) = is_by_session s

-- so it is where it is that of one statement which is
pub on_one : (role : Role) (one rule : Rule) → is_on_sessions (occasion role one) ≡ true → same_rule rule one ≡ true → is_on_sessions (occasion role rule) ≡ true
on_one role one rule h same = ap (λ r. is_on_sessions (occasion role r)) (same_true the_type tt rule one same) ∙ h

pub on_session : (role : Role) (one rule : Rule) (test : Fate → Moment → Bool) → occasion role one ≡ Some (in_session test) → same_rule rule one ≡ true → is_on_sessions (occasion role rule) ≡ true
on_session role one rule test says same = on_one role one rule (ap is_on_sessions says) same

pub on_rest : (role : Role) (one rule : Rule) (test : Moment → Moment → Bool) → occasion role one ≡ Some (at_rest test) → same_rule rule one ≡ true → is_on_sessions (occasion role rule) ≡ true
on_rest role one rule test says same = on_one role one rule (ap is_on_sessions says) same

-- that of a statement which there may be
pub on_any : (role : Role) (one : Option Rule) (rule : Rule) (test : Fate → Moment → Bool) → ((o : Rule) → one ≡ Some o → occasion role o ≡ Some (in_session test)) → is_some_and (same_rule rule) one ≡ true → is_on_sessions (occasion role rule) ≡ true
on_any role None rule test says same = absurd (cc)
on_any role (Some o) rule test says same = on_session role o rule test (says o refl) same

-- so it is where two watchers together judge it
pub on_either : (a b c : Bool) → (a ≡ true → c ≡ true) → (b ≡ true → c ≡ true) → (a || b) ≡ true → c ≡ true
on_either true b c first second h = first refl
on_either false b c first second h = second h

-- so it is where each statement of a group is
pub implied : (a b : Bool) → (a && not b) ≡ false → a ≡ true → b ≡ true
implied true true h k = refl
implied true false h k = sym h
implied false b h k = sym (ap (λ c. cond c b true) k)
