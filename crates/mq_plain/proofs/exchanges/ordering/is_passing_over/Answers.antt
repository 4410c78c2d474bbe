use Rattle.std.proofs.Common.{rules, ◌≡◌, ℕ, Some, ◌∙◌}
use Rattle.std.specs.Prelude.{reverse}
use Rattle.mq_plain.specs.Tables.{at}
use Rattle.mq_plain.specs.Unanswered.{first_index}
use Rattle.mq_plain.proofs.PassingLaws.{passes-first}
use Rattle.mq_plain.proofs.exchanges.ordering.is_passing_over.Goals as goal

pub returns-in-Some : goal.returns-in-Some
returns-in-Some g c =
    let x = g.X.Exchange.exchange in
    let laws = g.met.X.Exchange in
    let slots = c.in_ok-slots.slots in
    let past = reverse c.args.before.now in
    let firsts : (i : ℕ) → (at slots i).first ≡ first_index x i past = search rules in
    let found : (at slots c.args.identifier).first ≡ Some c.in-Some.first = search rules in
    c.is_any_before.ensures ∙ passes-first x laws.is_received laws.is_sent slots past firsts c.args.identifier c.in-Some.first found
