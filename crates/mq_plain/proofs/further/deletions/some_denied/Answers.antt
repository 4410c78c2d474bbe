use Rattle.std.proofs.Common.{rules, ◌≡◌, ◌||◌, ◌∷◌, ◌++◌, [], true, false, sym, ap, ◌∙◌}
use Rattle.std.specs.Prelude.{reverse}
use Rattle.mq_rules.proofs.Exports.{or_false, or_right}
use Rattle.mq_plain.specs.Subscribed.{some_denied, stood_after}
use Rattle.mq_plain.proofs.SubscribedLaws.{is_denied_last, denied-last}
use Rattle.mq_plain.proofs.further.deletions.some_denied.Goals as goal

pub returns-then-stood_first : goal.returns-then-stood_first
returns-then-stood_first c =
    let stood = stood_after c.args.role c.args.fate (reverse c.args.before.now) (reverse c.args.told.before.now) in
    let codes = c.args.told.codes.now in
    let others = c.in-Some.others.now in
    let last = c.in-Some.last.now in
    let parts : c.loop-last.left.now ≡ others ++ last ∷ [] = search rules in
    let here : is_denied_last stood others last codes ≡ true = search rules in
    sym (sym c.loop-last.invariant ∙ ap (λ asked. some_denied stood asked codes) parts ∙ denied-last stood others last codes ∙ or_right (some_denied stood others codes) (is_denied_last stood others last codes) here)

pub loop-last-preserved : goal.loop-last-preserved
loop-last-preserved c =
    let stood = stood_after c.args.role c.args.fate (reverse c.args.before.now) (reverse c.args.told.before.now) in
    let codes = c.args.told.codes.now in
    let others = c.in-Some.others.now in
    let last = c.in-Some.last.now in
    let parts : c.loop-last.left.now ≡ others ++ last ∷ [] = search rules in
    let here : is_denied_last stood others last codes ≡ false = search rules in
    sym (ap (λ asked. some_denied stood asked codes) parts ∙ denied-last stood others last codes ∙ ap (λ b. some_denied stood others codes || b) here ∙ or_false (some_denied stood others codes)) ∙ c.loop-last.invariant
