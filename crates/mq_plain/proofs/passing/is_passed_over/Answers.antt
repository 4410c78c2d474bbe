use Rattle.std.proofs.Common.{rules, ◌≡◌, ◌<◌, ◌≤◌, true, false, length, Some, None, sym, ap, ◌∙◌, arith}
use Rattle.std.specs.Prelude.{reverse, option_map}
use Rattle.std.proofs.lemmas.List.{length-reverse}
use Rattle.mq_rules.specs.Identifiers.{is_passed_over}
use Rattle.mq_rules.specs.Passing.{before_latest}
use Rattle.mq_plain.proofs.PassedOverLaws.{over-none, over-stops, over-here, over-back}
use Rattle.mq_plain.proofs.passing.is_passed_over.Goals as goal

pub loop-rest-preserved : goal.loop-rest-preserved
loop-rest-preserved c = λ k at.
    let past = reverse c.loop-rest.until.now in
    let rest = reverse c.in-Some.rest.now in
    let there : before_latest past ≡ Some rest = sym c.before_latest.ensures.exact ∙ ap (option_map (λ r. reverse r.now)) c.in-Some.is in
    let not_here : c.passes_over.result ≡ false = search rules in
    ap (λ f. is_passed_over c.args.role f c.args.identifier rest k) c.latest_fate_of-fate.ensures
    ∙ sym (over-back c.args.role c.loop-rest.fate c.args.identifier past rest k there (sym c.passes_over.ensures ∙ not_here))
    ∙ c.loop-rest.invariant k at

pub returns-then-passes_over : goal.returns-then-passes_over
returns-then-passes_over c = λ k at.
    let past = reverse c.loop-rest.until.now in
    let rest = reverse c.in-Some.rest.now in
    let there : before_latest past ≡ Some rest = sym c.before_latest.ensures.exact ∙ ap (option_map (λ r. reverse r.now)) c.in-Some.is in
    let here : c.passes_over.result ≡ true = search rules in
    let long = length-reverse c.in-Some.rest.now in
    let after : c.args.opener < length c.in-Some.rest.now = search rules in
    sym (sym (c.loop-rest.invariant k at) ∙ over-here c.args.role c.loop-rest.fate c.args.identifier past rest k there (omega (arith, long, after, at)) (sym c.passes_over.ensures ∙ here))

pub returns-then-rest-opener : goal.returns-then-rest-opener
returns-then-rest-opener c = λ k at.
    let past = reverse c.loop-rest.until.now in
    let rest = reverse c.in-Some.rest.now in
    let there : before_latest past ≡ Some rest = sym c.before_latest.ensures.exact ∙ ap (option_map (λ r. reverse r.now)) c.in-Some.is in
    let long = length-reverse c.in-Some.rest.now in
    let le : length c.in-Some.rest.now ≤ c.args.opener = search rules in
    sym (sym (c.loop-rest.invariant k at) ∙ over-stops c.args.role c.loop-rest.fate c.args.identifier past rest k there (omega (arith, long, le, at)))

pub returns : goal.returns
returns c = λ k at.
    let past = reverse c.loop-rest.until.now in
    let none : c.before_latest.result ≡ None = search rules in
    let there : before_latest past ≡ None = sym c.before_latest.ensures.exact ∙ ap (option_map (λ r. reverse r.now)) none in
    sym (sym (c.loop-rest.invariant k at) ∙ over-none c.args.role c.loop-rest.fate c.args.identifier past k there)
