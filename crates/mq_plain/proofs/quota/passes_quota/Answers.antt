use Rattle.std.proofs.Common.{rules, ◌≡◌, true, false, sym, refl, ◌∙◌}
use Rattle.std.specs.Prelude.{is_some, reverse}
use Rattle.mq_rules.specs.Notes.{delivery_of}
use Rattle.mq_rules.specs.Moments.{newest}
use Rattle.mq_rules.specs.Identifiers.{counts, is_used_up}
use Rattle.mq_plain.proofs.QuotaLaws.{over_quota}
use Rattle.mq_plain.proofs.quota.passes_quota.Goals as goal

pub returns-then-is_none : goal.returns-then-is_none
returns-then-is_none c =
    let e = c.args.event.now in
    let past = reverse c.args.before.now in
    let delivers : false ≡ is_some (delivery_of e.note) = search rules in
    over_quota c.args.role e past false (counts c.args.role (newest e past)) (is_used_up c.args.role (newest e past)) delivers refl refl

pub returns-then-not-counts : goal.returns-then-not-counts
returns-then-not-counts c =
    let e = c.args.event.now in
    let past = reverse c.args.before.now in
    let delivers : true ≡ is_some (delivery_of e.note) = search rules in
    let none : c.counts.result ≡ false = search rules in
    over_quota c.args.role e past true false (is_used_up c.args.role (newest e past)) delivers (sym none ∙ c.counts.ensures e) refl

pub returns : goal.returns
returns c =
    let e = c.args.event.now in
    let past = reverse c.args.before.now in
    let delivers : true ≡ is_some (delivery_of e.note) = search rules in
    let all : c.counts.result ≡ true = search rules in
    over_quota c.args.role e past true true c.is_used_up.result delivers (sym all ∙ c.counts.ensures e) (c.is_used_up.ensures e)
