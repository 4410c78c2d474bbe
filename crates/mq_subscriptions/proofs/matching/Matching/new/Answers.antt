use Rattle.std.proofs.Common.{rules, ◌≡◌, ◌+◌, arith, None, Some, nat_eq, refl}
use Rattle.indexmap.specs.IndexMap.{get, index_map_len}
use Rattle.mq_rules.specs.declared.fate.Fate.TheVariants.{Void}
use Rattle.mq_subscriptions.specs.Weights.{subscriptions_weigh}
use Rattle.mq_subscriptions.proofs.matching.Matching.new.Goals as goal

pub returns : goal.returns
returns c = (
  c.is_judged.ensures,
  λ out. let none : index_map_len c.new-2.result ≡ 0 = search rules in omega (arith, c.new.ensures.weightless, none),
  λ is. (
    c.new.ensures.kept c.args.tested (Some Void),
    record { sharing_is = refl; unclear_is = refl; refusing_is = refl; topics_are = λ alias. let none : get nat_eq c.new-2.result alias ≡ None = search rules in none },
  ),
)
