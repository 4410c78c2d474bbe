use Rattle.std.proofs.Common.{refl, sym}
use Rattle.mq_props.specs.Identifiers.{topic_alias}
use Rattle.mq_props.specs.Values.{Property, two_bytes_value}
use Rattle.mq_props.proofs.FactLaws.{alias_new}
use Rattle.mq_props.proofs.facts.Facts.with_topic_alias.Goals as goal

pub returns : goal.returns
returns c = λ ps knows none.
    let p : Property = record { id = topic_alias; value = two_bytes_value c.args.number } in
    record { sees = c.with.ensures ps p knows.sees refl; alias = sym (alias_new ps p none refl) }
