use Rattle.std.proofs.Common.{◌≡◌, subst}
use Rattle.mq_props.specs.First.{first_two_bytes}
use Rattle.mq_props.specs.Identifiers.{topic_alias}
use Rattle.mq_props.specs.Listed.{Listed}
use Rattle.mq_props.proofs.Pushes.{knows_items}
use Rattle.mq_props.proofs.props.Props.get_topic_alias.Goals as goal

pub returns : goal.returns
returns c =
    let knows = knows_items c.self.inside.place (record { seen = c.self.inside.seen; topic_alias = c.self.inside.topic_alias }) c.self.inside.bytes.now c.self.invariant in
    subst (λ (l : Listed). c.self.inside.topic_alias ≡ first_two_bytes topic_alias l.items) c.self.view_is knows.alias
