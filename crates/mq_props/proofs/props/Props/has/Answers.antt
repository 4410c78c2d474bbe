use Rattle.std.proofs.Common.{◌≡◌, sym, ◌∙◌, subst}
use Rattle.mq_props.specs.Allowed.{occurs_in, AreAllowed}
use Rattle.mq_props.specs.Listed.{Listed}
use Rattle.mq_props.specs.Reading.{items_of}
use Rattle.mq_props.proofs.Exact.{list_allowed}
use Rattle.mq_props.proofs.FactLaws.{absent}
use Rattle.mq_props.proofs.Pushes.{knows_items}
use Rattle.mq_props.proofs.props.Props.has.Goals as goal

pub returns-clause-occurs : goal.returns-clause-occurs
returns-clause-occurs c =
    let knows = knows_items c.self.inside.place (record { seen = c.self.inside.seen; topic_alias = c.self.inside.topic_alias }) c.self.inside.bytes.now c.self.invariant in
    subst (λ (l : Listed). c.has.result ≡ occurs_in c.args.id l.items) c.self.view_is (c.has.ensures (items_of c.self.inside.bytes.now) knows.sees)

pub returns-clause-absent : goal.returns-clause-absent
returns-clause-absent c = λ none. absent c.args.id c.args.self.now.items (sym (returns-clause-occurs c) ∙ none)

pub returns-clause-allowed : goal.returns-clause-allowed
returns-clause-allowed c = subst (λ (l : Listed). AreAllowed l.place l.items) c.self.view_is (list_allowed c.self.inside.place c.self.inside.bytes.now c.self.invariant.is_list)
