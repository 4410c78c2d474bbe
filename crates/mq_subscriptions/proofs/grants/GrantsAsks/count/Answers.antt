use Rattle.std.proofs.Common.{nat_eq, sym}
use Rattle.indexmap.specs.IndexMap.{get}
use Rattle.mq_rules.specs.Notes.{note_in}
use Rattle.mq_rules.specs.Under.{seen}
use Rattle.mq_subscriptions.proofs.GrantLaws.{grants-places}
use Rattle.mq_subscriptions.proofs.grants.GrantsAsks.count.Goals as goal

pub returns : goal.returns
returns g c = rw (sym c.as_ref.ensures) (λ tested past under kept was.
    let s = c.args.self.now in
    grants-places tested c.args.fate (get nat_eq s.wanted) c.args.arg4 (seen c.args.at (note_in c.as_ref.result)) past s.bound c.is_place-here.result c.args.places.now c.places_after.result under kept.1 kept.0 was c.is_place-here.ensures c.places_after.ensures)
