use Rattle.std.proofs.Common.{Some, None, refl, arith}
use Rattle.mq_rules.specs.Under.{seen}
use Rattle.mq_inflight.proofs.MovedPlacesLaws.{moved-at-once, moved-resumed}
use Rattle.mq_inflight.proofs.inflight.Inflight.count_new.Goals as goal

pub returns : goal.returns
returns c = λ accepted n x tested past moves under kept was.
    let s = c.args.self.now in
    let e = seen c.args.at n in (
      moved-at-once tested s c.args.fate e past (Some c.args.identifier) x None None c.args.places.now.at_once (record c.args.places.now.at_once { taking = c.places_after-places.result }) c.has_any_used-taking.result moves accepted under kept was.0
          c.has_any_used-taking.ensures c.places_after-places.ensures refl refl refl refl,
      moved-resumed tested s c.args.fate e past (Some c.args.identifier) x None None None c.args.places.now.resumed c.count_moved.new.places moves accepted (omega arith) under kept was.1
          c.count_moved.ensures.same c.count_moved.ensures.fresh c.count_moved.ensures.opened,
    )
