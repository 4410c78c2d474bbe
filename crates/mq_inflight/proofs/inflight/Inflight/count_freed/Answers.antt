use Rattle.std.proofs.Common.{Some, None, false, refl}
use Rattle.mq_rules.specs.Under.{seen}
use Rattle.mq_inflight.proofs.MovedPlacesLaws.{moved-at-once, moved-resumed, none-more}
use Rattle.mq_inflight.proofs.inflight.Inflight.count_freed.Goals as goal

pub returns : goal.returns
returns c = λ n at f tested past accepted small moves under kept was.
    let s = c.args.self.now in
    let e = seen at n in
    let p = c.args.places.now in (
      moved-at-once tested s f e past None false (Some c.args.identifier) None p.at_once p.at_once false moves accepted under kept was.0 refl (λ low. none-more p.at_once.taking) refl refl refl refl,
      moved-resumed tested s f e past None false (Some c.args.identifier) None None p.resumed c.count_moved.new.places moves accepted small under kept was.1
          c.count_moved.ensures.same c.count_moved.ensures.fresh c.count_moved.ensures.opened,
    )
