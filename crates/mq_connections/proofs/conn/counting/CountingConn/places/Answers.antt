use Rattle.std.proofs.Common.{Bool, cond, Some, None, arith, ap, sym, ◌+◌, ◌∙◌}
use Rattle.mq_rules.specs.Occasions.{places}
use Rattle.mq_connections.specs.Trying.{is_tallied, tally_places}
use Rattle.mq_rules.proofs.Exports.{places-most}
use Rattle.mq_connections.proofs.TallyLaws.{is_whole, tally-found, tally-absent}
use Rattle.mq_connections.proofs.conn.counting.CountingConn.places.Goals as goal

pub returns-in-Some : goal.returns-in-Some
returns-in-Some c = λ tested taken past was.
    let rule = c.args.rule in
    let tally = tally_places c.args.self.now.others rule in
    let found = tally-found (is_tallied rule) tally c.in-Some.others (sym c.places.ensures ∙ c.in-Some.is) in
    let all = ap (λ n. n + c.places-in-Some.result) (sym found.1) ∙ ap (λ n. tally + n) c.places-in-Some.ensures ∙ was.1 rule found.0 in
    let most = places-most tested past rule in
    let short = was.2 in
    ap Some (c.sum.ensures (omega (arith, all, most, short)) ∙ all) ∙ ap (λ (b : Bool). cond b (Some (places tested past rule)) None) (sym (is_whole tested.role rule ∙ found.0))

pub returns-in-None : goal.returns-in-None
returns-in-None c = λ tested taken past was.
    let rule = c.args.rule in
    let absent = tally-absent (is_tallied rule) (tally_places c.args.self.now.others rule) (sym c.places.ensures ∙ c.in-None.is) in
    ap (λ (b : Bool). cond b (Some (places tested past rule)) None) (sym (is_whole tested.role rule ∙ absent))
