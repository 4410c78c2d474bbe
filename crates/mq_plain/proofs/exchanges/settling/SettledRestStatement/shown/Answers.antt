use Rattle.std.proofs.Common.{rules, ◌≡◌, ℕ, length}
use Rattle.std.specs.Prelude.{reverse}
use Rattle.std.proofs.lemmas.Result.{IfOk-weaker}
use Rattle.mq_rules.specs.Moments.{note, newest}
use Rattle.mq_rules.specs.Exchanges.{shows_R}
use Rattle.mq_plain.specs.Shown.{IsShown}
use Rattle.mq_plain.specs.Tables.{at}
use Rattle.mq_plain.specs.Unanswered.{first_index, is_first_in}
use Rattle.mq_plain.proofs.FirstLaws.{is_first-shows}
use Rattle.mq_plain.proofs.ShowingLaws.{shown-alike}
use Rattle.mq_plain.proofs.exchanges.settling.SettledRestStatement.shown.Goals as goal

pub returns : goal.returns
returns g c = λ placed.
    let x = g.X.Exchange.exchange in
    let laws = g.met.X.Exchange in
    let slots = c.in_ok-slots.slots in
    let past = reverse c.args.before.now in
    let firsts : (i : ℕ) → (at slots i).first ≡ first_index x i past = search rules in
    IfOk-weaker c.first_places.result (λ places. IsShown (λ m. is_first_in x slots (length m.past) (note m)) past places.items) (λ places. IsShown (shows_R x (newest c.args._rest.now past)) past places.items)
    (λ places. shown-alike (λ m. is_first_in x slots (length m.past) (note m)) (shows_R x (newest c.args._rest.now past)) past places.items
    (is_first-shows x laws.is_received laws.is_sent slots c.args._rest.now past firsts)) (c.first_places.ensures placed)
