use Rattle.std.proofs.Common.{rules, ◌≡◌, ◌&&◌, ◌||◌, Some, sym, ap, subst, ◌∙◌, true, false}
use Rattle.std.specs.Prelude.{reverse}
use Rattle.std.proofs.lemmas.Result.{IfOk-weaker}
use Rattle.mq_rules.specs.declared.fate.Fate.TheVariants.{Resumed}
use Rattle.mq_rules.specs.Moments.{newest}
use Rattle.mq_rules.specs.Connections.{latest_fate, session, resumed}
use Rattle.mq_rules.specs.Identifiers.{is_used_up, is_passed_over, is_retained, shows_S06}
use Rattle.mq_rules.specs.Words.{is_some_and}
use Rattle.mq_plain.specs.Owing.{covers, owes}
use Rattle.mq_plain.specs.Shown.{IsShown}
use Rattle.mq_plain.specs.declared.owing.Excuse.{Excuse}
use Rattle.mq_plain.specs.Tables.{at}
use Rattle.mq_plain.proofs.OwingLaws.{resumed-is, shown-owed, shown-none, shown-waiting}
use Rattle.mq_plain.proofs.owing.owed_at_rest.Goals as goal

pub returns-then-not-is_resumed : goal.returns-then-not-is_resumed
returns-then-not-is_resumed c = λ rest placed.
    let past = reverse c.args.before.now in
    let isnt : c.is_resumed.result ≡ false = search rules in
    let none : resumed (latest_fate c.args.role past) ≡ false = ap resumed (sym c.latest_fate_of.ensures) ∙ sym c.is_resumed.ensures ∙ isnt in
    subst (IsShown (shows_S06 c.args.role (newest rest past)) past) (sym c.new.ensures.items) (shown-none c.args.role rest past none)

pub returns-then-is_waiting : goal.returns-then-is_waiting
returns-then-is_waiting c = λ rest placed.
    let past = reverse c.args.before.now in
    let waits : c.is_waiting.result ≡ true = search rules in
    subst (IsShown (shows_S06 c.args.role (newest rest past)) past) (sym c.new-then-is_waiting.ensures.items) (shown-waiting c.args.role rest past (sym (c.is_waiting.ensures rest) ∙ waits))

pub returns : goal.returns
returns c = λ rest placed.
    let past = reverse c.args.before.now in
    let idle : c.is_waiting.result ≡ false = search rules in
    let still = sym (c.is_waiting.ensures rest) ∙ idle in
    let is : c.is_resumed.result ≡ true = search rules in
    let f = resumed-is c.latest_fate_of.result (sym c.is_resumed.ensures ∙ is) in
    let fate : latest_fate c.args.role past ≡ Some f.0 = sym c.latest_fate_of.ensures ∙ f.1 in
    let excuse : Excuse = record { all = c.is_used_up.result; retained = c.refuses_retained.result } in
    IfOk-weaker c.owed_in_session.result (λ places. IsShown (owes (covers c.args.role excuse past) (at c.in_ok-again.again) (session c.args.role (Some Resumed) past)) past places.items)
    (λ places. IsShown (shows_S06 c.args.role (newest rest past)) past places.items)
    (λ places shown. shown-owed c.args.role rest past (at c.in_ok-again.again) (covers c.args.role excuse past) places.items f.0 fate f.2 still c.in_ok-again.ensures
    (λ m i opens.
    ap (λ o. (c.is_used_up.result || is_some_and (λ j. is_passed_over c.args.role (Some Resumed) j past m) o) || (c.refuses_retained.result && is_retained m)) opens
    ∙ ap (λ b. (b || is_passed_over c.args.role (Some Resumed) i past m) || (c.refuses_retained.result && is_retained m)) (c.is_used_up.ensures rest)
    ∙ ap (λ b. (is_used_up c.args.role (newest rest past) || is_passed_over c.args.role (Some Resumed) i past m) || (b && is_retained m)) (c.refuses_retained.ensures rest)) shown)
    (c.owed_in_session.ensures placed)
