use Rattle.std.proofs.Common.{sym, ◌∙◌}
use Rattle.std.specs.List.{list_any, sum_by}
use Rattle.mq_rules.specs.Notes.{is_boundary, sent_grant, received_subscription}
use Rattle.mq_subscriptions.proofs.UnchangedLaws.{waits_on, weighs_on}
use Rattle.mq_subscriptions.proofs.filters.Filters.take_in.Goals as goal

pub returns-then-not-may_change-clause-waiting : goal.returns-then-not-may_change-clause-waiting
returns-then-not-may_change-clause-waiting c = λ t.
    waits_on c.args.fate (is_boundary c.args.note.now) (sent_grant c.args.note.now) (received_subscription c.args.note.now) t (λ p. list_any p c.args.self.now.waiting)
    (sym c.may_change.ensures ∙ c.if-not-may_change.true)

pub returns-then-not-may_change-clause-sums : goal.returns-then-not-may_change-clause-sums
returns-then-not-may_change-clause-sums c = λ weigh.
    weighs_on c.args.fate (is_boundary c.args.note.now) (sent_grant c.args.note.now) (received_subscription c.args.note.now) weigh (λ g. sum_by g c.args.self.now.waiting)
    (sym c.may_change.ensures ∙ c.if-not-may_change.true)
