use Rattle.std.proofs.Common.{leb, rules, ◌∙◌}
use Rattle.std.proofs.lemmas.List.Sorted.{IsPartitionPoint-from_clause, IsPartitionedBy-leb}
use Rattle.mq_evidence.specs.declared.overtaking.Resend.{Resend}
use Rattle.mq_evidence.specs.Overtaking.{is_later}
use Rattle.mq_evidence.proofs.OvertakingLaws.{first-failing, got, le-not-lt}
use Rattle.mq_evidence.proofs.overtaking.first_after.Goals as goal

pub returns : goal.returns
returns c = λ rising.
    let parted = IsPartitionedBy-leb (λ (r : Resend). r.opened) _ c.args.opened rising in
    let point = IsPartitionPoint-from_clause (λ (r : Resend). leb r.opened c.args.opened) _ _ c.partition_point-passed.ensures.partitioned parted (λ a r q k. search rules) in
    c.copied.ensures
    ∙ got c.args.resends.now c.partition_point-passed.result c.get.result c.get.ensures.lookup.3
    ∙ first-failing (λ (r : Resend). leb r.opened c.args.opened) (is_later c.args.opened) c.args.resends.now c.partition_point-passed.result (λ r. le-not-lt r.opened c.args.opened) point
