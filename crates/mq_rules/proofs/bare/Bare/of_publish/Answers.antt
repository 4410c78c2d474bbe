use Rattle.std.proofs.Common.{◌≡◌, true, cond, arith, [], nat_le, length, ap}
use Rattle.std.proofs.lemmas.Bool.Decides.{nat_tests}
use Rattle.mq_rules.specs.declared.packet_note.PacketFields.TheVariants.{Publish}
use Rattle.mq_rules.specs.Notes.{bare_note, bare_publish_note, note_of_bare}
use Rattle.mq_rules.proofs.bare.Bare.of_publish.Goals as goal

pub returns-clause-note : goal.returns-clause-note
unfolding note_of_bare
returns-clause-note c =
    let topic = c.args.topic.now in
    let short = c.requires in
    let is : nat_le (length topic) 30 ≡ true = grind (arith, nat_tests, short) in
    ap (λ b. bare_note c.args.direction c.args.size (Publish (bare_publish_note c.args.direction c.args.identifier c.args.qos c.args.duplicate (cond b topic [])))) is
