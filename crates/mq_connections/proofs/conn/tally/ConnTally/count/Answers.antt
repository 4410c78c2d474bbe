use Rattle.std.proofs.Common.{◌≡◌, ◌+◌, ◌∷◌, refl}
use Rattle.mq_connections.specs.declared.conn.tally.ConnTally.{ConnTally}
use Rattle.mq_rules.specs.declared.rule.Rule.TheVariants.{C01, C02, C03, C04, C05, C06, C07, C08, C09, C10, C11, C12, C13, C14, C15, C16, C17, C18, C19, C20, C21, C22, C23}
use Rattle.mq_rules.specs.Notes.{note_in}
use Rattle.mq_rules.specs.Occasions.{places}
use Rattle.mq_connections.specs.Trying.{tally_places}
use Rattle.mq_rules.specs.Under.{seen}
use Rattle.mq_connections.proofs.TallyLaws.{of-tallied}
use Rattle.mq_connections.proofs.conn.tally.ConnTally.count.Goals as goal

pub returns : goal.returns
returns c = λ beside tested past end state placed was.
    let new : ConnTally = record { c01 = c.counted-self.result; c02 = c.counted-self-2.result; c03 = c.counted-self-3.result; c04 = c.counted-self-4.result; c05 = c.counted-self-5.result; c06 = c.counted-self-6.result; c07 = c.counted-self-7.result; c08 = c.counted-self-8.result; c09 = c.counted-self-9.result; c10 = c.counted-self-10.result; c11 = c.counted-self-11.result; c12 = c.counted-self-12.result; c13 = c.counted-self-13.result; c14 = c.counted-self-14.result; c15 = c.counted-self-15.result; c16 = c.counted-self-16.result; c17 = c.counted-self-17.result; c18 = c.counted-self-18.result; c19 = c.counted-self-19.result; c20 = c.counted-self-20.result; c21 = c.counted-self-21.result; c22 = c.counted-self-22.result; c23 = c.counted-self-23.result } in
    of-tallied (λ rule. tally_places new rule + beside rule ≡ places tested (seen c.args.at (note_in c.args.event) ∷ past) rule)
    (c.counted-self.ensures (beside C01) tested past end state placed (was C01 refl))
    (c.counted-self-2.ensures (beside C02) tested past end state placed (was C02 refl))
    (c.counted-self-3.ensures (beside C03) tested past end state placed (was C03 refl))
    (c.counted-self-4.ensures (beside C04) tested past end state placed (was C04 refl))
    (c.counted-self-5.ensures (beside C05) tested past end state placed (was C05 refl))
    (c.counted-self-6.ensures (beside C06) tested past end state placed (was C06 refl))
    (c.counted-self-7.ensures (beside C07) tested past end state placed (was C07 refl))
    (c.counted-self-8.ensures (beside C08) tested past end state placed (was C08 refl))
    (c.counted-self-9.ensures (beside C09) tested past end state placed (was C09 refl))
    (c.counted-self-10.ensures (beside C10) tested past end state placed (was C10 refl))
    (c.counted-self-11.ensures (beside C11) tested past end state placed (was C11 refl))
    (c.counted-self-12.ensures (beside C12) tested past end state placed (was C12 refl))
    (c.counted-self-13.ensures (beside C13) tested past end state placed (was C13 refl))
    (c.counted-self-14.ensures (beside C14) tested past end state placed (was C14 refl))
    (c.counted-self-15.ensures (beside C15) tested past end state placed (was C15 refl))
    (c.counted-self-16.ensures (beside C16) tested past end state placed (was C16 refl))
    (c.counted-self-17.ensures (beside C17) tested past end state placed (was C17 refl))
    (c.counted-self-18.ensures (beside C18) tested past end state placed (was C18 refl))
    (c.counted-self-19.ensures (beside C19) tested past end state placed (was C19 refl))
    (c.counted-self-20.ensures (beside C20) tested past end state placed (was C20 refl))
    (c.counted-self-21.ensures (beside C21) tested past end state placed (was C21 refl))
    (c.counted-self-22.ensures (beside C22) tested past end state placed (was C22 refl))
    (c.counted-self-23.ensures (beside C23) tested past end state placed (was C23 refl))
