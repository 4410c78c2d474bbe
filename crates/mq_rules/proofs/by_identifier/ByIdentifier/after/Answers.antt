use Rattle.std.proofs.Common.{◌≡◌, ◌+◌, ◌/◌, ◌%◌, ℕ, ap, arith}
use Rattle.mq_rules.proofs.IdentifierCountLaws.{under-nothing}
use Rattle.mq_rules.proofs.KeptOrderLaws.{kept-no_page, kept-no_slot}
use Rattle.mq_rules.proofs.by_identifier.ByIdentifier.after.Goals as goal

-- nothing is kept up to the next slot with a value
pub returns-then-slot-lt-SLOTS-clause-nothing : goal.returns-then-slot-lt-SLOTS-clause-nothing
returns-then-slot-lt-SLOTS-clause-nothing g c = λ i later below.
    under-nothing c.args.self.now i
    (kept-no_slot c.args.self.now c.args.identifier i (c.from-page.result / 256) (c.from.result % 256 + 1) c.next_slot-slot.result (ap (λ (n : ℕ). n / 256) c.from-page.ensures) (ap (λ (n : ℕ). n % 256 + 1) c.from.ensures)
    c.next_slot-slot.ensures.within c.next_slot-slot.ensures.nothing later below)

-- nor up to the next page with one
pub returns-clause-nothing : goal.returns-clause-nothing
returns-clause-nothing g c = λ i later below.
    under-nothing c.args.self.now i
    (kept-no_page c.args.self.now c.args.identifier i (c.from-page.result / 256) (c.from.result % 256 + 1) c.next_page.result (ap (λ (n : ℕ). n / 256) c.from-page.ensures) (ap (λ (n : ℕ). n % 256 + 1) c.from.ensures)
    (λ s from lt. c.next_slot-slot.ensures.nothing s from (omega (arith, lt, c.if-slot-lt-SLOTS.false))) c.next_page.ensures.nothing later below)
