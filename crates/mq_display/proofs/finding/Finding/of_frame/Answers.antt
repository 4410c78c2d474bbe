-- A body that isn't decoded as a packet spells none.
use Rattle.std.proofs.Common.{Ok, true≢false, sym}
use Rattle.mq_display.proofs.OnePacketLaws.{no_spelling}
use Rattle.mq_display.proofs.finding.Finding.of_frame.Goals as goal

pub returns-in-Err-OtherVersion-clause-spells : goal.returns-in-Err-OtherVersion-clause-spells
returns-in-Err-OtherVersion-clause-spells c =
    (λ e. absurd (true≢false (sym e)), λ h. absurd (no_spelling h.0 _ (c.in-Err-OtherVersion.ensures.only (Ok h.0) h.1)))

pub returns-in-Err-Broken-clause-spells : goal.returns-in-Err-Broken-clause-spells
returns-in-Err-Broken-clause-spells c =
    (λ e. absurd (true≢false (sym e)), λ h. absurd (no_spelling h.0 _ (c.in-Err-Broken.ensures.only (Ok h.0) h.1)))
