-- A plain text is the text that stands there.
use Rattle.mq_wire.proofs.PlainLaws.{plain_taken}
use Rattle.mq_wire.proofs.cursor.Cursor.plain_text.Goals as goal

pub returns-clause-text : goal.returns-clause-text
returns-clause-text c = plain_taken (λ text. text.now) c.take_plain.result c.args.self.now c.take_plain.new.self c.take_plain.ensures.exact
