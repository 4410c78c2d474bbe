use Rattle.std.proofs.Common.{rules}
use Rattle.mq_command.proofs.DigitLaws.{read_whole}
use Rattle.mq_host.proofs.reading.read_text.Goals as goal

pub returns-else-most-len-clause-text : goal.returns-else-most-len-clause-text
returns-else-most-len-clause-text g c = read_whole (g.R.Read.remaining c.args.reader.now) c.args.most c.read_to_end.new.buf.items (search rules) (search rules)
