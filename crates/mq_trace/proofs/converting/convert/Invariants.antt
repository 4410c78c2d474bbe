use Rattle.mq_trace.proofs.converting.convert.Given as goal

abbrev pub ghosts-convert_all : goal.ghosts-convert_all
ghosts-convert_all g a = record { held = g.W.Write.contents a.writer.now }
