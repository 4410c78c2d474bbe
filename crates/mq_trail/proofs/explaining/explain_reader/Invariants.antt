use Rattle.mq_trail.proofs.explaining.explain_reader.Given as goal

-- the faults that are explained
abbrev pub ghosts-explain_as : goal.ghosts-explain_as
ghosts-explain_as g a = record { wanted = a.verdict.now.faults }
