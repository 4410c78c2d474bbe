use Rattle.mq_trail.proofs.second_reading.follow_reader.Given as goal

-- the end that is tested
abbrev pub ghosts-follow_as : goal.ghosts-follow_as
ghosts-follow_as g a = record { tested = a.tested }
