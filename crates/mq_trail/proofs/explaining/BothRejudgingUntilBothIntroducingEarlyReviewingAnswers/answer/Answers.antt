use Rattle.mq_trail.proofs.explaining.BothRejudgingUntilBothIntroducingEarlyReviewingAnswers.answer.Goals as goal

pub reasons_in-requires : goal.reasons_in-requires
reasons_in-requires g c = record { wanted = c.requires.sought; further = c.requires.further }

pub returns : goal.returns
returns g c = λ taken past agrees. c.reasons_in.ensures taken past agrees
