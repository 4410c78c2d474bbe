-- What a fault conflicts with, where no event is to blame.
use Rattle.std.specs.Prelude.{None}
use Rattle.mq_rules.specs.declared.evidence.Evidence.{Evidence}
use Rattle.mq_rules.specs.declared.evidence.Numbers.TheVariants.{Nothing}

abbrev pub nothing : Evidence
nothing = record { because = None; numbers = Nothing }
