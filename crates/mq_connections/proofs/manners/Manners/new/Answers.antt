use Rattle.std.proofs.Common.{refl}
use Rattle.mq_connections.proofs.MannersLaws.{manners-start}
use Rattle.mq_connections.proofs.manners.Manners.new.Goals as goal

pub returns : goal.returns
returns c = manners-start _ c.args.tested refl refl refl refl refl refl
