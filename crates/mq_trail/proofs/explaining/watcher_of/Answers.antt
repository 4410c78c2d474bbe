use Rattle.mq_trail.proofs.explaining.watcher_of.Goals as goal

pub returns : goal.returns
returns g c =
    c.beside.ensures c.args.tested c.new-rejudging.ensures
    (c.new-explaining.ensures c.args.tested c.requires (c.beside-both.ensures c.args.tested c.in_ok-introducing.ensures c.in_ok-reviewing.ensures))
