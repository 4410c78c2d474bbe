use Rattle.mq_display.specs.Views.{is_timed_if_known, text_by}
use Rattle.mq_display.proofs.display.show_view.Given as goal

-- the way to the writer that is shown to, what it holds at first, what is shown, and whether the log is timed
abbrev pub ghosts-show_all : goal.ghosts-show_all
ghosts-show_all g a =
    let out = a.display.now.out.now in
    let timed = is_timed_if_known (g.R.Read.remaining a.reader.now) in
    record {
      direction = a.display.now.out.ghost_name;
      name = out.writer.ghost_name;
      held = g.W.Write.contents out.writer.now;
      text = text_by timed a.display.now.view;
      timed = timed;
    }
