use Rattle.std.proofs.Common.{codes, sym, ◌++◌}
use Rattle.mq_host.specs.Troubles.{reason_text}
use Rattle.mq_host.proofs.StreamLaws.{cut_first, told_then}
use Rattle.mq_host.proofs.trouble.write_unread.Goals as goal

pub returns-in_err-write_message : goal.returns-in_err-write_message
returns-in_err-write_message g c = record {
  told = cut_first _ (codes "mqjudge: read failed\nmqjudge: ") (c.args.place.now ++ (codes ": " ++ reason_text c.args.reason)) c.in_err-write_message.ensures.cut;
}

pub returns-in_err-write_message-2 : goal.returns-in_err-write_message-2
returns-in_err-write_message-2 g c = record {
  told = told_then _ _ _ _ (codes "mqjudge: read failed\nmqjudge: ") (c.args.place.now ++ (codes ": " ++ reason_text c.args.reason)) c.in_ok-write_message.ensures.written
      (cut_first _ c.args.place.now (codes ": " ++ reason_text c.args.reason) c.in_err-write_message-2.ensures.cut);
}

pub returns-in_err-write_message-3 : goal.returns-in_err-write_message-3
returns-in_err-write_message-3 g c = record {
  told = told_then _ _ _ _ (codes "mqjudge: read failed\nmqjudge: ") (c.args.place.now ++ (codes ": " ++ reason_text c.args.reason)) c.in_ok-write_message.ensures.written
      (told_then _ _ _ _ c.args.place.now (codes ": " ++ reason_text c.args.reason) c.in_ok-write_message-2.ensures.written
      (cut_first _ (codes ": ") (reason_text c.args.reason) c.in_err-write_message-3.ensures.cut));
}

pub returns : goal.returns
returns g c = record {
  told = told_then _ _ _ _ (codes "mqjudge: read failed\nmqjudge: ") (c.args.place.now ++ (codes ": " ++ reason_text c.args.reason)) c.in_ok-write_message.ensures.written
      (told_then _ _ _ _ c.args.place.now (codes ": " ++ reason_text c.args.reason) c.in_ok-write_message-2.ensures.written
      (told_then _ _ _ _ (codes ": ") (reason_text c.args.reason) c.in_ok-write_message-3.ensures.written (rw (sym c.text.ensures) c.write_message-4.ensures.told)));
}
