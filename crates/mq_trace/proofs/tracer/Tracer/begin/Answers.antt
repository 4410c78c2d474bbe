use Rattle.std.proofs.Common.{◌≡◌, ◌++◌, ◌-◌, ◌∙◌, ℕ, List, ap, length, min, sym}
use Rattle.std.proofs.lemmas.List.{take-append-drop}
use Rattle.mq_trace.proofs.BeginLaws.{Heads, begins, stops_first}
use Rattle.mq_trace.proofs.tracer.Tracer.begin.Goals as goal

pub returns-in-Ok-clause-begins : goal.returns-in-Ok-clause-begins
returns-in-Ok-clause-begins c = λ log follows.
    let header = c.split_at.result.0.now in
    let rest = c.split_at.result.1.now in
    let parts : c.args.piece.now ≡ header ++ rest = rw (c.split_at.ensures.front, c.split_at.ensures.back) (sym (take-append-drop c.header_count.result c.args.piece.now)) in
    let heads : Heads log header rest = c.split_at.ensures.front_len ∙ c.header_count.ensures.count log follows ∙ ap (λ (l : List ℕ). min (8 - length log) (length l)) parts in
    begins c.feed.new.self log c.args.piece.now header rest parts heads (c.in-Ok.ensures.follows log follows)

pub returns-in-Err-clause-stopped : goal.returns-in-Err-clause-stopped
returns-in-Err-clause-stopped c = λ log follows.
    let header = c.split_at.result.0.now in
    let rest = c.split_at.result.1.now in
    let parts : c.args.piece.now ≡ header ++ rest = rw (c.split_at.ensures.front, c.split_at.ensures.back) (sym (take-append-drop c.header_count.result c.args.piece.now)) in
    let heads : Heads log header rest = c.split_at.ensures.front_len ∙ c.header_count.ensures.count log follows ∙ ap (λ (l : List ℕ). min (8 - length log) (length l)) parts in
    stops_first c.args.self.now.reading.limit log c.args.piece.now header rest c.feed.new.self.reading c.in-Err.refusal parts heads (c.in-Err.ensures.stopped log follows)
