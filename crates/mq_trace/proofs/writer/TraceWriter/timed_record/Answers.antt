use Rattle.std.proofs.Common.{ℕ, ◌≡◌, ◌∷◌, ◌++◌, true, List, length, OnOk, OnErr, sym, ◌∙◌, ap, subst}
use Rattle.std.specs.Prelude.{◌==◌}
use Rattle.std.specs.Int.{w32, w64, to_be_bytes}
use Rattle.mq_trace.specs.Writing.{Tracing, kind_byte, framed, WritesAll, FailsToWrite}
use Rattle.mq_trace.proofs.ReadBackLaws.{moment_written}
use Rattle.mq_trace.proofs.writer.TraceWriter.timed_record.Goals as goal

-- the bytes that are written are those of the record
written : (front body : List ℕ) (version moment kept kind : ℕ) → front ≡ kind ∷ to_be_bytes w32 (length body) ++ to_be_bytes w64 kept → kept ≡ moment → (version == 2) ≡ true → front ++ body ≡ framed version moment kind body
written front body version moment kept kind is same timed =
    ap (λ (l : List ℕ). l ++ body) (is
    ∙ ap (λ m. kind ∷ to_be_bytes w32 (length body) ++ to_be_bytes w64 m) same
    ∙ ap (λ (l : List ℕ). kind ∷ to_be_bytes w32 (length body) ++ l) (sym (moment_written version moment timed)))

pub returns-clause-ok : goal.returns-clause-ok
returns-clause-ok g c =
    let old = c.args.self.now in
    let body = c.args.body.now in
    let is = written c.timed_head-head.result body old.version old.moment c.self.inside.moment (kind_byte c.args.kind) c.timed_head-head.ensures (ap (λ (t : Tracing g.row.W.Denot). t.moment) c.self.view_is) c.requires.timed in
    subst (λ (l : List ℕ). OnOk c.write.result (WritesAll {W = g.row.W.Denot} g.W.Write.contents old c.write.new.self l)) is c.write.ensures.ok

pub returns-clause-write : goal.returns-clause-write
returns-clause-write g c =
    let old = c.args.self.now in
    let body = c.args.body.now in
    let is = written c.timed_head-head.result body old.version old.moment c.self.inside.moment (kind_byte c.args.kind) c.timed_head-head.ensures (ap (λ (t : Tracing g.row.W.Denot). t.moment) c.self.view_is) c.requires.timed in
    subst (λ (l : List ℕ). OnErr c.write.result (FailsToWrite {W = g.row.W.Denot} g.W.Write.contents old c.write.new.self l)) is c.write.ensures.write
