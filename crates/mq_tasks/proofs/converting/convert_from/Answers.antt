use Rattle.std.proofs.Common.{arith, inl, inr}
use Rattle.mq_host.specs.Streams.{stream}
use Rattle.mq_tasks.proofs.ConvertingLaws.{has_header, has_none, header_fails, header_is_refused}
use Rattle.mq_tasks.proofs.converting.convert_from.Goals as goal

pub returns-in-Ok-None-clause-done : goal.returns-in-Ok-None-clause-done
returns-in-Ok-None-clause-done g c = λ begun.
    let whole = rw c.in-Ok-None.field-0-is at c.in-Ok-None.ensures.whole in
    elim (c.make_and_convert.ensures.done begun) [
      | inl nothing ↦ inl nothing
      | inr made ↦ inr (inr (has_header c.args.start.now (g.R.Read.remaining c.args.input) c.requires.few c.requires.enough whole, made))
    ]

pub returns-in-Ok-Some-clause-refused : goal.returns-in-Ok-Some-clause-refused
returns-in-Ok-Some-clause-refused g c = λ e.
    let known = rw c.in-Ok-Some.field-0-is at c.in-Ok-Some.ensures.refused in
    header_is_refused c.args.start.now (g.R.Read.remaining c.args.input) (g.W.Write.contents c.args.output.now) (g.W.Write.contents c.refuse_header.new.output)
    c.in-Ok-Some.refusal c.requires.enough known.0 known.1 (c.refuse_header.ensures.told e)

pub returns-in-Ok-Some-clause-failed : goal.returns-in-Ok-Some-clause-failed
returns-in-Ok-Some-clause-failed g c = λ e.
    let known = rw c.in-Ok-Some.field-0-is at c.in-Ok-Some.ensures.refused in
    inr (inr (header_fails c.args.place.now c.args.start.now (g.R.Read.remaining c.args.input) (g.W.Write.contents c.args.output.now)
    (g.W.Write.contents c.refuse_header.new.output) (g.W.Output.is_closed c.refuse_header.new.output)
    (stream g.E.ErrorStream.contents g.E.ErrorStream.has_failed c.args.error.now c.refuse_header.new.error) c.in-Ok-Some.refusal
    c.requires.enough known.0 known.1 (c.refuse_header.ensures.begun e) (c.refuse_header.ensures.failed e)))

pub returns-in-Ok-Some-clause-done : goal.returns-in-Ok-Some-clause-done
returns-in-Ok-Some-clause-done g c = λ begun.
    let known = rw c.in-Ok-Some.field-0-is at c.in-Ok-Some.ensures.refused in
    elim c.refuse_header.ensures.statuses [
      | inl refused ↦ inr (inl (
        refused,
        begun,
        has_none c.args.start.now (g.R.Read.remaining c.args.input) c.in-Ok-Some.refusal c.requires.few c.requires.enough known.1,
      ))
      | inr failed ↦ inl (omega (arith, failed), begun)
    ]
