-- The first and the last bytes cover all.
use Rattle.std.proofs.Common.{◌≡◌, ◌-◌, ℕ, List, length, drop, ap, ◌∙◌}
use Rattle.std.proofs.lemmas.List.{take_rest}
use Rattle.mq_wire.specs.Plain.{is_plain}
use Rattle.mq_wire.proofs.PlainLaws.{ends_cover}
use Rattle.mq_wire.proofs.plain.are_ends_plain.Goals as goal

pub returns : goal.returns
returns c =
    let bytes = c.args.bytes.now in
    let back : c.is_run_plain-back.result ≡ is_plain (drop (length bytes - c.args.count) bytes) =
    c.is_run_plain-back.ensures ∙ ap (λ (l : List ℕ). is_plain l) (take_rest bytes (length bytes - c.args.count)) in
    rw (c.is_run_plain-front.ensures, back) (ends_cover bytes c.args.count c.requires.within c.requires.cover)
