use Rattle.std.proofs.Common.{Bool, false, ◌++◌, codes, refl, sym, subst, ◌∙◌}
use Rattle.mq_display.specs.Details.{hex_digits, is_control}
use Rattle.mq_display.specs.Outgoing.{Puts}
use Rattle.mq_display.proofs.OutgoingLaws.{puts_two}
use Rattle.mq_display.proofs.DetailLaws.{escaped_by}
use Rattle.mq_display.proofs.display.details.quoting.put_escaped_byte.Goals as goal

pub returns-then-is_quoting : goal.returns-then-is_quoting
returns-then-is_quoting g c =
    let byte = c.args.byte in
    subst (λ (quoting : Bool). Puts g.W.Write.contents c.args.out.now (escaped_by quoting (is_control byte) byte) c.put_bytes.new.self) (sym c.if-is_quoting.true ∙ c.is_quoting.ensures) c.put_bytes.ensures

pub returns-then-is_control : goal.returns-then-is_control
returns-then-is_control g c =
    let byte = c.args.byte in
    subst (λ (quoting : Bool). Puts g.W.Write.contents c.args.out.now (escaped_by quoting (is_control byte) byte) c.put_hex_digits.new.out) (sym c.if-is_quoting.false ∙ c.is_quoting.ensures)
    (subst (λ (control : Bool). Puts g.W.Write.contents c.args.out.now (escaped_by false control byte) c.put_hex_digits.new.out) (sym c.if-is_control.true ∙ c.is_control.ensures)
    (puts_two g.W.Write.contents _ _ _ (codes "\\x") (hex_digits byte) (codes "\\x" ++ hex_digits byte) c.put.ensures c.put_hex_digits.ensures refl))

pub returns-else-is_control : goal.returns-else-is_control
returns-else-is_control g c =
    let byte = c.args.byte in
    subst (λ (quoting : Bool). Puts g.W.Write.contents c.args.out.now (escaped_by quoting (is_control byte) byte) c.put_bytes-else-is_control.new.self) (sym c.if-is_quoting.false ∙ c.is_quoting.ensures)
    (subst (λ (control : Bool). Puts g.W.Write.contents c.args.out.now (escaped_by false control byte) c.put_bytes-else-is_control.new.self) (sym c.if-is_control.false ∙ c.is_control.ensures)
    c.put_bytes-else-is_control.ensures)
