use Rattle.std.proofs.Common.{true, false, ◌≡◌, sym, ◌∙◌}
use Rattle.mq_exchanges.proofs.requests.RequestsDiscerning.leaves_out.Goals as goal

pub returns-in-Some : goal.returns-in-Some
returns-in-Some c = rw c.in-Some.is (λ places tested fate at e past h small under kept was. record { bound = λ on. c.leaves_out.ensures places tested fate at e past h small under kept.1 (was.bound on); unbound = was.unbound })

pub returns-in-None : goal.returns-in-None
returns-in-None c = rw c.in-None.is (λ places tested fate at e past h small under kept was. record { bound = λ on. absurd (let bad : true ≡ false = sym on ∙ kept in cc); unbound = was.unbound })
