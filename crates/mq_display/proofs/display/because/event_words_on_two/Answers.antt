use Rattle.std.proofs.Common.{ℕ, List, ◌++◌, ap, append-nil, codes, decimal}
use Rattle.mq_display.proofs.display.because.event_words_on_two.Goals as goal

-- nothing is said after the limit
pub returns-in-K01 : goal.returns-in-K01
returns-in-K01 c = rw c.in-K01.is (λ first second. ap (λ (limit : List ℕ). codes ": nothing came from the client for " ++ (decimal first ++ (codes " microseconds, and the limit is " ++ limit))) (append-nil (decimal second)))

pub returns-in-K02 : goal.returns-in-K02
returns-in-K02 c = rw c.in-K02.is (λ first second. ap (λ (limit : List ℕ). codes ": nothing came from the client for " ++ (decimal first ++ (codes " microseconds, and the limit is " ++ limit))) (append-nil (decimal second)))
