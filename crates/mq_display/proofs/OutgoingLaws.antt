-- Text on its way to a writer.
use Rattle.std.proofs.Common.{◌≡◌, ℕ, Bool, true, false, List, [], ◌++◌, ◌<◌, length, Option, refl, sym, ap, subst, MutBor, ◌∙◌, append_assoc, append-nil, arith}
use Rattle.std.proofs.lemmas.List.{length-append}
use Rattle.std.specs.Io.KnownBytes.{Appends}
use Rattle.mq_trace.specs.Writing.{AppendsBeginning, LeavesToWrite}
use Rattle.mq_display.specs.declared.display.outgoing.Outgoing.{Outgoing}
use Rattle.mq_display.specs.Outgoing.{Sends, Carries, Puts}
use Rattle.mq_report.specs.Report.{StopsWriting}
use Rattle.mq_trace.proofs.Exports.{last-written, stopped-in-last}

-- more of the text waits
pub waits_more : {x y : Option (List ℕ)} {whole rest : List ℕ} (more : List ℕ) → LeavesToWrite x y whole rest → LeavesToWrite x y (whole ++ more) (rest ++ more)
waits_more {x} {y} {whole} {rest} more so_far =
    record { written = so_far.written; parts = ap (λ (l : List ℕ). l ++ more) so_far.parts ∙ append_assoc so_far.written rest more; appended = so_far.appended }

-- a beginning of a text is one of a longer text
pub begins_more : {x y : Option (List ℕ)} {whole : List ℕ} (more : List ℕ) → AppendsBeginning x y whole → AppendsBeginning x y (whole ++ more)
begins_more {x} {y} {whole} more part = record {
  written = part.written;
  unwritten = part.unwritten ++ more;
  whole = ap (λ (l : List ℕ). l ++ more) part.whole ∙ append_assoc part.written part.unwritten more;
  some = omega (arith, part.some, length-append part.unwritten more);
  appended = part.appended;
}

-- all of the text was written
pub waits_no_more : {x y : Option (List ℕ)} (z : Option (List ℕ)) {whole : List ℕ} (rest none : List ℕ) → LeavesToWrite x y whole rest → Appends y z rest → none ≡ []
    → LeavesToWrite x z whole none
waits_no_more {x} {y} z {whole} rest none so_far last is = record {
  written = whole;
  parts = sym (append-nil whole) ∙ ap (λ (l : List ℕ). whole ++ l) (sym is);
  appended = last-written z rest so_far last;
}

pub sends_more : (failed : Bool) (held now : Option (List ℕ)) (whole rest more : List ℕ) → Sends failed held now whole rest
    → Sends failed held now (whole ++ more) (rest ++ more)
sends_more false held now whole rest more so_far = waits_more more so_far
sends_more true held now whole rest more so_far = begins_more more so_far

-- more of the text waits, and is among what waits unless a write failed
pub sends_or_fails : (was failed : Bool) (held now : Option (List ℕ)) (whole rest more new : List ℕ) → 0 < length more
    → (failed ≡ false → (was ≡ false) × (new ≡ rest ++ more)) → Sends was held now whole rest → Sends failed held now (whole ++ more) new
sends_or_fails false false held now whole rest more new some put so_far = rw (put refl).1 (waits_more more so_far)
sends_or_fails true false held now whole rest more new some put so_far = absurd (cc (put refl).0)
sends_or_fails true true held now whole rest more new some put so_far = begins_more more so_far
sends_or_fails false true held now whole rest more new some put so_far = record {
  written = so_far.written;
  unwritten = rest ++ more;
  whole = ap (λ (l : List ℕ). l ++ more) so_far.parts ∙ append_assoc so_far.written rest more;
  some = omega (arith, some, length-append rest more);
  appended = so_far.appended;
}

-- what waits was written, or a write failed, now or before
pub sends_out : (was failed : Bool) (held now new : Option (List ℕ)) (whole rest none : List ℕ) → none ≡ []
    → (failed ≡ false → (was ≡ false) × Appends now new rest) → (failed ≡ true → StopsWriting was now new rest)
    → Sends was held now whole rest → Sends failed held new whole none
sends_out false false held now new whole rest none is written stopped so_far = waits_no_more new rest none so_far (written refl).1 is
sends_out false true held now new whole rest none is written stopped so_far = stopped-in-last new rest so_far (stopped refl)
sends_out true false held now new whole rest none is written stopped so_far = absurd (cc (written refl).0)
sends_out true true held now new whole rest none is written stopped so_far =
    subst (λ (w : Option (List ℕ)). AppendsBeginning held w whole) (sym (stopped refl)) so_far

-- nothing waits, and more of the text was written without delay, or a write failed, now or before
pub sends_directly : (was failed : Bool) (held now new : Option (List ℕ)) (whole more none : List ℕ) → none ≡ []
    → (failed ≡ false → (was ≡ false) × Appends now new more) → (failed ≡ true → StopsWriting was now new more)
    → Sends was held now whole none → Sends failed held new (whole ++ more) none
sends_directly was failed held now new whole more none is written stopped so_far =
    sends_out was failed held now new (whole ++ more) more none is written stopped
    (subst (λ (l : List ℕ). Sends was held now (whole ++ more) (l ++ more)) is (sends_more was held now whole none more so_far))

module _ {W : Type 0} (contents : W → Option (List ℕ)) where
  -- nothing was put
  pub puts_nothing : (out : Outgoing W) → Puts contents out [] out
  puts_nothing out = record { same = refl; carries = λ held whole so_far. rw append-nil so_far }

  -- a text was put among what waits
  pub puts_lines : (old new : Outgoing W) (text : List ℕ) → new.writer ≡ old.writer → new.failed ≡ old.failed → new.lines ≡ old.lines ++ text → Puts contents old text new
  puts_lines old new text writer failed lines = record {
    same = ap (λ (w : MutBor W). w.ghost_name) writer;
    carries = λ held whole so_far.
        subst (λ (w : MutBor W). Sends new.failed held (contents w.now) (whole ++ text) new.lines) (sym writer)
        (subst (λ (f : Bool). Sends f held (contents old.writer.now) (whole ++ text) new.lines) (sym failed)
        (subst (λ (l : List ℕ). Sends old.failed held (contents old.writer.now) (whole ++ text) l) (sym lines)
        (sends_more old.failed held (contents old.writer.now) whole old.lines text so_far)));
  }

  -- one text was put after another
  pub puts_two : (f g h : Outgoing W) (a b all : List ℕ) → Puts contents f a g → Puts contents g b h → a ++ b ≡ all → Puts contents f all h
  puts_two f g h a b all p q is = record {
    same = q.same ∙ p.same;
    carries = λ held whole so_far.
        subst (λ (l : List ℕ). Carries contents held l h) (append_assoc whole a b ∙ ap (λ (l : List ℕ). whole ++ l) is)
        (q.carries held (whole ++ a) (p.carries held whole so_far));
  }

  pub puts_three : (f g h i : Outgoing W) (a b c all : List ℕ) → Puts contents f a g → Puts contents g b h → Puts contents h c i → a ++ (b ++ c) ≡ all
      → Puts contents f all i
  puts_three f g h i a b c all p q r is = puts_two f g i a (b ++ c) all p (puts_two g h i b c (b ++ c) q r refl) is

  pub puts_four : (f g h i j : Outgoing W) (a b c d all : List ℕ) → Puts contents f a g → Puts contents g b h → Puts contents h c i → Puts contents i d j
      → a ++ (b ++ (c ++ d)) ≡ all → Puts contents f all j
  puts_four f g h i j a b c d all p q r s is =
      puts_two f g j a (b ++ (c ++ d)) all p (puts_three g h i j b c d (b ++ (c ++ d)) q r s refl) is

  pub puts_five : (f g h i j k : Outgoing W) (a b c d e all : List ℕ) → Puts contents f a g → Puts contents g b h → Puts contents h c i → Puts contents i d j
      → Puts contents j e k → a ++ (b ++ (c ++ (d ++ e))) ≡ all → Puts contents f all k
  puts_five f g h i j k a b c d e all p q r s t is =
      puts_two f g k a (b ++ (c ++ (d ++ e))) all p (puts_four g h i j k b c d e (b ++ (c ++ (d ++ e))) q r s t refl) is

  pub puts_six : (f g h i j k l : Outgoing W) (a b c d e x all : List ℕ) → Puts contents f a g → Puts contents g b h → Puts contents h c i → Puts contents i d j
      → Puts contents j e k → Puts contents k x l → a ++ (b ++ (c ++ (d ++ (e ++ x)))) ≡ all → Puts contents f all l
  puts_six f g h i j k l a b c d e x all p q r s t u is =
      puts_two f g l a (b ++ (c ++ (d ++ (e ++ x)))) all p (puts_five g h i j k l b c d e x (b ++ (c ++ (d ++ (e ++ x)))) q r s t u refl) is

-- for tactics: texts that were put one after another
pub ruleset putting = (puts_nothing, puts_lines, puts_two, puts_three, puts_four, puts_five, puts_six)
