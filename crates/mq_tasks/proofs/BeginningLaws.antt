-- The first bytes of a log, and what is known of all of it.
use Rattle.std.proofs.Common.{◌≡◌, ℕ, List, [], ◌++◌, ◌∷◌, append-nil, length, take, Option, Some, None, IfSome, ◌⊎◌, inl, inr, refl, sym, subst, ap, ap₂, ◌∙◌, arith, codes}
use Rattle.std.specs.Fmt.{option_append}
use Rattle.std.specs.Prelude.{if◌then◌else◌}
use Rattle.std.specs.List.{list_any}
use Rattle.std.specs.Str.{bytes_eq}
use Rattle.std.specs.Io.KnownBytes.{Consumes, IsAtEnd, Keeps, prepend_known}
use Rattle.std.proofs.lemmas.List.{take-append-le}
use Rattle.mq_host.specs.Streams.{IsTold, Stream}
use Rattle.mq_host.specs.Troubles.{capture_marks, hint_line}
use Rattle.mq_tasks.specs.Program.{IsHinted}

-- what a reader has that gives these bytes and then what another one gives
pub joined : (start : List ℕ) (rest : Option (List ℕ)) → option_append (Some start) rest ≡ prepend_known start rest
joined start None = refl
joined start (Some bytes) = refl

-- bytes that were read, and then what is left, are what there was
pub rejoined : (old new : Option (List ℕ)) (taken start : List ℕ) → start ≡ taken → Consumes old new taken → Keeps old (prepend_known start new)
rejoined None new taken start same c = tt
rejoined (Some log) None taken start same c = c
rejoined (Some log) (Some rest) taken start same c = ap (λ (bytes : List ℕ). bytes ++ rest) same ∙ sym c

-- ---- what a file is

-- the line on a file depends on its first four and its first two bytes
hint_by : (a b : List ℕ) → take 4 a ≡ take 4 b → take 2 a ≡ take 2 b → hint_line a ≡ hint_line b
hint_by a b four two = ap₂ (λ (x y : List ℕ). if list_any (bytes_eq x) capture_marks then codes "mqjudge: it is a capture: recorders/from-capture makes logs of it" ++ 10 ∷ []
    else (if bytes_eq y (0x1F ∷ 0x8B ∷ []) then codes "mqjudge: it is compressed by gzip: unpack it first; of a capture recorders/from-capture makes logs" ++ 10 ∷ [] else [])) four two

-- so that four bytes show it, or all if there are fewer
hint_of_start : (start rest : List ℕ) → (length start ≡ 8) ⊎ (rest ≡ []) → hint_line (start ++ rest) ≡ hint_line start
hint_of_start start rest (inl enough) = hint_by (start ++ rest) start (take-append-le 4 start rest (omega (arith, enough))) (take-append-le 2 start rest (omega (arith, enough)))
hint_of_start start rest (inr none) = ap (λ (bytes : List ℕ). hint_line (start ++ bytes)) none ∙ ap hint_line (append-nil start)

shown_by_start : (old new : Option (List ℕ)) (start : List ℕ) → Consumes old new start → (length start ≡ 8) ⊎ IsAtEnd new
    → IfSome old (λ bytes. hint_line bytes ≡ hint_line start)
shown_by_start None new start c enough = tt
shown_by_start (Some log) None start c enough = absurd c
shown_by_start (Some log) (Some rest) start c enough = ap hint_line c ∙ hint_of_start start rest enough

pub hinted_by_start : (old new : Option (List ℕ)) (taken start : List ℕ) (error : Stream) → start ≡ taken → Consumes old new taken
    → (length taken ≡ 8) ⊎ IsAtEnd new → IsTold error (hint_line start) → IsHinted old error
hinted_by_start old new taken start error same c enough told = record {
  start = start;
  shows = subst (λ (first : List ℕ). IfSome old (λ bytes. hint_line bytes ≡ hint_line first)) (sym same) (shown_by_start old new taken c enough);
  told = told;
}

-- the line on a file is that on what a reader gives of it
shown_of_kept : (file read : Option (List ℕ)) (start : List ℕ) → Keeps file read → IfSome read (λ bytes. hint_line bytes ≡ hint_line start)
    → IfSome file (λ bytes. hint_line bytes ≡ hint_line start)
shown_of_kept None read start k h = tt
shown_of_kept (Some log) None start k h = absurd k
shown_of_kept (Some log) (Some bytes) start k h = subst (λ (x : List ℕ). hint_line x ≡ hint_line start) k h

pub hinted_of_kept : (file read : Option (List ℕ)) (error : Stream) → Keeps file read → IsHinted read error → IsHinted file error
hinted_of_kept file read error k h = record { start = h.start; shows = shown_of_kept file read h.start k h.shows; told = h.told }
