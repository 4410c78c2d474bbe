-- What is told of a log while it is judged.
use Rattle.std.proofs.Common.{◌≡◌, ℕ, Bool, inl, inr, List, [], ◌∷◌, ◌++◌, length, Option, None, Some, Result, Ok, Err, refl, sym, ap, ◌∙◌, append_assoc, append-nil}
use Rattle.std.specs.FinMap as map
use Rattle.std.specs.Prelude.{IfSome}
use Rattle.mq_log.specs.declared.refusal.Refusal.{Refusal}
use Rattle.mq_trace.specs.Feeding.{FedAll}
use Rattle.mq_trace.proofs.Exports.{some-taken, whole-taken}
use Rattle.mq_rules.specs.declared.role.Further.{Further}
use Rattle.mq_rules.specs.FaultKeys.{FaultMap}
use Rattle.mq_rules.specs.Notes.{tested_by, seen_in}
use Rattle.mq_rules.proofs.Exports.{entries-listed}
use Rattle.mq_judge.specs.declared.judge.Judge.{Judge}
use Rattle.mq_report.specs.declared.report.Outcome.{Outcome}
use Rattle.mq_report.specs.declared.report.RunFault.{RunFault}
use Rattle.mq_report.specs.declared.report.RunFault.TheVariants as run_faults
use Rattle.mq_report.specs.Chosen.{is_judged}
use Rattle.mq_judge.specs.Judging.{is_counting, AreFaultsOf, Follows, RefusesIn}
use Rattle.mq_judge.specs.Runner.{found_in}
use Rattle.mq_report.specs.Stopping.{FedBefore}
use Rattle.mq_judge.specs.Telling.{Said, advanced, ended, SaidSoFar, IsTold, IsToldOf, IsToldOfRun, AreFirst, IsJudgedFor}

-- of nothing nothing is said
pub told-nothing : (further : Further) (old new : SaidSoFar) → ((before : List Said) → old before → new before) → IsTold further old new []
told-nothing further old new same = record { said = []; of_them = refl; told = same }

-- the number of the faults that a judge knows of a log
pub faults-known : (further : Further) (log : List ℕ) (faults : FaultMap) → AreFaultsOf further log faults → map.len faults ≡ length (found_in further log)
faults-known further log faults are = map.len-entries faults ∙ ap (length {A = _}) (entries-listed (is_judged (tested_by further log)) (tested_by further log) (seen_in log) faults are)

-- one piece more was told
pub told-piece : (further : Further) (old mid new : SaidSoFar) (log piece : List ℕ) (bytes count : ℕ) → IsTold further old mid log → bytes ≡ length piece → count ≡ length (found_in further (log ++ piece))
    → ((before : List Said) → mid before → new (advanced bytes count ∷ before)) → IsTold further old new (log ++ piece)
told-piece further old mid new log piece bytes count h long many more = record {
  said = advanced bytes count ∷ h.said;
  of_them = (log, piece, refl, long, many, h.of_them);
  told = λ before was. more (h.said ++ before) (h.told before was);
}

module _ {W S : Type 0} (judge_of : W → Judge) (further : Further) (old : SaidSoFar) (counting : Bool) (words : S → SaidSoFar) where
  -- a judge that tells has followed a log, and told all of it
  abbrev pub FollowsTelling : W → S → List ℕ → Type 0
  FollowsTelling w s log = Follows (judge_of w) log × IsTold further old (words s) log × (is_counting (judge_of w) ≡ counting) × ((judge_of w).further ≡ further)

  -- or it has refused a byte of a piece after the log
  abbrev pub StopsTelling : ℕ → W → S → List ℕ → List ℕ → Refusal → Type 0
  StopsTelling limit w s log piece refusal = RefusesIn limit (judge_of w) log piece refusal × IsTold further old (words s) log

  -- of a judge that was fed all, while it told
  pub judge-fed-all : {first : ℕ} {x y : Option (List ℕ)} {w : W} {s : S} → FedAll (λ v. (judge_of v).limit) FollowsTelling first x y w s
      → FedAll (λ j. j.limit) (λ j (_ : S). Follows j) first x y (judge_of w) s
  judge-fed-all took = record { log = took.log; consumed = took.consumed; ended = took.ended; followed = took.followed.0; within = took.within }

  -- it counts places, or not, as it did at first
  pub counting-all : {first : ℕ} {x y : Option (List ℕ)} {w : W} {s : S} → FedAll (λ v. (judge_of v).limit) FollowsTelling first x y w s → is_counting (judge_of w) ≡ counting
  counting-all took = took.followed.2

  -- it judges the further statements too that it judged at first
  pub further-all : {first : ℕ} {x y : Option (List ℕ)} {w : W} {s : S} → FedAll (λ v. (judge_of v).limit) FollowsTelling first x y w s → (judge_of w).further ≡ further
  further-all took = took.followed.3

  pub told-all : {A : Type 0} (result : Result A Refusal) {first : ℕ} {x y : Option (List ℕ)} {w : W} {s : S} → FedAll (λ v. (judge_of v).limit) FollowsTelling first x y w s
      → IsToldOf further (IsJudgedFor result) x old (words s)
  told-all (Ok answer) {first} {x} {y} took =
      record { judged = took.log; of_log = whole-taken x y took.log (λ log. log ≡ took.log) took.consumed took.ended refl; tells = took.followed.1 }
  told-all (Err refusal) {first} {x} {y} took =
      record { judged = took.log; of_log = whole-taken x y took.log (λ log. AreFirst log took.log) took.consumed took.ended ([], sym (append-nil took.log)); tells = took.followed.1 }

  -- of one that was stopped
  pub judge-fed-before : {first : ℕ} {x y : Option (List ℕ)} {w : W} {s : S} (refusal : Refusal) → FedBefore (λ v. (judge_of v).limit) FollowsTelling StopsTelling first x y w s refusal
      → FedBefore (λ j. j.limit) (λ j (_ : S). Follows j) (λ l j _. RefusesIn l j) first x y (judge_of w) s refusal
  judge-fed-before refusal fed = record {
    log = fed.log;
    piece = fed.piece;
    consumed = fed.consumed;
    why = elim fed.why [
      | inl stopped ↦ inl stopped.0
      | inr (none, follows, within, is) ↦ inr (none, follows.0, within, is)
    ];
  }

  pub told-before : {first : ℕ} {x y : Option (List ℕ)} {w : W} {s : S} (refusal : Refusal)
      → FedBefore (λ v. (judge_of v).limit) FollowsTelling StopsTelling first x y w s refusal → IsToldOf further AreFirst x old (words s)
  told-before {first} {x} {y} {w} {s} refusal fed = record {
    judged = fed.log;
    of_log = some-taken x y (fed.log ++ fed.piece) (λ log _. AreFirst log fed.log) fed.consumed (λ left. (fed.piece ++ left, append_assoc fed.log fed.piece left));
    tells = elim fed.why [
      | inl stopped ↦ stopped.1
      | inr (none, follows, within, is) ↦ follows.1
    ];
  }

-- what a run told, once it has said that no more is judged
pub told-ends : (further : Further) (how_much whole : (log judged : List ℕ) → Type 0) (remaining : Option (List ℕ)) (old mid new : SaidSoFar)
    → ((log judged : List ℕ) → how_much log judged → whole log judged) → ((before : List Said) → mid before → new (ended ∷ before))
    → IsToldOf further how_much remaining old mid → IsToldOf further whole remaining old (λ said. new (ended ∷ said))
told-ends further how_much whole remaining old mid new means ends h = record {
  judged = h.judged;
  of_log = known remaining h.of_log;
  tells = record { said = h.tells.said; of_them = h.tells.of_them; told = λ before was. ends (h.tells.said ++ before) (h.tells.told before was) };
}
  where
    known : (left : Option (List ℕ)) → IfSome left (λ log. how_much log h.judged) → IfSome left (λ log. whole log h.judged)
    known None none = tt
    known (Some log) some = means log h.judged some

-- a run that came to a verdict has judged all of the log, whether or not its report is written
pub told-verdict : (further : Further) (result : Result Outcome RunFault) (remaining : Option (List ℕ)) (old mid new : SaidSoFar)
    → ((before : List Said) → mid before → new (ended ∷ before)) → IsToldOf further (λ log judged. log ≡ judged) remaining old mid → IsToldOfRun further result remaining old new
told-verdict further (Ok outcome) remaining old mid new ends h = told-ends further _ _ remaining old mid new (λ log judged all. all) ends h
told-verdict further (Err run_faults.Write) remaining old mid new ends h = told-ends further _ _ remaining old mid new (λ log judged all. all) ends h
told-verdict further (Err run_faults.Memory) remaining old mid new ends h = told-ends further _ _ remaining old mid new (λ log judged all. all) ends h
told-verdict further (Err (run_faults.Refused refusal)) remaining old mid new ends h =
    told-ends further _ _ remaining old mid new (λ log judged all. ([], all ∙ sym (append-nil judged))) ends h

-- and one whose log is refused some first bytes of it
pub told-refusal : (further : Further) (remaining : Option (List ℕ)) (old mid new : SaidSoFar) → ((before : List Said) → mid before → new (ended ∷ before)) → IsToldOf further AreFirst remaining old mid
    → IsToldOf further AreFirst remaining old (λ said. new (ended ∷ said))
told-refusal further remaining old mid new ends h = told-ends further _ _ remaining old mid new (λ log judged first. first) ends h
