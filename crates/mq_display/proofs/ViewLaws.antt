-- What is put of an event.
use Rattle.std.proofs.Common.{◌≡◌, ℕ, List, [], ◌∷◌, ◌++◌, Option, refl, sym, ap, subst, ◌∙◌, append_assoc, append-nil}
use Rattle.mq_rules.specs.declared.role.Role.{Role}
use Rattle.mq_rules.specs.declared.fault.Fault.{Fault}
use Rattle.mq_rules.specs.declared.faults.FaultKey.{FaultKey}
use Rattle.mq_rules.specs.declared.evidence.Evidence.{Evidence}
use Rattle.mq_display.specs.declared.display.outgoing.Outgoing.{Outgoing}
use Rattle.mq_display.specs.Outgoing.{Puts}
use Rattle.mq_report.specs.Reasons.{later_reasons}
use Rattle.mq_display.specs.Display.{explained, fault_note, fault_notes, reason_of_first}
use Rattle.mq_display.specs.Views.{reasons_past}
use Rattle.mq_display.proofs.OutgoingLaws.{puts_lines, puts_nothing, puts_two}

module _ {W : Type 0} (contents : W → Option (List ℕ)) where
  -- room was made for a text, and it was put there
  pub puts_in_room : (f g h : Outgoing W) (text : List ℕ) → Puts contents f [] g → h.lines ≡ g.lines ++ text → h.failed ≡ g.failed → h.writer ≡ g.writer → Puts contents f text h
  puts_in_room f g h text p lines failed writer = puts_two contents f g h [] text text p (puts_lines contents g h text writer failed lines) refl

  -- Of the notes on these faults, which have these reasons, all were put but those on the rest, which has the reasons that are left.
  pub record PutsNotes (role : Role) (time : List ℕ) (old new : Outgoing W) (faults : List (FaultKey × Fault)) (reasons : List Evidence) (rest : List (FaultKey × Fault)) (left : List Evidence) : Type 0 where
    pub put : List ℕ
    pub is : put ++ fault_notes role time (explained rest left) ≡ fault_notes role time (explained faults reasons)
    pub passed : reasons_past rest left ≡ reasons_past faults reasons
    pub puts : Puts contents old put new

  pub notes_begin : (role : Role) (time : List ℕ) (out : Outgoing W) (faults : List (FaultKey × Fault)) (reasons : List Evidence) (rest : List (FaultKey × Fault)) → rest ≡ faults
      → PutsNotes role time out out faults reasons rest reasons
  notes_begin role time out faults reasons rest is = record {
    put = [];
    is = ap (λ (l : List (FaultKey × Fault)). fault_notes role time (explained l reasons)) is;
    passed = ap (λ (l : List (FaultKey × Fault)). reasons_past l reasons) is;
    puts = puts_nothing contents out;
  }

  pub notes_go_on : {role : Role} {time : List ℕ} {old mid : Outgoing W} (new : Outgoing W) {faults : List (FaultKey × Fault)} {reasons : List Evidence} {rest : List (FaultKey × Fault)} {left : List Evidence}
      (found : FaultKey × Fault) (later : List (FaultKey × Fault)) (reason : Option Evidence) (after : List Evidence)
      → PutsNotes role time old mid faults reasons rest left → rest ≡ found ∷ later → reason ≡ reason_of_first left → after ≡ later_reasons left
      → Puts contents mid (fault_note role time (found, reason)) new → PutsNotes role time old new faults reasons later after
  notes_go_on {role} {time} {old} {mid} new {faults} {reasons} {rest} {left} found later reason after so_far steps first is_after more =
      let note = fault_note role time (found, reason) in
      record {
        put = so_far.put ++ note;
        is = ap (λ (r : List Evidence). (so_far.put ++ note) ++ fault_notes role time (explained later r)) is_after
            ∙ append_assoc so_far.put note (fault_notes role time (explained later (later_reasons left)))
            ∙ ap (λ (r : Option Evidence). so_far.put ++ (fault_note role time (found, r) ++ fault_notes role time (explained later (later_reasons left)))) first
            ∙ ap (λ (l : List (FaultKey × Fault)). so_far.put ++ fault_notes role time (explained l left)) (sym steps) ∙ so_far.is;
        passed = ap (λ (r : List Evidence). reasons_past later r) is_after ∙ ap (λ (l : List (FaultKey × Fault)). reasons_past l left) (sym steps) ∙ so_far.passed;
        puts = puts_two contents old mid new so_far.put note _ so_far.puts more refl;
      }

  pub notes_end : {role : Role} {time : List ℕ} {old new : Outgoing W} {faults : List (FaultKey × Fault)} {reasons : List Evidence} {rest : List (FaultKey × Fault)} {left : List Evidence}
      → PutsNotes role time old new faults reasons rest left → rest ≡ [] → Puts contents old (fault_notes role time (explained faults reasons)) new
  notes_end {role} {time} {old} {new} {faults} {reasons} {rest} {left} so_far none =
      subst (λ (t : List ℕ). Puts contents old t new)
      (sym (append-nil so_far.put) ∙ ap (λ (r : List (FaultKey × Fault)). so_far.put ++ fault_notes role time (explained r left)) (sym none) ∙ so_far.is) so_far.puts

  pub notes_left : {role : Role} {time : List ℕ} {old new : Outgoing W} {faults : List (FaultKey × Fault)} {reasons : List Evidence} {rest : List (FaultKey × Fault)} {left : List Evidence}
      → PutsNotes role time old new faults reasons rest left → rest ≡ [] → left ≡ reasons_past faults reasons
  notes_left {role} {time} {old} {new} {faults} {reasons} {rest} {left} so_far none = ap (λ (r : List (FaultKey × Fault)). reasons_past r left) (sym none) ∙ so_far.passed
