use Rattle.std.proofs.Common.{ap, map, refl, sym, true≢false, Some, Option, ◌∙◌, inl, inr}
use Rattle.std.proofs.lemmas.Result.{IfOk-weaker}
use Rattle.clap.specs.Words.{Text}
use Rattle.mq_command.specs.CommandLine.{explain_request, is_true}
use Rattle.mq_command.proofs.CommandLineLemmas.{subcommand_is_named, request_is_check, request_is_convert, request_is_explain, request_is_packet, request_is_rules, request_is_show, same_check, same_convert, same_packet, same_rules, same_show}
use Rattle.mq_command.proofs.command_line.parse.Goals as goal

pub unreachable-requires : goal.unreachable-requires
unreachable-requires g c =
    let named = subcommand_is_named (map g.S.AsStr.text c.args.words.now) c.in-Ok.matches c.in-Ok.ensures.taken c.in-Ok.ensures.met in
    elim named [
      | inl h ↦ true≢false (sym (c.in-None.ensures.found.1 h))
      | inr (inl h) ↦ true≢false (sym (c.in-None-subcommand_matches.ensures.found.1 h))
      | inr (inr (inl h)) ↦ true≢false (sym (c.in-None-subcommand_matches-2.ensures.found.1 h))
      | inr (inr (inr (inl h))) ↦ true≢false (sym (c.in-None-subcommand_matches-3.ensures.found.1 h))
      | inr (inr (inr (inr (inl h)))) ↦ true≢false (sym (c.in-None-subcommand_matches-4.ensures.found.1 h))
      | inr (inr (inr (inr (inr h)))) ↦ true≢false (sym (c.in-None-subcommand_matches-5.ensures.found.1 h))
    ]

pub returns-in-Some-clause-work : goal.returns-in-Some-clause-work
returns-in-Some-clause-work g c =
    let words = map g.S.AsStr.text c.args.words.now in
    let asked = request_is_check words c.in-Ok.matches c.in-Some.check.now c.in-Ok.ensures.met (c.in-Some.ensures.found.0 refl) c.in-Some.ensures.rows in
    let coverage = c.is_true.ensures ∙ ap is_true c.get_str-in-Some.ensures in
    let why = c.is_true-in-Some.ensures ∙ ap is_true c.get_str-in-Some-2.ensures in
    let list = c.get_str-in-Some-3.ensures in
    IfOk-weaker c.check_task.result _ _ (λ work h. asked ∙ same_check (sym c.get_str.ensures) (sym c.form_in.ensures) (sym coverage) (sym why) (sym c.scope_in.ensures) (sym list) ∙ ap Some (sym h)) c.check_task.ensures.work

pub returns-in-Some-subcommand_matches-clause-work : goal.returns-in-Some-subcommand_matches-clause-work
returns-in-Some-subcommand_matches-clause-work g c =
    let words = map g.S.AsStr.text c.args.words.now in
    let met = c.in-Some-subcommand_matches in
    let given = c.get_str-in-Some-subcommand_matches.ensures in
    let long = c.is_true-in-Some-subcommand_matches.ensures ∙ ap is_true c.get_str-in-Some-subcommand_matches-2.ensures in
    let faults = c.is_true-in-Some-subcommand_matches-2.ensures ∙ ap is_true c.get_str-in-Some-subcommand_matches-3.ensures in
    let around = c.get_str-in-Some-subcommand_matches-4.ensures in
    let asked = request_is_show words c.in-Ok.matches met.show.now c.in-Ok.ensures.met (met.ensures.found.0 refl) met.ensures.rows in
    IfOk-weaker c.show_task.result _ _ (λ work h. asked ∙ same_show (sym given) (sym long) (sym faults) (sym around) (sym c.scope_in-in-Some-subcommand_matches.ensures) ∙ ap Some (sym h)) c.show_task.ensures.work

pub returns-in-Some-subcommand_matches-2-clause-work : goal.returns-in-Some-subcommand_matches-2-clause-work
returns-in-Some-subcommand_matches-2-clause-work g c =
    let words = map g.S.AsStr.text c.args.words.now in
    let met = c.in-Some-subcommand_matches-2 in
    let given = c.get_strs.ensures in
    let long = c.is_true-in-Some-subcommand_matches-2-2.ensures ∙ ap is_true c.get_str-in-Some-subcommand_matches-2-2.ensures in
    let asked = request_is_packet words c.in-Ok.matches met.packet.now c.in-Ok.ensures.met (met.ensures.found.0 refl) met.ensures.rows in
    IfOk-weaker c.packet_task.result _ _ (λ work h. asked ∙ same_packet (sym given) (sym long) ∙ ap Some (sym h)) c.packet_task.ensures.work

pub returns-in-Some-subcommand_matches-3-clause-work : goal.returns-in-Some-subcommand_matches-3-clause-work
returns-in-Some-subcommand_matches-3-clause-work g c =
    let words = map g.S.AsStr.text c.args.words.now in
    let met = c.in-Some-subcommand_matches-3 in
    let given = c.get_str-in-Some-subcommand_matches-3-2.ensures in
    let asked = request_is_rules words c.in-Ok.matches met.rules.now c.in-Ok.ensures.met (met.ensures.found.0 refl) met.ensures.rows in
    let list = c.get_str-in-Some-subcommand_matches-3-3.ensures in
    IfOk-weaker c.rules_task.result _ _ (λ work h. asked ∙ same_rules (sym given) (sym c.scope_in-in-Some-subcommand_matches-3.ensures) (sym list) ∙ ap Some (sym h)) c.rules_task.ensures.work

pub returns-in-Some-subcommand_matches-4-clause-work : goal.returns-in-Some-subcommand_matches-4-clause-work
returns-in-Some-subcommand_matches-4-clause-work g c =
    let words = map g.S.AsStr.text c.args.words.now in
    let met = c.in-Some-subcommand_matches-4 in
    let given = c.get_str-in-Some-subcommand_matches-4-2.ensures in
    let asked = request_is_explain words c.in-Ok.matches met.explain.now c.in-Ok.ensures.met (met.ensures.found.0 refl) met.ensures.rows in
    IfOk-weaker c.explain_task.result _ _ (λ work h. asked ∙ ap (λ (f : Option Text). Some (explain_request f)) (sym given) ∙ ap Some (sym h)) c.explain_task.ensures.work

pub returns-in-Some-subcommand_matches-5-clause-work : goal.returns-in-Some-subcommand_matches-5-clause-work
returns-in-Some-subcommand_matches-5-clause-work g c =
    let words = map g.S.AsStr.text c.args.words.now in
    let met = c.in-Some-subcommand_matches-5 in
    let log = c.get_str-in-Some-subcommand_matches-5.ensures in
    let made = c.get_str-in-Some-subcommand_matches-5-2.ensures in
    let force = c.is_true-in-Some-subcommand_matches-5.ensures ∙ ap is_true c.get_str-in-Some-subcommand_matches-5-3.ensures in
    let asked = request_is_convert words c.in-Ok.matches met.convert.now c.in-Ok.ensures.met (met.ensures.found.0 refl) met.ensures.rows in
    IfOk-weaker c.convert_task.result _ _ (λ work h. asked ∙ same_convert (sym log) (sym made) (sym force) ∙ ap Some (sym h)) c.convert_task.ensures.work

pub returns-clause-stop : goal.returns-clause-stop
returns-clause-stop g c = c.with_hint.ensures.same _ (c.stop_for.ensures _ c.in-Err.ensures.fault)
