use Rattle.std.proofs.Common.{refl}
use Rattle.mq_rules.specs.Rules.{found_line, lines, line_of}
use Rattle.mq_rules.specs.Connections.{gives_fate}
use Rattle.mq_rules.specs.Statements.{fails}
use Rattle.mq_rules.specs.FurtherRests.{shows_D03}
use Rattle.mq_rules_tests.proofs.worked.after_a_protocol_error.Goals as goal

pub returns-clause-of_servers_breaks : goal.returns-clause-of_servers_breaks
unfolding gives_fate fails found_line lines line_of shows_D03
returns-clause-of_servers_breaks c = refl

pub returns-clause-connack_breaks : goal.returns-clause-connack_breaks
unfolding gives_fate fails found_line lines line_of shows_D03
returns-clause-connack_breaks c = refl

pub returns-clause-suback_breaks : goal.returns-clause-suback_breaks
unfolding gives_fate fails found_line lines line_of shows_D03
returns-clause-suback_breaks c = refl

pub returns-clause-unsuback_breaks : goal.returns-clause-unsuback_breaks
unfolding gives_fate fails found_line lines line_of shows_D03
returns-clause-unsuback_breaks c = refl

pub returns-clause-of_clients_keeps : goal.returns-clause-of_clients_keeps
unfolding gives_fate fails found_line lines line_of shows_D03
returns-clause-of_clients_keeps c = refl

pub returns-clause-too_early_breaks : goal.returns-clause-too_early_breaks
unfolding gives_fate fails found_line lines line_of shows_D03
returns-clause-too_early_breaks c = refl

pub returns-clause-after_bytes_keeps : goal.returns-clause-after_bytes_keeps
unfolding gives_fate fails found_line lines line_of shows_D03
returns-clause-after_bytes_keeps c = refl

pub returns-clause-second_connect_keeps : goal.returns-clause-second_connect_keeps
unfolding gives_fate fails found_line lines line_of shows_D03
returns-clause-second_connect_keeps c = refl

pub returns-clause-auth_breaks : goal.returns-clause-auth_breaks
unfolding gives_fate fails found_line lines line_of shows_D03
returns-clause-auth_breaks c = refl

pub returns-clause-auth_keeps : goal.returns-clause-auth_keeps
unfolding gives_fate fails found_line lines line_of shows_D03
returns-clause-auth_keeps c = refl

pub returns-clause-prolonging_breaks : goal.returns-clause-prolonging_breaks
unfolding gives_fate fails found_line lines line_of shows_D03
returns-clause-prolonging_breaks c = refl

pub returns-clause-ending_keeps : goal.returns-clause-ending_keeps
unfolding gives_fate fails found_line lines line_of shows_D03
returns-clause-ending_keeps c = refl

pub returns-clause-lasting_keeps : goal.returns-clause-lasting_keeps
unfolding gives_fate fails found_line lines line_of shows_D03
returns-clause-lasting_keeps c = refl

pub returns-clause-large_breaks : goal.returns-clause-large_breaks
unfolding gives_fate fails found_line lines line_of shows_D03
returns-clause-large_breaks c = refl

pub returns-clause-as_large_keeps : goal.returns-clause-as_large_keeps
unfolding gives_fate fails found_line lines line_of shows_D03
returns-clause-as_large_keeps c = refl

pub returns-clause-high_alias_breaks : goal.returns-clause-high_alias_breaks
unfolding gives_fate fails found_line lines line_of shows_D03
returns-clause-high_alias_breaks c = refl

pub returns-clause-highest_alias_keeps : goal.returns-clause-highest_alias_keeps
unfolding gives_fate fails found_line lines line_of shows_D03
returns-clause-highest_alias_keeps c = refl

pub returns-clause-any_alias_breaks : goal.returns-clause-any_alias_breaks
unfolding gives_fate fails found_line lines line_of shows_D03
returns-clause-any_alias_breaks c = refl

pub returns-clause-unset_alias_breaks : goal.returns-clause-unset_alias_breaks
unfolding gives_fate fails found_line lines line_of shows_D03
returns-clause-unset_alias_breaks c = refl

pub returns-clause-early_alias_keeps : goal.returns-clause-early_alias_keeps
unfolding gives_fate fails found_line lines line_of shows_D03
returns-clause-early_alias_keeps c = refl

pub returns-clause-alias_after_bytes_keeps : goal.returns-clause-alias_after_bytes_keeps
unfolding gives_fate fails found_line lines line_of shows_D03
returns-clause-alias_after_bytes_keeps c = refl

pub returns-clause-alias_of_another_breaks : goal.returns-clause-alias_of_another_breaks
unfolding gives_fate fails found_line lines line_of shows_D03
returns-clause-alias_of_another_breaks c = refl

pub returns-clause-identified_breaks : goal.returns-clause-identified_breaks
unfolding gives_fate fails found_line lines line_of shows_D03
returns-clause-identified_breaks c = refl

pub returns-clause-high_qos_breaks : goal.returns-clause-high_qos_breaks
unfolding gives_fate fails found_line lines line_of shows_D03
returns-clause-high_qos_breaks c = refl

pub returns-clause-as_high_qos_keeps : goal.returns-clause-as_high_qos_keeps
unfolding gives_fate fails found_line lines line_of shows_D03
returns-clause-as_high_qos_keeps c = refl

pub returns-clause-retained_breaks : goal.returns-clause-retained_breaks
unfolding gives_fate fails found_line lines line_of shows_D03
returns-clause-retained_breaks c = refl

pub returns-clause-retained_keeps : goal.returns-clause-retained_keeps
unfolding gives_fate fails found_line lines line_of shows_D03
returns-clause-retained_keeps c = refl

pub returns-clause-not_retained_keeps : goal.returns-clause-not_retained_keeps
unfolding gives_fate fails found_line lines line_of shows_D03
returns-clause-not_retained_keeps c = refl

pub returns-clause-before_connack_keeps : goal.returns-clause-before_connack_keeps
unfolding gives_fate fails found_line lines line_of shows_D03
returns-clause-before_connack_keeps c = refl

pub returns-clause-no_local_breaks : goal.returns-clause-no_local_breaks
unfolding gives_fate fails found_line lines line_of shows_D03
returns-clause-no_local_breaks c = refl

pub returns-clause-share_keeps : goal.returns-clause-share_keeps
unfolding gives_fate fails found_line lines line_of shows_D03
returns-clause-share_keeps c = refl

pub returns-clause-wildcard_keeps : goal.returns-clause-wildcard_keeps
unfolding gives_fate fails found_line lines line_of shows_D03
returns-clause-wildcard_keeps c = refl

pub returns-clause-identifier_breaks : goal.returns-clause-identifier_breaks
unfolding gives_fate fails found_line lines line_of shows_D03
returns-clause-identifier_breaks c = refl

pub returns-clause-identifier_keeps : goal.returns-clause-identifier_keeps
unfolding gives_fate fails found_line lines line_of shows_D03
returns-clause-identifier_keeps c = refl

pub returns-clause-close_keeps : goal.returns-clause-close_keeps
unfolding gives_fate fails found_line lines line_of shows_D03
returns-clause-close_keeps c = refl

pub returns-clause-goodbye_keeps : goal.returns-clause-goodbye_keeps
unfolding gives_fate fails found_line lines line_of shows_D03
returns-clause-goodbye_keeps c = refl

pub returns-clause-late_goodbye_breaks : goal.returns-clause-late_goodbye_breaks
unfolding gives_fate fails found_line lines line_of shows_D03
returns-clause-late_goodbye_breaks c = refl

pub returns-clause-refusal_keeps : goal.returns-clause-refusal_keeps
unfolding gives_fate fails found_line lines line_of shows_D03
returns-clause-refusal_keeps c = refl

pub returns-clause-second_keeps : goal.returns-clause-second_keeps
unfolding gives_fate fails found_line lines line_of shows_D03
returns-clause-second_keeps c = refl

pub returns-clause-no_rest_keeps : goal.returns-clause-no_rest_keeps
unfolding gives_fate fails found_line lines line_of shows_D03
returns-clause-no_rest_keeps c = refl

pub returns-clause-next_keeps : goal.returns-clause-next_keeps
unfolding gives_fate fails found_line lines line_of shows_D03
returns-clause-next_keeps c = refl

pub returns-clause-anew_breaks : goal.returns-clause-anew_breaks
unfolding gives_fate fails found_line lines line_of shows_D03
returns-clause-anew_breaks c = refl

pub returns-clause-left_keeps : goal.returns-clause-left_keeps
unfolding gives_fate fails found_line lines line_of shows_D03
returns-clause-left_keeps c = refl

pub returns-clause-bytes_keep : goal.returns-clause-bytes_keep
unfolding gives_fate fails found_line lines line_of shows_D03
returns-clause-bytes_keep c = refl

pub returns-clause-unasked_keeps : goal.returns-clause-unasked_keeps
unfolding gives_fate fails found_line lines line_of shows_D03
returns-clause-unasked_keeps c = refl

pub returns-clause-client_keeps : goal.returns-clause-client_keeps
unfolding gives_fate fails found_line lines line_of shows_D03
returns-clause-client_keeps c = refl
