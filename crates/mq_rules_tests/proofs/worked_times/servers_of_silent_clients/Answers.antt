use Rattle.std.proofs.Common.{refl}
use Rattle.mq_rules.specs.Rules.{found_line, lines, line_of}
use Rattle.mq_rules.specs.Statements.{fails}
use Rattle.mq_rules.specs.KeepAlive.{breaks_K02}
use Rattle.mq_rules_tests.proofs.worked_times.servers_of_silent_clients.Goals as goal

pub returns-clause-breaks : goal.returns-clause-breaks
unfolding fails found_line lines line_of breaks_K02
returns-clause-breaks c = refl

pub returns-clause-breaks_by_the_server : goal.returns-clause-breaks_by_the_server
unfolding fails found_line lines line_of breaks_K02
returns-clause-breaks_by_the_server c = refl

pub returns-clause-breaks_once : goal.returns-clause-breaks_once
unfolding fails found_line lines line_of breaks_K02
returns-clause-breaks_once c = refl

pub returns-clause-breaks_where_a_packet_is_cut : goal.returns-clause-breaks_where_a_packet_is_cut
unfolding fails found_line lines line_of breaks_K02
returns-clause-breaks_where_a_packet_is_cut c = refl

pub returns-clause-keeps : goal.returns-clause-keeps
unfolding fails found_line lines line_of breaks_K02
returns-clause-keeps c = refl

pub returns-clause-keeps_late : goal.returns-clause-keeps_late
unfolding fails found_line lines line_of breaks_K02
returns-clause-keeps_late c = refl

pub returns-clause-keeps_where_it_looks_now_and_then : goal.returns-clause-keeps_where_it_looks_now_and_then
unfolding fails found_line lines line_of breaks_K02
returns-clause-keeps_where_it_looks_now_and_then c = refl

pub returns-clause-keeps_by_one_and_a_half : goal.returns-clause-keeps_by_one_and_a_half
unfolding fails found_line lines line_of breaks_K02
returns-clause-keeps_by_one_and_a_half c = refl

pub returns-clause-keeps_leaving : goal.returns-clause-keeps_leaving
unfolding fails found_line lines line_of breaks_K02
returns-clause-keeps_leaving c = refl

pub returns-clause-keeps_left : goal.returns-clause-keeps_left
unfolding fails found_line lines line_of breaks_K02
returns-clause-keeps_left c = refl

pub returns-clause-keeps_from_the_connack : goal.returns-clause-keeps_from_the_connack
unfolding fails found_line lines line_of breaks_K02
returns-clause-keeps_from_the_connack c = refl

pub returns-clause-keeps_with_a_large_packet : goal.returns-clause-keeps_with_a_large_packet
unfolding fails found_line lines line_of breaks_K02
returns-clause-keeps_with_a_large_packet c = refl

pub returns-clause-keeps_where_nothing_is_read : goal.returns-clause-keeps_where_nothing_is_read
unfolding fails found_line lines line_of breaks_K02
returns-clause-keeps_where_nothing_is_read c = refl

pub returns-clause-keeps_unasked : goal.returns-clause-keeps_unasked
unfolding fails found_line lines line_of breaks_K02
returns-clause-keeps_unasked c = refl
