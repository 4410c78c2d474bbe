use Rattle.std.proofs.Common.{refl}
use Rattle.mq_rules.specs.Rules.{found_line, lines, line_of}
use Rattle.mq_rules.specs.Statements.{fails}
use Rattle.mq_rules.specs.KeepAlive.{breaks_K01}
use Rattle.mq_rules_tests.proofs.worked_times.silent_clients.Goals as goal

pub returns-clause-breaks : goal.returns-clause-breaks
unfolding fails found_line lines line_of breaks_K01
returns-clause-breaks c = refl

pub returns-clause-breaks_by_the_server : goal.returns-clause-breaks_by_the_server
unfolding fails found_line lines line_of breaks_K01
returns-clause-breaks_by_the_server c = refl

pub returns-clause-breaks_at_a_close : goal.returns-clause-breaks_at_a_close
unfolding fails found_line lines line_of breaks_K01
returns-clause-breaks_at_a_close c = refl

pub returns-clause-breaks_once_in_a_silence : goal.returns-clause-breaks_once_in_a_silence
unfolding fails found_line lines line_of breaks_K01
returns-clause-breaks_once_in_a_silence c = refl

pub returns-clause-breaks_beyond : goal.returns-clause-breaks_beyond
unfolding fails found_line lines line_of breaks_K01
returns-clause-breaks_beyond c = refl

pub returns-clause-keeps : goal.returns-clause-keeps
unfolding fails found_line lines line_of breaks_K01
returns-clause-keeps c = refl

pub returns-clause-keeps_late : goal.returns-clause-keeps_late
unfolding fails found_line lines line_of breaks_K01
returns-clause-keeps_late c = refl

pub returns-clause-keeps_by_half : goal.returns-clause-keeps_by_half
unfolding fails found_line lines line_of breaks_K01
returns-clause-keeps_by_half c = refl

pub returns-clause-keeps_leaving : goal.returns-clause-keeps_leaving
unfolding fails found_line lines line_of breaks_K01
returns-clause-keeps_leaving c = refl

pub returns-clause-keeps_left : goal.returns-clause-keeps_left
unfolding fails found_line lines line_of breaks_K01
returns-clause-keeps_left c = refl

pub returns-clause-keeps_with_a_large_packet : goal.returns-clause-keeps_with_a_large_packet
unfolding fails found_line lines line_of breaks_K01
returns-clause-keeps_with_a_large_packet c = refl

pub returns-clause-breaks_with_a_smaller_packet : goal.returns-clause-breaks_with_a_smaller_packet
unfolding fails found_line lines line_of breaks_K01
returns-clause-breaks_with_a_smaller_packet c = refl

pub returns-clause-keeps_with_a_cut_packet : goal.returns-clause-keeps_with_a_cut_packet
unfolding fails found_line lines line_of breaks_K01
returns-clause-keeps_with_a_cut_packet c = refl

pub returns-clause-keeps_from_the_connack : goal.returns-clause-keeps_from_the_connack
unfolding fails found_line lines line_of breaks_K01
returns-clause-keeps_from_the_connack c = refl

pub returns-clause-keeps_without_a_keep_alive : goal.returns-clause-keeps_without_a_keep_alive
unfolding fails found_line lines line_of breaks_K01
returns-clause-keeps_without_a_keep_alive c = refl

pub returns-clause-keeps_where_the_server_wants_none : goal.returns-clause-keeps_where_the_server_wants_none
unfolding fails found_line lines line_of breaks_K01
returns-clause-keeps_where_the_server_wants_none c = refl

pub returns-clause-keeps_where_it_is_refused : goal.returns-clause-keeps_where_it_is_refused
unfolding fails found_line lines line_of breaks_K01
returns-clause-keeps_where_it_is_refused c = refl

pub returns-clause-keeps_where_nothing_is_read : goal.returns-clause-keeps_where_nothing_is_read
unfolding fails found_line lines line_of breaks_K01
returns-clause-keeps_where_nothing_is_read c = refl

pub returns-clause-keeps_after_a_close : goal.returns-clause-keeps_after_a_close
unfolding fails found_line lines line_of breaks_K01
returns-clause-keeps_after_a_close c = refl

pub returns-clause-keeps_between_connections : goal.returns-clause-keeps_between_connections
unfolding fails found_line lines line_of breaks_K01
returns-clause-keeps_between_connections c = refl

pub returns-clause-keeps_unasked : goal.returns-clause-keeps_unasked
unfolding fails found_line lines line_of breaks_K01
returns-clause-keeps_unasked c = refl
