use Rattle.std.proofs.Common.{refl}
use Rattle.mq_rules.specs.Rules.{found_line, lines, line_of}
use Rattle.mq_rules.specs.Occasions.{applies}
use Rattle.mq_rules.specs.KeepAlive.{applies_K01, applies_K02}
use Rattle.mq_rules_tests.proofs.worked_times.places_of_silences.Goals as goal

pub returns-clause-client_broken_once_in_a_silence : goal.returns-clause-client_broken_once_in_a_silence
unfolding applies found_line lines line_of applies_K01 applies_K02
returns-clause-client_broken_once_in_a_silence c = refl

pub returns-clause-client_broken_beyond : goal.returns-clause-client_broken_beyond
unfolding applies found_line lines line_of applies_K01 applies_K02
returns-clause-client_broken_beyond c = refl

pub returns-clause-client_keeps : goal.returns-clause-client_keeps
unfolding applies found_line lines line_of applies_K01 applies_K02
returns-clause-client_keeps c = refl

pub returns-clause-client_keeps_by_half : goal.returns-clause-client_keeps_by_half
unfolding applies found_line lines line_of applies_K01 applies_K02
returns-clause-client_keeps_by_half c = refl

pub returns-clause-client_keeps_leaving : goal.returns-clause-client_keeps_leaving
unfolding applies found_line lines line_of applies_K01 applies_K02
returns-clause-client_keeps_leaving c = refl

pub returns-clause-client_keeps_with_a_large_packet : goal.returns-clause-client_keeps_with_a_large_packet
unfolding applies found_line lines line_of applies_K01 applies_K02
returns-clause-client_keeps_with_a_large_packet c = refl

pub returns-clause-client_keeps_with_a_cut_packet : goal.returns-clause-client_keeps_with_a_cut_packet
unfolding applies found_line lines line_of applies_K01 applies_K02
returns-clause-client_keeps_with_a_cut_packet c = refl

pub returns-clause-client_keeps_where_it_is_refused : goal.returns-clause-client_keeps_where_it_is_refused
unfolding applies found_line lines line_of applies_K01 applies_K02
returns-clause-client_keeps_where_it_is_refused c = refl

pub returns-clause-server_broken_once : goal.returns-clause-server_broken_once
unfolding applies found_line lines line_of applies_K01 applies_K02
returns-clause-server_broken_once c = refl

pub returns-clause-server_keeps : goal.returns-clause-server_keeps
unfolding applies found_line lines line_of applies_K01 applies_K02
returns-clause-server_keeps c = refl

pub returns-clause-server_keeps_by_one_and_a_half : goal.returns-clause-server_keeps_by_one_and_a_half
unfolding applies found_line lines line_of applies_K01 applies_K02
returns-clause-server_keeps_by_one_and_a_half c = refl

pub returns-clause-server_keeps_left : goal.returns-clause-server_keeps_left
unfolding applies found_line lines line_of applies_K01 applies_K02
returns-clause-server_keeps_left c = refl

pub returns-clause-server_keeps_with_a_large_packet : goal.returns-clause-server_keeps_with_a_large_packet
unfolding applies found_line lines line_of applies_K01 applies_K02
returns-clause-server_keeps_with_a_large_packet c = refl
