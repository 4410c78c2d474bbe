use Rattle.std.proofs.Common.{ℕ, zero, suc, List, [], ◌∷◌, ◌+◌, sym, ap, ◌++◌, Option, arith}
use Rattle.std.specs.Option.{option_map, option_or, unwrap_or}
use Rattle.std.specs.Str.{IsAscii}
use Rattle.std.proofs.lemmas.Str.{IsUtf8-from_ascii}
use Rattle.mq_packet.specs.declared.rule.PacketRule.TheVariants.{W04}
use Rattle.mq_display.specs.ItemText.{with_spaces}
use Rattle.mq_display.specs.Details.{type_words, words_around}
use Rattle.mq_display.specs.Marking.{wrong_after}
use Rattle.mq_display.proofs.MarkingLaws.{no_place_in_utf8}
use Rattle.mq_display.proofs.laws.worked_broken_packets.Goals as goal

-- a PUBLISH of which the Topic Name is an `a`
abbrev publish : List ℕ
publish = 48 ∷ 4 ∷ 0 ∷ 1 ∷ 97 ∷ 0 ∷ []

a_ascii : IsAscii (97 ∷ [])
a_ascii zero = omega arith
a_ascii (suc i) = omega arith

pub returns-clause-no_zero : goal.returns-clause-no_zero
returns-clause-no_zero c =
    ap (λ (o : Option ℕ). with_spaces (type_words publish ++ words_around 2 (unwrap_or (option_or (option_map (λ place. 2 + 2 + place) o) (wrong_after publish W04 2)) 2) publish))
    (sym (no_place_in_utf8 (97 ∷ []) (IsUtf8-from_ascii (97 ∷ []) a_ascii)))
