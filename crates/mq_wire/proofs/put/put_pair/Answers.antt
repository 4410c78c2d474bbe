-- The two texts were appended one after the other, which is the spelling of the pair.
use Rattle.std.proofs.Common.{◌≡◌, ◌++◌, false, arith}
use Rattle.std.proofs.lemmas.Grind.{common_steps}
use Rattle.mq_wire.specs.Spellings.{pair_spelling, has_nul}
use Rattle.mq_wire.proofs.Back.{pair_back}
use Rattle.mq_wire.proofs.put.put_pair.Goals as goal

pub returns-clause-read_back : goal.returns-clause-read_back
returns-clause-read_back c =
    let name = c.args.name.now in
    let value = c.args.value.now in
    let appended : c.append_counted-2.new.out.items ≡ c.args.out.now.items ++ pair_spelling (name, value) = grind (arith, common_steps) in
    let name_has_none : has_nul name ≡ false = grind (arith, common_steps) in
    let value_has_none : has_nul value ≡ false = grind (arith, common_steps) in
    pair_back name value c.args.out.now.items c.append_counted-2.new.out.items (omega arith) (omega arith) c.utf8.name c.utf8.value name_has_none value_has_none appended
