use Rattle.std.proofs.Common.{rules, ◌≡◌, ◌∷◌, true, false, None}
use Rattle.mq_command.specs.Digits.{is_between, is_prefix, oddity_of}
use Rattle.mq_command.proofs.DigitLaws.{byte_passes, prefix_passes, two_pass}
use Rattle.mq_command.proofs.oddity.oddity_in.Goals as goal

pub loop-first-preserved-then-is_prefix : goal.loop-first-preserved-then-is_prefix
loop-first-preserved-then-is_prefix c =
    let first = c.in-Some.first.now in
    let second = c.in-Some-split_first.second.now in
    let text : c.loop-first.rest.now ≡ first ∷ c.in-Some.after.now = search rules in
    let after : c.in-Some.after.now ≡ second ∷ c.in-Some-split_first.later.now = search rules in
    let begins : is_between first ≡ false = search rules in
    let prefix : is_prefix first second ≡ true = search rules in
    two_pass c.loop-first.place first second _ _ _ _ _ text after c.loop-first.invariant.0 c.loop-first.invariant.1 (prefix_passes c.loop-first.place first second _ begins prefix)

pub loop-first-preserved : goal.loop-first-preserved
loop-first-preserved c =
    let first = c.in-Some.first.now in
    let second = c.in-Some-split_first.second.now in
    let text : c.loop-first.rest.now ≡ first ∷ c.in-Some.after.now = search rules in
    let after : c.in-Some.after.now ≡ second ∷ c.in-Some-split_first.later.now = search rules in
    let begins : is_between first ≡ false = search rules in
    let prefix : is_prefix first second ≡ false = search rules in
    let right : oddity_of c.loop-first.place first second ≡ None = search rules in
    two_pass c.loop-first.place first second _ _ _ _ _ text after c.loop-first.invariant.0 c.loop-first.invariant.1 (byte_passes c.loop-first.place first second _ begins prefix right)
