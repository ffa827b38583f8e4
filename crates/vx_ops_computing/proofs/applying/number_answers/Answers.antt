use Rattle.std.proofs.Common.{rules, ◌≡◌, Some, string_bytes, SFits, w64, to_z, of_z, to_z-of_z}
use Rattle.vx_rows_values.specs.declared.value.ColType.TheVariants.{Int, Text}
use Rattle.vx_rows_values.specs.Values.{num, text}
use Rattle.vx_ops_computing.specs.Operands.{values_at}
use Rattle.vx_ops_computing.proofs.Pushes.{numbers-push}
use Rattle.vx_ops_computing.proofs.ValueFacts.{some-number, some-text}
use Rattle.vx_ops_computing.proofs.applying.number_answers.Goals as goal

pub unreachable-requires : goal.unreachable-requires
unreachable-requires g c =
    let answer = g.A.Answers.says c.args.function.now (values_at c.args.operands.now c.loop-k.k) in
    let is = some-text c.in_ok-number.field-0 c.in-Some-Text.field-0 c.in-Some-Text.field-0-0 answer c.in_ok-number.ensures c.in-Some-Text.is c.in-Some-Text.field-0-is in
    let t : Text ≡ Int = c.requires.typed c.loop-k.k (text (string_bytes c.in-Some-Text.field-0-0)) c.loop-k-test.true is in
    cc

pub loop-k-preserved : goal.loop-k-preserved
loop-k-preserved g c =
    let z = c.in-Some-Int.number in
    let answer = g.A.Answers.says c.args.function.now (values_at c.args.operands.now c.loop-k.k) in
    let here : answer ≡ Some (num z) = some-number c.in_ok-number.field-0 c.in-Some-Int.field-0 z answer c.in_ok-number.ensures c.in-Some-Int.is (cc) in
    let fits : SFits w64 z = search rules in
    let same : to_z w64 (of_z w64 z) ≡ z = to_z-of_z fits in
    numbers-push (g.A.Answers.says c.args.function.now) c.args.operands.now c.loop-k.k c.loop-k.numbers.items _ _ z c.loop-k.invariant here c.in_ok-push-in-Some-Int.ensures.items same
