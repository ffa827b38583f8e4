use Rattle.std.proofs.Common.{◌≡◌, ℕ, ◌+◌, [], get_or, subst, ap, ◌∙◌, arith}
use Rattle.vx_rows_values.specs.Values.{text}
use Rattle.vx_rows.specs.Lists.{each_below}
use Rattle.vx_rows.proofs.Below.{length-each_below, get_or-each_below}
use Rattle.vx_ops_computing.specs.declared.operands.Operand.{Operand}
use Rattle.vx_ops_computing.specs.Operands.{operand_at, IsFor}
use Rattle.vx_ops_computing.proofs.TestFacts.{tested-as}
use Rattle.vx_ops_computing.proofs.texts.tested_by_column.Goals as goal

pub tested_at-requires-in-Some-texts-clause-long : goal.tested_at-requires-in-Some-texts-clause-long
tested_at-requires-in-Some-texts-clause-long g c = length-each_below c.args.count (λ k. 0 + k)

pub tested_at-requires-in-Some-texts-clause-near : goal.tested_at-requires-in-Some-texts-clause-near
tested_at-requires-in-Some-texts-clause-near g c = λ k l.
    let P : Operand → Type 0 = λ o. IsFor c.args.count o in
    let whole = subst P c.in-Texts.is c.requires in
    let many = whole.1.long in
    let near = c.in-Some-texts.ensures.long in
    omega (arith, l, many, near, get_or-each_below c.args.count (λ j. 0 + j) k 0 l)

pub returns-in_ok-tested_at-in-Some-texts : goal.returns-in_ok-tested_at-in-Some-texts
returns-in_ok-tested_at-in-Some-texts g c =
    let P : Operand → Type 0 = λ o. IsFor c.args.count o in
    let whole = subst P c.in-Texts.is c.requires in
    let many = whole.1.long in
    let texts = c.in-Some-texts.texts.now in
    tested-as (g.T.TextTest.says c.args.test.now) (operand_at c.args.operand.now) (λ k. text (get_or texts (get_or (each_below c.args.count (λ j. 0 + j)) k 0) [])) c.args.count c.in_ok-tested_at-in-Some-texts.field-0.items
    (λ k l.
    let place : k ≡ get_or (each_below c.args.count (λ j. 0 + j)) k 0 = omega (arith, get_or-each_below c.args.count (λ j. 0 + j) k 0 l) in
    ap (λ (o : Operand). operand_at o k) c.in-Texts.is
    ∙ (c.in-Some-texts.ensures.values k (omega (arith, l, many)) ∙ ap (λ (p : ℕ). text (get_or texts p [])) place))
    c.in_ok-tested_at-in-Some-texts.ensures
