use Rattle.std.proofs.Common.{◌∙◌, ◌<◌, sym, arith, ℕ, Bool, ◌&&◌}
use Rattle.vx_check_rules.specs.DerivedView.{equality_of}
use Rattle.vx_check_shown.proofs.FirstColumns.{first-here, first-later, first-none}
use Rattle.vx_check_shown.proofs.parts.common_column.Goals as goal

pub returns-then-is_common : goal.returns-then-is_common
returns-then-is_common c =
    let test : ℕ → Bool = λ d. equality_of c.args.left.now c.args.column d && equality_of c.args.right.now c.args.other d in
    let within : c.loop-common.common < c.args.outputs = omega arith in
    sym (c.loop-common.invariant ∙ first-here c.loop-common.common c.args.outputs test within (sym c.is_common.ensures ∙ c.if-is_common.true))

pub loop-common-preserved : goal.loop-common-preserved
loop-common-preserved c =
    let test : ℕ → Bool = λ d. equality_of c.args.left.now c.args.column d && equality_of c.args.right.now c.args.other d in
    let within : c.loop-common.common < c.args.outputs = omega arith in
    c.loop-common.invariant ∙ first-later c.loop-common.common c.args.outputs test within (sym c.is_common.ensures ∙ c.if-is_common.false)

pub returns : goal.returns
returns c =
    let test : ℕ → Bool = λ d. equality_of c.args.left.now c.args.column d && equality_of c.args.right.now c.args.other d in
    sym (c.loop-common.invariant ∙ first-none c.loop-common.common c.args.outputs test (omega arith))
