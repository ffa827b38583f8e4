use Rattle.std.proofs.Common.{rules, ◌≡◌, ℤ, true, w64, to_z, of_z, subst, ap, ◌∙◌}
use Rattle.std.specs.Int.{int_max, int_min}
use Rattle.vx_rows_values.specs.Values.{num}
use Rattle.vx_plan_nodes.specs.Outline.{side_of}
use Rattle.vx_plan_nodes.specs.Plan.{constant}
use Rattle.vx_ops_kernels.specs.Interval.{IsInterval}
use Rattle.vx_ops_computing.specs.Intervals.{lies_from}
use Rattle.vx_ops_computing.proofs.IntervalFacts.{meets}
use Rattle.vx_ops_computing.proofs.intervals.met.Goals as goal

pub returns-clause-both : goal.returns-clause-both
returns-clause-both c row z at fits =
    let before = c.args.interval in
    let condition = c.args.condition.now in
    let k = c.in-Constant-Int.constant in
    let plain : to_z w64 (of_z w64 k) ≡ k = search rules in
    let is = subst (λ (n : ℤ). IsInterval condition.test n c.in_ok-low.low c.in_ok-low.high true) plain c.in_ok-low.ensures in
    let same : condition.left ≡ before.column = search rules in
    let right : side_of condition.right ≡ constant (num k) = search rules in
    let low : to_z w64 (of_z w64 c.max.result) ≡ int_max before.low c.in_ok-low.low = search rules in
    let high : to_z w64 (of_z w64 c.min.result) ≡ int_min before.high c.in_ok-low.high = search rules in
    ap (λ (l : ℤ). lies_from l (to_z w64 (of_z w64 c.min.result)) z) low
    ∙ (ap (λ (h : ℤ). lies_from (int_max before.low c.in_ok-low.low) h z) high
    ∙ meets before condition c.in_ok-low.low c.in_ok-low.high k same right is row z at fits)
