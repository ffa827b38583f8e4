use Rattle.std.proofs.Common.{◌≡◌, ◌∙◌, length, ap}
use Rattle.vx_plan_nodes.specs.Outline.{binary_of, plan_of}
use Rattle.vx_plan_nodes.specs.Types.{width}
use Rattle.vx_plan_nodes.specs.Describe.{described_both}
use Rattle.vx_plan_nodes.specs.DescribeView.{described_both_of}
use Rattle.vx_check_rules.specs.Behaviour.{own, both_if_fit}
use Rattle.vx_check_rules.proofs.WidthFacts.{types_of-width}
use Rattle.vx_check_rules.proofs.ways.ways_if_fit.Goals as goal

pub returns-in-Binary : goal.returns-in-Binary
returns-in-Binary c = λ catalog given.
    let left = c.in-Binary.left.value in
    let right = c.in-Binary.right.value in
    let has = rw c.in-Binary.is at given in
    let types = rw c.deref-in-Binary.ensures at (c.output_types.ensures catalog) in
    let wide : length c.output_types.result.now ≡ width catalog (plan_of left) = ap length (types has.1) ∙ types_of-width catalog (plan_of left) in
    let is : described_both_of c.described-in-Binary.result ≡ described_both (width catalog (plan_of left)) (binary_of c.in-Binary.operator) =
    c.described-in-Binary.ensures ∙ ap (λ w. described_both w (binary_of c.in-Binary.operator)) wide in
    let first = rw c.deref-in-Binary-2.ensures at c.claimed-in-Binary.ensures in
    let second = rw c.deref-in-Binary-3.ensures at c.claimed-in-Binary-2.ensures in
    let given_by = rw (first, second) at c.both_if_fit.ensures in
    rw c.in-Binary.is (given_by ∙ ap (λ d. both_if_fit d.meeting d (own (plan_of left)) (own (plan_of right))) is)
