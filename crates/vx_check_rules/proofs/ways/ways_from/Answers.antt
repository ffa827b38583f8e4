use Rattle.std.proofs.Common.{◌≡◌, ◌∙◌, length, ap}
use Rattle.vx_plan_nodes.specs.Outline.{binary_of, plan_of}
use Rattle.vx_plan_nodes.specs.Types.{width}
use Rattle.vx_plan_nodes.specs.Describe.{described_both}
use Rattle.vx_plan_nodes.specs.DescribeView.{described_both_of}
use Rattle.vx_check_rules.specs.Behaviour.{ways_over}
use Rattle.vx_check_rules.specs.WayView.{had_of}
use Rattle.vx_check_rules.proofs.WidthFacts.{types_of-width}
use Rattle.vx_check_rules.proofs.ways.ways_from.Goals as goal

pub returns-in-Binary : goal.returns-in-Binary
returns-in-Binary c = λ catalog given.
    let left = c.in-Binary.input.value in
    let has = rw c.in-Binary.is at given in
    let types = rw c.deref.ensures at (c.output_types.ensures catalog) in
    let wide : length c.output_types.result.now ≡ width catalog (plan_of left) = ap length (types has.1) ∙ types_of-width catalog (plan_of left) in
    let is : described_both_of c.described-in-Binary.result ≡ described_both (width catalog (plan_of left)) (binary_of c.in-Binary.operator) =
    c.described-in-Binary.ensures ∙ ap (λ w. described_both w (binary_of c.in-Binary.operator)) wide in
    rw c.in-Binary.is (c.ways_over.ensures ∙ ap (λ d. ways_over d.meeting d (had_of c.args.left) (had_of c.args.right)) is)
