use Rattle.std.proofs.Common.{◌≡◌, ◌∙◌, Vec, Global, ℕ, map, length, ap}
use Rattle.vx_catalog_relations.specs.Catalog.{relation_at}
use Rattle.vx_plan_nodes.specs.Outline.{binary_of, plan_of}
use Rattle.vx_plan_nodes.specs.Types.{width}
use Rattle.vx_plan_nodes.specs.Describe.{described_both}
use Rattle.vx_plan_nodes.specs.DescribeView.{described_both_of}
use Rattle.vx_check_rules.specs.Behaviour.{keyed_over}
use Rattle.vx_check_rules.proofs.WidthFacts.{types_of-width}
use Rattle.vx_check_rules.proofs.keyed.keyed_from.Goals as goal

pub returns-in-Binary : goal.returns-in-Binary
returns-in-Binary c =
    let catalog = relation_at c.args.catalog.now in
    let left = c.in-Binary.input.value in
    let has = rw c.in-Binary.is at c.requires in
    let types = rw c.deref.ensures at (c.output_types.ensures catalog) in
    let wide : length c.output_types.result.now ≡ width catalog (plan_of left) = ap length (types has.1) ∙ types_of-width catalog (plan_of left) in
    let is : described_both_of c.described-in-Binary.result ≡ described_both (width catalog (plan_of left)) (binary_of c.in-Binary.operator) =
    c.described-in-Binary.ensures ∙ ap (λ w. described_both w (binary_of c.in-Binary.operator)) wide in
    rw c.in-Binary.is (c.keyed_over.ensures ∙ ap (λ d. keyed_over d.meeting d (map (λ (k : Vec ℕ Global). k.items) c.args.lefts.now) (map (λ (k : Vec ℕ Global). k.items) c.args.rights.now)) is)
