use Rattle.std.proofs.Common.{◌≡◌, ◌∙◌, ap, length, arith}
use Rattle.vx_catalog_relations.specs.Catalog.{relation_at}
use Rattle.vx_plan_nodes.specs.Plan.{Plan, claim}
use Rattle.vx_plan_nodes.specs.Types.{width}
use Rattle.vx_plan_nodes.specs.Outline.{plan_of}
use Rattle.vx_check_rules.proofs.WidthFacts.{types_of-width}
use Rattle.vx_check_options.proofs.ClaimLists.{claimed-as, claimed-total, claim-within, claim-there}
use Rattle.vx_check_options.proofs.claiming.found_claims.Goals as goal

pub index-requires : goal.index-requires
index-requires c =
    let within = claim-within c.put_claims.new.claims.items c.in_ok-at.at (claim c.in_ok-at.ensures.0) c.in_ok-at.ensures.2 in omega (arith, within, c.put_claims.new.claims.ok.0)

pub returns : goal.returns
returns c =
    let catalog = relation_at c.args.catalog.now in
    let p : Plan = plan_of c.args.root.now in
    let more = c.in_ok-at.ensures in
    let x : Plan = more.0 in
    let is = claimed-as catalog p _ _ _ _ x c.in_ok-place.ensures.part c.in_ok-place.ensures.order more.1 in
    let wide : length c.output_types.result.now ≡ width catalog p = ap length (c.output_types.ensures catalog c.requires.outputs) ∙ types_of-width catalog p in
    let same = claim-there c.put_claims.new.claims.items c.in_ok-at.at (claim x) c.index.result.now c.index.ensures more.2 in
    let total = claimed-total catalog p _ _ x _ _ more.1 same wide in
    (x, is, rw c.new-claims.ensures.items at more.3, c.is_total-is_total.ensures ∙ total)
