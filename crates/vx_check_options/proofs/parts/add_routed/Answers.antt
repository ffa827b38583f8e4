use Rattle.std.proofs.Common.{◌≡◌, ◌∙◌, Vec, Global, ℕ, map, ap, sym, arith}
use Rattle.std.proofs.lemmas.Grind.{common_steps}
use Rattle.vx_plan_nodes.specs.Plan.{routed}
use Rattle.vx_plan_nodes.specs.Outline.{part_of, route_of}
use Rattle.vx_check_options.specs.Options.{with_parts}
use Rattle.vx_check_options.proofs.OptionFacts.{some-length}
use Rattle.vx_check_options.proofs.PartLists.{routed-some}
use Rattle.vx_check_options.proofs.parts.add_routed.Goals as goal

pub returns : goal.returns
returns c =
    let old = map part_of c.args.parts.now.items in
    let some = some-length c.args.lists.items _ _ (omega (arith, c.args.lists.ok.0)) c.is_empty.ensures c.if-is_empty.false in
    let done : with_parts old (map (λ (v : Vec ℕ Global). routed (route_of c.args.route.now) v.items) c.args.lists.items) ≡ map part_of c.loop-list.parts.items = grind (arith, common_steps) in
    sym done ∙ ap (with_parts old) (routed-some (route_of c.args.route.now) c.args.lists.items some)
