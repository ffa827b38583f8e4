use Rattle.std.proofs.Common.{◌≡◌, ap, ℕ, length, map, Vec, Global}
use Rattle.vx_catalog_relations.specs.Catalog.{relation_at}
use Rattle.vx_plan_nodes.specs.Phases.{first_columns}
use Rattle.vx_plan_nodes.specs.Outline.{plan_of}
use Rattle.vx_plan_nodes.specs.Types.{types_of}
use Rattle.vx_check_rules.specs.Behaviour.{keyed_from}
use Rattle.vx_check_rules.specs.KeyedView.{all_keyed_in}
use Rattle.vx_check_options.proofs.KeyChoices.{found-from}
use Rattle.vx_check_options.proofs.keys.found_keys.Goals as goal

pub returns : goal.returns
returns c =
    let catalog = relation_at c.args.catalog.now in
    let w : ℕ = length (types_of catalog (plan_of c.args.node.now)) in
    let cols : first_columns (length c.output_types.result.now) ≡ first_columns w = ap (λ ts. first_columns (length ts)) (c.output_types.ensures catalog c.requires.outputs) in
    let items = map (λ (v : Vec ℕ Global). v.items) in
    found-from (all_keyed_in c.keyed_from-keyed.result) (keyed_from catalog (plan_of c.args.node.now) (items c.args.lefts.now) (items c.args.rights.now)) w (first_columns (length c.output_types.result.now))
    (items c.args.claimed.now) (items c.in_ok-found.found.items) (items c.add_all.new.found.items) c.keyed_from-keyed.ensures cols c.requires.claimed c.in_ok-found.ensures c.in_ok-add_all.ensures
