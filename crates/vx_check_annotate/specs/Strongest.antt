-- Claims of a document that tell the most.
use Rattle.std.specs.Prelude.{◌≡◌, List, Ok}
use Rattle.vx_catalog_relations.specs.Relation.{Relation}
use Rattle.vx_catalog_relations.specs.Catalog.{relation_at}
use Rattle.vx_plan_nodes.specs.Outline.{plan_in}
use Rattle.vx_plan_nodes.specs.Names.{TypedPlanView}
use Rattle.vx_plan_json.specs.Document.{Document}
use Rattle.vx_plan.specs.Resolve.{resolved}
use Rattle.vx_check_rules.specs.Rules.{is_total_order}
use Rattle.vx_check_options.specs.Laws.{IsStrongest, AtEach}
use Rattle.vx_check_options.specs.Claimed.{HasAllKeys}
use Rattle.vx_check_rules.specs.Derived.{is_total_derived}
use Rattle.vx_check_shown.specs.Strongest.{IsStrongestDerived}

-- at every node of the typed plan, over what its inputs claim: the part tells the most, no longer order is shown, and every minimal key is claimed, of 16 at least;
-- and the document is total where its root is in a total order
abbrev pub TellsTheMost : List Relation → Document → Type 0
TellsTheMost catalog d = (p : TypedPlanView) × (resolved d catalog ≡ Ok p) × AtEach (IsStrongest (relation_at catalog)) (plan_in p.root)
    × AtEach (HasAllKeys (relation_at catalog)) (plan_in p.root) × (p.total ≡ is_total_order (relation_at catalog) (plan_in p.root))

-- the same by what is known of columns: at every node, over what its inputs claim, each part and each order that is shown follows from the claimed one, and every
-- key that the inputs' keys show contains a claimed one, of 16 at least; and the document is total where its root is in a total order
abbrev pub TellsTheMostDerived : List Relation → Document → Type 0
TellsTheMostDerived catalog d = (p : TypedPlanView) × (resolved d catalog ≡ Ok p) × AtEach (IsStrongestDerived (relation_at catalog)) (plan_in p.root)
    × (p.total ≡ is_total_derived (relation_at catalog) (plan_in p.root))
