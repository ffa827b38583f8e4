-- The typed plan whose claims are kept.
use Rattle.std.specs.Prelude.{◌≡◌, ◌⊎◌, List, true, false, Ok}
use Rattle.vx_catalog_relations.specs.Relation.{Relation}
use Rattle.vx_plan_nodes.specs.Names.{TypedPlanView}
use Rattle.vx_plan_json.specs.Document.{Document}
use Rattle.vx_plan.specs.Resolve.{resolved}
use Rattle.vx_check_annotate.specs.Unclaimed.{unclaimed}
use Rattle.vx_check_annotate.specs.Verdict.{is_accepted_by_claims}

-- that of the document as it is, if its claims are accepted by claims alone, else that of the document without them
abbrev pub IsHinted : List Relation → Document → TypedPlanView → Type 0
IsHinted catalog d p =
    ((is_accepted_by_claims catalog d ≡ true) × (resolved d catalog ≡ Ok p)) ⊎ ((is_accepted_by_claims catalog d ≡ false) × (resolved (unclaimed d) catalog ≡ Ok p))
