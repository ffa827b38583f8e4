-- A rule table after it was asked.
use Rattle.std.proofs.Common.{◌≡◌, ◌∙◌, List, Result, Ok, Err, refl}
use Rattle.std.specs.Prelude.{OnOk}
use Rattle.vx_catalog_relations.specs.Relation.{Relation}
use Rattle.vx_catalog_relations.specs.Catalog.{relation_at}
use Rattle.vx_plan_nodes.specs.Plan.{Plan}
use Rattle.vx_plan_nodes.specs.declared.typed_plan.TypedPlan.{TypedPlan}
use Rattle.vx_plan_nodes.specs.TypedView.{names_in, plan}
use Rattle.vx_plan_facts.specs.declared.known.KnownColumns.{KnownColumns}
use Rattle.vx_plan_facts.specs.KnownView.{IsKnownOf}
use Rattle.vx_check_rules.specs.KnownNode.{IsKnownTyped}
use Rattle.vx_check_rules.specs.declared.table.Table.{Table}
use Rattle.vx_check_rules.specs.declared.table.Table.TheVariants.{Second}
use Rattle.vx_check_rules.specs.TableView.{Judges, StaysTable}
use Rattle.vx_check_failures.specs.FailureView.{IsTableOf}

-- the table of a plan is still its table after it has judged a node
pub still-table : (old new : Table) (p : TypedPlan) (q : Plan) → IsTableOf old p → Judges (names_in p).catalog old q → StaysTable old new q → IsTableOf new p
still-table old new p q is h stays = record { derives_as = stays.same ∙ is.derives_as; judges = stays.judges (names_in p).catalog h (plan p) is.judges }

-- where all went well
pub still-after : {T E : Type 0} (r : Result T E) (old new : Table) (p : TypedPlan) (q : Plan) → IsTableOf old p → Judges (names_in p).catalog old q → StaysTable old new q → OnOk r (IsTableOf new p)
still-after (Ok x) old new p q is h stays = still-table old new p q is h stays
still-after (Err e) old new p q is h stays = tt

-- the second table, where what is known stays known
pub second-stays : {T E : Type 0} (r : Result T E) (k l : KnownColumns) (p : Plan)
    → OnOk r ((catalog : List Relation) → IsKnownTyped catalog k p → (q : Plan) → IsKnownOf (relation_at catalog) k q → IsKnownOf (relation_at catalog) l q) → OnOk r (StaysTable (Second k) (Second l) p)
second-stays (Ok x) k l p h = record { same = refl; judges = λ catalog g q f. record { known = h catalog g q f.known; typed = f.typed } }
second-stays (Err e) k l p h = tt
