-- A resolved plan names the catalog over which it was resolved; and from the steps of a plan to the plan.
use Rattle.std.proofs.Common.{◌≡◌, ℕ, List, Result, Ok, Err, refl, false, sym, subst}
use Rattle.std.specs.Prelude.{⊤}
use Rattle.vx_catalog_relations.specs.Relation.{Relation}
use Rattle.vx_catalog_relations.specs.Naming as catalog
use Rattle.vx_plan_json.specs.Document.{Document}
use Rattle.vx_plan_json.specs.Fault.{Refusal, ◌>>=◌}
use Rattle.vx_plan_json.specs.Fault as plan
use Rattle.vx_plan_json.specs.declared.fault.PlanFault.{PlanFault}
use Rattle.vx_plan_json.proofs.Holds.{Holds, holds_then, holds_at}
use Rattle.vx_plan_json.proofs.NodeFacts.{fails_then}
use Rattle.vx_plan_nodes.specs.Names.{Names, TypedPlanView}
use Rattle.vx_plan_nodes.specs.Outline.{Outline}
use Rattle.vx_plan.specs.Resolve.{typed_in, test_sizes, test_ranges, resolved}
use Rattle.vx_check_directions.specs.Directed.{with_directions}
use Rattle.vx_check_directions.specs.Planned.{planned}
use Rattle.volcano_refusals.specs.declared.refusal.Refusal.TheVariants as refusal
use Rattle.volcano_answer.specs.Planning.{Reading, plan_from, IsPlanned, IsPlanRefusal, for_plan}

any_answer : {A : Type 0} (r : Result A Refusal) → Holds (λ x. ⊤) r
any_answer (Ok x) = tt
any_answer (Err e) = tt

-- what holds of each answer of the second step, whatever the first answers
then_holds : {A B : Type 0} (P : B → Type 0) (f : A → Result B Refusal) (r : Result A Refusal) → ((x : A) → Holds P (f x)) → Holds P (r >>= f)
then_holds P f r each = holds_then (λ x. ⊤) P f r (any_answer r) (λ x u. each x)

abbrev IsOver : List Relation → TypedPlanView → Type 0
IsOver catalog p = p.names.catalog ≡ catalog

resolved_is_over : (d : Document) (catalog : List Relation) → Holds (IsOver catalog) (resolved d catalog)
unfolding resolved
resolved_is_over d catalog =
    let s : Names = record { catalog = catalog; ranges = d.ranges; sizes = d.sizes } in
    let last = λ (t : Outline × ℕ). Ok (record { names = s; total = d.total; derives = d.derives; root = t.0 }) in
    then_holds (IsOver catalog) (λ u. test_ranges d.ranges >>= λ v. typed_in s false 0 d.root >>= last) (test_sizes d.sizes)
    (λ u. then_holds (IsOver catalog) (λ v. typed_in s false 0 d.root >>= last) (test_ranges d.ranges)
    (λ v. then_holds (IsOver catalog) last (typed_in s false 0 d.root) (λ t. refl)))

-- so does one whose joins by merging are directed
directed_is_over : (catalog : List Relation) (r : Result TypedPlanView Refusal) → Holds (IsOver catalog) r → Holds (IsOver catalog) (with_directions r)
directed_is_over catalog (Ok p) h = h
directed_is_over catalog (Err e) h = tt

planned_is_over : (d : Document) (catalog : List Relation) → Holds (IsOver catalog) (planned d catalog)
planned_is_over d catalog = directed_is_over catalog (resolved d catalog) (resolved_is_over d catalog)

-- the plan of what was read, where what is known of it holds of it
pub is_planned : (declared : Reading (Result (List Relation) catalog.Refusal)) (document : Reading (Result Document plan.Refusal)) (relations : List Relation) (d : Document)
    (read : Result Document plan.Refusal) (p : TypedPlanView) → declared (λ r. r ≡ Ok relations) → ((P : Result Document plan.Refusal → Type 0) → P read → document P)
    → read ≡ Ok d → planned d relations ≡ Ok p → IsPlanned declared document p
is_planned declared document relations d read p is known reads says =
    let over = holds_at (IsOver relations) (planned d relations) p (planned_is_over d relations) says in
    let D : List Relation → Type 0 = λ rs. declared (λ r. r ≡ Ok rs) in
    let Q : List Relation → Type 0 = λ rs. document (λ r. plan_from rs r ≡ Ok p) in
    let P : Result Document plan.Refusal → Type 0 = λ r. plan_from relations r ≡ Ok p in
    record { declares = subst D (sym over) is; planned = subst Q (sym over) (known P (subst P (sym reads) says)) }

-- the plan was not read
pub reading_fails : (declared : Reading (Result (List Relation) catalog.Refusal)) (document : Reading (Result Document plan.Refusal)) (relations : List Relation)
    (read : Result Document plan.Refusal) (fault : PlanFault) → declared (λ r. r ≡ Ok relations) → ((P : Result Document plan.Refusal → Type 0) → P read → document P)
    → plan.Fails fault read → IsPlanRefusal declared document (refusal.Plan fault)
reading_fails declared document relations read fault is known fails =
    for_plan relations fault refl is (known (λ r. plan.Fails fault (plan_from relations r)) (fails_then fault read (λ d. planned d relations) fails))

-- the plan that was read does not resolve
pub planning_fails : (declared : Reading (Result (List Relation) catalog.Refusal)) (document : Reading (Result Document plan.Refusal)) (relations : List Relation) (d : Document)
    (read : Result Document plan.Refusal) (fault : PlanFault) → declared (λ r. r ≡ Ok relations) → ((P : Result Document plan.Refusal → Type 0) → P read → document P)
    → read ≡ Ok d → plan.Fails fault (planned d relations) → IsPlanRefusal declared document (refusal.Plan fault)
planning_fails declared document relations d read fault is known reads fails =
    let P : Result Document plan.Refusal → Type 0 = λ r. plan.Fails fault (plan_from relations r) in
    for_plan relations fault refl is (known P (subst P (sym reads) fails))
