-- Why a document gets no claims.
use Rattle.std.specs.Prelude.{◌≡◌, ◌⊎◌, ℕ, List, Bool, true, false, Some}
use Rattle.vx_catalog_relations.specs.Relation.{Relation}
use Rattle.vx_plan_json.specs.Document.{Document}
use Rattle.vx_plan_json.specs.Fault.{Fails}
use Rattle.vx_plan.specs.Resolve.{resolved}
use Rattle.vx_check_rules.specs.RuleView.{rule_of}
use Rattle.vx_check_annotate.specs.declared.fault.AnnotateFault.{AnnotateFault}
use Rattle.vx_check_annotate.specs.declared.fault.AnnotateFault.TheVariants as fault
use Rattle.vx_check_annotate.specs.Unclaimed.{unclaimed}
use Rattle.vx_check_rules.specs.Refusal.{Rule, root_not_one, first_rows_open}
use Rattle.vx_check_annotate.specs.Verdict.{is_accepted, refused, refused_by_claims}
use Rattle.vx_check_annotate.specs.Strongest.{TellsTheMostDerived}
use Rattle.vx_check_annotate.specs.Saved.{IsWithin, HasRoomAtEach, IsNeverAccepted, IsNeverSaved}

-- the rule table that the document asks for does not accept it with the claims that it has, and refuses a document with other claims at this node: where it asks for
-- claims alone, that is so by their table, no claims are accepted by claims alone, nor saves any this node unless its fault is that a root has several workers or that
-- first rows are left open, if no bound cut off a part that a node could claim, nor a key of those claims that leave them open; where it asks for what is known of columns,
-- those claims tell the most
abbrev pub IsRuleReason : (derives : Bool) → List Relation → Document → ℕ → Rule → Type 0
IsRuleReason false catalog d n rule =
    (is_accepted catalog d ≡ false) × ((e : Document) × (unclaimed e ≡ unclaimed d) × (refused_by_claims catalog e ≡ Some (n, rule))
    × (IsWithin catalog d → (rule ≡ first_rows_open → HasRoomAtEach catalog e) → IsNeverAccepted catalog d × ((rule ≡ root_not_one) ⊎ ((rule ≡ first_rows_open) ⊎ IsNeverSaved catalog d n))))
IsRuleReason true catalog d n rule =
    (is_accepted catalog d ≡ false) × ((e : Document) × (unclaimed e ≡ unclaimed d) × TellsTheMostDerived catalog e × (refused catalog e ≡ Some (n, rule)))

-- the document without its claims does not fit the catalog, for this first reason; or this node is why it gets no claims. Or memory ran out
abbrev pub IsReason : List Relation → Document → AnnotateFault → Type 0
IsReason catalog d (fault.Plan f) = Fails f (resolved (unclaimed d) catalog)
IsReason catalog d (fault.Rule node rule) = IsRuleReason d.derives catalog d node (rule_of rule)
