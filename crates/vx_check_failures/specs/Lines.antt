-- A line for each node that fails, with the claim that the plan's rule table shows there in place of the node's own.
use Rattle.std.specs.Prelude.{ℕ, ◌++◌, ◌==◌, Bool, List, [], ◌∷◌, Option, Some, None, cond, codes, decimal}
use Rattle.serde_json.specs.Data.{object}
use Rattle.serde_json.specs.Written.{compact_text}
use Rattle.vx_rows_values.specs.Values.{Name}
use Rattle.vx_catalog_relations.specs.Catalog.{relation_at}
use Rattle.vx_plan_nodes.specs.Plan.{Claim}
use Rattle.vx_plan_nodes.specs.Outline.{Outline, scan, unary, binary, exchange, top, columns, plan_in}
use Rattle.vx_plan_nodes.specs.Names.{Names, TypedPlanView}
use Rattle.vx_plan_json.specs.Written.{claim_members}
use Rattle.vx_plan.specs.ByName.{claim_by_name}
use Rattle.vx_check_rules.specs.Refusal.{Rule, or_else}
use Rattle.vx_check_rules.specs.RuleView.{rule_text}
use Rattle.vx_check_failures.specs.Shown.{shown_claim_by}

-- the node with this number, at the top or else below it
abbrev pub if_numbered : ℕ → Outline → Option Outline
if_numbered n o = cond ((top o).number == n) (Some o) None

abbrev pub node_numbered : ℕ → Outline → Option Outline
node_numbered n (scan h r m z p) = if_numbered n (scan h r m z p)
node_numbered n (unary h op flags t) = or_else (if_numbered n (unary h op flags t)) (node_numbered n t)
node_numbered n (binary h op t u) = or_else (if_numbered n (binary h op t u)) (or_else (node_numbered n t) (node_numbered n u))
node_numbered n (exchange h k m t) = or_else (if_numbered n (exchange h k m t)) (node_numbered n t)

-- a claim, behind the rest of its line, as a plan document writes it
abbrev pub claim_text : Names → List Name → Option Claim → List ℕ
claim_text s names None = []
claim_text s names (Some c) = codes " shown=" ++ compact_text (object (claim_members (claim_by_name s names c)))

-- the claim that is shown at a node, by the table that a plan asks for
abbrev pub shown_text : (derives : Bool) → Names → Option Outline → List ℕ
shown_text derives s None = []
shown_text derives s (Some o) = claim_text s (columns o).names (shown_claim_by derives (relation_at s.catalog) (plan_in o))

-- the line of a failure: the rule, the node, and the claim that is shown there
abbrev pub line_of : TypedPlanView → ℕ × Rule → List ℕ
line_of p f = codes "volcano: " ++ (rule_text f.1 ++ (codes " node=" ++ (decimal f.0 ++ (shown_text p.derives p.names (node_numbered f.0 p.root) ++ codes "\n"))))

-- and of each of these
abbrev pub lines_of : TypedPlanView → List (ℕ × Rule) → List ℕ
lines_of p [] = []
lines_of p (f ∷ fs) = line_of p f ++ lines_of p fs
