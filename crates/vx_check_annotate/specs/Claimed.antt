-- Documents and typed plans with the claims of others.
use Rattle.std.specs.Prelude.{List, [], ◌∷◌, ◌++◌, map, reverse, drop, Bool, if◌then◌else◌}
use Rattle.vx_rows_values.specs.Values.{Name}
use Rattle.vx_plan_nodes.specs.Plan.{Claim, Plan}
use Rattle.vx_plan_nodes.specs.Plan as plan
use Rattle.vx_plan_nodes.specs.Numbering.{nodes}
use Rattle.vx_plan_nodes.specs.declared.typed.Claim as rust_claim
use Rattle.vx_plan_nodes.specs.Outline.{Top, Outline, plan_in, claim_of}
use Rattle.vx_plan_nodes.specs.Outline as outline
use Rattle.vx_plan_nodes.specs.Names.{Names}
use Rattle.vx_plan_json.specs.Document.{ClaimForm, claim_form, Tree, scan, unary, binary, exchange, tree_nodes, Document}
use Rattle.vx_plan_json.specs.Formed.{is_claim_form}
use Rattle.vx_plan.specs.ByName.{claim_by_name, top_by_name}
use Rattle.vx_check_annotate.specs.declared.formed.FormedClaim.{FormedClaim}
use Rattle.vx_check_annotate.specs.Unclaimed.{no_claim}

-- ---- typed plans

-- the claims of all nodes, in preorder
abbrev pub claims_of : Plan → List Claim
claims_of (plan.scan n c r m z) = c ∷ []
claims_of (plan.unary n c op p) = c ∷ claims_of p
claims_of (plan.binary n c op p q) = c ∷ claims_of p ++ claims_of q
claims_of (plan.exchange n c k m p) = c ∷ claims_of p

abbrev pub claiming : Claim → Top → Top
claiming c h = record { number = h.number; claim = c; columns = h.columns }

-- a typed plan with the claims of a plan that has the same nodes
abbrev pub with_claims : Plan → Outline → Outline
with_claims (plan.scan n c r m z) (outline.scan h relation shared size prefix) = outline.scan (claiming c h) relation shared size prefix
with_claims (plan.unary n c op p) (outline.unary h operator renamed t) = outline.unary (claiming c h) operator renamed (with_claims p t)
with_claims (plan.binary n c op p q) (outline.binary h operator t u) = outline.binary (claiming c h) operator (with_claims p t) (with_claims q u)
with_claims (plan.exchange n c k m p) (outline.exchange h kind merge t) = outline.exchange (claiming c h) kind merge (with_claims p t)
with_claims _ o = o

-- the claims by the names of their nodes' columns, in preorder
abbrev pub forms_of : Names → Outline → List ClaimForm
forms_of s (outline.scan h relation shared size prefix) = top_by_name s h ∷ []
forms_of s (outline.unary h op renamed t) = top_by_name s h ∷ forms_of s t
forms_of s (outline.binary h op t u) = top_by_name s h ∷ forms_of s t ++ forms_of s u
forms_of s (outline.exchange h kind merge t) = top_by_name s h ∷ forms_of s t

-- ---- documents

-- the first of these, or a claim that says nothing
abbrev pub first_form : List ClaimForm → ClaimForm
first_form [] = no_claim
first_form (f ∷ forms) = f

abbrev pub later_forms : List ClaimForm → List ClaimForm
later_forms [] = []
later_forms (f ∷ forms) = forms

-- the nodes with these claims, in preorder; a node for which there is none says nothing
abbrev pub tree_with : List ClaimForm → Tree → Tree
tree_with forms (scan c s) = scan (first_form forms) s
tree_with forms (unary c op t) = unary (first_form forms) op (tree_with (later_forms forms) t)
tree_with forms (binary c op t u) = binary (first_form forms) op (tree_with (later_forms forms) t) (tree_with (drop (tree_nodes t) (later_forms forms)) u)
tree_with forms (exchange c kind merge t) = exchange (first_form forms) kind merge (tree_with (later_forms forms) t)

-- the document with these claims, and so much said of its order
abbrev pub with_forms : List ClaimForm → (total : Bool) → Document → Document
with_forms forms total d = record { sizes = d.sizes; ranges = d.ranges; total = total; derives = d.derives; root = tree_with forms d.root }

-- ---- the claims of the program

-- what a claim of a document says
abbrev pub form_of : FormedClaim → ClaimForm
form_of f = claim_form f.claim

-- what claims say, from the last one on
abbrev pub forms_in : List FormedClaim → List ClaimForm
forms_in claims = map form_of (reverse claims)

-- the claim, or one that says nothing where no document can say it
abbrev pub kept_form : ClaimForm → ClaimForm
kept_form f = if is_claim_form f then f else no_claim

-- the claims from the last one on
abbrev pub claims_in : List rust_claim.Claim → List Claim
claims_in claims = map claim_of (reverse claims)

-- the first of these claims by the names of columns, or one that says nothing
abbrev pub first_named : Names → List Name → List Claim → ClaimForm
first_named s names [] = no_claim
first_named s names (c ∷ claims) = kept_form (claim_by_name s names c)

abbrev pub later_claims : List Claim → List Claim
later_claims [] = []
later_claims (c ∷ claims) = claims

-- these claims by the names of the columns of nodes, both in preorder; a node for which there is none says nothing
abbrev pub named_forms : Names → List Claim → Outline → List ClaimForm
named_forms s claims (outline.scan h relation shared size prefix) = first_named s h.columns.names claims ∷ []
named_forms s claims (outline.unary h op renamed t) = first_named s h.columns.names claims ∷ named_forms s (later_claims claims) t
named_forms s claims (outline.binary h op t u) =
    first_named s h.columns.names claims ∷ named_forms s (later_claims claims) t ++ named_forms s (drop (nodes (plan_in t)) (later_claims claims)) u
named_forms s claims (outline.exchange h kind merge t) = first_named s h.columns.names claims ∷ named_forms s (later_claims claims) t

-- the claims that nodes have, by the names of their columns, in preorder; one that no document can say says nothing
abbrev pub own_forms : Names → Outline → List ClaimForm
own_forms s (outline.scan h relation shared size prefix) = kept_form (top_by_name s h) ∷ []
own_forms s (outline.unary h op renamed t) = kept_form (top_by_name s h) ∷ own_forms s t
own_forms s (outline.binary h op t u) = kept_form (top_by_name s h) ∷ own_forms s t ++ own_forms s u
own_forms s (outline.exchange h kind merge t) = kept_form (top_by_name s h) ∷ own_forms s t
