-- Which failures of a plan come of others below them: those that go away over the claims that follow there.
use Rattle.std.specs.Prelude.{ℕ, ◌≡◌, ◌++◌, ◌⊎◌, Bool, true, false, cond, ◌&&◌, ◌||◌, List, [], ◌∷◌, Option, Some, None, Ok}
use Rattle.std.specs.List.{list_all}
use Rattle.vx_catalog_relations.specs.Relation.{Relation}
use Rattle.vx_plan_nodes.specs.Plan.{Plan, Claim, claim, size, is_one}
use Rattle.vx_plan_nodes.specs.Outline.{Outline, top, plan_in}
use Rattle.vx_plan_nodes.specs.Names.{TypedPlanView}
use Rattle.vx_plan_json.specs.Document.{Document}
use Rattle.vx_plan_json.specs.declared.fault.PlanFault.TheVariants.{NoMemory}
use Rattle.vx_plan.specs.Resolve.{resolved}
use Rattle.vx_check_rules.specs.Rules.{part_gives, is_front, covers, contains}
use Rattle.vx_check_rules.specs.Refusal.{Rule, part_not_shown, order_not_shown, key_not_shown, total_not_shown}
use Rattle.vx_check_annotate.specs.declared.fault.AnnotateFault.{AnnotateFault}
use Rattle.vx_check_annotate.specs.declared.fault.AnnotateFault.TheVariants as fault
use Rattle.vx_check_annotate.specs.Unclaimed.{unclaimed}
use Rattle.vx_check_annotate.specs.Verdict.{is_accepted}
use Rattle.vx_check_annotate.specs.Strongest.{TellsTheMost, TellsTheMostDerived}
use Rattle.vx_check_annotate.specs.Fault.{IsReason}
use Rattle.vx_check_failures.specs.Lines.{node_numbered}
use Rattle.vx_check_failures.specs.Grouped.{no_causes}
use Rattle.vx_check_causes.specs.Below.{is_below, lies_below}

-- ---- the plan with the claims that follow

-- memory ran out
abbrev pub is_memory : AnnotateFault → Bool
is_memory (fault.Plan NoMemory) = true
is_memory (fault.Plan _) = false
is_memory (fault.Rule node rule) = false

-- the claims of e tell the most that follows at each node by the rule table that the document d asks for; where it asks for what is known of columns, this is not said
-- if it is accepted itself
abbrev pub ClaimsTheMost : (derives : Bool) → List Relation → (d e : Document) → Type 0
ClaimsTheMost false catalog d e = TellsTheMost catalog e
ClaimsTheMost true catalog d e = TellsTheMostDerived catalog e ⊎ (is_accepted catalog d ≡ true)

-- the plan of the same document but for its claims, where these are accepted and tell the most that follows at each node
abbrev pub IsAnnotated : List Relation → Document → TypedPlanView → Type 0
IsAnnotated catalog d a =
    (e : Document) × (unclaimed e ≡ unclaimed d) × (is_accepted catalog e ≡ true) × ClaimsTheMost d.derives catalog d e × (resolved e catalog ≡ Ok a)

-- the document gets no claims, for a reason that is not want of memory
abbrev pub HasNoClaims : List Relation → Document → Type 0
HasNoClaims catalog d = (f : AnnotateFault) × (is_memory f ≡ false) × IsReason catalog d f

-- ---- what follows of it

-- what a node claims is given by this claim: its part, which one worker gives too, an order that begins that one's, and of each key one that it contains
abbrev pub is_given : Plan → Claim → Bool
is_given p d = (is_one (size p) || part_gives d.part (claim p).part) && (is_front (claim p).order d.order && list_all (covers d.keys) (claim p).keys)

-- a failure of this rule at a node goes away over the claims that follow below it, where the node has this claim in the plan with these, which is total or
-- not: one of the node's own claim where the new one gives it, one of the whole order where the new plan is total, and one of an operator always
abbrev pub goes_away : (total : Bool) → Claim → Rule → Plan → Bool
goes_away total d part_not_shown p = is_given p d
goes_away total d order_not_shown p = is_given p d
goes_away total d key_not_shown p = is_given p d
goes_away total d total_not_shown p = total
goes_away total d _ p = true

-- the first of these nodes that lies below the node at the top
abbrev pub first_below : List ℕ → Plan → Option ℕ
first_below [] p = None
first_below (m ∷ ms) p = cond (is_below p m) (Some m) (first_below ms p)

-- the cause of a failure of this rule at a node, where these nodes are those of the causes before it, and the node is this one in the plan with the claims that follow
abbrev pub cause_at : (total : Bool) → Rule → List ℕ → Option Outline → Option Outline → Option ℕ
cause_at total r ms None new = None
cause_at total r ms (Some o) None = None
cause_at total r ms (Some o) (Some n) = cond (goes_away total (top n).claim r (plan_in o)) (first_below ms (plan_in o)) None

-- of a failure of the plan p, where a is the plan with the claims that follow
abbrev pub cause_of : (p a : TypedPlanView) → List ℕ → ℕ × Rule → Option ℕ
cause_of p a ms f = cause_at a.total f.1 ms (node_numbered f.0 p.root) (node_numbered f.0 a.root)

-- the nodes of the causes, with that of a failure that has none
abbrev pub with_cause : List ℕ → ℕ → Option ℕ → List ℕ
with_cause ms n None = ms ++ n ∷ []
with_cause ms n (Some m) = ms

-- the causes of these failures, in order, behind others of which these are the causes
abbrev pub causes_from : (p a : TypedPlanView) → List ℕ → List (ℕ × Rule) → List (Option ℕ)
causes_from p a ms [] = []
causes_from p a ms (f ∷ fs) = cause_of p a ms f ∷ causes_from p a (with_cause ms f.0 (cause_of p a ms f)) fs

-- of all failures
abbrev pub causes_of : (p a : TypedPlanView) → List (ℕ × Rule) → List (Option ℕ)
causes_of p a fs = causes_from p a [] fs

-- the causes of failures of a document's plan p: none where the document gets no claims
abbrev pub AreCauses : List Relation → Document → TypedPlanView → List (ℕ × Rule) → List (Option ℕ) → Type 0
AreCauses catalog d p fs causes =
    (HasNoClaims catalog d × (causes ≡ no_causes fs)) ⊎ ((a : TypedPlanView) × IsAnnotated catalog d a × (causes ≡ causes_of p a fs))

-- ---- what that is

-- each failure has an answer, and each answer is the node of an earlier failure that has no cause, below the failure's own; ms are the nodes of those before these
abbrev pub NamesCauses : Outline → List ℕ → List (ℕ × Rule) → List (Option ℕ) → Type 0
NamesCauses root ms [] [] = Unit {0}
NamesCauses root ms [] (cause ∷ causes) = ⊥
NamesCauses root ms (f ∷ fs) [] = ⊥
NamesCauses root ms (f ∷ fs) (None ∷ causes) = NamesCauses root (ms ++ f.0 ∷ []) fs causes
NamesCauses root ms (f ∷ fs) (Some m ∷ causes) = (contains ms m ≡ true) × (lies_below root m f.0 ≡ true) × NamesCauses root ms fs causes
