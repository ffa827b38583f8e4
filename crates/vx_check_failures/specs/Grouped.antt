-- The lines of failures in groups: that of a cause, and behind it those of the failures that come of it.
use Rattle.std.specs.Prelude.{◌≡◌, ℕ, ◌++◌, ◌==◌, Bool, false, cond, List, [], ◌∷◌, Option, Some, None, codes, decimal}
use Rattle.vx_plan_nodes.specs.Names.{TypedPlanView}
use Rattle.vx_check_rules.specs.Refusal.{Rule}
use Rattle.vx_check_rules.specs.RuleView.{rule_text}
use Rattle.vx_check_failures.specs.Lines.{node_numbered, shown_text, lines_of}

-- the node of the failure that one comes of, behind that one's own
abbrev pub cause_text : Option ℕ → List ℕ
cause_text None = []
cause_text (Some m) = codes " cause=" ++ decimal m

-- the line of a failure: the rule, the node, that of the failure that it comes of, and the claim that is shown
abbrev pub caused_line : TypedPlanView → ℕ × Rule → Option ℕ → List ℕ
caused_line p f cause =
    codes "volcano: " ++ (rule_text f.1 ++ (codes " node=" ++ (decimal f.0 ++ (cause_text cause ++ (shown_text p.derives p.names (node_numbered f.0 p.root) ++ codes "\n")))))

-- a failure with this cause comes of the one at this node
abbrev pub comes_of : ℕ → Option ℕ → Bool
comes_of n None = false
comes_of n (Some m) = m == n

-- the lines of those failures that come of the one at this node; each failure has its cause, if it has one, at the same place of the second list
abbrev pub lines_behind : TypedPlanView → ℕ → List (ℕ × Rule) → List (Option ℕ) → List ℕ
lines_behind p n [] causes = []
lines_behind p n (f ∷ fs) [] = []
lines_behind p n (f ∷ fs) (cause ∷ causes) = cond (comes_of n cause) (caused_line p f cause) [] ++ lines_behind p n fs causes

-- the line of a failure without a cause, and behind it those of the failures of these that come of it
abbrev pub group_of : TypedPlanView → List (ℕ × Rule) → List (Option ℕ) → ℕ × Rule → Option ℕ → List ℕ
group_of p all reasons f None = caused_line p f None ++ lines_behind p f.0 all reasons
group_of p all reasons f (Some m) = []

-- the groups of these failures, each with those of all failures that come of its own
abbrev pub groups_of : TypedPlanView → (all : List (ℕ × Rule)) → (reasons : List (Option ℕ)) → List (ℕ × Rule) → List (Option ℕ) → List ℕ
groups_of p all reasons [] causes = []
groups_of p all reasons (f ∷ fs) [] = []
groups_of p all reasons (f ∷ fs) (cause ∷ causes) = group_of p all reasons f cause ++ groups_of p all reasons fs causes

-- of all failures, each with its cause
abbrev pub grouped_lines : TypedPlanView → List (ℕ × Rule) → List (Option ℕ) → List ℕ
grouped_lines p fs causes = groups_of p fs causes fs causes

-- no cause for each of these failures
abbrev pub no_causes : List (ℕ × Rule) → List (Option ℕ)
no_causes [] = []
no_causes (f ∷ fs) = None ∷ no_causes fs

-- where no failure has a cause, each has its line, in order
abbrev pub UngroupedLaw : Type 0
UngroupedLaw = (p : TypedPlanView) (fs : List (ℕ × Rule)) → grouped_lines p fs (no_causes fs) ≡ lines_of p fs
