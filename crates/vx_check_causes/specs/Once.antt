-- That in groups each failure has its line, and no failure a second one.
use Rattle.std.specs.Prelude.{ℕ, ◌≡◌, ◌+◌, ◌++◌, ◌==◌, Bool, true, cond, ◌&&◌, List, [], ◌∷◌, Option, Some, None, is_none}
use Rattle.std.specs.List.{list_all}
use Rattle.vx_plan_nodes.specs.Names.{TypedPlanView}
use Rattle.vx_check_rules.specs.Refusal.{Rule}
use Rattle.vx_check_failures.specs.Grouped.{caused_line, comes_of, grouped_lines}

-- a failure, and the node of its cause
abbrev pub Caused : Type 0
Caused = (ℕ × Rule) × Option ℕ

-- failures with their causes, which are at the same places
abbrev pub caused : List (ℕ × Rule) → List (Option ℕ) → List Caused
caused [] causes = []
caused (f ∷ fs) [] = []
caused (f ∷ fs) (cause ∷ causes) = (f, cause) ∷ caused fs causes

-- how many of them pass a test
abbrev pub count_in : (Caused → Bool) → List Caused → ℕ
count_in t [] = 0
count_in t (x ∷ xs) = cond (t x) 1 0 + count_in t xs

-- those that come of the one at this node
abbrev pub behind : ℕ → List Caused → List Caused
behind n [] = []
behind n (x ∷ xs) = cond (comes_of n x.1) (x ∷ []) [] ++ behind n xs

-- a failure without a cause, and those that come of it
abbrev pub group : List Caused → ℕ × Rule → Option ℕ → List Caused
group all f None = (f, None) ∷ behind f.0 all
group all f (Some m) = []

abbrev pub in_groups : (all : List Caused) → List Caused → List Caused
in_groups all [] = []
in_groups all (x ∷ xs) = group all x.0 x.1 ++ in_groups all xs

-- their lines
abbrev pub caused_lines : TypedPlanView → List Caused → List ℕ
caused_lines p [] = []
caused_lines p (x ∷ xs) = caused_line p x.0 x.1 ++ caused_lines p xs

-- a failure at this node that has no cause
abbrev pub is_cause : ℕ → Caused → Bool
is_cause m x = is_none x.1 && (m == x.0.0)

-- one failure among these is the cause, if one is named
abbrev pub has_one_cause : List Caused → Option ℕ → Bool
has_one_cause xs None = true
has_one_cause xs (Some m) = count_in (is_cause m) xs == 1

-- the lines in groups are those of the failures in groups, and there, whatever is counted of them, it is there as often as among the failures, where each cause that is named is
-- that of one failure
abbrev pub OnceLaw : Type 0
OnceLaw = (p : TypedPlanView) (fs : List (ℕ × Rule)) (causes : List (Option ℕ)) → list_all (λ x. has_one_cause (caused fs causes) x.1) (caused fs causes) ≡ true
    → (grouped_lines p fs causes ≡ caused_lines p (in_groups (caused fs causes) (caused fs causes)))
    × ((t : Caused → Bool) → count_in t (in_groups (caused fs causes) (caused fs causes)) ≡ count_in t (caused fs causes))
