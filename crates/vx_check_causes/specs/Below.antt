-- Which nodes lie below others.
use Rattle.std.specs.Prelude.{ℕ, ◌==◌, nat_lt, nat_le, Bool, false, ◌&&◌, ◌||◌, Option, Some, None}
use Rattle.vx_plan_nodes.specs.Plan.{Plan, scan, unary, binary, exchange, number}
use Rattle.vx_plan_nodes.specs.Outline.{Outline, plan_in}
use Rattle.vx_check_failures.specs.Lines.{node_numbered}

-- the node with this number is the one at the top, or one below it
abbrev pub has_node : Plan → ℕ → Bool
has_node (scan n c r s z) m = m == n
has_node (unary n c op p) m = (m == n) || has_node p m
has_node (binary n c op p q) m = (m == n) || (has_node p m || has_node q m)
has_node (exchange n c k g p) m = (m == n) || has_node p m

-- it is in an input of the one at the top
abbrev pub is_in_inputs : Plan → ℕ → Bool
is_in_inputs (scan n c r s z) m = false
is_in_inputs (unary n c op p) m = has_node p m
is_in_inputs (binary n c op p q) m = has_node p m || has_node q m
is_in_inputs (exchange n c k g p) m = has_node p m

-- of the node that was found, if one was
abbrev pub is_in_found : Option Outline → ℕ → Bool
is_in_found None m = false
is_in_found (Some o) m = is_in_inputs (plan_in o) m

-- in these nodes the one with the number m lies below the one with the number n
abbrev pub lies_below : Outline → (m : ℕ) → (n : ℕ) → Bool
lies_below root m n = is_in_found (node_numbered n root) m

-- ---- the same by the numbers of nodes

-- the number of the last of a node and those below it, in preorder
abbrev pub last_number : Plan → ℕ
last_number (scan n c r s z) = n
last_number (unary n c op p) = last_number p
last_number (binary n c op p q) = last_number q
last_number (exchange n c k g p) = last_number p

-- those below a node have the numbers that follow its own, up to that of the last of them
abbrev pub is_below : Plan → ℕ → Bool
is_below p m = nat_lt (number p) m && nat_le m (last_number p)
