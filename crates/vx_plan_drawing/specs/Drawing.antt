-- A plan drawn from its document: a line for each node in preorder, and marks at some of them.
use Rattle.std.specs.Prelude.{ℕ, suc, ◌+◌, ◌-◌, ◌/◌, ◌==◌, ◌<◌, ◌≤◌, ◌++◌, min, cond, List, [], ◌∷◌, take, drop, codes, decimal}
use Rattle.std.specs.List.{list_any}
use Rattle.vx_plan_json.specs.Document.{Tree, scan, unary, binary, exchange, tree_nodes}
use Rattle.vx_plan_drawing.specs.Description.{description, size_name, claim, claim_text}

-- the line of a node with this number, behind its margin
abbrev pub node_line : List ℕ → ℕ → Tree → List ℕ
node_line margin i t = margin ++ (codes "#" ++ (decimal i ++ (codes " " ++ (description t ++ (codes " size=" ++ (size_name t ++ claim_text (claim t)))))))

-- the line of the node at the top, and those of the nodes below it, whose margin is two spaces wider; nodes are numbered in preorder from i
abbrev pub tree_lines : List ℕ → ℕ → Tree → List (List ℕ)
tree_lines margin i (scan c s) = node_line margin i (scan c s) ∷ []
tree_lines margin i (unary c op t) = node_line margin i (unary c op t) ∷ tree_lines (margin ++ codes "  ") (suc i) t
tree_lines margin i (binary c op t u) =
    node_line margin i (binary c op t u) ∷ (tree_lines (margin ++ codes "  ") (suc i) t ++ tree_lines (margin ++ codes "  ") (suc i + tree_nodes t) u)
tree_lines margin i (exchange c k merge t) = node_line margin i (exchange c k merge t) ∷ tree_lines (margin ++ codes "  ") (suc i) t

-- the lines of a plan
abbrev pub lines_of : Tree → List (List ℕ)
lines_of t = tree_lines [] 0 t

-- the mark of a node with this number, if it is one of the marked ones; else two spaces
abbrev pub mark : List ℕ → ℕ → List ℕ
mark marked i = cond (list_any (λ m. m == i) marked) (codes "> ") (codes "  ")

-- lines behind their marks, the first of which has this number
abbrev pub with_marks : List ℕ → ℕ → List (List ℕ) → List (List ℕ)
with_marks marked i [] = []
with_marks marked i (l ∷ ls) = (mark marked i ++ l) ∷ with_marks marked (suc i) ls

-- the marked lines of a plan
abbrev pub marked_lines : List ℕ → Tree → List (List ℕ)
marked_lines marked t = with_marks marked 0 (lines_of t)

-- where a window of at most this many lines begins that has the node's: as many lines before as behind, but within the lines
abbrev pub window_start : (lines node most : ℕ) → ℕ
window_start lines node most = min (node - most / 2) (lines - most)

-- the window has the node's line
abbrev pub WindowLaw : Type 0
WindowLaw = (lines node most : ℕ) → node < lines → 0 < most → (window_start lines node most ≤ node) × (node < window_start lines node most + most)

-- the marked lines around a node
abbrev pub lines_around : (node most : ℕ) → Tree → List (List ℕ)
lines_around node most t = take most (drop (window_start (tree_nodes t) node most) (marked_lines (node ∷ []) t))
