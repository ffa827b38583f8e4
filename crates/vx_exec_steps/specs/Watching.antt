-- The operator whose rows leave a worker's fragment.
use Rattle.vx_worker.specs.declared.tree.Tree.{Tree, Leaf, One', Two'}

-- the operator at the top of a tree
abbrev pub top_of : {O : Type 0} → Tree O → O
top_of (Leaf n o) = o
top_of (One' o p c) = o
top_of (Two' o p a q b) = o
