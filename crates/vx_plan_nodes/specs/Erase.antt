-- The plan without its exchanges.
use Rattle.std.specs.Prelude.{ℕ, ◌+◌, false, [], cond}
use Rattle.vx_plan_nodes.specs.Plan.{one_worker, one, Claim, Plan, scan, unary, binary, exchange, Unary, group, plain, sort}
use Rattle.vx_plan_nodes.specs.Phases.{is_final}

-- at part one, without order and keys
abbrev pub no_claim : Claim
no_claim = record { part = one; order = []; keys = [] }

-- how many nodes are neither exchanges nor finals
abbrev pub nodes_left : Plan → ℕ
nodes_left (scan n c r m z) = 1
nodes_left (unary n c op p) = cond (is_final op) (nodes_left p) (1 + nodes_left p)
nodes_left (binary n c op p q) = 1 + nodes_left p + nodes_left q
nodes_left (exchange n c k m p) = nodes_left p

-- a grouping of all rows at once, and a sort of whole rows
abbrev pub at_once : Unary → Unary
at_once (group phase by aggregates) = group plain by aggregates
at_once (sort of_parts cols) = sort false cols
at_once op = op

-- the plan without exchanges, numbered in preorder from i: one worker everywhere, every scan whole, no claims. A final, the exchanges and sorts below it and
-- its partial become one grouping over the input of the partial, below these sorts: the partial is made plain, and the final is left out
abbrev pub erase_from : ℕ → Plan → Plan
erase_from i (scan n c r m z) = scan i no_claim r false one_worker
erase_from i (unary n c op p) = cond (is_final op) (erase_from i p) (unary i no_claim (at_once op) (erase_from (i + 1) p))
erase_from i (binary n c op p q) = binary i no_claim op (erase_from (i + 1) p) (erase_from (i + 1 + nodes_left p) q)
erase_from i (exchange n c k m p) = erase_from i p

-- numbered from 0
abbrev pub erase : Plan → Plan
erase p = erase_from 0 p
