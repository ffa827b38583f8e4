-- A typed plan without its exchanges, with the names that it keeps.
use Rattle.std.specs.Prelude.{ℕ, ◌+◌, false, cond}
use Rattle.vx_plan_nodes.specs.Plan.{one_worker}
use Rattle.vx_plan_nodes.specs.Erase.{no_claim, nodes_left, at_once}
use Rattle.vx_plan_nodes.specs.Phases.{is_final}
use Rattle.vx_plan_nodes.specs.Outline.{Top, Outline, scan, unary, binary, exchange, plan_in}

-- a node's number and its output, without a claim
abbrev pub erased_top : ℕ → Top → Top
erased_top i h = record { number = i; claim = no_claim; columns = h.columns }

-- numbered in preorder from i: one worker everywhere, every scan whole, no claims. A final grouping is left out, and its partial is made plain
abbrev pub erased_from : ℕ → Outline → Outline
erased_from i (scan h r m z p) = scan (erased_top i h) r false one_worker p
erased_from i (unary h op flags t) = cond (is_final op) (erased_from i t) (unary (erased_top i h) (at_once op) flags (erased_from (i + 1) t))
erased_from i (binary h op t u) = binary (erased_top i h) op (erased_from (i + 1) t) (erased_from (i + 1 + nodes_left (plan_in t)) u)
erased_from i (exchange h k m t) = erased_from i t
