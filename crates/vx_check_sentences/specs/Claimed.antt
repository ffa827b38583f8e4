-- What a node that is refused claims or does, as a sentence.
use Rattle.std.specs.Prelude.{ℕ, ◌++◌, List, [], ◌∷◌, codes}
use Rattle.vx_rows_values.specs.Values.{Name}
use Rattle.vx_plan_nodes.specs.Plan.{Part, one, any, all, routed, Unary, select, project, distinct, sort, group, limit, JoinMethod, by_hashing, by_merging, left_order, right_order, Binary, union, join, semi_join}
use Rattle.vx_plan_nodes.specs.Outline.{Outline, scan, unary, binary, exchange, top, columns}
use Rattle.vx_plan_nodes.specs.Names.{Names}
use Rattle.vx_check.specs.Explain.{list_text, order_text, part_text}
use Rattle.vx_check_rules.specs.Refusal.{Rule, size_mismatch, root_not_one, part_not_shown, inputs_not_matched, replicated_input, order_not_shown, order_needed, key_not_shown, total_not_shown, first_rows_open}
use Rattle.vx_check_sentences.specs.Words.{node_text, doing_text, order_words, keys_words}

abbrev pub part_words : Names → List Name → Part → List ℕ
part_words s names one = codes "all rows at one worker (one)"
part_words s names any = codes "each row at one worker, whichever (any)"
part_words s names all = codes "all rows at every worker (all)"
part_words s names (routed r cols) = codes "to be routed by " ++ part_text s names (routed r cols)

-- ---- what an operator needs of its inputs

-- rows that are equal in these columns, which are all rows where there is no column
abbrev pub equal_needed : List Name → List ℕ → List ℕ
equal_needed names [] = codes " needs all rows at one worker"
equal_needed names (c ∷ cols) = codes " needs rows that are equal in " ++ (list_text names (c ∷ cols) ++ codes " at one worker")

abbrev pub unary_needs : List Name → Unary → List ℕ
unary_needs names (select fs) = []
unary_needs names (project es) = []
unary_needs names (distinct cols) = equal_needed names cols
unary_needs names (sort of_parts cols) = []
unary_needs names (group phase by aggregates) = equal_needed names by
unary_needs names (limit rows) = []

abbrev pub binary_needs : Binary → List ℕ
binary_needs union = codes " needs of both inputs each row once, or of both all rows at every worker"
binary_needs (join method on) = codes " needs rows that match at one worker"
binary_needs (semi_join matched on conditions) = codes " needs rows that match at one worker, or all rows of its right input at every worker"

abbrev pub needs_text : Outline → List ℕ
needs_text (scan h r m z p) = []
needs_text (unary h op flags t) = unary_needs (columns t).names op
needs_text (binary h op t u) = binary_needs op
needs_text (exchange h k m t) = []

-- the orders that a join needs of its inputs, if it merges
abbrev pub join_orders : List Name → List Name → JoinMethod → List (ℕ × ℕ) → List ℕ
join_orders lefts rights by_hashing on = []
join_orders lefts rights (by_merging falls) on = codes " needs its inputs sorted on " ++ (order_text lefts (left_order falls on) ++ (codes " and on " ++ order_text rights (right_order falls on)))

abbrev pub binary_orders : List Name → List Name → Binary → List ℕ
binary_orders lefts rights union = []
binary_orders lefts rights (join method on) = join_orders lefts rights method on
binary_orders lefts rights (semi_join matched on conditions) = []

abbrev pub orders_text : Outline → List ℕ
orders_text (scan h r m z p) = []
orders_text (unary h op flags t) = []
orders_text (binary h op t u) = binary_orders (columns t).names (columns u).names op
orders_text (exchange h k m t) = codes " needs its input sorted on " ++ order_text (columns t).names m

-- ---- by the rule that refuses the node

abbrev pub claimed_text : Names → Rule → Outline → List ℕ
claimed_text s size_mismatch o = doing_text s o ++ codes " needs both inputs at the same workers"
claimed_text s root_not_one o = node_text o ++ codes ", the root, has to be at one worker"
claimed_text s part_not_shown o = node_text o ++ (codes " claims " ++ part_words s (columns o).names (top o).claim.part)
claimed_text s inputs_not_matched o = doing_text s o ++ needs_text o
claimed_text s replicated_input o = doing_text s o ++ codes " needs each row of its input once"
claimed_text s order_not_shown o = node_text o ++ (codes " claims " ++ order_words (columns o).names (top o).claim.order)
claimed_text s order_needed o = doing_text s o ++ orders_text o
claimed_text s key_not_shown o = node_text o ++ (codes " claims " ++ keys_words (columns o).names (top o).claim.keys)
claimed_text s total_not_shown o = codes "the plan says that its order is total, and " ++ (node_text o ++ (codes " claims " ++ order_words (columns o).names (top o).claim.order))
claimed_text s first_rows_open o = doing_text s o ++ codes " needs all rows of its input at one worker, in an order that is total"
