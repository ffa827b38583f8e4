-- What was counted at a node in a run, in the words of a picture.
use Rattle.std.specs.Prelude.{ℕ, ◌==◌, ◌++◌, List, [], cond, codes, decimal, Option, Some, None}
use Rattle.vx_check_formats.specs.declared.totals.NodeTotals.{NodeTotals}

-- a number of things that one word names, which has an s behind it unless there is just one
abbrev pub counted : ℕ → List ℕ → List ℕ
counted n word = decimal n ++ (word ++ cond (n == 1) [] (codes "s"))

-- the rows that a node returned and how often a worker waited there, on a line of a label of its own
unfoldable pub rows_line : NodeTotals → List ℕ
rows_line c = codes "\\n" ++ (counted c.rows (codes " row") ++ (codes ", " ++ counted c.waits (codes " wait")))

-- the packets that were put into an exchange and those that were taken from it, on a line of their own
unfoldable pub packets_line : (put taken : ℕ) → List ℕ
packets_line put taken = codes "\\n" ++ (counted put (codes " packet") ++ (codes " put, " ++ (decimal taken ++ codes " taken")))

-- what stands in a node's box, where it was counted
abbrev pub node_line : Option NodeTotals → List ℕ
node_line None = []
node_line (Some c) = rows_line c

-- what stands at the arrow to an exchange, by what was counted at the node that sends and at the exchange
abbrev pub exchange_lines : (from to : Option NodeTotals) → List ℕ
exchange_lines (Some f) (Some t) = rows_line t ++ packets_line f.put t.taken
exchange_lines _ _ = []
