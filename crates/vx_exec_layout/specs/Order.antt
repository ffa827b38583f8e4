-- Spans in the order of their nodes: workers can be made for them one node after the other.
use Rattle.std.specs.Prelude.{ℕ, suc, ◌≡◌, ◌≤◌, ◌+◌, List, [], ◌∷◌}
use Rattle.vx_rows_values.specs.Limits.{max_group_workers}
use Rattle.vx_exec_layout.specs.declared.span.NodeSpan.{NodeSpan}
use Rattle.vx_exec_layout.specs.declared.span.NodeSpan.TheVariants.{Inner, Exchange, Scan}

-- it is the span of node n. An inner node's span does not say its number
abbrev pub HasNumber : (n : ℕ) → NodeSpan → Type 0
HasNumber n Inner = Unit {0}
HasNumber n (Exchange e) = e.number ≡ n
HasNumber n (Scan s) = s.number ≡ n

-- where so many workers were made before: the consumers of an exchange are among them, its producers come next, and the readers of a scan are among them
abbrev pub Follows : (made : ℕ) → NodeSpan → Type 0
Follows made Inner = Unit {0}
Follows made (Exchange e) = (e.below ≡ made) × (e.above + e.consumers ≤ made)
Follows made (Scan s) = (s.first + s.workers ≤ made) × (1 ≤ s.workers) × (s.workers ≤ max_group_workers)

-- how many workers there are with the producers of a node
abbrev pub made_with : (made : ℕ) → NodeSpan → ℕ
made_with made Inner = made
made_with made (Exchange e) = made + e.producers
made_with made (Scan s) = made

-- the same with those of all of these nodes
abbrev pub made_after : (made : ℕ) → List NodeSpan → ℕ
made_after made [] = made
made_after made (s ∷ spans) = made_after (made_with made s) spans

-- the spans of the nodes from number n on, where so many workers were made before
abbrev pub AreInOrder : (n made : ℕ) → List NodeSpan → Type 0
AreInOrder n made [] = Unit {0}
AreInOrder n made (s ∷ spans) = HasNumber n s × Follows made s × AreInOrder (suc n) (made_with made s) spans
