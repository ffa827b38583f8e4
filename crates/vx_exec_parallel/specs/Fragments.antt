-- The fragments of a plan, by the numbers of their workers.
use Rattle.std.specs.Prelude.{ℕ, ◌+◌, List, [], ◌∷◌, ◌++◌}
use Rattle.vx_rows.specs.Lists.{each_below}
use Rattle.vx_exec_layout.specs.declared.span.NodeSpan.{NodeSpan}
use Rattle.vx_exec_layout.specs.declared.span.NodeSpan.TheVariants.{Inner, Exchange, Scan}

-- how many workers the fragment below a node has, if the node is an exchange
abbrev pub fragment_in : NodeSpan → List ℕ
fragment_in Inner = []
fragment_in (Exchange s) = s.producers ∷ []
fragment_in (Scan s) = []

-- the workers of fragments that have so many, where the first of these is fragment f: of each worker its fragment, and its place there
abbrev pub places_from : (f : ℕ) → List ℕ → List (ℕ × ℕ)
places_from f [] = []
places_from f (n ∷ ns) = each_below n (λ i. (f, i)) ++ places_from (f + 1) ns
