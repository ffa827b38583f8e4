-- How many workers the fragments of a plan have together.
use Rattle.std.proofs.Common.{ℕ, ◌≡◌, ◌+◌, List, [], ◌∷◌, length, flat_map, refl, ◌∙◌, arith, length-append}
use Rattle.vx_rows.specs.Lists.{each_below}
use Rattle.vx_exec_layout.specs.Order.{made_after}
use Rattle.vx_exec_layout.specs.declared.span.NodeSpan.{NodeSpan}
use Rattle.vx_exec_layout.specs.declared.span.NodeSpan.TheVariants.{Inner, Exchange, Scan}
use Rattle.vx_exec_steps.proofs.Each.{each-length}
use Rattle.vx_exec_parallel.specs.Fragments.{fragment_in, places_from}

abbrev total : List ℕ → ℕ
total [] = 0
total (n ∷ ns) = n + total ns

places-length : (f : ℕ) (ns : List ℕ) → length (places_from f ns) ≡ total ns
places-length f [] = refl
places-length f (n ∷ ns) =
    let here : ℕ → ℕ × ℕ = λ i. (f, i) in
    let e = length-append (each_below n here) (places_from (f + 1) ns) in
    let a = each-length n here in
    let b = places-length (f + 1) ns in
    omega (arith, e, a, b)

fragments-total : (made : ℕ) (spans : List NodeSpan) → made + total (flat_map fragment_in spans) ≡ made_after made spans
fragments-total made [] = omega arith
fragments-total made (Inner ∷ spans) = fragments-total made spans
fragments-total made (Exchange x ∷ spans) = let h = fragments-total (made + x.producers) spans in omega (arith, h)
fragments-total made (Scan s ∷ spans) = fragments-total made spans

-- as many places as workers
pub places-count : (spans : List NodeSpan) → length (places_from 0 (1 ∷ flat_map fragment_in spans)) ≡ made_after 1 spans
places-count spans = places-length 0 (1 ∷ flat_map fragment_in spans) ∙ fragments-total 1 spans
