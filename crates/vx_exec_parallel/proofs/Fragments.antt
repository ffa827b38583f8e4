-- The places of workers, fragment by fragment.
use Rattle.std.proofs.Common.{ℕ, flat_map, ◌≡◌, ◌+◌, ◌<◌, ◌≤◌, List, [], ◌∷◌, ◌++◌, length, get_or, drop, sym, ap, ◌∙◌, arith, append_assoc}
use Rattle.vx_rows.specs.Lists.{each_below}
use Rattle.vx_exec_layout.specs.declared.span.NodeSpan.{NodeSpan}
use Rattle.vx_exec_layout.specs.declared.span.NodeSpan.TheVariants.{Inner, Exchange, Scan}
use Rattle.vx_exec_parallel.specs.Fragments.{fragment_in, places_from}
use Rattle.vx_exec_parallel.proofs.Lists.{next-at}

-- no more fragments below the top one than spans
pub few-in : (spans : List NodeSpan) → length (flat_map fragment_in spans) ≤ length spans
few-in [] = omega arith
few-in (Inner ∷ spans) = let h = few-in spans in omega (arith, h)
few-in (Exchange s ∷ spans) = let h = few-in spans in omega (arith, h)
few-in (Scan s ∷ spans) = let h = few-in spans in omega (arith, h)

-- the workers of one fragment more
pub one-fragment : (fragments : List ℕ) (f n : ℕ) (old new all : List (ℕ × ℕ)) → f < length fragments → n ≡ get_or fragments f n
    → new ≡ old ++ each_below n (λ i. (f, i)) → old ++ places_from f (drop f fragments) ≡ all → new ++ places_from (f + 1) (drop (f + 1) fragments) ≡ all
one-fragment fragments f n old new all lt is e was =
    let rest = places_from (f + 1) (drop (f + 1) fragments) in
    ap (λ z. z ++ rest) e ∙ append_assoc old (each_below n (λ i. (f, i))) rest ∙ ap (λ z. old ++ places_from f z) (sym (next-at fragments f n lt is)) ∙ was
