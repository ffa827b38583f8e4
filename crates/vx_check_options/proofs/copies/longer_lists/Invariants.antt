use Rattle.std.proofs.Common.{◌≡◌, ◌∷◌, ◌++◌, map, flat_map, drop}
use Rattle.vx_check_options.proofs.copies.longer_lists.Given as goal

abbrev pub invariant-loop-place : goal.invariant-loop-place
invariant-loop-place l =
    flat_map (λ d. map (λ ds. d ∷ ds) (map (λ v. v.items) l.ends)) l.place-items
    ≡ map (λ v. v.items) l.longer.items ++ flat_map (λ d. map (λ ds. d ∷ ds) (map (λ v. v.items) l.ends)) (drop l.place-index l.place-items)
