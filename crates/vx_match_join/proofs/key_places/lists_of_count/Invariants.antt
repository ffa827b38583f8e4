use Rattle.std.proofs.Common.{◌≡◌, ◌∷◌, [], map}
use Rattle.vx_rows.specs.Lists.{each_below}
use Rattle.vx_match_join.proofs.key_places.lists_of_count.Given as goal

abbrev pub invariant-loop-place : goal.invariant-loop-place
invariant-loop-place l = map (λ p. p.items) l.lists.items ≡ each_below l.place (λ k. k ∷ [])
