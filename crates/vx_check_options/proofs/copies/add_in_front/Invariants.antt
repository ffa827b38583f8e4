use Rattle.std.proofs.Common.{◌≡◌, ◌∷◌, ◌++◌, map, take}
use Rattle.vx_check_options.proofs.copies.add_in_front.Given as goal

abbrev pub invariant-loop-list : goal.invariant-loop-list
invariant-loop-list l =
    map (λ v. v.items) l.found.items ≡ map (λ v. v.items) l.fn.found.items ++ map (λ ds. l.column ∷ ds) (map (λ v. v.items) (take l.list-index l.lists))
