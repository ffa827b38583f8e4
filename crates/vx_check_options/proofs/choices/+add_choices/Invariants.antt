use Rattle.std.proofs.Common.{◌∷◌, map, length, take}
use Rattle.vx_check_options.specs.FoundKeys.{IsChoice, IsMet, Finds}
use Rattle.vx_check_options.proofs.choices.+add_choices.Given as goal

abbrev pub decreases-add_choices : goal.decreases-add_choices
decreases-add_choices l = length l.choices.now

abbrev pub invariant-loop-column : goal.invariant-loop-column
invariant-loop-column l =
    Finds (IsChoice l.columns (map (λ k. k.items) l.choices)) (IsMet l.columns (take l.column-index l.column-items ∷ map (λ k. k.items) l.rest)) (map (λ k. k.items) l.fn.found.items) (map (λ k. k.items) l.found.items)
