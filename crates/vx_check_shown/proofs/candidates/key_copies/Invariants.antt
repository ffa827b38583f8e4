use Rattle.std.proofs.Common.{[], map, take}
use Rattle.vx_check_rules.specs.KeyedView.{all_keyed_in}
use Rattle.vx_check_options.specs.FoundKeys.{show}
use Rattle.vx_check_shown.specs.ShownKeys.{copies_by, Gathers}
use Rattle.vx_check_shown.proofs.candidates.key_copies.Given as goal

abbrev pub invariant-loop-each : goal.invariant-loop-each
invariant-loop-each l = Gathers (show (all_keyed_in l.keyed)) (show (all_keyed_in (take l.each-index l.keyed))) (copies_by (all_keyed_in l.keyed)) l.width [] (map (λ k. k.items) l.found.items)
