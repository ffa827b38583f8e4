use Rattle.std.proofs.Common.{map, take}
use Rattle.vx_plan_nodes.specs.Phases.{first_columns}
use Rattle.vx_check_rules.specs.KeyedView.{all_keyed_in}
use Rattle.vx_check_options.specs.FoundKeys.{show, IsKey, IsShown, Finds}
use Rattle.vx_check_options.proofs.keys.add_all.Given as goal

abbrev pub invariant-loop-each : goal.invariant-loop-each
invariant-loop-each l =
    Finds (IsKey (show (all_keyed_in l.keyed)) (first_columns l.width)) (IsShown (show (all_keyed_in (take l.each-index l.keyed))) (first_columns l.width)) (map (λ k. k.items) l.fn.found.items) (map (λ k. k.items) l.found.items)
