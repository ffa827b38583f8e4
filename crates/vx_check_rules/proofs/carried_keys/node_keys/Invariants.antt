use Rattle.std.proofs.Common.{◌≡◌, ◌++◌, map, flat_map, drop}
use Rattle.vx_check_rules.specs.Behaviour.{keys_up}
use Rattle.vx_check_rules.specs.KeyedView.{all_keyed_in}
use Rattle.vx_check_rules.proofs.carried_keys.node_keys.Given as goal

abbrev pub invariant-loop-each : goal.invariant-loop-each
invariant-loop-each l = flat_map keys_up (all_keyed_in l.each-items) ≡ map (λ k. k.items) l.keys.items ++ flat_map keys_up (all_keyed_in (drop l.each-index l.each-items))
