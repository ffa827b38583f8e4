use Rattle.std.proofs.Common.{◌≡◌, drop}
use Rattle.std.specs.List.{list_any}
use Rattle.vx_check_rules.specs.Behaviour.{keys_give}
use Rattle.vx_check_rules.specs.KeyedView.{all_keyed_in}
use Rattle.vx_check_rules.proofs.keyed.show_key.Given as goal

abbrev pub invariant-loop-each : goal.invariant-loop-each
invariant-loop-each l = list_any (λ k. keys_give k l.columns) (all_keyed_in l.keyed) ≡ list_any (λ k. keys_give k l.columns) (all_keyed_in (drop l.each-index l.keyed))
