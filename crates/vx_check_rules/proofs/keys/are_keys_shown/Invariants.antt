use Rattle.std.proofs.Common.{◌≡◌, map, drop}
use Rattle.std.specs.List.{list_all, list_any}
use Rattle.vx_check_rules.specs.Behaviour.{keys_give}
use Rattle.vx_check_rules.specs.KeyedView.{all_keyed_in}
use Rattle.vx_check_rules.proofs.keys.are_keys_shown.Given as goal

abbrev pub invariant-loop-key : goal.invariant-loop-key
invariant-loop-key l =
    list_all (λ x. list_any (λ k. keys_give k x) (all_keyed_in l.keyed)) (map (λ k. k.items) l.keys) ≡ list_all (λ x. list_any (λ k. keys_give k x) (all_keyed_in l.keyed)) (map (λ k. k.items) (drop l.key-index l.keys))
