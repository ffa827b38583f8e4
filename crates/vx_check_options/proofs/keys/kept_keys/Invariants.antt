use Rattle.std.proofs.Common.{map, take}
use Rattle.vx_check_rules.specs.KeyedView.{all_keyed_in}
use Rattle.vx_check_options.specs.FoundKeys.{show, KeptKeys}
use Rattle.vx_check_options.proofs.keys.kept_keys.Given as goal

abbrev pub invariant-loop-key : goal.invariant-loop-key
invariant-loop-key l = KeptKeys (show (all_keyed_in l.keyed)) (map (λ k. k.items) (take l.key-index l.claimed)) (map (λ k. k.items) l.kept.items)
