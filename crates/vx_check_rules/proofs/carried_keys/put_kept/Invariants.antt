use Rattle.std.proofs.Common.{◌≡◌, ◌++◌, map, drop}
use Rattle.vx_plan_nodes.specs.DescribeView.{copying_of}
use Rattle.vx_check_rules.specs.Behaviour.{kept_keys}
use Rattle.vx_check_rules.specs.KeyedView.{keys_seen}
use Rattle.vx_check_rules.proofs.carried_keys.put_kept.Given as goal

abbrev pub invariant-loop-place : goal.invariant-loop-place
invariant-loop-place l =
    map (λ k. k.items) l.fn.keys.items ++ kept_keys (copying_of l.from.copying) (keys_seen l.from.keys)
    ≡ map (λ k. k.items) l.keys.items ++ kept_keys (copying_of l.from.copying) (drop l.place (keys_seen l.from.keys))
