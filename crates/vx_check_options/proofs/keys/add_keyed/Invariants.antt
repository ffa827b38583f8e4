use Rattle.std.proofs.Common.{map, take}
use Rattle.vx_plan_nodes.specs.Phases.{first_columns}
use Rattle.vx_plan_nodes.specs.DescribeView.{copying_of}
use Rattle.vx_check_rules.specs.KeyedView.{keys_seen}
use Rattle.vx_check_options.specs.FoundKeys.{both_give, IsKey, IsShown, Finds}
use Rattle.vx_check_options.proofs.keys.add_keyed.Given as goal

abbrev pub invariant-loop-key : goal.invariant-loop-key
invariant-loop-key l =
    Finds (IsKey (both_give (copying_of l.search.first.copying) (copying_of l.search.second.copying) (keys_seen l.search.first.keys) (keys_seen l.search.second.keys)) (first_columns l.width))
    (IsShown (both_give (copying_of l.search.first.copying) (copying_of l.search.second.copying) (take l.key (keys_seen l.search.first.keys)) (keys_seen l.search.second.keys)) (first_columns l.width))
    (map (λ k. k.items) l.fn.found.items) (map (λ k. k.items) l.found.items)
