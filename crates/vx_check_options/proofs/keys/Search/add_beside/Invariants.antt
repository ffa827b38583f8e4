use Rattle.std.proofs.Common.{[], ◌∷◌, map, take}
use Rattle.vx_plan_nodes.specs.Phases.{first_columns}
use Rattle.vx_plan_nodes.specs.DescribeView.{copying_of}
use Rattle.vx_check_rules.specs.KeyedView.{keys_seen}
use Rattle.vx_check_rules.specs.Seen.{columns_seen}
use Rattle.vx_check_options.specs.FoundKeys.{both_give, IsKey, IsShown, Finds}
use Rattle.vx_check_options.proofs.keys.Search.add_beside.Given as goal

abbrev pub invariant-loop-other : goal.invariant-loop-other
invariant-loop-other l =
    Finds (IsKey (both_give (copying_of l.self.first.copying) (copying_of l.self.second.copying) (columns_seen l.key ∷ []) (keys_seen l.self.second.keys)) (first_columns l.self.width))
    (IsShown (both_give (copying_of l.self.first.copying) (copying_of l.self.second.copying) (columns_seen l.key ∷ []) (take l.other (keys_seen l.self.second.keys))) (first_columns l.self.width))
    (map (λ k. k.items) l.fn.found.items) (map (λ k. k.items) l.found.items)
