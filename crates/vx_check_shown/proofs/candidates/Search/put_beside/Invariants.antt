use Rattle.std.proofs.Common.{◌∷◌, [], map, take}
use Rattle.vx_plan_nodes.specs.DescribeView.{copying_of}
use Rattle.vx_check_rules.specs.Behaviour.{keyed_by}
use Rattle.vx_check_rules.specs.KeyedView.{keys_seen, copied_keys}
use Rattle.vx_check_rules.specs.Seen.{columns_seen}
use Rattle.vx_check_options.specs.FoundKeys.{both_give}
use Rattle.vx_check_shown.specs.ShownKeys.{copies_by, Gathers}
use Rattle.vx_check_shown.proofs.candidates.Search.put_beside.Given as goal

abbrev pub invariant-loop-other : goal.invariant-loop-other
invariant-loop-other l =
    Gathers (both_give (copying_of l.self.first.copying) (copying_of l.self.second.copying) (columns_seen l.key ∷ []) (keys_seen l.self.second.keys))
    (both_give (copying_of l.self.first.copying) (copying_of l.self.second.copying) (columns_seen l.key ∷ []) (take l.other (keys_seen l.self.second.keys)))
    (copies_by (keyed_by (copied_keys l.self.first ∷ copied_keys l.self.second ∷ []) ∷ [])) l.self.width (map (λ k. k.items) l.fn.found.items) (map (λ k. k.items) l.found.items)
