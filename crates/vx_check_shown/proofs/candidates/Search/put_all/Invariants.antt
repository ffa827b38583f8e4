use Rattle.std.proofs.Common.{◌∷◌, [], map, take}
use Rattle.vx_plan_nodes.specs.DescribeView.{copying_of}
use Rattle.vx_check_rules.specs.Behaviour.{keyed_by}
use Rattle.vx_check_rules.specs.KeyedView.{keys_seen, copied_keys}
use Rattle.vx_check_options.specs.FoundKeys.{both_give}
use Rattle.vx_check_shown.specs.ShownKeys.{copies_by, Gathers}
use Rattle.vx_check_shown.proofs.candidates.Search.put_all.Given as goal

abbrev pub invariant-loop-key : goal.invariant-loop-key
invariant-loop-key l =
    Gathers (both_give (copying_of l.self.first.copying) (copying_of l.self.second.copying) (keys_seen l.self.first.keys) (keys_seen l.self.second.keys))
    (both_give (copying_of l.self.first.copying) (copying_of l.self.second.copying) (take l.key (keys_seen l.self.first.keys)) (keys_seen l.self.second.keys))
    (copies_by (keyed_by (copied_keys l.self.first ∷ copied_keys l.self.second ∷ []) ∷ [])) l.self.width (map (λ k. k.items) l.fn.found.items) (map (λ k. k.items) l.found.items)
