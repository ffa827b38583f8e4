use Rattle.std.proofs.Common.{◌≡◌, [], ◌∷◌, map, take, filter}
use Rattle.std.specs.List.{list_any}
use Rattle.vx_plan_nodes.specs.Outline.{part_of}
use Rattle.vx_check_rules.specs.Rules.{rises_by}
use Rattle.vx_check_options.proofs.order_choices.rising_entries.Given as goal

abbrev pub invariant-loop-entry : goal.invariant-loop-entry
invariant-loop-entry l = l.rising.items ≡ filter (λ e. list_any (λ x. rises_by x (e ∷ [])) (map part_of l.parts)) (take l.entry-index l.entries)
