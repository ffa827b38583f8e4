use Rattle.std.proofs.Common.{◌≡◌, ◌++◌, map, take}
use Rattle.vx_plan_nodes.specs.Phases.{first_columns}
use Rattle.vx_plan_nodes.specs.DescribeView.{copying_of}
use Rattle.vx_check_rules.specs.Seen.{columns_seen}
use Rattle.vx_check_options.specs.FoundKeys.{choices_of}
use Rattle.vx_check_options.proofs.choices.put_choices.Given as goal

abbrev pub invariant-loop-place : goal.invariant-loop-place
invariant-loop-place l = map (λ k. k.items) l.choices.items ≡ map (λ k. k.items) l.fn.choices.items ++ choices_of (copying_of l.copying) (first_columns l.width) (take l.place (columns_seen l.key))
