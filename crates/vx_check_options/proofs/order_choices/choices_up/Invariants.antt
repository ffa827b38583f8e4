use Rattle.std.proofs.Common.{◌≡◌, ◌++◌, map, drop}
use Rattle.vx_plan_nodes.specs.DescribeView.{copying_of}
use Rattle.vx_check_options.specs.Options.{places_up}
use Rattle.vx_check_options.proofs.order_choices.choices_up.Given as goal

abbrev pub invariant-loop-place : goal.invariant-loop-place
invariant-loop-place l = places_up (copying_of l.copying) (map (λ v. v.items) l.choices) ≡ map (λ v. v.items) l.found.items ++ places_up (copying_of l.copying) (map (λ v. v.items) (drop l.place-index l.choices))
