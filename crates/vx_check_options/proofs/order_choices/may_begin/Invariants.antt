use Rattle.std.proofs.Common.{◌≡◌, map, drop}
use Rattle.std.specs.Prelude.{is_some}
use Rattle.vx_check_rules.specs.Seen.{order_seen}
use Rattle.vx_check_options.specs.Options.{narrowed}
use Rattle.vx_check_options.proofs.order_choices.may_begin.Given as goal

abbrev pub invariant-loop-place : goal.invariant-loop-place
invariant-loop-place l =
    is_some (narrowed (order_seen l.order) (map (λ v. v.items) l.choices)) ≡ is_some (narrowed (drop l.place (order_seen l.order)) (map (λ v. v.items) (drop l.place l.choices)))
