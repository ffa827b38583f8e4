use Rattle.std.proofs.Common.{◌≡◌, map, take}
use Rattle.vx_check_rules.specs.Seen.{order_seen}
use Rattle.vx_check_options.specs.Options.{singles}
use Rattle.vx_check_options.proofs.order_choices.singles.Given as goal

abbrev pub invariant-loop-place : goal.invariant-loop-place
invariant-loop-place l = map (λ v. v.items) l.choices.items ≡ singles (take l.place (order_seen l.order))
