use Rattle.std.proofs.Common.{◌≡◌, drop}
use Rattle.vx_plan_nodes.specs.Typed.{types_eq}
use Rattle.vx_plan.proofs.fits.are_same_types.Given as goal

abbrev pub invariant-loop-i : goal.invariant-loop-i
invariant-loop-i l = types_eq (drop l.i l.kinds) (drop l.i l.others) ≡ types_eq l.kinds l.others
