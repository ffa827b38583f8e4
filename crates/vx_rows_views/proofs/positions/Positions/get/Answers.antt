use Rattle.std.proofs.Common.{arith, ap, length}
use Rattle.std.specs.Arc.{arc_value}
use Rattle.vx_rows_views.proofs.Facts.{small-seen, near-seen, range-seen, listed-seen}
use Rattle.vx_rows_views.proofs.positions.Positions.get.Goals as goal

pub overflow_add-result : goal.overflow_add-result
overflow_add-result c = omega (arith, small-seen arc_value c.self.view_is c.self.invariant c.args.k c.requires)

pub overflow_add-self-inside : goal.overflow_add-self-inside
overflow_add-self-inside c = omega (arith, small-seen arc_value c.self.view_is c.self.invariant c.args.k c.requires)

pub get-requires : goal.get-requires
get-requires c = let e = ap length c.deref.ensures in omega (arith, e, near-seen arc_value c.self.view_is c.self.invariant c.in-Some.positions c.args.k c.in-Some.is c.requires)

pub returns-in-None : goal.returns-in-None
returns-in-None c = range-seen arc_value c.self.view_is c.self.invariant c.args.k c.in-None.is c.requires

pub returns-in-Some : goal.returns-in-Some
returns-in-Some c = let e = listed-seen arc_value c.self.view_is c.self.invariant c.in-Some.positions c.args.k c.in-Some.is c.requires in cc
