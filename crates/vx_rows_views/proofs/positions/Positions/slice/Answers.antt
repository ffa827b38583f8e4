use Rattle.std.proofs.Common.{arith, ◌∙◌}
use Rattle.std.specs.Arc.{arc_value}
use Rattle.vx_rows_views.proofs.Facts.{range-slice-seen, listed-slice-seen, slice-small, slice-is}
use Rattle.vx_rows_views.proofs.positions.Positions.slice.Goals as goal

pub overflow_add-self-inside : goal.overflow_add-self-inside
overflow_add-self-inside c = omega (arith, slice-small arc_value c.self.view_is c.self.invariant c.args.from c.args.to c.requires.order c.requires.there)

pub range-requires : goal.range-requires
range-requires c = slice-small arc_value c.self.view_is c.self.invariant c.args.from c.args.to c.requires.order c.requires.there

pub overflow_add-result : goal.overflow_add-result
overflow_add-result c = omega (arith, slice-small arc_value c.self.view_is c.self.invariant c.args.from c.args.to c.requires.order c.requires.there)

pub invariant_of-result : goal.invariant_of-result
invariant_of-result c =
    slice-is arc_value c.self.view_is c.self.invariant c.in-Some.positions c.in_ok-shared-in-Some.shared c.args.from c.args.to c.in-Some.is c.in_ok-shared-in-Some.ensures c.requires.order c.requires.there

pub returns-in-None : goal.returns-in-None
returns-in-None c = c.range.ensures ∙ range-slice-seen arc_value c.self.view_is c.self.invariant c.args.from c.args.to c.in-None.is c.requires.order c.requires.there

pub returns-in_ok-shared-in-Some : goal.returns-in_ok-shared-in-Some
returns-in_ok-shared-in-Some c =
    listed-slice-seen arc_value c.self.view_is c.self.invariant c.in-Some.positions c.in_ok-shared-in-Some.shared c.args.from c.args.to c.in-Some.is c.in_ok-shared-in-Some.ensures c.requires.order c.requires.there
