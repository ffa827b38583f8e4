use Rattle.std.proofs.Common.{◌≡◌, ◌-◌, length, map, drop}
use Rattle.vx_plan_nodes.specs.Outline.{filter_of}
use Rattle.vx_plan_facts.specs.Equal.{Equality, with_conditions, comparisons}
use Rattle.vx_plan_facts.specs.Facts.{NamesFirsts, Tells}
use Rattle.vx_plan_facts.proofs.classes.merge_conditions.Given as goal

abbrev pub invariant-loop-done : goal.invariant-loop-done
invariant-loop-done l = record {
  wide : length l.firsts.items ≡ length l.fn.firsts.items;
  named : NamesFirsts l.firsts.items;
  equal : (e : Equality) → Tells e l.fn.firsts.items → Tells (with_conditions (comparisons (drop (length l.filters - l.done) (map filter_of l.filters))) e) l.firsts.items;
}
