use Rattle.std.proofs.Common.{◌≡◌, ◌-◌, length, drop}
use Rattle.vx_plan_facts.specs.Equal.{Equality, with_pairs}
use Rattle.vx_plan_facts.specs.Facts.{NamesFirsts, Tells}
use Rattle.vx_plan_facts.proofs.classes.merge_pairs.Given as goal

abbrev pub invariant-loop-done : goal.invariant-loop-done
invariant-loop-done l = record {
  wide : length l.firsts.items ≡ length l.fn.firsts.items;
  named : NamesFirsts l.firsts.items;
  equal : (e : Equality) → Tells e l.fn.firsts.items → Tells (with_pairs l.left (drop (length l.on - l.done) l.on) e) l.firsts.items;
}
