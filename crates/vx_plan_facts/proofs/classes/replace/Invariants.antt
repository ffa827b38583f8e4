use Rattle.std.proofs.Common.{◌≡◌, ◌≤◌, ◌<◌, ◌==◌, ℕ, cond, length, get_or}
use Rattle.vx_plan_facts.proofs.classes.replace.Given as goal

abbrev pub invariant-loop-column : goal.invariant-loop-column
invariant-loop-column l = record {
  wide : length l.firsts.items ≡ length l.fn.firsts.items;
  done : (c : ℕ) → c < l.column → get_or l.firsts.items c 0 ≡ cond (get_or l.fn.firsts.items c 0 == l.lost) l.kept (get_or l.fn.firsts.items c 0);
  left : (c : ℕ) → l.column ≤ c → get_or l.firsts.items c 0 ≡ get_or l.fn.firsts.items c 0;
}
