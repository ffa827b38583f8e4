use Rattle.std.proofs.Common.{◌≡◌, ◌<◌, ℕ, length, get_or}
use Rattle.vx_plan_facts.proofs.ClassFacts.{IsFirstAlike}
use Rattle.vx_plan_facts.proofs.labels.firsts_of.Given as goal

abbrev pub invariant-loop-column : goal.invariant-loop-column
invariant-loop-column l = (length l.firsts.items ≡ l.column) × ((c : ℕ) → c < l.column → IsFirstAlike l.labels c (get_or l.firsts.items c 0))
