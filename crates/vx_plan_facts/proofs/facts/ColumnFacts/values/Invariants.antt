use Rattle.std.proofs.Common.{◌≡◌, ◌++◌, map, drop}
use Rattle.vx_rows_values.specs.ValueView.{val_of}
use Rattle.vx_plan_facts.specs.Facts.{values_in}
use Rattle.vx_plan_facts.specs.FactsView.{fixed_of}
use Rattle.vx_plan_facts.proofs.facts.ColumnFacts.values.Given as goal

abbrev pub invariant-loop-each : goal.invariant-loop-each
invariant-loop-each l =
    values_in (map fixed_of l.self.fixed.items) l.first ≡ map (λ u. val_of u.now) l.values.items ++ values_in (map fixed_of (drop l.each-index l.self.fixed.items)) l.first
