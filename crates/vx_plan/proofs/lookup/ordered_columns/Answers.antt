use Rattle.std.proofs.Common.{◌∙◌, ap, List, ℕ}
use Rattle.vx_catalog_json.specs.Look.{OrderText}
use Rattle.vx_plan.specs.Lookup.{find_columns}
use Rattle.vx_plan.proofs.WalkFacts.{walk_fails}
use Rattle.vx_plan.proofs.lookup.ordered_columns.Goals as goal

abbrev name_in : OrderText → List ℕ
name_in e = e.name

pub returns-in_err-column : goal.returns-in_err-column
unfolding find_columns
returns-in_err-column c = walk_fails _ _ _ _ _ _ c.loop-entry.invariant c.loop-entry-test.true c.entry-item.is (rw (c.as_str.ensures.value ∙ ap name_in c.entry.view_is) at c.in_err-column.ensures) c.from_residual.ensures.1
