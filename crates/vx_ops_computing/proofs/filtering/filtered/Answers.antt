use Rattle.std.proofs.Common.{List, Option, sym, ap₂, ◌∙◌}
use Rattle.vx_rows_values.specs.Values.{Row}
use Rattle.vx_plan_nodes.specs.Functions.{Functions}
use Rattle.vx_plan_nodes.specs.Known.{unary_known}
use Rattle.vx_plan_nodes.specs.Plan.{Unary}
use Rattle.vx_plan_nodes.specs.Serial.{unary_rows}
use Rattle.vx_match_keys.proofs.ErrorFacts.{reported}
use Rattle.vx_ops_computing.specs.Fault.{ComputeBlame}
use Rattle.vx_ops_computing.proofs.Under.{filters-by}
use Rattle.vx_ops_computing.proofs.filtering.filtered.Goals as goal

pub add_filtered-requires-clause-known : goal.add_filtered-requires-clause-known
add_filtered-requires-clause-known g c =
    let given : Functions = g.F.PlanFunctions.functions c.args.functions.now in
    ap₂ (λ ts op. unary_known ts op) c.in_ok-found.ensures.types (sym (filters-by given c.args.filters.now)) ∙ c.requires

pub returns-in_err-add_filtered-clause-fault : goal.returns-in_err-add_filtered-clause-fault
returns-in_err-add_filtered-clause-fault g c =
    let given : Functions = g.F.PlanFunctions.functions c.args.functions.now in
    let e = c.in_err-add_filtered.field-0.0 in
    let made : (op : Unary) (xs : List Row) → Option (List Row) = λ op xs. unary_rows op xs in
    let same = ap₂ made (filters-by given c.args.filters.now) (sym c.chunks.ensures.rows) in
    reported c.from_residual-in_err-add_filtered.result e (ComputeBlame _) c.from_residual-in_err-add_filtered.ensures.1 (rw same c.in_err-add_filtered.ensures.fault)

pub returns-clause-rows : goal.returns-clause-rows
returns-clause-rows g c =
    let given : Functions = g.F.PlanFunctions.functions c.args.functions.now in
    ap₂ (λ op xs. unary_rows op xs) (filters-by given c.args.filters.now) (sym c.chunks.ensures.rows) ∙ c.in_ok-add_filtered.ensures.ok
