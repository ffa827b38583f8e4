use Rattle.std.proofs.Common.{List, Option, map, sym, ap, ap₂, ◌∙◌}
use Rattle.vx_rows_values.specs.Values.{Row}
use Rattle.vx_plan_nodes.specs.Functions.{Functions}
use Rattle.vx_plan_nodes.specs.Known.{unary_known}
use Rattle.vx_plan_nodes.specs.Outline.{entry_of}
use Rattle.vx_plan_nodes.specs.Plan.{Unary, project}
use Rattle.vx_plan_nodes.specs.Serial.{unary_rows}
use Rattle.vx_plan_nodes.specs.Typed.{is_unary}
use Rattle.vx_plan_nodes.specs.Types.{unary_types}
use Rattle.vx_plan_nodes.proofs.UnderFacts.{types-stay}
use Rattle.vx_match_keys.proofs.ErrorFacts.{reported}
use Rattle.vx_ops_computing.specs.Fault.{ComputeBlame}
use Rattle.vx_ops_computing.proofs.Under.{entries-by, entries-types}
use Rattle.vx_ops_computing.proofs.projecting.projected.Goals as goal

pub add_projected-requires-clause-typed : goal.add_projected-requires-clause-typed
add_projected-requires-clause-typed g c =
    let given : Functions = g.F.PlanFunctions.functions c.args.functions.now in
    ap₂ (λ ts op. is_unary ts op) c.types-2.ensures.types (sym (entries-by given c.args.entries.now))
    ∙ (types-stay.operators given c.args.rows.now.types (project (map entry_of c.args.entries.now)) ∙ c.requires.typed)

pub add_projected-requires-clause-known : goal.add_projected-requires-clause-known
add_projected-requires-clause-known g c =
    let given : Functions = g.F.PlanFunctions.functions c.args.functions.now in
    ap₂ (λ ts op. unary_known ts op) c.types-2.ensures.types (sym (entries-by given c.args.entries.now)) ∙ c.requires.known

pub add_projected-requires-clause-types : goal.add_projected-requires-clause-types
add_projected-requires-clause-types g c =
    let given : Functions = g.F.PlanFunctions.functions c.args.functions.now in
    let es = c.args.entries.now in
    c.in_ok-found.ensures.types
    ∙ (c.as_slice.ensures.value
    ∙ (c.in_ok-types.ensures ∙ (ap (unary_types (project (map entry_of es))) (c.types.ensures.types ∙ sym c.types-2.ensures.types) ∙ sym (entries-types given c.types-2.result.now es))))

pub returns-in_err-add_projected-clause-fault : goal.returns-in_err-add_projected-clause-fault
returns-in_err-add_projected-clause-fault g c =
    let given : Functions = g.F.PlanFunctions.functions c.args.functions.now in
    let e = c.in_err-add_projected.field-0.0 in
    let made : (op : Unary) (xs : List Row) → Option (List Row) = λ op xs. unary_rows op xs in
    let same = ap₂ made (entries-by given c.args.entries.now) (sym c.chunks.ensures.rows) in
    reported c.from_residual-in_err-add_projected.result e (ComputeBlame _) c.from_residual-in_err-add_projected.ensures.1 (rw same c.in_err-add_projected.ensures.fault)

pub returns-clause-rows : goal.returns-clause-rows
returns-clause-rows g c =
    let given : Functions = g.F.PlanFunctions.functions c.args.functions.now in
    ap₂ (λ op xs. unary_rows op xs) (entries-by given c.args.entries.now) (sym c.chunks.ensures.rows) ∙ c.in_ok-add_projected.ensures.ok
