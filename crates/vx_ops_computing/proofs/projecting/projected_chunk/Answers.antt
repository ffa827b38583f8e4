use Rattle.std.proofs.Common.{◌≡◌, None, Some, List, map, take_all, refl, sym, ap, ◌∙◌, subst}
use Rattle.vx_match_keys.proofs.ErrorFacts.{reported}
use Rattle.vx_rows_values.specs.Values.{pick}
use Rattle.vx_plan_nodes.specs.Plan.{project}
use Rattle.vx_plan_nodes.specs.Serial.{unary_rows}
use Rattle.vx_plan_nodes.specs.declared.typed.Entry.{Entry}
use Rattle.vx_ops_computing.specs.Fault.{ComputeBlame}
use Rattle.vx_ops_computing.specs.Projecting.{IsProjecting, EntryFails}
use Rattle.vx_ops_computing.proofs.Blaming.{blames-as}
use Rattle.vx_ops_computing.proofs.Entries.{entry-typed, entry-knows, entry-fails, next-of}
use Rattle.vx_ops_computing.proofs.Widening.{projecting-all}
use Rattle.vx_ops_computing.specs.Given.{entry_by}
use Rattle.vx_ops_computing.proofs.projecting.projected_chunk.Goals as goal

pub with_entry-requires-clause-typed : goal.with_entry-requires-clause-typed
with_entry-requires-clause-typed g c = entry-typed (g.F.PlanFunctions.functions c.args.functions.now) c.args.chunk.now.types c.args.entries.now c.loop-entry.entry-index c.entry-item.result c.requires.typed c.loop-entry-test.true c.entry-item.is

pub with_entry-requires-clause-known : goal.with_entry-requires-clause-known
with_entry-requires-clause-known g c = entry-knows (g.F.PlanFunctions.functions c.args.functions.now) c.args.chunk.now.types c.args.entries.now c.loop-entry.entry-index c.entry-item.result c.requires.known c.loop-entry-test.true c.entry-item.is

pub returns-in_err-wide-2-clause-fault : goal.returns-in_err-wide-2-clause-fault
returns-in_err-wide-2-clause-fault g c =
    let xs = c.args.chunk.now.rows in
    let es = c.args.entries.now in
    let y = c.entry-item.result in
    let e = c.in_err-wide-2.field-0.0 in
    reported c.from_residual-in_err-wide-2.result e (ComputeBlame (unary_rows (project (map (entry_by (g.F.PlanFunctions.functions c.args.functions.now)) es)) xs)) c.from_residual-in_err-wide-2.ensures.1
    (blames-as (EntryFails (entry_by (g.F.PlanFunctions.functions c.args.functions.now) y) xs) (unary_rows (project (map (entry_by (g.F.PlanFunctions.functions c.args.functions.now)) es)) xs ≡ None) e (entry-fails (g.F.PlanFunctions.functions c.args.functions.now) es c.loop-entry.entry-index y xs c.loop-entry-test.true c.entry-item.is) c.in_err-wide-2.ensures.fault)

pub loop-entry-preserved : goal.loop-entry-preserved
loop-entry-preserved g c =
    let y = c.entry-item.result in
    let next = next-of (entry_by (g.F.PlanFunctions.functions c.args.functions.now)) c.args.entries.now c.loop-entry.entry-index y (entry_by (g.F.PlanFunctions.functions c.args.functions.now) y) c.loop-entry-test.true c.entry-item.is refl in
    rw next (c.in_ok-wide-2.ensures.rows _ c.loop-entry.invariant)

pub returns-clause-rows : goal.returns-clause-rows
returns-clause-rows g c =
    let types = c.args.chunk.now.types in
    let xs = c.args.chunk.now.rows in
    let es = c.args.entries.now in
    let wide = c.loop-entry.wide in
    let columns = c.loop-entry.columns.items in
    let P : List Entry → Type 0 = λ some. IsProjecting types xs (map (entry_by (g.F.PlanFunctions.functions c.args.functions.now)) some) wide columns in
    let all = subst P (take_all c.loop-entry.entry-index es c.loop-entry-test.false) c.loop-entry.invariant in
    projecting-all types xs (map (entry_by (g.F.PlanFunctions.functions c.args.functions.now)) es) wide columns all ∙ ap Some (sym (c.in_ok-project.ensures.rows ∙ ap (λ cs. map (pick cs) wide.rows) c.as_slice.ensures.value))
