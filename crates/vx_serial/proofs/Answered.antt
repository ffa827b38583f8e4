-- From the evaluation of a plan's root to what is said of the plan.
use Rattle.std.proofs.Common.{◌≡◌, ◌∙◌, None, Result, Ok, Err, sym, ap}
use Rattle.std.specs.Prelude.{IfOk, IfErr}
use Rattle.vx_rows.specs.View.{RowsView}
use Rattle.vx_catalog_relations.specs.Catalog.{relation_at}
use Rattle.vx_catalog.specs.Database.{Database, rows_at}
use Rattle.vx_plan_nodes.specs.Outline.{plan_in}
use Rattle.vx_plan_nodes.specs.Plan.{Plan}
use Rattle.vx_plan_nodes.specs.Names.{TypedPlanView}
use Rattle.vx_plan_nodes.specs.Serial.{rows}
use Rattle.vx_plan_nodes.specs.Types.{types_of}
use Rattle.vx_serial.specs.Evaluated.{evaluated}
use Rattle.vx_serial.specs.Results.{IsFaultOf, IsPlain, unknown_in, IsSerialOf, EvalFails}
use Rattle.vx_exec_setup.specs.declared.eval_fault.EvalFault.{EvalFault}
use Rattle.vx_exec_setup.specs.declared.eval_fault.EvalFault.TheVariants as fault
use Rattle.vx_serial.proofs.Agreement.{rows-are-serial, overflow-is-real}

pub serial-rows : (p : TypedPlanView) (db : Database) (q : Plan) (r : Result RowsView EvalFault) → IsPlain p db → unknown_in p ≡ None → q ≡ plan_in p.root
    → IfOk r (λ t. t.types ≡ types_of (relation_at db.catalog) q) → IfOk r (λ t. evaluated (rows_at db) q ≡ rows t.rows) → IfOk r (IsSerialOf p db)
serial-rows p db q (Ok t) plain known root types meaning = record {
  plain = plain;
  known = known;
  meaning = rows-are-serial (rows_at db) (plan_in p.root) t.rows (ap (evaluated (rows_at db)) (sym root) ∙ meaning);
  types = types ∙ ap (λ c. types_of (relation_at c) q) plain.same ∙ ap (types_of (relation_at p.names.catalog)) root;
}
serial-rows p db q (Err e) plain known root types meaning = tt

fails : (p : TypedPlanView) (db : Database) (q : Plan) (e : EvalFault) → IsPlain p db → unknown_in p ≡ None → q ≡ plan_in p.root → IsFaultOf (evaluated (rows_at db) q) e → EvalFails p db e
fails p db q fault.NoMemory plain known root h = tt
fails p db q (fault.Overflow node) plain known root h =
    let first = ap (evaluated (rows_at db)) (sym root) ∙ h in
    (plain, known, record { first = first; real = overflow-is-real (rows_at db) (plan_in p.root) node first })
fails p db q fault.OtherCatalog plain known root h = absurd h
fails p db q (fault.HasExchange node) plain known root h = absurd h
fails p db q (fault.BadFunction node) plain known root h = absurd h

pub serial-fails : {T : Type 0} (p : TypedPlanView) (db : Database) (q : Plan) (r : Result T EvalFault) → IsPlain p db → unknown_in p ≡ None → q ≡ plan_in p.root
    → IfErr r (IsFaultOf (evaluated (rows_at db) q)) → IfErr r (EvalFails p db)
serial-fails p db q (Ok t) plain known root h = tt
serial-fails p db q (Err e) plain known root h = fails p db q e plain known root h
