use Rattle.std.proofs.Common.{rules, map, subst}
use Rattle.std.proofs.lemmas.Result.{err_from_is_err_and}
use Rattle.vx_plan_nodes.specs.TypedView.{resolved_of}
use Rattle.vx_plan_nodes.proofs.UnderErased.{last-functions-stand}
use Rattle.vx_serial.specs.Results.{EvalFails, IsSerialOf}
use Rattle.volcano_embedding.specs.Serial.{for_plan, for_texts}
use Rattle.volcano_embedding.specs.Texts.{table_form}
use Rattle.volcano_embedding.proofs.SerialFacts.{refuses}
use Rattle.volcano_embedding.proofs.session.Session.evaluate.Goals as goal

pub returns-in_err-plan-clause-refused : goal.returns-in_err-plan-clause-refused
returns-in_err-plan-clause-refused c =
    let p = err_from_is_err_and c.from_residual.result c.from_residual.ensures.1 in
    rw (p.1, p.2) (for_plan c.in_err-plan.ensures.refused)

pub returns-in_err-database-clause-refused : goal.returns-in_err-database-clause-refused
returns-in_err-database-clause-refused c =
    let p = err_from_is_err_and c.from_residual-in_err-database.result c.from_residual-in_err-database.ensures.1 in
    rw (p.1, p.2) (for_texts (resolved_of c.in_ok-plan.plan) c.in_ok-plan.ensures.plan c.in_err-database.ensures.refused)

pub returns-in_err-rows-clause-refused : goal.returns-in_err-rows-clause-refused
returns-in_err-rows-clause-refused c =
    let built = c.in-Ok.ensures in
    let p = err_from_is_err_and c.from_residual-in_err-rows.result c.from_residual-in_err-rows.ensures.1 in
    let fails = subst (λ z. EvalFails z c.in_ok-database.database c.in_err-rows.field-0.0) (last-functions-stand.own_plan c.in-Ok.erased) c.in_err-rows.ensures.refused in
    rw (p.1, p.2)
    (refuses c.args.self.now (map table_form c.args.tables.now) c.args.text.now (resolved_of c.in_ok-plan.plan) (resolved_of c.in-Ok.erased) c.in_ok-database.database c.in_err-rows.field-0.0 c.in_ok-plan.ensures.plan
    built.names built.total built.derives built.outline (record { same = c.in_ok-database.ensures.catalog; filled = c.in_ok-database.ensures.filled }) fails)

pub returns-clause-text : goal.returns-clause-text
returns-clause-text c =
    let meant : IsSerialOf (resolved_of c.in-Ok.erased) c.in_ok-database.database c.in_ok-rows.rows =
    subst (λ z. IsSerialOf z c.in_ok-database.database c.in_ok-rows.rows) (last-functions-stand.own_plan c.in-Ok.erased) c.in_ok-rows.ensures.rows in
    search rules
