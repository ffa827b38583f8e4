use Rattle.std.proofs.Common.{◌≡◌, ◌∙◌, ℕ, List, length, map, sym, subst}
use Rattle.std.proofs.lemmas.Result.{IfOk-weaker}
use Rattle.vx_rows.specs.View.{RowsView, AreColumns}
use Rattle.vx_plan_nodes.specs.Conditions.{conditions_of}
use Rattle.vx_plan_nodes.specs.Serial.{matched_rows}
use Rattle.vx_ops_kernels.proofs.ColumnFacts.{left-columns, right-columns}
use Rattle.vx_serial.proofs.operators.semi_joined.Goals as goal

pub semi_join-requires-clause-left : goal.semi_join-requires-clause-left
semi_join-requires-clause-left c =
    let P : List (ℕ × ℕ) → Type 0 = λ on. AreColumns (length c.args.left.now.types) (map (λ p. p.0) on) in
    subst P (sym c.in_ok-on.ensures.items) (left-columns c.args.left.now.types c.args.right.types c.args.on.now c.requires)

pub semi_join-requires-clause-right : goal.semi_join-requires-clause-right
semi_join-requires-clause-right c =
    let P : List (ℕ × ℕ) → Type 0 = λ on. AreColumns (length c.args.right.types) (map (λ p. p.1) on) in
    subst P (sym c.in_ok-on.ensures.items) (right-columns c.args.left.now.types c.args.right.types c.args.on.now c.requires)

pub returns-clause-rows : goal.returns-clause-rows
returns-clause-rows c =
    IfOk-weaker c.semi_join.result _ (λ (t : RowsView). t.rows ≡ matched_rows c.args.matched c.args.on.now (conditions_of c.args.conditions.now) c.args.left.now.rows c.args.right.rows)
    (λ t e. e ∙ (λ j. matched_rows c.args.matched (c.in_ok-on.ensures.items j) (c.in_ok-conditions.ensures j) c.args.left.now.rows c.args.right.rows)) c.semi_join.ensures.rows
