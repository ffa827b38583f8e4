use Rattle.std.proofs.Common.{◌≡◌, ◌∙◌, sym, ap, true, false, cond, is_eq}
use Rattle.vx_rows_values.specs.Order.{agree}
use Rattle.vx_rows_values.specs.Keys.{earlier_clash}
use Rattle.vx_rows_values.proofs.Compare.{rising-agree}
use Rattle.vx_rows.specs.View.{row}
use Rattle.vx_rows.proofs.table.Table.with_pair.Goals as goal

pub returns-then-is_eq : goal.returns-then-is_eq
returns-then-is_eq c =
    let a = row c.args.self.now c.args.second in
    let b = row c.args.self.now c.args.first in
    let same : agree c.args.cols.now a b ≡ true = sym (rising-agree c.args.cols.now a b) ∙ (ap is_eq (sym c.compare_columns.ensures) ∙ (sym c.is_eq.ensures ∙ c.if-is_eq.true)) in
    c.earlier.ensures ∙ sym (ap (λ t. cond t (earlier_clash c.args.best c.args.first c.args.second) c.args.best) same)

pub returns-else-is_eq : goal.returns-else-is_eq
returns-else-is_eq c =
    let a = row c.args.self.now c.args.second in
    let b = row c.args.self.now c.args.first in
    let same : agree c.args.cols.now a b ≡ false = sym (rising-agree c.args.cols.now a b) ∙ (ap is_eq (sym c.compare_columns.ensures) ∙ (sym c.is_eq.ensures ∙ c.if-is_eq.false)) in
    sym (ap (λ t. cond t (earlier_clash c.args.best c.args.first c.args.second) c.args.best) same)
