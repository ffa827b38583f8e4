use Rattle.std.proofs.Common.{◌≡◌, ℕ, ◌<◌, ◌≤◌, arith, ap, ◌∙◌, sym, length, pos, get_or}
use Rattle.vx_rows_values.specs.Values.{num, value_at}
use Rattle.vx_rows.specs.Columns.{entry, size}
use Rattle.vx_rows.specs.View.{row}
use Rattle.vx_rows.proofs.Fill.{map_at}
use Rattle.vx_rows.proofs.Grown.{seen, width_seen, long_seen, row_seen}
use Rattle.vx_rows.proofs.Lent.{some_map}
use Rattle.vx_rows.proofs.table.Table.numbers.Goals as goal

pub returns-clause-long : goal.returns-clause-long
returns-clause-long c =
    let s = seen c.self.view_is c.self.invariant in
    let columns = c.self.inside.columns.items in
    let near : c.args.column < length columns = omega (arith, width_seen s, c.requires) in
    let e = map_at size columns c.args.column c.index.result.now 0 near c.index.ensures in
    let l = long_seen s c.args.column near in
    some_map (λ v. length v.now ≡ size c.index.result.now) (λ v. length c.args.self.now.rows ≤ length v.now) c.numbers.result
    (λ v h. omega (arith, e, l, h)) c.numbers.ensures.long

pub returns-clause-values : goal.returns-clause-values
returns-clause-values c =
    let s = seen c.self.view_is c.self.invariant in
    let columns = c.self.inside.columns.items in
    let near : c.args.column < length columns = omega (arith, width_seen s, c.requires) in
    some_map (λ v. (k : ℕ) → entry c.index.result.now k ≡ num (get_or v.now k (pos 0)))
    (λ v. (k : ℕ) → k < length c.args.self.now.rows → value_at (row c.args.self.now k) c.args.column ≡ num (get_or v.now k (pos 0))) c.numbers.result
    (λ v h k l.
    let e = map_at (λ x. entry x k) columns c.args.column c.index.result.now (num (pos 0)) near c.index.ensures in
    sym (ap (λ r. get_or r c.args.column (num (pos 0))) (row_seen s k l)) ∙ (e ∙ h k)) c.numbers.ensures.values
