use Rattle.std.proofs.Common.{◌≡◌, ◌∙◌, [], arith, sym, ap, map, length, get_or}
use Rattle.std.proofs.lemmas.List.{length-map}
use Rattle.vx_rows.specs.View.{RowsView}
use Rattle.vx_rows_values.specs.Values.{value_at}
use Rattle.vx_rows_values.specs.ValueView.{cell_val}
use Rattle.vx_match_keys.proofs.HashedFacts.{long-apart, apart-at, cells-compared, same-next, same-all, key-wide}
use Rattle.vx_match_keys.proofs.column_keys.ColumnKeys.is_key.Goals as goal

pub returns-then-cells-types : goal.returns-then-cells-types
returns-then-cells-types c =
    let key = map cell_val c.args.cells.now in
    let r = get_or c.args.self.now.rows c.args.number [] in
    let wide : length r ≡ length c.types.result.now = key-wide c.self.inside.keys c.args.self.now c.args.number c.types.result.now c.self.view_is c.types.ensures.fit c.types.ensures.types c.requires in
    let long = length-map c.args.cells.now cell_val in
    let apart = c.if-cells-types.true in
    sym (long-apart key r (λ e. grind (arith, e, apart, wide, long)))

pub returns-then-not-same_value : goal.returns-then-not-same_value
returns-then-not-same_value c =
    let key = map cell_val c.args.cells.now in
    let r = get_or c.args.self.now.rows c.args.number [] in
    let i = c.loop-column.column in
    let value : cell_val c.cell.result ≡ value_at r i = c.cell.ensures ∙ ap (λ (t : RowsView). value_at (get_or t.rows c.args.number []) i) c.self.view_is in
    sym (apart-at key r i (cells-compared c.args.cells.now r i _ c.same_value.result (cell_val c.cell.result) c.loop-column-test.true c.same_value.ensures value ∙ c.if-not-same_value.true))

pub loop-column-preserved : goal.loop-column-preserved
loop-column-preserved c =
    let key = map cell_val c.args.cells.now in
    let r = get_or c.args.self.now.rows c.args.number [] in
    let i = c.loop-column.column in
    let wide : length r ≡ length c.types.result.now = key-wide c.self.inside.keys c.args.self.now c.args.number c.types.result.now c.self.view_is c.types.ensures.fit c.types.ensures.types c.requires in
    let long = length-map c.args.cells.now cell_val in
    let alike = c.if-cells-types.false in
    let test = c.loop-column-test.true in
    let value : cell_val c.cell.result ≡ value_at r i = c.cell.ensures ∙ ap (λ (t : RowsView). value_at (get_or t.rows c.args.number []) i) c.self.view_is in
    same-next key r i (grind (arith, test, long)) (grind (arith, test, alike, wide)) c.loop-column.invariant
    (cells-compared c.args.cells.now r i _ c.same_value.result (cell_val c.cell.result) c.loop-column-test.true c.same_value.ensures value ∙ c.if-not-same_value.false)

pub returns : goal.returns
returns c =
    let key = map cell_val c.args.cells.now in
    let r = get_or c.args.self.now.rows c.args.number [] in
    let wide : length r ≡ length c.types.result.now = key-wide c.self.inside.keys c.args.self.now c.args.number c.types.result.now c.self.view_is c.types.ensures.fit c.types.ensures.types c.requires in
    let long = length-map c.args.cells.now cell_val in
    let alike = c.if-cells-types.false in
    let test = c.loop-column-test.false in
    sym (same-all key r c.loop-column.column (grind (arith, test, long)) (grind (arith, test, alike, wide)) c.loop-column.invariant)
