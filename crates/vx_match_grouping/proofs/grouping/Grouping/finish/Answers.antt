use Rattle.std.proofs.Common.{arith, ◌≡◌, ◌<◌, ◌++◌, ◌∷◌, [], List, length, map, get_or, true, sym, ap, subst, ◌∙◌}
use Rattle.std.specs.List.{list_all}
use Rattle.vx_rows_values.specs.Values.{Row}
use Rattle.vx_rows_values.specs.Types.{type_of}
use Rattle.vx_rows_values.specs.ValueView.{cell_val}
use Rattle.vx_match_keys.proofs.ErrorFacts.{reported}
use Rattle.vx_match_grouping.specs.Groups.{Groups, HasTaken, Held, held_at, held_fits}
use Rattle.vx_match_grouping.specs.GroupFaults.{CellsBlame, EndBlame}
use Rattle.vx_match_grouping.specs.Shown.{column_held}
use Rattle.vx_match_grouping.proofs.EndFacts.{key_row, rows-next, fits-next, finished-rows}
use Rattle.vx_match_grouping.proofs.TypeFacts.{shown-typed}
use Rattle.vx_match_grouping.proofs.BlameFacts.{end-blame}
use Rattle.vx_match_grouping.proofs.ColumnFacts.{all-long, key-at}
use Rattle.vx_match_grouping.proofs.grouping.Grouping.finish.Goals as goal

pub cells_of-requires : goal.cells_of-requires
cells_of-requires c = λ k d there.
    let g = c.args.self.now in
    let own = c.self.inside in
    let n = c.loop-number.number in
    let test = c.loop-number-test.true in
    let many : length own.keys ≡ length g.keys = ap (λ (x : Groups). length x.keys) c.self.view_is in
    let below : n < length g.keys = omega (arith, test, c.len-number-end.ensures.len, many) in
    let columns = c.deref-in-loop-number.result.now in
    let are : map column_held columns ≡ g.columns = ap (map column_held) c.deref-in-loop-number.ensures.value ∙ ap (λ (x : Groups). x.columns) c.self.view_is in
    all-long g c.requires.rows columns n k d c.requires.taken below are there

pub returns-in_err-cells-clause-err : goal.returns-in_err-cells-clause-err
returns-in_err-cells-clause-err c =
    let g = c.args.self.now in
    let n = c.loop-number.number in
    let e = c.in_err-cells.field-0.0 in
    let test = c.loop-number-test.true in
    let many : length c.self.inside.keys ≡ length g.keys = ap (λ (x : Groups). length x.keys) c.self.view_is in
    let below : n < length g.keys = omega (arith, test, c.len-number-end.ensures.len, many) in
    let are : map column_held c.deref-in-loop-number.result.now ≡ g.columns = ap (map column_held) c.deref-in-loop-number.ensures.value ∙ ap (λ (x : Groups). x.columns) c.self.view_is in
    reported c.from_residual-in_err-cells.result e (λ x. (xs : List Row) → HasTaken g xs → EndBlame x g.by g.aggregates xs) c.from_residual-in_err-cells.ensures.1
    (λ xs taken. end-blame e g xs n taken below (subst (λ (columns : List (List Held)). CellsBlame e (held_at n columns)) are c.in_err-cells.ensures.err))

pub push_cells-requires : goal.push_cells-requires
push_cells-requires c =
    let g = c.args.self.now in
    let n = c.loop-number.number in
    let test = c.loop-number-test.true in
    let many : length c.self.inside.keys ≡ length g.keys = ap (λ (x : Groups). length x.keys) c.self.view_is in
    let below : n < length g.keys = omega (arith, test, c.len-number-end.ensures.len, many) in
    let are : map column_held c.deref-in-loop-number.result.now ≡ g.columns = ap (map column_held) c.deref-in-loop-number.ensures.value ∙ ap (λ (x : Groups). x.columns) c.self.view_is in
    let key-is : map cell_val c.in_ok-key.key.items ≡ get_or g.keys n [] = key-at c.self.inside.keys g.keys n (map cell_val c.in_ok-key.key.items) c.in_ok-key.ensures (ap (λ (x : Groups). x.keys) c.self.view_is) in
    let cells-are : map cell_val c.as_slice-in-loop-number.result.now ≡ key_row (get_or g.keys n []) (held_at n g.columns) =
    ap (map cell_val) c.as_slice-in-loop-number.ensures.value ∙ (c.in_ok-cells.ensures.cells ∙ (λ i. key_row (key-is i) (held_at n (are i)))) in
    ap (map type_of) cells-are ∙ (shown-typed g c.requires.rows n c.requires.taken below ∙ sym c.loop-number.invariant.types)

pub loop-number-preserved : goal.loop-number-preserved
loop-number-preserved c =
    let g = c.args.self.now in
    let n = c.loop-number.number in
    let inv = c.loop-number.invariant in
    let test = c.loop-number-test.true in
    let many : length c.self.inside.keys ≡ length g.keys = ap (λ (x : Groups). length x.keys) c.self.view_is in
    let below : n < length g.keys = omega (arith, test, c.len-number-end.ensures.len, many) in
    let are : map column_held c.deref-in-loop-number.result.now ≡ g.columns = ap (map column_held) c.deref-in-loop-number.ensures.value ∙ ap (λ (x : Groups). x.columns) c.self.view_is in
    let key-is : map cell_val c.in_ok-key.key.items ≡ get_or g.keys n [] = key-at c.self.inside.keys g.keys n (map cell_val c.in_ok-key.key.items) c.in_ok-key.ensures (ap (λ (x : Groups). x.keys) c.self.view_is) in
    let cells-are : map cell_val c.as_slice-in-loop-number.result.now ≡ key_row (map cell_val c.in_ok-key.key.items) (held_at n g.columns) =
    ap (map cell_val) c.as_slice-in-loop-number.ensures.value ∙ (c.in_ok-cells.ensures.cells ∙ (λ i. key_row (map cell_val c.in_ok-key.key.items) (held_at n (are i)))) in
    let next : c.push_cells.new.self.rows ≡ c.loop-number.found.rows ++ key_row (map cell_val c.in_ok-key.key.items) (held_at n g.columns) ∷ [] =
    c.in_ok-push_cells.ensures.ok ∙ ap (λ r. c.loop-number.found.rows ++ r ∷ []) cells-are in
    let fit : list_all held_fits (held_at n g.columns) ≡ true = ap (λ (columns : List (List Held)). list_all held_fits (held_at n columns)) (sym are) ∙ c.in_ok-cells.ensures.fit in
    record {
      types = c.push_cells.ensures.types ∙ inv.types;
      rows = λ xs taken. rows-next g xs n c.loop-number.found.rows c.push_cells.new.self.rows (map cell_val c.in_ok-key.key.items) taken below key-is (inv.rows xs taken) next;
      fit = λ xs taken. fits-next g xs n taken below (inv.fit xs taken) fit;
    }

pub returns-clause-rows : goal.returns-clause-rows
returns-clause-rows c = λ xs taken.
    let g = c.args.self.now in
    let n = c.loop-number.number in
    let inv = c.loop-number.invariant in
    let test = c.loop-number-test.false in
    let many : length c.self.inside.keys ≡ length g.keys = ap (λ (x : Groups). length x.keys) c.self.view_is in
    finished-rows g xs n c.loop-number.found.rows taken (omega (arith, test, c.len-number-end.ensures.len, many)) (inv.rows xs taken) (inv.fit xs taken)
