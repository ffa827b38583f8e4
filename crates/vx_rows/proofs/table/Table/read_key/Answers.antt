use Rattle.std.proofs.Common.{◌≡◌, ◌<◌, ◌++◌, [], ◌∷◌, arith, ap, ◌∙◌, sym, length, take, get_or}
use Rattle.std.proofs.lemmas.List.{length-map, take_more, get_or_default}
use Rattle.vx_rows_values.specs.Values.{pick, value_at}
use Rattle.vx_rows_values.specs.ValueView.{cell_val}
use Rattle.vx_rows.specs.View.{row}
use Rattle.vx_rows.proofs.Fill.{map_at}
use Rattle.vx_rows.proofs.table.Table.read_key.Goals as goal

pub loop-j-preserved : goal.loop-j-preserved
loop-j-preserved c =
    let cols = c.args.cols.now in
    let r = row c.args.self.now c.args.i in
    let j = c.loop-j.j in
    let k = get_or cols j 0 in
    let v = cell_val c.cell.result in
    let near : j < length cols = c.loop-j-test.true in
    let n : length (pick cols r) ≡ length cols = length-map cols (λ x. value_at r x) in
    let e = map_at (λ x. value_at r x) cols j k v near (get_or_default cols j 0 k near) in
    let long = c.in_ok-put_key.ensures.long in
    let bound = c.in_ok-put_key.ensures.bound in
    let was = c.loop-j.invariant.bound in
    record {
      long = omega (arith, long);
      bound = omega (arith, bound, was, near);
      values = c.in_ok-put_key.ensures.ok ∙ (ap (λ l. l ++ v ∷ []) c.loop-j.invariant.values ∙ (ap (λ x. take j (pick cols r) ++ x ∷ []) (c.cell.ensures ∙ sym e) ∙ sym (take_more (pick cols r) j v (omega (arith, n, near)))));
    }
