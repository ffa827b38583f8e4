use Rattle.std.proofs.Common.{arith, ap, sym, ◌∙◌, ◌++◌, ◌∷◌, [], List}
use Rattle.std.proofs.lemmas.List.FromFn.{map-range_with_len_more}
use Rattle.vx_rows_values.specs.Values.{Row}
use Rattle.vx_wisconsin.specs.Wisconsin.{row_of}
use Rattle.vx_wisconsin.proofs.rows.generate_rows.Goals as goal

pub loop-i-preserved : goal.loop-i-preserved
loop-i-preserved c =
    let row = row_of c.args.count c.loop-i.i in
    record {
      types = c.in_ok-push_row.ensures.types;
      rows = c.in_ok-push_row.ensures.rows ∙ (ap (λ (rows : List Row). rows ++ row ∷ []) c.loop-i.invariant.rows ∙ sym (map-range_with_len_more (row_of c.args.count) 0 c.loop-i.i c.loop-i.i (omega arith)));
      front = c.in_ok-push_row.ensures.front;
    }
