use Rattle.std.proofs.Common.{◌≡◌, ◌≤◌, ◌+◌, ◌++◌, arith, ap, ◌∙◌, length, map, take}
use Rattle.std.specs.Prelude.{slice_range}
use Rattle.std.proofs.lemmas.List.{length-map, length-take-le, take_at}
use Rattle.indexmap.specs.IndexSet.{insert_all}
use Rattle.vx_rows.specs.View.{RowsView}
use Rattle.vx_rows_values.specs.Values.{row_eq, pick}
use Rattle.vx_match_keys.proofs.BlockFacts.{next-keys, next-numbers}
use Rattle.vx_match_keys.proofs.column_keys.ColumnKeys.number_all.Goals as goal

pub loop-from-preserved : goal.loop-from-preserved
loop-from-preserved c =
    let inv = c.loop-from.invariant in
    let rows = c.args.chunk.now.rows in
    let f = pick c.args.columns.now in
    let keys = map f rows in
    let known = c.args.self.now.rows in
    let s = c.make_room.new.self.rows in
    let first = c.args.numbers.now.items in
    let from = c.loop-from.from in
    let block = c.min-block.result in
    let long = length-map rows f in
    let within : from + block ≤ length keys = omega (arith, long) in
    let same = ap (λ (t : RowsView). t.rows) c.make_room.ensures in
    let is : s ≡ insert_all row_eq known (take from keys) = same ∙ inv.keys in
    let room : length (take block c.loop-from.found) ≡ block = length-take-le block c.loop-from.found (omega arith) in
    let places : length c.number_block.new.found ≡ block = c.in_ok-number_block.ensures.len ∙ room in
    let part = ap (λ n. slice_range keys from (from + n)) room in
    record {
      within = omega (arith, within, long);
      types = c.in_ok-number_block.ensures.types ∙ (ap (λ (t : RowsView). t.types) c.make_room.ensures ∙ inv.types);
      numbers =
          c.in_ok-extend_from_slice.ensures.items
          ∙ (ap (λ l. c.loop-from.numbers.items ++ l) (take_at c.number_block.new.found _ block places)
          ∙ next-numbers known s keys _ first c.loop-from.numbers.items _ from block within is part inv.numbers (c.in_ok-number_block.ensures.numbers c.if-not-branch.false));
      keys = c.in_ok-number_block.ensures.keys c.if-not-branch.false ∙ next-keys known s keys _ from block within is part;
    }
