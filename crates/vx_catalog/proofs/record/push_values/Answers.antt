use Rattle.std.proofs.Common.{◌<◌, ◌∷◌, [], refl, ap, ◌∙◌, arith, length, slice_index_or}
use Rattle.std.proofs.lemmas.List.{map-id, length-append, get_or_default}
use Rattle.std.proofs.lemmas.Result.{err_from_is_err_and}
use Rattle.csv.specs.Records.{fields_of}
use Rattle.vx_rows_values.specs.ValueView.{cell_val}
use Rattle.vx_rows_values.specs.declared.value.ColType.{ColType}
use Rattle.vx_rows_values.specs.declared.value.ColType.TheVariants as kind
use Rattle.vx_catalog.specs.Loading.{next_value}
use Rattle.vx_catalog_relations.proofs.WalkFacts.{walk_step, walk_next, walk_done}
use Rattle.vx_catalog.proofs.RowFacts.{type_kept, next_is, fails_along}
use Rattle.vx_catalog.proofs.record.push_values.Goals as goal

pub loop-col-init : goal.loop-col-init
loop-col-init c = record {
  types = refl;
  rows = refl;
  column = ap length c.requires;
  so_far = rw (c.requires, map-id c.args.rows.now.types) refl;
}

pub returns-in_err-value-clause-front : goal.returns-in_err-value-clause-front
returns-in_err-value-clause-front c =
    let types = c.args.rows.now.types in
    let col = c.loop-col.col in
    let front = c.loop-col.rows.front in
    let fields = fields_of c.args.line.now in
    let type = slice_index_or types col kind.Int in
    let same = c.types.ensures ∙ c.loop-col.invariant.types in
    let near : col < length types = rw c.types-col-end.ensures at c.loop-col-test.true in
    let p = err_from_is_err_and c.from_residual.result c.from_residual.ensures.1 in
    let bad = rw (same, ← next_is c.args.row col fields front type c.loop-col.invariant.column) at c.in_err-value.ensures in
    let step = walk_step (λ (t : ColType). t) (next_value c.args.row fields) front types col type near (get_or_default types col kind.Int type near) in
    rw (p.1, p.2, ← c.loop-col.invariant.so_far) (fails_along c.in_err-value.field-0.0 (next_value c.args.row fields front type) _ (λ r. λ e. rw (step, e) refl) bad)

pub push_cell-requires-clause-kind : goal.push_cell-requires-clause-kind
push_cell-requires-clause-kind c =
    rw (c.loop-col.invariant.column, ← c.types.ensures) (type_kept _ _ _ _ _ c.in_ok-value.ensures)

pub loop-col-preserved : goal.loop-col-preserved
loop-col-preserved c =
    let types = c.args.rows.now.types in
    let col = c.loop-col.col in
    let front = c.loop-col.rows.front in
    let fields = fields_of c.args.line.now in
    let type = slice_index_or types col kind.Int in
    let value = cell_val c.in_ok-value.value in
    let same = c.types.ensures ∙ c.loop-col.invariant.types in
    let near : col < length types = rw c.types-col-end.ensures at c.loop-col-test.true in
    let read = next_is c.args.row col fields front type c.loop-col.invariant.column ∙ (rw same at c.in_ok-value.ensures) in
    record {
      types = c.in_ok-push_cell.ensures.types ∙ c.loop-col.invariant.types;
      rows = c.in_ok-push_cell.ensures.rows ∙ c.loop-col.invariant.rows;
      column = let more = length-append front (value ∷ []) in let long = ap length c.in_ok-push_cell.ensures.ok in let column = c.loop-col.invariant.column in omega (arith, more, long, column);
      so_far = rw c.in_ok-push_cell.ensures.ok
          (walk_next (λ (t : ColType). t) (next_value c.args.row fields) front value types col type near (get_or_default types col kind.Int type near) read ∙ c.loop-col.invariant.so_far);
    }

pub returns-clause-front : goal.returns-clause-front
returns-clause-front c =
    let done = rw c.types-col-end.ensures at c.loop-col-test.false in
    rw (← c.loop-col.invariant.so_far) (walk_done (λ (t : ColType). t) (next_value c.args.row (fields_of c.args.line.now)) c.loop-col.rows.front c.args.rows.now.types c.loop-col.col done)
