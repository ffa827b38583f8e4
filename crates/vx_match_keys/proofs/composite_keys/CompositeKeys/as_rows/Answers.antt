use Rattle.std.proofs.Common.{◌≡◌, ◌<◌, [], arith, sym, ap, ◌∙◌, map, length, get_or}
use Rattle.std.proofs.lemmas.List.{take_all}
use Rattle.std.proofs.lemmas.Option.{get_or_from_slice_get}
use Rattle.indexmap.specs.IndexSet.{insert_key}
use Rattle.vx_rows_values.specs.Values.{row_eq}
use Rattle.vx_rows_values.specs.ValueView.{cell_val}
use Rattle.vx_match_keys.proofs.MadeFacts.{key-next}
use Rattle.vx_match_keys.proofs.composite_keys.CompositeKeys.as_rows.Goals as goal

pub loop-number-preserved : goal.loop-number-preserved
loop-number-preserved c =
    let keys = c.args.self.now in
    let i = c.loop-number.number in
    let near : i < length keys = omega (arith, c.loop-number-test.true, c.len-number-end.ensures.len) in
    let key-is : map cell_val c.as_slice.result.now ≡ get_or keys i [] =
    ap (map cell_val) c.as_slice.ensures.value ∙ sym (get_or_from_slice_get keys i _ [] c.in_ok-cells.ensures) in
    c.in_ok-add.ensures ∙ ((λ j. insert_key row_eq (c.loop-number.invariant j) (key-is j)) ∙ key-next keys i c.len-number-end.ensures.unique near)

pub returns : goal.returns
returns c = c.loop-number.invariant ∙ take_all c.loop-number.number c.args.self.now (omega (arith, c.loop-number-test.false, c.len-number-end.ensures.len))
