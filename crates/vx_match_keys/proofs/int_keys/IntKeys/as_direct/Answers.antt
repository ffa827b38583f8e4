use Rattle.std.proofs.Common.{◌<◌, [], arith, rules, sym, ap, ◌∙◌, length, w64}
use Rattle.std.proofs.lemmas.Int.{to_z-of_z}
use Rattle.std.proofs.lemmas.Option.{get_or_from_slice_get}
use Rattle.indexmap.specs.IndexSet.{insert_key}
use Rattle.vx_rows_values.specs.Values.{row_eq}
use Rattle.vx_match_keys.specs.Columns.{number_key}
use Rattle.vx_match_keys.proofs.MadeFacts.{key-next}
use Rattle.vx_match_keys.proofs.int_keys.IntKeys.as_direct.Goals as goal

pub loop-number-preserved : goal.loop-number-preserved
loop-number-preserved c =
    let keys = c.args.self.now in
    let i = c.loop-number.number in
    let near : i < length keys = omega (arith, c.loop-number-test.true, c.len-count.ensures.len) in
    let key-is = ap number_key (to_z-of_z w64 c.get.result (search rules)) ∙ sym (get_or_from_slice_get keys i _ [] c.get.ensures) in
    let made = rw (c.in-Some.is) at c.in_ok-number.ensures.keys in
    made ∙ ((λ j. insert_key row_eq (c.loop-number.invariant j) (key-is j)) ∙ key-next keys i c.len-count.ensures.unique near)
