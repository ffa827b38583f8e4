use Rattle.std.proofs.Common.{◌≡◌, ◌<◌, ◌++◌, ◌∷◌, [], arith, sym, ap, ◌∙◌, length, get_or}
use Rattle.std.specs.List.{position_or_len}
use Rattle.std.proofs.lemmas.List.{map_more}
use Rattle.vx_rows_values.specs.Values.{Row, row_eq}
use Rattle.vx_match_keys.proofs.NumberFacts.{whole-key, all-columns}
use Rattle.vx_match_keys.proofs.row_keys.RowKeys.find_rows.Goals as goal

pub loop-i-preserved : goal.loop-i-preserved
loop-i-preserved c =
    let keys = c.args.keys.now in
    let known = c.args.self.now in
    let i = c.loop-i.i in
    let x = get_or keys.rows i [] in
    let f = λ (k : Row). position_or_len (row_eq k) known in
    let near : i < length keys.rows = omega (arith, c.loop-i-test.true, c.len-i-end.ensures) in
    let key-is : c.read.new.self ≡ x =
    whole-key keys.types keys.rows i (length c.types.result.now) c.as_slice.result.now c.read.new.self c.types.ensures.fit near (ap length c.types.ensures.types) (c.as_slice.ensures.value ∙ c.in_ok-columns.ensures) c.in_ok-read.ensures in
    c.in_ok-push.ensures.items ∙ ((λ j. c.loop-i.invariant j ++ (c.number_or_next-number.ensures ∙ ap f key-is) j ∷ []) ∙ sym (map_more f keys.rows i [] near))

pub read-requires-clause-columns : goal.read-requires-clause-columns
read-requires-clause-columns c =
    all-columns (length c.args.keys.now.types) (length c.types.result.now) c.as_slice.result.now (ap length c.types.ensures.types) (c.as_slice.ensures.value ∙ c.in_ok-columns.ensures)
