use Rattle.std.proofs.Common.{◌≡◌, ◌<◌, ◌++◌, ◌∷◌, [], arith, sym, ap, ◌∙◌, append_assoc, length, take, get_or}
use Rattle.std.specs.List.{position_or_len}
use Rattle.indexmap.specs.IndexSet.{insert_key, insert_all}
use Rattle.vx_rows_values.specs.Values.{row_eq}
use Rattle.vx_match_keys.specs.Numbers.{numbers_of}
use Rattle.vx_match_keys.proofs.NumberFacts.{all-next, numbers-next, whole-key, all-columns}
use Rattle.vx_match_keys.proofs.row_keys.RowKeys.number_rows.Goals as goal

pub loop-i-preserved : goal.loop-i-preserved
loop-i-preserved c =
    let inv = c.loop-i.invariant in
    let keys = c.args.keys.now in
    let known = c.args.self.now in
    let first = c.args.numbers.now.items in
    let i = c.loop-i.i in
    let x = get_or keys.rows i [] in
    let near : i < length keys.rows = omega (arith, c.loop-i-test.true, c.len-i-end.ensures) in
    let key-is : c.read.new.self ≡ x =
    whole-key keys.types keys.rows i (length c.types.result.now) c.as_slice.result.now c.read.new.self c.types.ensures.fit near (ap length c.types.ensures.types) (c.as_slice.ensures.value ∙ c.in_ok-columns.ensures) c.in_ok-read.ensures in
    let number-is : c.in_ok-number.number ≡ position_or_len (row_eq x) (insert_all row_eq known (take i keys.rows)) =
    c.in_ok-number.ensures.number ∙ (λ j. position_or_len (row_eq (key-is j)) (inv.keys j)) in
    record {
      numbers = c.in_ok-push.ensures.items
          ∙ ((λ j. inv.numbers j ++ number-is j ∷ [])
          ∙ (append_assoc first (numbers_of known (take i keys.rows)) (position_or_len (row_eq x) (insert_all row_eq known (take i keys.rows)) ∷ [])
          ∙ ap (λ ns. first ++ ns) (sym (numbers-next known keys.rows i near))));
      keys = c.in_ok-number.ensures.keys ∙ ((λ j. insert_key row_eq (inv.keys j) (key-is j)) ∙ sym (all-next known keys.rows i near));
    }

pub read-requires-clause-columns : goal.read-requires-clause-columns
read-requires-clause-columns c =
    all-columns (length c.args.keys.now.types) (length c.types.result.now) c.as_slice.result.now (ap length c.types.ensures.types) (c.as_slice.ensures.value ∙ c.in_ok-columns.ensures)
