use Rattle.std.proofs.Common.{◌≡◌, ◌<◌, ◌++◌, ◌∷◌, [], arith, sym, ap, ◌∙◌, append_assoc, length, take, get_or}
use Rattle.std.specs.List.{position_or_len}
use Rattle.indexmap.specs.IndexSet.{insert_key, insert_all}
use Rattle.vx_rows_values.specs.Values.{row_eq}
use Rattle.vx_match_keys.specs.Numbers.{numbers_of}
use Rattle.vx_match_keys.proofs.NumberFacts.{all-next, numbers-next}
use Rattle.vx_match_keys.proofs.text_keys.TextKeys.number_all.Goals as goal

pub loop-i-preserved : goal.loop-i-preserved
loop-i-preserved c =
    let inv = c.loop-i.invariant in
    let keys = c.args.column.now in
    let known = c.args.self.now in
    let first = c.args.numbers.now.items in
    let i = c.loop-i.i in
    let x = get_or keys i [] in
    let near : i < length keys = omega (arith, c.loop-i-test.true, c.len-i-end.ensures) in
    let number-is : c.in_ok-number.number ≡ position_or_len (row_eq x) (insert_all row_eq known (take i keys)) =
    c.in_ok-number.ensures.number ∙ (λ j. position_or_len (row_eq (c.get.ensures j)) (inv.keys j)) in
    record {
      numbers = c.in_ok-push.ensures.items
          ∙ ((λ j. inv.numbers j ++ number-is j ∷ [])
          ∙ (append_assoc first (numbers_of known (take i keys)) (position_or_len (row_eq x) (insert_all row_eq known (take i keys)) ∷ [])
          ∙ ap (λ ns. first ++ ns) (sym (numbers-next known keys i near))));
      keys = c.in_ok-number.ensures.keys ∙ ((λ j. insert_key row_eq (inv.keys j) (c.get.ensures j)) ∙ sym (all-next known keys i near));
    }
