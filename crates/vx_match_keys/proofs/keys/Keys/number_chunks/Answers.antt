use Rattle.std.proofs.Common.{◌≡◌, ◌+◌, ◌++◌, sym, ap, ◌∙◌, append_assoc, map, take}
use Rattle.std.proofs.lemmas.List.{map-append}
use Rattle.indexmap.specs.IndexSet.{insert_all}
use Rattle.vx_rows_values.specs.Values.{row_eq, pick}
use Rattle.vx_rows_views.specs.Chunks.{all_rows}
use Rattle.vx_rows_views.proofs.Whole.{next-rows}
use Rattle.vx_match_keys.specs.Numbers.{numbers_of}
use Rattle.vx_match_keys.proofs.NumberFacts.{numbers-append, all-append}
use Rattle.vx_match_keys.proofs.keys.Keys.number_chunks.Goals as goal

pub loop-i-preserved : goal.loop-i-preserved
loop-i-preserved c =
    let inv = c.loop-i.invariant in
    let ts = c.args.chunks.now in
    let known = c.args.self.now in
    let first = c.args.numbers.now.items in
    let i = c.loop-i.i in
    let t = c.index-chunks-i.result in
    let f = pick c.args.columns.now in
    let xs = map f (all_rows (take i ts)) in
    let ys = map f t.rows in
    let more : map f (all_rows (take (i + 1) ts)) ≡ xs ++ ys = ap (map f) (next-rows ts i t c.loop-i-test.true c.index-chunks-i.is) ∙ map-append f (all_rows (take i ts)) t.rows in
    record {
      numbers = c.in_ok-number_chunk.ensures.numbers
          ∙ ((λ j. inv.numbers j ++ numbers_of (inv.keys j) ys)
          ∙ (append_assoc first (numbers_of known xs) (numbers_of (insert_all row_eq known xs) ys)
          ∙ ap (λ ns. first ++ ns) (sym (numbers-append known xs ys) ∙ ap (numbers_of known) (sym more))));
      keys = c.in_ok-number_chunk.ensures.keys
          ∙ ((λ j. insert_all row_eq (inv.keys j) ys) ∙ (sym (all-append known xs ys) ∙ ap (insert_all row_eq known) (sym more)));
    }
