use Rattle.std.proofs.Common.{◌++◌, ◌∙◌, ap, append_assoc, take, drop}
use Rattle.indexmap.specs.IndexSet.{insert_all}
use Rattle.vx_rows_values.specs.Values.{row_eq}
use Rattle.vx_match_keys.specs.Numbers.{numbers_of}
use Rattle.vx_match_keys.proofs.RestFacts.{numbers-split, all-split}
use Rattle.vx_match_keys.proofs.int_keys.IntKeys.number_here.Goals as goal

pub returns-clause-numbers : goal.returns-clause-numbers
returns-clause-numbers c =
    let n = c.in_ok-taken.taken in
    let xs = c.args.column.now in
    let known = c.args.self.now in
    let first = c.args.numbers.now.items in
    c.in_ok-number_rest.ensures.numbers
    ∙ ((λ j. c.in_ok-taken.ensures.numbers j ++ numbers_of (c.in_ok-taken.ensures.keys j) (drop n xs))
    ∙ (append_assoc first (numbers_of known (take n xs)) (numbers_of (insert_all row_eq known (take n xs)) (drop n xs)) ∙ ap (λ ns. first ++ ns) (numbers-split known xs n)))

pub returns-clause-keys : goal.returns-clause-keys
returns-clause-keys c =
    let n = c.in_ok-taken.taken in
    let xs = c.args.column.now in
    let known = c.args.self.now in
    c.in_ok-number_rest.ensures.keys ∙ ((λ j. insert_all row_eq (c.in_ok-taken.ensures.keys j) (drop n xs)) ∙ all-split known xs n)
