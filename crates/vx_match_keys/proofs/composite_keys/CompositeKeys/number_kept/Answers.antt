use Rattle.std.proofs.Common.{◌≡◌, ◌++◌, ◌∙◌, arith, ap, append_assoc, map, take, drop, length}
use Rattle.indexmap.specs.IndexSet.{insert_all}
use Rattle.vx_rows_values.specs.Values.{row_eq, pick}
use Rattle.vx_match_keys.specs.Numbers.{numbers_of}
use Rattle.vx_match_keys.proofs.RestFacts.{all-first, numbers-split, all-split}
use Rattle.vx_match_keys.proofs.composite_keys.CompositeKeys.number_kept.Goals as goal

pub returns-then-taken-len-clause-numbers : goal.returns-then-taken-len-clause-numbers
returns-then-taken-len-clause-numbers c =
    let n = c.in_ok-taken.taken in
    let test = c.if-taken-len.true in
    let all : n ≡ length c.args.chunk.now.rows = grind (arith, test, c.len.ensures) in
    c.in_ok-taken.ensures.numbers ∙ ap (λ xs. c.args.numbers.now.items ++ numbers_of c.args.self.now xs) (all-first c.args.columns.now c.args.chunk.now.rows n all)

pub returns-then-taken-len-clause-keys : goal.returns-then-taken-len-clause-keys
returns-then-taken-len-clause-keys c =
    let n = c.in_ok-taken.taken in
    let test = c.if-taken-len.true in
    let all : n ≡ length c.args.chunk.now.rows = grind (arith, test, c.len.ensures) in
    c.in_ok-taken.ensures.keys ∙ ap (insert_all row_eq c.args.self.now) (all-first c.args.columns.now c.args.chunk.now.rows n all)

pub returns-clause-numbers : goal.returns-clause-numbers
returns-clause-numbers c =
    let n = c.in_ok-taken.taken in
    let xs = map (pick c.args.columns.now) c.args.chunk.now.rows in
    let known = c.args.self.now in
    let first = c.args.numbers.now.items in
    c.in_ok-number_rest.ensures.numbers
    ∙ ((λ j. c.in_ok-taken.ensures.numbers j ++ numbers_of (c.in_ok-taken.ensures.keys j) (drop n xs))
    ∙ (append_assoc first (numbers_of known (take n xs)) (numbers_of (insert_all row_eq known (take n xs)) (drop n xs)) ∙ ap (λ ns. first ++ ns) (numbers-split known xs n)))

pub returns-clause-keys : goal.returns-clause-keys
returns-clause-keys c =
    let n = c.in_ok-taken.taken in
    let xs = map (pick c.args.columns.now) c.args.chunk.now.rows in
    let known = c.args.self.now in
    c.in_ok-number_rest.ensures.keys ∙ ((λ j. insert_all row_eq (c.in_ok-taken.ensures.keys j) (drop n xs)) ∙ all-split known xs n)
