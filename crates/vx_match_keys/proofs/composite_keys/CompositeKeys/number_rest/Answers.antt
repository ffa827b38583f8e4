use Rattle.std.proofs.Common.{◌≡◌, ◌++◌, ◌∙◌, ap, map, drop}
use Rattle.indexmap.specs.IndexSet.{insert_all}
use Rattle.vx_rows_values.specs.Values.{row_eq, pick}
use Rattle.vx_match_keys.specs.Numbers.{numbers_of}
use Rattle.vx_match_keys.proofs.RestFacts.{keys-behind}
use Rattle.vx_match_keys.proofs.composite_keys.CompositeKeys.number_rest.Goals as goal

pub returns-clause-numbers : goal.returns-clause-numbers
returns-clause-numbers c =
    let cols = c.args.columns.now in
    let rows = c.args.chunk.now.rows in
    let behind : map (pick cols) c.in_ok-rest.rest.rows ≡ drop c.args.from (map (pick cols) rows) =
    ap (map (pick cols)) c.in_ok-rest.ensures.rows ∙ keys-behind cols rows c.args.from c.len.result c.len.ensures in
    c.in_ok-number_all.ensures.numbers ∙ (λ j. c.args.numbers.now.items ++ numbers_of (c.in_ok-rows.ensures j) (behind j))

pub returns-clause-keys : goal.returns-clause-keys
returns-clause-keys c =
    let cols = c.args.columns.now in
    let rows = c.args.chunk.now.rows in
    let behind : map (pick cols) c.in_ok-rest.rest.rows ≡ drop c.args.from (map (pick cols) rows) =
    ap (map (pick cols)) c.in_ok-rest.ensures.rows ∙ keys-behind cols rows c.args.from c.len.result c.len.ensures in
    c.in_ok-number_all.ensures.keys ∙ (λ j. insert_all row_eq (c.in_ok-rows.ensures j) (behind j))
