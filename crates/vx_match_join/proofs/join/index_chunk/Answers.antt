use Rattle.std.proofs.Common.{◌≡◌, ◌∙◌, ◌++◌, arith, ap, map, length}
use Rattle.std.proofs.lemmas.List.{length-map}
use Rattle.indexmap.specs.IndexSet.{insert_all}
use Rattle.vx_rows_values.specs.Values.{row_eq, pick}
use Rattle.vx_plan_nodes.specs.Serial.{group_keys}
use Rattle.vx_match_keys.specs.Numbers.{numbers_of}
use Rattle.vx_match_keys.proofs.NumberFacts.{numbers-long}
use Rattle.vx_match_join.proofs.BuildFacts.{keys-more}
use Rattle.vx_match_join.proofs.join.index_chunk.Goals as goal

pub add-requires : goal.add-requires
add-requires c =
    let rows = c.args.chunk.now.rows in
    let keys = map (pick c.args.columns.now) rows in
    let all = ap length (c.as_slice.ensures.value ∙ (c.in_ok-number_chunk.ensures.numbers ∙ ap (λ ns. ns ++ numbers_of c.args.keys.now keys) c.in_ok-numbers.ensures.items)) in
    let long = numbers-long c.args.keys.now keys in
    let many = length-map rows (pick c.args.columns.now) in
    omega (arith, all, long, many, c.requires.room)

pub returns : goal.returns
returns c = λ xs here is.
    let by = c.args.columns.now in
    let rows = c.args.chunk.now.rows in
    let keys = map (pick by) rows in
    let numbers : c.as_slice.result.now ≡ numbers_of (group_keys by xs) keys =
    c.as_slice.ensures.value
    ∙ (c.in_ok-number_chunk.ensures.numbers
    ∙ (ap (λ ns. ns ++ numbers_of c.args.keys.now keys) c.in_ok-numbers.ensures.items ∙ ap (λ ks. numbers_of ks keys) is.keys_are)) in
    record {
      keys_are = c.in_ok-number_chunk.ensures.keys ∙ (ap (λ ks. insert_all row_eq ks keys) is.keys_are ∙ keys-more by xs rows);
      parts_are = c.in_ok-add.ensures by xs rows here numbers is.parts_are;
    }
