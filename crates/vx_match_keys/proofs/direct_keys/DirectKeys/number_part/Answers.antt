use Rattle.std.proofs.Common.{◌≡◌, ◌<◌, ℕ, [], arith, rules, sym, ap, ◌∙◌, subst, map, pos, length, length-set, get_or, w64, to_z, of_z}
use Rattle.std.specs.Prelude.{IfSome, Option}
use Rattle.std.proofs.lemmas.Int.{to_z-of_z}
use Rattle.std.proofs.lemmas.List.{length-map}
use Rattle.std.specs.List.{position_or_len}
use Rattle.indexmap.specs.IndexSet.{insert_key}
use Rattle.vx_rows_values.specs.Values.{row_eq}
use Rattle.vx_match_keys.specs.Columns.{number_key}
use Rattle.vx_match_keys.proofs.BlockFacts.{key-at, part-step, part-more}
use Rattle.vx_match_keys.proofs.direct_keys.DirectKeys.number_part.Goals as goal

pub loop-i-preserved : goal.loop-i-preserved
loop-i-preserved c =
    let inv = c.loop-i.invariant in
    let ints = c.args.keys.now in
    let xs = map number_key ints in
    let known = c.args.self.now in
    let found = c.loop-i.found in
    let i = c.loop-i.i in
    let n = c.in-Some.number in
    let long = length-map ints number_key in
    let here : i < length found = omega arith in
    let inside : i < length ints = omega arith in
    let near : i < length xs = omega arith in
    let z = to_z w64 (of_z w64 (get_or ints i (pos 0))) in
    let key-is : number_key z ≡ get_or xs i [] = ap number_key (to_z-of_z w64 (get_or ints i (pos 0)) (search rules)) ∙ sym (key-at ints i inside) in
    let some : n ≡ position_or_len (row_eq (number_key z)) c.loop-i.self =
    subst (λ (o : Option ℕ). IfSome o (λ n. n ≡ position_or_len (row_eq (number_key z)) c.loop-i.self)) c.in-Some.is c.in_ok-number.ensures.number in
    let more : c.number.new.self ≡ insert_key row_eq c.loop-i.self (number_key z) =
    subst (λ (o : Option ℕ). IfSome o (λ n. c.number.new.self ≡ insert_key row_eq c.loop-i.self (number_key z))) c.in-Some.is c.in_ok-number.ensures.keys in
    record {
      len = length-set found i n ∙ inv.len;
      numbers = part-step known c.loop-i.self xs found i n near here inv.keys (some ∙ ap (λ k. position_or_len (row_eq k) c.loop-i.self) key-is) inv.numbers;
      keys = more ∙ (ap (insert_key row_eq c.loop-i.self) key-is ∙ part-more known c.loop-i.self xs i near inv.keys);
    }
