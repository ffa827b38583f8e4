use Rattle.std.proofs.Common.{rules, arith, ◌≡◌, ◌<◌, [], sym, ap, ◌∙◌, map, pos, length, length-set, get_or, w64}
use Rattle.std.specs.Prelude.{position, Some}
use Rattle.std.proofs.lemmas.Int.{to_z-of_z}
use Rattle.std.proofs.lemmas.List.{length-map}
use Rattle.vx_rows_values.specs.Values.{Row, row_eq}
use Rattle.vx_match_keys.specs.Columns.{number_key}
use Rattle.vx_match_keys.proofs.BlockFacts.{key-at, known-step, known-stays}
use Rattle.vx_match_keys.proofs.direct_keys.DirectKeys.find_known.Goals as goal

pub loop-i-preserved : goal.loop-i-preserved
loop-i-preserved c =
    let s = c.args.self.now in
    let ints = c.args.keys.now in
    let xs = map number_key ints in
    let i = c.loop-i.i in
    let n = c.in-Some.number in
    let found = c.loop-i.found in
    let inv = c.loop-i.invariant in
    let long = length-map ints number_key in
    let here : i < length found = omega arith in
    let inside : i < length ints = omega arith in
    let near : i < length xs = omega arith in
    let key-is = ap number_key (to_z-of_z w64 (get_or ints i (pos 0)) (search rules)) ∙ sym (key-at ints i inside) in
    let at : position (row_eq (get_or xs i [])) s ≡ Some n = ap (λ (k : Row). position (row_eq k) s) (sym key-is) ∙ sym c.in-Some.ensures in
    record {
      len = length-set found i n ∙ inv.len;
      numbers = known-step s xs found i n near here at inv.keys inv.numbers;
      keys = known-stays s xs i n near at inv.keys;
    }
