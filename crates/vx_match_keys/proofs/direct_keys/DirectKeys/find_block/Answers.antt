use Rattle.std.proofs.Common.{◌<◌, rules, arith, ap, ◌∙◌, sym, map, pos, length, get_or, length-set, w64}
use Rattle.std.proofs.lemmas.Int.{to_z-of_z}
use Rattle.std.proofs.lemmas.List.{length-map}
use Rattle.std.specs.List.{position_or_len}
use Rattle.vx_rows_values.specs.Values.{Row, row_eq}
use Rattle.vx_match_keys.specs.Columns.{number_key}
use Rattle.vx_match_keys.proofs.BlockFacts.{block-step, key-at}
use Rattle.vx_match_keys.proofs.direct_keys.DirectKeys.find_block.Goals as goal

pub loop-i-preserved : goal.loop-i-preserved
loop-i-preserved c =
    let f = λ (k : Row). position_or_len (row_eq k) c.args.self.now in
    let inv = c.loop-i.invariant in
    let ints = c.args.keys.now in
    let i = c.loop-i.i in
    let long = length-map ints number_key in
    let here : i < length ints = omega arith in
    let key-is = ap number_key (to_z-of_z w64 (get_or ints i (pos 0)) (search rules)) ∙ sym (key-at ints i here) in
    record {
      len = length-set c.loop-i.found i c.number_or_next.result ∙ inv.len;
      numbers = block-step f (map number_key ints) c.loop-i.found i c.number_or_next.result (omega arith) (omega arith) inv.numbers (c.number_or_next.ensures ∙ ap f key-is);
    }
