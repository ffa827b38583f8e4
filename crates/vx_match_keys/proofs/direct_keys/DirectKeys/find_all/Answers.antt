use Rattle.std.proofs.Common.{arith, ◌≡◌, ◌≤◌, ◌+◌, ap, ◌∙◌, length, map, take}
use Rattle.std.specs.List.{position_or_len}
use Rattle.std.proofs.lemmas.List.{length-take-le}
use Rattle.vx_rows_values.specs.Values.{Row, row_eq}
use Rattle.vx_match_keys.proofs.BlockFacts.{block-next, read-block}
use Rattle.vx_match_keys.proofs.direct_keys.DirectKeys.find_all.Goals as goal

pub loop-from-preserved : goal.loop-from-preserved
loop-from-preserved c =
    let f = λ (k : Row). position_or_len (row_eq k) c.args.self.now in
    let column = c.args.column.now in
    let from = c.loop-from.from in
    let n = c.min-block.result in
    let within : from + n ≤ length column = omega arith in
    let room : length (take n c.loop-from.keys) ≡ n = length-take-le n c.loop-from.keys (omega arith) in
    record {
      within = within;
      numbers =
          c.in_ok-extend_from_slice.ensures.items
          ∙ block-next f column c.loop-from.numbers.items c.find_block.new.found _ from n within c.loop-from.invariant.numbers
          (c.find_block.ensures ∙ ap (map f) (read-block column c.read.new.numbers _ from n _ room c.read.ensures.len c.read.ensures.numbers));
    }
