use Rattle.std.proofs.Common.{ap, ◌∙◌, map}
use Rattle.std.specs.List.{position_or_len}
use Rattle.std.proofs.lemmas.Simd.{map-map}
use Rattle.vx_rows_values.specs.Values.{Row, row_eq, pick}
use Rattle.vx_match_keys.proofs.row_keys.RowKeys.find_all.Goals as goal

pub returns : goal.returns
returns c =
    let f = λ (k : Row). position_or_len (row_eq k) c.args.self.now in
    c.in_ok-numbers.ensures ∙ (ap (map f) c.in_ok-keys.ensures ∙ map-map f (pick c.args.columns.now) c.args.chunk.now.rows)
