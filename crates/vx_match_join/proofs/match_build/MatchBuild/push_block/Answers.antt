use Rattle.std.proofs.Common.{◌∙◌, map, ap}
use Rattle.std.specs.List.{position_or_len}
use Rattle.vx_rows_values.specs.Values.{Row, row_eq, pick}
use Rattle.vx_match_join.specs.Matching.{left_of_pairs}
use Rattle.vx_match_join.proofs.match_build.MatchBuild.push_block.Goals as goal

pub push_kept-requires-clause-numbers : goal.push_kept-requires-clause-numbers
push_kept-requires-clause-numbers c =
    c.as_slice.ensures.value ∙ (c.in_ok-numbers.ensures ∙ ap (map (λ (r : Row). position_or_len (row_eq (pick (left_of_pairs c.args.self.now.on) r)) c.args.self.now.keys)) c.in_ok-block.ensures.rows)
