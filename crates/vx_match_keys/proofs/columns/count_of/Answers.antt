use Rattle.std.proofs.Common.{◌+◌, sym, ap, ◌∙◌, length}
use Rattle.vx_rows.proofs.Below.{length-each_below}
use Rattle.vx_rows_views.specs.Seen.{seen_positions}
use Rattle.vx_match_keys.proofs.columns.count_of.Goals as goal

pub returns-in-Range : goal.returns-in-Range
returns-in-Range c = sym (ap (λ a. length (seen_positions a)) c.in-Range.is ∙ length-each_below c.in-Range.count (λ k. c.in-Range.field-0 + k))
