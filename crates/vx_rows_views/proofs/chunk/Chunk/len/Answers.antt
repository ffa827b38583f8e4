use Rattle.std.proofs.Common.{ap, ◌∙◌, sym, length}
use Rattle.vx_rows.proofs.Below.{length-each_below}
use Rattle.vx_rows_views.proofs.chunk.Chunk.len.Goals as goal

pub returns : goal.returns
returns c = sym (length-each_below c.self.inside.count _) ∙ ap (λ t. length t.rows) c.self.view_is
