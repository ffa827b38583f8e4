use Rattle.std.proofs.Common.{◌++◌, ◌∷◌, [], length, ap, ◌∙◌}
use Rattle.vx_ops_computing.proofs.Widening.{made-entry}
use Rattle.vx_ops_computing.proofs.projecting.with_entry.Goals as goal

pub returns-in_ok-push-in-Made-clause-rows : goal.returns-in_ok-push-in-Made-clause-rows
returns-in_ok-push-in-Made-clause-rows g c =
    let before = c.args.columns.now.items in
    let pushed = c.in_ok-push-in-Made.ensures.items ∙ ap (λ n. before ++ n ∷ []) (ap length c.types-place.ensures.types) in
    let kinds = rw c.deref.ensures at c.with_column.ensures.types in
    let widened = rw c.deref.ensures at c.with_column.ensures.rows in
    rw c.in-Made.is (made-entry c.args.chunk.now.types c.args.chunk.now.rows c.args.wide before _ _ c.with_column.result pushed kinds widened)
