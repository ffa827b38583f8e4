use Rattle.std.proofs.Common.{ap, ◌∙◌}
use Rattle.vx_rows.specs.View.{RowsView}
use Rattle.vx_match.proofs.group.KeyedGroupsCollectingKernel.finish.Goals as goal
use Rattle.vx_match.proofs.group.KeyedGroupsCollectingKernel.finish.Goals.{in-Ok+in-Ok-of_table, in-Ok+in-Err, in-Err-NoMemory, in-Err-TooMany}

pub returns-clause-typed : goal.returns-clause-typed
returns-clause-typed c = elim c.match-finish.branch [
  | in-Ok+in-Ok-of_table w ↦ rw (w.result-is, ← c.self.view_is) (ap (λ (t : RowsView). t.types) w.in-Ok-of_table.ensures ∙ w.in-Ok.ensures.types)
  | in-Ok+in-Err w ↦ rw w.result-is tt
  | in-Err-NoMemory w ↦ rw w.result-is tt
  | in-Err-TooMany w ↦ rw w.result-is tt
]
