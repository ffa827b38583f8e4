use Rattle.std.proofs.Common.{ap, ◌∙◌, length, arith}
use Rattle.vx_ops.proofs.Fewer.{sort-long}
use Rattle.vx_ops.proofs.sort.SortingCollectingKernel.finish.Goals as goal
use Rattle.vx_ops.proofs.sort.SortingCollectingKernel.finish.Goals.{in-Ok, in-Err}

pub returns-clause-fewer : goal.returns-clause-fewer
returns-clause-fewer c = elim c.match-sorted_chunks.branch [
  | in-Ok w ↦
      let count = ap length w.in-Ok.ensures.rows ∙ sort-long c.as_slice.result.now c.self.inside.read.rows in
      rw (w.result-is, ← c.self.view_is) (omega (arith, count))
  | in-Err w ↦ rw w.result-is tt
]
