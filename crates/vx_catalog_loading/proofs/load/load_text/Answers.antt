use Rattle.vx_catalog_loading.proofs.LoadReported.{refused_reported, answered_reported}
use Rattle.vx_catalog_loading.proofs.load.load_text.Goals as goal
use Rattle.vx_catalog_loading.proofs.load.load_text.Goals.{in-Ok, in-Err}

pub returns-clause-rows : goal.returns-clause-rows
returns-clause-rows g c =
    elim c.match-settle.branch [
      | in-Ok w ↦ rw w.tested-is (answered_reported (λ r. r.rows) c.args.relation.now c.read_in_threads-read.result.read g.T.Origin.text _ w.test_read-tested.result w.in-Ok.rows c.new-counted.ensures c.read_in_threads-read.ensures.rows (rw w.in-Ok.is at c.settle.ensures) w.test_read-tested.ensures.rows)
      | in-Err w ↦ rw w.tested-is (refused_reported (λ r. r.rows) c.args.relation.now c.read_in_threads-read.result.read g.T.Origin.text _ w.in-Err.fault c.new-counted.ensures c.read_in_threads-read.ensures.rows (rw w.in-Err.is at c.settle.ensures))
    ]
