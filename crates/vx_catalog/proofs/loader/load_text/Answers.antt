use Rattle.vx_catalog.proofs.LoadFacts.{refused_reported, tested_reported}
use Rattle.vx_catalog.proofs.loader.load_text.Goals as goal
use Rattle.vx_catalog.proofs.loader.load_text.Goals.{in-Ok, in-Err}

pub returns-clause-rows : goal.returns-clause-rows
returns-clause-rows g c =
    elim c.match-settle.branch [
      | in-Ok w ↦ rw w.tested-is (tested_reported (λ r. r.rows) g.T.Origin.text c.args.relation.now c.read_text-read.result w.test_rows-tested.result w.in-Ok.rows _ _ _ c.from_reader-reader.ensures.state c.from_reader-reader.ensures.source c.new-2.ensures c.read_text-read.ensures.rows (rw w.in-Ok.is at c.settle.ensures) w.test_rows-tested.ensures.rows)
      | in-Err w ↦ rw w.tested-is (refused_reported (λ r. r.rows) g.T.Origin.text c.args.relation.now c.read_text-read.result w.in-Err.fault _ _ _ c.from_reader-reader.ensures.state c.from_reader-reader.ensures.source c.new-2.ensures c.read_text-read.ensures.rows (rw w.in-Err.is at c.settle.ensures))
    ]
