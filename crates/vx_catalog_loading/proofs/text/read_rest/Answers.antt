use Rattle.vx_catalog.specs.Records.{rest_of}
use Rattle.vx_catalog_loading.proofs.JoinFacts.{rest_fails, rest_joined}
use Rattle.vx_catalog_loading.proofs.text.read_rest.Goals as goal

pub returns-in-Ok-clause-rows : goal.returns-in-Ok-clause-rows
returns-in-Ok-clause-rows g c =
    let front = c.args.front in
    let read = rw c.types.ensures.types at c.in-Ok.ensures.rows in
    rest_joined (λ r. r.rows) c.join.result front.types front.rows c.in-Ok.rest.rows (rest_of g.S.Read.remaining c.args.reader.now) c.requires.few read c.join.ensures.rows

pub returns-in-Err-clause-rows : goal.returns-in-Err-clause-rows
returns-in-Err-clause-rows g c =
    let front = c.args.front in
    let bad = rw c.types.ensures.types at c.in-Err.ensures.rows in
    rw (c.fault_of.ensures, c.len.ensures) (rest_fails front.types front.rows (rest_of g.S.Read.remaining c.args.reader.now) c.in-Err.fault c.requires.few bad)
