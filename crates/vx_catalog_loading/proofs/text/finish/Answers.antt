use Rattle.std.specs.contracts.io.impls.RefSliceU8Read.TheImpl.{ghosts}
use Rattle.vx_catalog_loading.proofs.FrontFacts.{finish_known}
use Rattle.vx_catalog_loading.proofs.text.finish.Goals as goal
use Rattle.vx_catalog_loading.proofs.text.finish.Goals.{in-Some, in-None}

pub returns-clause-known : goal.returns-clause-known
returns-clause-known g c =
    let rest = g.S.Read.remaining c.args.source in
    elim c.match-front.branch [
      | in-Some w ↦ finish_known ghosts.remaining g.S.Read.remaining c.args.held.now c.match-front.read w.read_rest-read.result _ _ rest w.read_rest-read.new.reader c.match-front.reader c.into_inner.result c.into_inner-source.result.1
          w.read-is w.reader-is c.from_reader-reader.ensures.source c.chain.ensures.bytes w.read_rest-read.ensures.known c.into_inner.ensures c.into_inner-source.ensures.second
      | in-None w ↦ finish_known ghosts.remaining g.S.Read.remaining c.args.held.now c.match-front.read w.read_text-read.result _ _ rest w.read_text-read.new.reader c.match-front.reader c.into_inner.result c.into_inner-source.result.1
          w.read-is w.reader-is c.from_reader-reader.ensures.source c.chain.ensures.bytes w.read_text-read.ensures.known c.into_inner.ensures c.into_inner-source.ensures.second
    ]
