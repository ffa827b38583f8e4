use Rattle.vx_catalog.proofs.RecordFacts.{known_after, took}
use Rattle.vx_catalog.proofs.record.next_record.Goals as goal

pub returns-clause-read : goal.returns-clause-read
returns-clause-read g c =
    took g.S.Read.remaining c.args.reader.now c.read_byte_record.new.self c.in-Ok.found _ c.requires (c.in-Ok.ensures.reads c.requires.trim c.requires.ready) (c.in-Ok.ensures.ready c.requires.trim)

pub returns-clause-known : goal.returns-clause-known
returns-clause-known g c = known_after g.S.Read.remaining c.args.reader.now c.read_byte_record.new.self c.in-Ok.found _ (c.in-Ok.ensures.reads c.requires.trim c.requires.ready)
