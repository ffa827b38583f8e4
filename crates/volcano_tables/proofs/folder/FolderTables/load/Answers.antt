use Rattle.std.proofs.lemmas.Result.{err_from_is_err_and}
use Rattle.vx_catalog_relations.specs.Catalog.{relation_at}
use Rattle.volcano_tables.proofs.FolderFacts.{lacks_read}
use Rattle.volcano_tables.proofs.folder.FolderTables.load.Goals as goal

pub returns-in_err-load-clause-refused : goal.returns-in_err-load-clause-refused
returns-in_err-load-clause-refused g c =
    let relation = relation_at c.args.catalog.now c.args.relation in
    let folder = c.args.self.now.path.now in
    let files = g.F.Store.holds c.args.self.now.files.now in
    let reliable = g.F.Store.is_reliable c.args.self.now.files.now in
    let e = c.in_err-load.ensures in
    let p = err_from_is_err_and c.from_residual-in_err-load.result c.from_residual-in_err-load.ensures.1 in
    rw (p.1, p.2)
    (lacks_read (g.F.In.ByteIn.has_failed c.load.new.reader) (g.F.In.ByteIn.remaining c.in_ok-file.file) files reliable folder relation c.in_err-load.field-0.0 c.in_ok-file.ensures.inside c.in_ok-file.ensures.bytes
    (λ is. e.reliable (c.in_ok-file.ensures.reliable is) c.in_ok-file.ensures.whole) e.known e.failed e.broken)
