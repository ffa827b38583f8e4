use Rattle.std.proofs.Common.{arith, ◌≡◌, ◌∙◌, ◌<◌, length, true, sym, ap}
use Rattle.std.proofs.lemmas.Result.{err_from_is_err_and}
use Rattle.volcano_tables.proofs.FillFacts.{filled_none, stops_at}
use Rattle.volcano_tables.proofs.tables.load_scanned.Goals as goal

pub loop-relation-init : goal.loop-relation-init
loop-relation-init g c =
    filled_none (g.S.Scanning.scanned c.args.scanning.now) (g.T.Tables.holds c.args.tables.now) c.args.catalog.now c.seeded-database.result (ap (λ d. d.catalog) c.seeded-database.ensures ∙ c.in_ok-empty.ensures.catalog) (ap (λ d. d.rows) c.seeded-database.ensures ∙ c.in_ok-empty.ensures.empty)

pub returns-in_err-fill-clause-refused : goal.returns-in_err-fill-clause-refused
returns-in_err-fill-clause-refused g c =
    let l = c.loop-relation in
    let catalog = c.args.catalog.now in
    let there : l.relation < length catalog = omega arith in
    let scan : g.S.Scanning.scanned c.args.scanning.now l.relation ≡ true = sym c.scans.ensures ∙ c.if-scans.true in
    let misses = rw l.invariant.same at c.in_err-fill.ensures.refused in
    let p = err_from_is_err_and c.from_residual-in_err-fill.result c.from_residual-in_err-fill.ensures.1 in
    rw (p.1, p.2)
    (stops_at (g.S.Scanning.scanned c.args.scanning.now) (g.T.Tables.holds c.args.tables.now) (g.T.Tables.lacks c.args.tables.now) catalog l.database l.relation c.in_err-fill.field-0.0 there scan misses l.invariant)
