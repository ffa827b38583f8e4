use Rattle.std.proofs.Common.{arith, ◌≡◌, ◌∙◌, ◌+◌, ◌<◌, length, true, false, sym, ap, subst}
use Rattle.std.proofs.lemmas.Result.{err_from_is_err_and}
use Rattle.vx_catalog.specs.Database.{Database}
use Rattle.volcano_tables.proofs.FillFacts.{IsFilledTo, filled_none, filled_more, filled_next, stops_at}
use Rattle.volcano_tables.proofs.SeenFacts.{seen_none, seen_more, seen_next}
use Rattle.volcano_tables.proofs.threads.load_scanned_in_threads.Goals as goal
use Rattle.volcano_tables.proofs.threads.load_scanned_in_threads.Goals.{then-scans+in_ok-fill_in_threads+in_ok-loaded, else-scans}

pub loop-relation-init : goal.loop-relation-init
loop-relation-init g c = (
  filled_none (g.S.Scanning.scanned c.args.scanning.now) (g.T.Tables.holds c.args.tables.now) c.args.catalog.now c.seeded-database.result (ap (λ d. d.catalog) c.seeded-database.ensures ∙ c.in_ok-empty.ensures.catalog) (ap (λ d. d.rows) c.seeded-database.ensures ∙ c.in_ok-empty.ensures.empty),
  seen_none (g.S.Scanning.scanned c.args.scanning.now) (g.O.Observer.seen c.args.observer.now),
)

pub loop-relation-preserved : goal.loop-relation-preserved
loop-relation-preserved g c =
    let l = c.loop-relation in
    let scanned = g.S.Scanning.scanned c.args.scanning.now in
    let holds = g.T.Tables.holds c.args.tables.now in
    let catalog = c.args.catalog.now in
    let there : l.relation < length catalog = omega arith in
    let before = g.O.Observer.seen c.args.observer.now in
    let now = g.O.Observer.seen l.observer in
    let P : Database → Type 0 = λ d. IsFilledTo scanned holds catalog d (l.relation + 1) in
    elim c.if-scans.branch [
      | then-scans+in_ok-fill_in_threads+in_ok-loaded w ↦
          let scan : scanned l.relation ≡ true = sym c.scans.ensures ∙ w.if-scans.true in
          let filled = w.in_ok-fill_in_threads.ensures.filled in
          let read = rw l.invariant.0.same at filled.1 in (
            subst P (sym (w.database-is ∙ filled.2)) (filled_next scanned holds catalog l.database l.relation filled.0 there scan read l.invariant.0),
            ap (g.O.Observer.seen) w.observer-is ∙ seen_next scanned l.relation before now (g.O.Observer.seen w.loaded.new.self) scan l.invariant.1 w.in_ok-loaded.ensures,
          )
      | else-scans w ↦
          let out : scanned l.relation ≡ false = sym c.scans.ensures ∙ w.if-scans.false in (
            subst P (sym w.database-is) (filled_more scanned holds catalog l.database l.relation out l.invariant.0),
            ap (g.O.Observer.seen) w.observer-is ∙ seen_more scanned l.relation before now out l.invariant.1,
          )
    ]

pub returns-in_err-fill_in_threads-clause-refused : goal.returns-in_err-fill_in_threads-clause-refused
returns-in_err-fill_in_threads-clause-refused g c =
    let l = c.loop-relation in
    let catalog = c.args.catalog.now in
    let there : l.relation < length catalog = omega arith in
    let scan : g.S.Scanning.scanned c.args.scanning.now l.relation ≡ true = sym c.scans.ensures ∙ c.if-scans.true in
    let misses = rw l.invariant.0.same at c.in_err-fill_in_threads.ensures.refused in
    let p = err_from_is_err_and c.from_residual-in_err-fill_in_threads.result c.from_residual-in_err-fill_in_threads.ensures.1 in
    rw (p.1, p.2)
    (stops_at (g.S.Scanning.scanned c.args.scanning.now) (g.T.Tables.holds c.args.tables.now) (g.T.Tables.lacks c.args.tables.now) catalog l.database l.relation c.in_err-fill_in_threads.field-0.0 there scan misses l.invariant.0)
