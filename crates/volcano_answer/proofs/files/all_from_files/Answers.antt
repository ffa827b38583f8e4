use Rattle.std.proofs.Common.{Ok, refl}
use Rattle.std.proofs.lemmas.Result.{err_from_is_err_and}
use Rattle.vx_plan_json.specs.PlanView.{document_of}
use Rattle.vx_plan_nodes.specs.TypedView.{resolved_of}
use Rattle.volcano_arguments.specs.Asked.{paths_are}
use Rattle.volcano_answer.specs.Files.{catalog_at, plan_at, for_contents}
use Rattle.volcano_answer.proofs.FileFacts.{known_as, not_read_refused}
use Rattle.volcano_answer.proofs.PlanFacts.{is_planned, planning_fails}
use Rattle.volcano_answer.proofs.files.all_from_files.Goals as goal

pub returns-in_err-catalog-clause-refused : goal.returns-in_err-catalog-clause-refused
returns-in_err-catalog-clause-refused g c =
    let p = err_from_is_err_and c.from_residual.result c.from_residual.ensures.1 in
    rw (p.1, p.2) (not_read_refused (g.F.Store.holds c.args.files.now) (g.F.Store.is_reliable c.args.files.now) (g.I.ByteIn.remaining c.args.input.now) (g.I.ByteIn.has_failed c.document_from_files.new.input)
    (paths_are c.args.sources) c.in_err-catalog.field-0.0 c.in_err-catalog.ensures.refused)

pub returns-in_err-typed-clause-refused : goal.returns-in_err-typed-clause-refused
returns-in_err-typed-clause-refused g c =
    let files = g.F.Store.holds c.args.files.now in
    let input = g.I.ByteIn.remaining c.args.input.now in
    let paths = paths_are c.args.sources in
    let catalog = c.in_ok-catalog.catalog in
    let d = document_of c.in_ok-catalog.plan in
    let read = c.in_ok-catalog.ensures.read in
    let p = err_from_is_err_and c.from_residual-in_err-typed.result c.from_residual-in_err-typed.ensures.1 in
    rw (p.1, p.2) (for_contents (planning_fails (catalog_at files input paths) (plan_at files input paths) catalog d (Ok d) c.in_err-typed.field-0.0 read.catalog
    (λ P h. known_as files input paths d P read.plan h) refl c.in_err-typed.ensures))

pub returns-clause-planned : goal.returns-clause-planned
returns-clause-planned g c =
    let files = g.F.Store.holds c.args.files.now in
    let input = g.I.ByteIn.remaining c.args.input.now in
    let paths = paths_are c.args.sources in
    let catalog = c.in_ok-catalog.catalog in
    let d = document_of c.in_ok-catalog.plan in
    let read = c.in_ok-catalog.ensures.read in
    is_planned (catalog_at files input paths) (plan_at files input paths) catalog d (Ok d) (resolved_of c.in_ok-typed.typed) read.catalog
    (λ P h. known_as files input paths d P read.plan h) refl c.in_ok-typed.ensures
