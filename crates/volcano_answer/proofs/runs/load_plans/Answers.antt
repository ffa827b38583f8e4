use Rattle.std.proofs.Common.{◌≡◌, ◌∙◌, ℕ, List, Option, map, ap, subst}
use Rattle.std.proofs.lemmas.Result.{err_from_is_err_and}
use Rattle.volcano_arguments.specs.Asked.{many_are}
use Rattle.volcano_tables.specs.Folder.{holds_at}
use Rattle.volcano_answer.specs.Files.{is_input, left_of, input_after}
use Rattle.volcano_answer.specs.Plans.{ArePlansAt, AreAccepted, AreNotAccepted, IsLoadedFor, for_reading, for_plans, for_loading}
use Rattle.volcano_answer.specs.PlansView.{plans_are}
use Rattle.volcano_answer.proofs.FileFacts.{same_left}
use Rattle.volcano_stats.specs.Loads.{loads_in, relations_of}
use Rattle.volcano_stats.specs.Phases.{phases_of, times_in}
use Rattle.volcano_answer.proofs.StatsFacts.{seen_all, three_phases}
use Rattle.volcano_answer.proofs.runs.load_plans.Goals as goal

pub returns-in_err-catalog-clause-refused : goal.returns-in_err-catalog-clause-refused
returns-in_err-catalog-clause-refused g c =
    let p = err_from_is_err_and c.from_residual.result c.from_residual.ensures.1 in
    rw (p.1, p.2) (for_reading c.in_err-catalog.ensures.refused)

pub returns-in_err-plans-clause-refused : goal.returns-in_err-plans-clause-refused
returns-in_err-plans-clause-refused g c =
    let files = g.F.Store.holds c.args.files.now in
    let before = g.I.ByteIn.remaining c.args.input.now in
    let after = g.I.ByteIn.remaining c.catalog_under.new.input in
    let paths = many_are c.args.sources.now in
    let left : left_of c.is_input-was_read.result after ≡ input_after before paths.catalog =
    same_left (is_input paths.catalog) c.is_input-was_read.result before after c.is_input-was_read.ensures (λ other. ap (g.I.ByteIn.remaining) (c.in_ok-catalog.ensures.kept other)) in
    let p = err_from_is_err_and c.from_residual-in_err-plans.result c.from_residual-in_err-plans.ensures.1 in
    let named : map (λ p. p.now) c.as_slice-paths.result.now ≡ paths.plans = ap (map (λ p. p.now)) c.as_slice-paths.ensures.value in
    let P : Option (List ℕ) → Type 0 = λ o. AreNotAccepted files (g.F.Store.is_reliable c.args.files.now) o (g.I.ByteIn.has_failed c.accepted_plans.new.input) c.in_ok-catalog.catalog paths.plans c.in_err-plans.field-0.0 in
    let Q : List (List ℕ) → Type 0 = λ ps. AreNotAccepted files (g.F.Store.is_reliable c.args.files.now) (left_of c.is_input-was_read.result after) (g.I.ByteIn.has_failed c.accepted_plans.new.input) c.in_ok-catalog.catalog ps c.in_err-plans.field-0.0 in
    rw (p.1, p.2) (for_plans c.in_ok-catalog.catalog c.in_ok-catalog.ensures.catalog (subst P left (subst Q named c.in_err-plans.ensures.refused)))

pub returns-in_err-database-clause-refused : goal.returns-in_err-database-clause-refused
returns-in_err-database-clause-refused g c =
    let files = g.F.Store.holds c.args.files.now in
    let before = g.I.ByteIn.remaining c.args.input.now in
    let after = g.I.ByteIn.remaining c.catalog_under.new.input in
    let paths = many_are c.args.sources.now in
    let left : left_of c.is_input-was_read.result after ≡ input_after before paths.catalog =
    same_left (is_input paths.catalog) c.is_input-was_read.result before after c.is_input-was_read.ensures (λ other. ap (g.I.ByteIn.remaining) (c.in_ok-catalog.ensures.kept other)) in
    let relations = c.in_ok-catalog.catalog in
    let ns = plans_are c.in_ok-plans.plans in
    let P : Option (List ℕ) → Type 0 = λ o. AreAccepted files o relations ns in
    let planned : ArePlansAt files before paths relations ns = record {
      declares = c.in_ok-catalog.ensures.catalog;
      named = c.in_ok-plans.ensures.named ∙ ap (map (λ p. p.now)) c.as_slice-paths.ensures.value;
      accepted = subst P left c.in_ok-plans.ensures.accepted;
    } in
    let p = err_from_is_err_and c.from_residual-in_err-database.result c.from_residual-in_err-database.ensures.1 in
    rw (p.1, p.2) (for_loading relations ns planned c.in_err-database.ensures.refused)

pub returns-clause-loaded : goal.returns-clause-loaded
returns-clause-loaded g c =
    let files = g.F.Store.holds c.args.files.now in
    let before = g.I.ByteIn.remaining c.args.input.now in
    let after = g.I.ByteIn.remaining c.catalog_under.new.input in
    let paths = many_are c.args.sources.now in
    let left : left_of c.is_input-was_read.result after ≡ input_after before paths.catalog =
    same_left (is_input paths.catalog) c.is_input-was_read.result before after c.is_input-was_read.ensures (λ other. ap (g.I.ByteIn.remaining) (c.in_ok-catalog.ensures.kept other)) in
    let relations = c.in_ok-catalog.catalog in
    let ns = plans_are c.in_ok-plans.plans in
    let P : Option (List ℕ) → Type 0 = λ o. AreAccepted files o relations ns in
    let planned : ArePlansAt files before paths relations ns = record {
      declares = c.in_ok-catalog.ensures.catalog;
      named = c.in_ok-plans.ensures.named ∙ ap (map (λ p. p.now)) c.as_slice-paths.ensures.value;
      accepted = subst P left c.in_ok-plans.ensures.accepted;
    } in
    let loaded : IsLoadedFor relations ns (holds_at files c.args.folder.now) c.in_ok-database.database = record { same = c.in_ok-database.ensures.catalog; filled = c.in_ok-database.ensures.filled } in
    record {
      relations = relations;
      planned = planned;
      loaded = loaded;
      loads = loads_in c.load_scanned_in_threads.new.observer;
      each = seen_all (relations_of (loads_in c.start-loads.result)) (relations_of (loads_in c.load_scanned_in_threads.new.observer)) _ (ap relations_of c.start-loads.ensures) c.in_ok-database.ensures.seen;
      times = times_in c.end-3.new.self;
      phases = three_phases _ _ _ _ _ _ _ (ap phases_of c.start-timer.ensures) c.in_ok-end.ensures c.in_ok-end-2.ensures c.in_ok-end-3.ensures;
      shared = rw (c.times.ensures, c.times-2.ensures) at c.in_ok-common.ensures;
    }
