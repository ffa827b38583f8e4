use Rattle.std.proofs.Common.{◌≡◌, ap, map, sym, subst}
use Rattle.std.proofs.lemmas.Result.{err_from_is_err_and}
use Rattle.volcano_arguments.specs.Asked.{Ask, asked_is, paths_are, many_are, given_is, bundle, find_catalog, run, run_plans}
use Rattle.volcano_answer.specs.Arguments.{IsSetting, IsWrongPart}
use Rattle.volcano_answer.specs.CommandLine.{for_asked_runs, for_found_catalog}
use Rattle.volcano_answer.specs.CommandLineView.{IsAskFault}
use Rattle.volcano_answer.proofs.ArgumentFacts.{no_setting}
use Rattle.volcano_answer.proofs.CommandLineFacts.{usage_fault_asked, catalog_fault_asked}
use Rattle.volcano_answer.proofs.StatsTextFacts.{one_reported, bundle_reported, bundle_runs, run_refused}
use Rattle.volcano_answer.proofs.asked.answer_asked.Goals as goal

pub returns-in_err-report-in-Run-clause-refused : goal.returns-in_err-report-in-Run-clause-refused
returns-in_err-report-in-Run-clause-refused g c =
    let same : asked_is c.args.asked.now ≡ run (paths_are c.in-Run.sources) c.in-Run.folder.now (given_is c.in-Run.given) = ap asked_is c.in-Run.is in
    let set : IsSetting (given_is c.in-Run.given) c.in-Ok.setting = rw c.in-Ok.is at c.in_ok-setting-in-Run.ensures in
    let p = err_from_is_err_and c.from_residual-in_err-report-in-Run.result c.from_residual-in_err-report-in-Run.ensures.1 in
    rw (p.1, p.2)
    (run_refused (g.F.Store.holds c.args.files.now) (g.F.Store.is_reliable c.args.files.now) (g.I.ByteIn.remaining c.args.input.now) (g.I.ByteIn.has_failed c.run_task.new.input)
    (asked_is c.args.asked.now) (paths_are c.in-Run.sources) c.in-Run.folder.now (given_is c.in-Run.given) c.in-Ok.setting c.in_err-report-in-Run.field-0.0 same set c.in_err-report-in-Run.ensures.refused)

pub returns-in_err-loaded-in-RunPlans-clause-refused : goal.returns-in_err-loaded-in-RunPlans-clause-refused
returns-in_err-loaded-in-RunPlans-clause-refused g c =
    let same : asked_is c.args.asked.now ≡ run_plans (many_are c.in-RunPlans.sources) c.in-RunPlans.folder.now (given_is c.in-RunPlans.given) = ap asked_is c.in-RunPlans.is in
    let set : IsSetting (given_is c.in-RunPlans.given) c.in-Ok-2.setting = rw c.in-Ok-2.is at c.in_ok-setting-in-RunPlans.ensures in
    let p = err_from_is_err_and c.from_residual-in_err-loaded-in-RunPlans.result c.from_residual-in_err-loaded-in-RunPlans.ensures.1 in
    rw (p.1, p.2) (for_asked_runs (many_are c.in-RunPlans.sources) c.in-RunPlans.folder.now (given_is c.in-RunPlans.given) c.in-Ok-2.setting same set c.in_err-loaded-in-RunPlans.ensures.refused)

pub returns-in_ok-report-in-Run-clause-answer : goal.returns-in_ok-report-in-Run-clause-answer
returns-in_ok-report-in-Run-clause-answer g c =
    let same : asked_is c.args.asked.now ≡ run (paths_are c.in-Run.sources) c.in-Run.folder.now (given_is c.in-Run.given) = ap asked_is c.in-Run.is in
    let set : IsSetting (given_is c.in-Run.given) c.in-Ok.setting = rw c.in-Ok.is at c.in_ok-setting-in-Run.ensures in
    let report = c.in_ok-report-in-Run in
    rw c.answer_of.ensures.is (one_reported (g.R.Runs.counted c.args.services.now.engine.now) c.args.services.now.layout (g.F.Store.holds c.args.files.now) (g.I.ByteIn.remaining c.args.input.now) c.args.form (asked_is c.args.asked.now)
    (paths_are c.in-Run.sources) c.in-Run.folder.now (given_is c.in-Run.given) c.in-Ok.setting report.report same set report.ensures.stats)

pub returns-in_ok-loaded-in-RunPlans-clause-answer : goal.returns-in_ok-loaded-in-RunPlans-clause-answer
returns-in_ok-loaded-in-RunPlans-clause-answer g c =
    let same : asked_is c.args.asked.now ≡ run_plans (many_are c.in-RunPlans.sources) c.in-RunPlans.folder.now (given_is c.in-RunPlans.given) = ap asked_is c.in-RunPlans.is in
    let set : IsSetting (given_is c.in-RunPlans.given) c.in-Ok-2.setting = rw c.in-Ok-2.is at c.in_ok-setting-in-RunPlans.ensures in
    let loaded = c.in_ok-loaded-in-RunPlans in (
      record {
        paths = many_are c.in-RunPlans.sources;
        folder = c.in-RunPlans.folder.now;
        given = given_is c.in-RunPlans.given;
        asked = same;
        set = rw loaded.ensures.setting set;
        held = loaded.ensures.loaded;
      },
      loaded.ensures.layout,
    )

pub returns-in_ok-made-in-Bundle-clause-answer : goal.returns-in_ok-made-in-Bundle-clause-answer
returns-in_ok-made-in-Bundle-clause-answer g c =
    let same : asked_is c.args.asked.now ≡ bundle = ap asked_is c.in-Bundle.is in
    rw c.answer_made.ensures.is (bundle_reported (g.R.Runs.counted c.args.services.now.engine.now) c.args.services.now.layout (g.F.Store.holds c.args.files.now) (g.I.ByteIn.remaining c.args.input.now) c.args.form (asked_is c.args.asked.now)
    c.in_ok-made-in-Bundle.made same c.in_ok-made-in-Bundle.ensures.text c.in_ok-made-in-Bundle.ensures.run)

pub returns-in_ok-made-in-Bundle-clause-stats : goal.returns-in_ok-made-in-Bundle-clause-stats
returns-in_ok-made-in-Bundle-clause-stats g c = λ f form asks.
    let same : asked_is c.args.asked.now ≡ bundle = ap asked_is c.in-Bundle.is in
    c.answer_made.ensures.stats f form (bundle_runs (g.I.ByteIn.remaining c.args.input.now) (asked_is c.args.asked.now) c.in_ok-made-in-Bundle.made same c.in_ok-made-in-Bundle.ensures.runs asks)

pub returns-in-Err-clause-refused : goal.returns-in-Err-clause-refused
returns-in-Err-clause-refused g c =
    let ask : Ask = run (paths_are c.in-Run.sources) c.in-Run.folder.now (given_is c.in-Run.given) in
    let same : asked_is c.args.asked.now ≡ ask = ap asked_is c.in-Run.is in
    let wrong : IsWrongPart (given_is c.in-Run.given) c.in-Err.wrong.before.now c.in-Err.wrong.argument.now = rw c.in-Err.is at c.in_ok-setting-in-Run.ensures in
    let files = g.F.Store.holds c.args.files.now in
    let reliable = g.F.Store.is_reliable c.args.files.now in
    let input = g.I.ByteIn.remaining c.args.input.now in
    let failed = g.I.ByteIn.has_failed c.args.input.now in
    let Refuses : Ask → Type 0 = λ a. IsAskFault files reliable input failed a c.usage_fault.result in
    subst Refuses (sym same) (usage_fault_asked files reliable input failed ask c.in-Err.wrong.before.now c.in-Err.wrong.argument.now c.in-Err.wrong.after.now c.usage_fault.result
    (no_setting (given_is c.in-Run.given) c.in-Err.wrong.before.now c.in-Err.wrong.argument.now wrong) wrong c.usage_fault.ensures)

pub returns-in-Err-2-clause-refused : goal.returns-in-Err-2-clause-refused
returns-in-Err-2-clause-refused g c =
    let ask : Ask = run_plans (many_are c.in-RunPlans.sources) c.in-RunPlans.folder.now (given_is c.in-RunPlans.given) in
    let same : asked_is c.args.asked.now ≡ ask = ap asked_is c.in-RunPlans.is in
    let wrong : IsWrongPart (given_is c.in-RunPlans.given) c.in-Err-2.wrong.before.now c.in-Err-2.wrong.argument.now = rw c.in-Err-2.is at c.in_ok-setting-in-RunPlans.ensures in
    let files = g.F.Store.holds c.args.files.now in
    let reliable = g.F.Store.is_reliable c.args.files.now in
    let input = g.I.ByteIn.remaining c.args.input.now in
    let failed = g.I.ByteIn.has_failed c.args.input.now in
    let Refuses : Ask → Type 0 = λ a. IsAskFault files reliable input failed a c.usage_fault-in-Err-2.result in
    subst Refuses (sym same) (usage_fault_asked files reliable input failed ask c.in-Err-2.wrong.before.now c.in-Err-2.wrong.argument.now c.in-Err-2.wrong.after.now c.usage_fault-in-Err-2.result
    (no_setting (given_is c.in-RunPlans.given) c.in-Err-2.wrong.before.now c.in-Err-2.wrong.argument.now wrong) wrong c.usage_fault-in-Err-2.ensures)

pub returns-in_err-text-in-Catalog-clause-refused : goal.returns-in_err-text-in-Catalog-clause-refused
returns-in_err-text-in-Catalog-clause-refused g c =
    let paths = map (λ p. p.now) c.in-Catalog.paths.items in
    let same : asked_is c.args.asked.now ≡ find_catalog paths c.in-Catalog._quiet = ap asked_is c.in-Catalog.is in
    let p = err_from_is_err_and c.from_residual-in_err-text-in-Catalog.result c.from_residual-in_err-text-in-Catalog.ensures.1 in
    let bad = rw c.as_slice.ensures.value at c.in_err-text-in-Catalog.ensures.refused in
    rw (p.1, p.2)
    (catalog_fault_asked (g.F.Store.holds c.args.files.now) (g.F.Store.is_reliable c.args.files.now) (g.I.ByteIn.remaining c.args.input.now) (g.I.ByteIn.has_failed c.args.input.now)
    (asked_is c.args.asked.now) paths c.in-Catalog._quiet c.in_err-text-in-Catalog.field-0.0 same bad)

pub returns-in_ok-text-in-Catalog-clause-answer : goal.returns-in_ok-text-in-Catalog-clause-answer
returns-in_ok-text-in-Catalog-clause-answer g c =
    let paths = map (λ p. p.now) c.in-Catalog.paths.items in
    let same : asked_is c.args.asked.now ≡ find_catalog paths c.in-Catalog._quiet = ap asked_is c.in-Catalog.is in
    rw c.from.ensures (for_found_catalog paths c.in-Catalog._quiet same (rw c.as_slice.ensures.value at c.in_ok-text-in-Catalog.ensures.text))
