use Rattle.std.proofs.Common.{rules, ◌≡◌, Some, ap}
use Rattle.std.proofs.lemmas.Result.{IfOk-weaker}
use Rattle.std.specs.Prelude.{IfOk}
use Rattle.volcano_bundle.specs.Bundle.{bundle_of_text}
use Rattle.volcano_bundle.specs.BundleView.{bundle_form}
use Rattle.volcano_stats.specs.Phases.{phases_of, times_in}
use Rattle.volcano_answer.specs.Made.{IsRunReport}
use Rattle.volcano_answer.proofs.Outputs.{runs_it, bytes_run}
use Rattle.volcano_answer.proofs.bundle.answer_bytes.Goals as goal

pub returns-clause-text : goal.returns-clause-text
returns-clause-text g c =
    let b = bundle_form c.in-Some-2.bundle in
    let is : bundle_of_text c.args.bytes.now ≡ Some b = search rules in
    IfOk-weaker c.answer_bundle.result _ _ (λ text h. (b, is, h)) c.answer_bundle.ensures.text

pub returns-clause-run : goal.returns-clause-run
returns-clause-run g c =
    let b = bundle_form c.in-Some-2.bundle in
    let is : bundle_of_text c.args.bytes.now ≡ Some b = search rules in
    bytes_run (g.R.Runs.counted c.args.services.now.engine.now) c.args.services.now.layout c.args.form c.answer_bundle.result c.args.bytes.now b (phases_of (times_in c.start-timer.result)) (phases_of (times_in c.end.new.self)) is
    (ap phases_of c.start-timer.ensures) c.in_ok-end.ensures c.answer_bundle.ensures.run

pub returns-clause-runs : goal.returns-clause-runs
returns-clause-runs g c =
    let b = bundle_form c.in-Some-2.bundle in
    let is : bundle_of_text c.args.bytes.now ≡ Some b = search rules in
    runs_it c.args.bytes.now b (IfOk c.answer_bundle.result IsRunReport) is c.answer_bundle.ensures.runs
