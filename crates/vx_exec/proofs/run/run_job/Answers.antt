use Rattle.std.proofs.Common.{subst}
use Rattle.vx_plan_nodes.specs.TypedView.{resolved_of}
use Rattle.vx_plan_nodes.specs.Types.{types_of}
use Rattle.vx_check_rules.specs.Checked.{relations}
use Rattle.vx_exec.specs.Counts.{AreCountsOf}
use Rattle.vx_exec_setup.specs.Counts.{counts_in}
use Rattle.vx_exec.specs.Job.{job_plan, model_of}
use Rattle.vx_exec_runs.specs.Promise.{NothingElse}
use Rattle.vx_exec.specs.Runs.{IsInRounds}
use Rattle.vx_exec.proofs.Outcomes.{rounds-reported, counted-reported, comes-whole}
use Rattle.vx_exec.proofs.Finishing.{job-accepted, parts-ready, ready-parts, has-run, first-types, not-passed, comes-kept}
use Rattle.vx_exec.proofs.run.run_job.Goals as goal

pub answer_of-requires : goal.answer_of-requires
answer_of-requires g c =
    let j = c.args.job.now in
    let given = g.F.PlanFunctions in
    let hash = g.R.Router.route_of c.args.router.now in
    let parts = c.into_parts-workers in
    let ok = job-accepted given j hash (g.met.R.Router.in_range c.args.router.now) c.meets.ensures c.requires.allowed c.requires.root in
    let begun = ready-parts given j hash ok c.in_ok-crew.crew parts.result.0 parts.result.1 parts.ensures.workers parts.ensures.links (c.in_ok-crew.ensures.ready hash) c.in_ok-crew.ensures.new in
    let end = c.judge_rounds-verdict in
    let run = has-run given j hash parts.result.0.items end.new.workers.items parts.result.1 end.result begun end.ensures.roles end.ensures.answers end.ensures.first in
    record {
      there = λ e. run.keeps.some;
      keeps = λ e d. (types_of (relations j.plan.now) (job_plan given j), first-types run d);
      own = not-passed end.result run;
    }

pub returns : goal.returns
returns g c =
    let j = c.args.job.now in
    let given = g.F.PlanFunctions in
    let hash = g.R.Router.route_of c.args.router.now in
    let parts = c.into_parts-workers in
    let ok = job-accepted given j hash (g.met.R.Router.in_range c.args.router.now) c.meets.ensures c.requires.allowed c.requires.root in
    let begun = ready-parts given j hash ok c.in_ok-crew.crew parts.result.0 parts.result.1 parts.ensures.workers parts.ensures.links (c.in_ok-crew.ensures.ready hash) c.in_ok-crew.ensures.new in
    let end = c.judge_rounds-verdict in
    let run = has-run given j hash parts.result.0.items end.new.workers.items parts.result.1 end.result begun end.ensures.roles end.ensures.answers end.ensures.first in
    let rounds : IsInRounds given hash (model_of hash j) (job_plan given j) c.args.limit c.answer_of.result = record {
      begun = parts.result.0.items;
      links = parts.result.1;
      ready = begun.ready;
      ended = end.new.workers.items;
      links_after = end.new.links;
      follows = end.ensures.follows;
      verdict = end.result;
      judged = end.ensures.judged;
      comes = c.answer_of.ensures;
    } in
    record {
      run = comes-kept NothingElse end.result c.answer_of.result run c.answer_of.ensures;
      rounds = rounds-reported given hash (model_of hash j) (job_plan given j) c.answer_of.result c.args.limit rounds;
      counted = λ wanted.
          counted-reported given hash (model_of hash j) (job_plan given j) c.answer_of.result c.args.limit (counts_in c.keep_counts.new.counts)
          (record { run = rounds; counted = subst (λ ws. AreCountsOf ws (counts_in c.keep_counts.new.counts)) c.as_slice.ensures.value (c.in_ok-keep_counts.ensures.counts wanted) });
      ends = λ enough.
          comes-whole end.new.workers.items end.result c.answer_of.result
          (end.ensures.ends (model_of hash j) (resolved_of j.plan.now).total (job_plan given j) begun.accepted begun.ready begun.rested enough) c.answer_of.ensures;
    }

pub judge_rounds-verdict-requires : goal.judge_rounds-verdict-requires
judge_rounds-verdict-requires g c =
    let parts = c.into_parts-workers in
    parts-ready g.F.PlanFunctions c.args.job.now (g.R.Router.route_of c.args.router.now) c.in_ok-crew.crew parts.result.0 parts.ensures.workers c.in_ok-crew.ensures.new
