use Rattle.std.proofs.Common.{◌<◌, ◌∙◌, subst, sym}
use Rattle.std.specs.List.{All}
use Rattle.vx_exec_layout.specs.Needed.{rounds_needed}
use Rattle.vx_plan_nodes.specs.TypedView.{plan as whole_plan, resolved_of}
use Rattle.vx_plan_nodes.specs.Types.{types_of}
use Rattle.vx_plan_nodes.specs.Workers.{worker_group_at}
use Rattle.vx_plan_nodes.proofs.UnderFacts.{nodes-stay}
use Rattle.vx_exec_steps.specs.Schedules.{HoldsRounds}
use Rattle.vx_exec_runs.specs.Promise.{NothingElse}
use Rattle.vx_exec.specs.Job.{job_plan, model_of}
use Rattle.vx_check_rules.specs.Checked.{relations}
use Rattle.vx_exec.proofs.Outcomes.{steps-reported, comes-whole}
use Rattle.vx_exec.proofs.Finishing.{job-accepted, parts-ready, ready-parts, ready-count, has-run, first-types, not-passed, comes-kept}
use Rattle.vx_exec.proofs.run.schedule_job.Goals as goal

pub judge_schedule-verdict-requires-clause-named : goal.judge_schedule-verdict-requires-clause-named
judge_schedule-verdict-requires-clause-named g c =
    let j = c.args.job.now in
    let given = g.F.PlanFunctions in
    let hash = g.R.Router.route_of c.args.router.now in
    let parts = c.into_parts-workers in
    let ok = job-accepted given j hash (g.met.R.Router.in_range c.args.router.now) c.meets.ensures c.requires.allowed c.requires.root in
    let begun = ready-parts given j hash ok c.in_ok-crew.crew parts.result.0 parts.result.1 parts.ensures.workers parts.ensures.links (c.in_ok-crew.ensures.ready hash) c.in_ok-crew.ensures.new in
    let sizes = worker_group_at j.layout.worker_groups.items in
    subst (λ z. All (λ k. k < z) c.args.steps.now) (sym (ready-count given j hash parts.result.0 parts.result.1 begun ∙ nodes-stay.crews (given.functions j.functions) sizes (whole_plan j.plan.now))) c.requires.named

pub answer_of-requires : goal.answer_of-requires
answer_of-requires g c =
    let j = c.args.job.now in
    let given = g.F.PlanFunctions in
    let hash = g.R.Router.route_of c.args.router.now in
    let parts = c.into_parts-workers in
    let ok = job-accepted given j hash (g.met.R.Router.in_range c.args.router.now) c.meets.ensures c.requires.allowed c.requires.root in
    let begun = ready-parts given j hash ok c.in_ok-crew.crew parts.result.0 parts.result.1 parts.ensures.workers parts.ensures.links (c.in_ok-crew.ensures.ready hash) c.in_ok-crew.ensures.new in
    let end = c.judge_schedule-verdict in
    let run = has-run given j hash parts.result.0.items end.new.workers.items parts.result.1 end.result begun end.ensures.roles end.ensures.answers end.ensures.first in
    record {
      there = λ e. run.keeps.some;
      keeps = λ e d. (types_of (relations j.plan.now) (job_plan given j), first-types run d);
      own = not-passed end.result run;
    }

pub returns : goal.returns
returns g c =
    let j = c.args.job.now in
    let given = g.F.PlanFunctions in
    let hash = g.R.Router.route_of c.args.router.now in
    let parts = c.into_parts-workers in
    let ok = job-accepted given j hash (g.met.R.Router.in_range c.args.router.now) c.meets.ensures c.requires.allowed c.requires.root in
    let begun = ready-parts given j hash ok c.in_ok-crew.crew parts.result.0 parts.result.1 parts.ensures.workers parts.ensures.links (c.in_ok-crew.ensures.ready hash) c.in_ok-crew.ensures.new in
    let end = c.judge_schedule-verdict in
    let run = has-run given j hash parts.result.0.items end.new.workers.items parts.result.1 end.result begun end.ensures.roles end.ensures.answers end.ensures.first in
    let p = job_plan given j in
    let r = c.answer_of.result in
    record {
      run = comes-kept NothingElse end.result r run c.answer_of.ensures;
      scheduled = steps-reported given hash (model_of hash j) p r c.args.steps.now (record {
        begun = parts.result.0.items;
        links = parts.result.1;
        ready = begun.ready;
        ended = end.new.workers.items;
        links_after = end.new.links;
        follows = end.ensures.follows;
        verdict = end.result;
        judged = end.ensures.judged;
        comes = c.answer_of.ensures;
      });
      ends = λ enough.
          comes-whole end.new.workers.items end.result r
          (end.ensures.ends (model_of hash j) (resolved_of j.plan.now).total p begun.accepted begun.ready begun.rested
          (subst (λ z. HoldsRounds (rounds_needed (model_of hash j).db (model_of hash j).sizes p) z c.args.steps.now) (sym (ready-count given j hash parts.result.0 parts.result.1 begun)) enough))
          c.answer_of.ensures;
    }

pub judge_schedule-verdict-requires-clause-ready : goal.judge_schedule-verdict-requires-clause-ready
judge_schedule-verdict-requires-clause-ready g c =
    let parts = c.into_parts-workers in
    parts-ready g.F.PlanFunctions c.args.job.now (g.R.Router.route_of c.args.router.now) c.in_ok-crew.crew parts.result.0 parts.ensures.workers c.in_ok-crew.ensures.new
