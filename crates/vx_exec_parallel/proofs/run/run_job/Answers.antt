use Rattle.std.proofs.Common.{◌∙◌, refl, inl, inr, rules, subst}
use Rattle.vx_plan_nodes.specs.Types.{types_of}
use Rattle.vx_check_rules.specs.Checked.{relations}
use Rattle.vx_plan_nodes.specs.Workers.{crew_size}
use Rattle.vx_exec.specs.Counts.{AreCountsOf}
use Rattle.vx_exec_setup.specs.Counts.{counts_in}
use Rattle.vx_exec.specs.Job.{model_of, sizes_of, job_plan}
use Rattle.vx_exec.specs.Promise.{PromiseOnceSet}
use Rattle.vx_exec.proofs.Finishing.{job-accepted, ready-parts, ready-count, has-ended, first-types, not-passed, comes-kept}
use Rattle.vx_exec_runs.specs.Promise.{NoThreadStarted}
use Rattle.vx_exec_parallel.specs.Parallel.{NeedsFew, IsJoinedCrew, RanByThreads, CountedByThreads}
use Rattle.vx_exec.proofs.Outcomes.{comes-whole}
use Rattle.vx_exec_parallel.proofs.Ends.{new-parts, refusal-reported, ran-reported, counted-reported, same-count, none-asked}
use Rattle.vx_exec_parallel.proofs.run.run_job.Goals as goal

pub run_crew-requires-clause-new : goal.run_crew-requires-clause-new
run_crew-requires-clause-new g c = λ κs lives.
    let parts = c.into_parts-workers in
    new-parts g.F.PlanFunctions c.args.job.now c.in_ok-crew.crew parts.result.0 parts.result.1 parts.ensures.workers parts.ensures.links c.in_ok-crew.ensures.ready c.in_ok-crew.ensures.new

pub answer_of-requires : goal.answer_of-requires
answer_of-requires g c =
    let given = g.F.PlanFunctions in
    let j = c.args.job.now in
    let hash = g.R.Router.route_of c.args.router.now in
    let laws = g.met.R.Router g.world.𝓛 g.world.𝓜 g.world.𝓡 ((λ s x. x), (λ x. x), (λ x. x), λ x. x) in
    let parts = c.into_parts-workers in
    let ok = job-accepted given j hash (laws.in_range c.args.router.now) c.meets.ensures c.requires.allowed c.requires.root in
    let begun = ready-parts given j hash ok c.in_ok-crew.crew parts.result.0 parts.result.1 parts.ensures.workers parts.ensures.links (c.in_ok-crew.ensures.ready hash) c.in_ok-crew.ensures.new in
    let x = c.in_ok-ended.ended in
    let ran = c.in_ok-ended.ensures.run ok in
    let run = has-ended given j hash parts.result.0.items x.0.items parts.result.1 x.1 begun ran.roles ran.answers ran.first in
    record {
      there = λ e. run.keeps.some;
      keeps = λ e d. (types_of (relations j.plan.now) (job_plan given j), first-types run d);
      own = not-passed x.1 run;
    }

pub returns : goal.returns
returns g c =
    let given = g.F.PlanFunctions in
    let j = c.args.job.now in
    let hash = g.R.Router.route_of c.args.router.now in
    let W = model_of hash j in
    let p = job_plan given j in
    let laws = g.met.R.Router g.world.𝓛 g.world.𝓜 g.world.𝓡 ((λ s x. x), (λ x. x), (λ x. x), λ x. x) in
    let parts = c.into_parts-workers in
    let ok = job-accepted given j hash (laws.in_range c.args.router.now) c.meets.ensures c.requires.allowed c.requires.root in
    let begun = ready-parts given j hash ok c.in_ok-crew.crew parts.result.0 parts.result.1 parts.ensures.workers parts.ensures.links (c.in_ok-crew.ensures.ready hash) c.in_ok-crew.ensures.new in
    let x = c.in_ok-ended.ended in
    let ran = c.in_ok-ended.ensures.run ok in
    let run = has-ended given j hash parts.result.0.items x.0.items parts.result.1 x.1 begun ran.roles ran.answers ran.first in
    let r = c.answer_of.result in
    let count = ready-count given j hash parts.result.0 parts.result.1 begun in
    let crew : IsJoinedCrew given hash W p r = record {
      ended = x.0.items;
      as_many = same-count given parts.result.0 x.0.items ran.roles ∙ count;
      verdict = x.1;
      joined = c.in_ok-ended.ensures.joined;
      judged = c.in_ok-ended.ensures.judged;
      comes = c.answer_of.ensures;
    } in
    record {
      run = comes-kept NoThreadStarted x.1 r run c.answer_of.ensures;
      whole = comes-whole x.0.items x.1 r ran.whole c.answer_of.ensures;
      few = none-asked c.args.most (crew_size W.sizes p) c.len.result r (c.len.ensures ∙ count) c.if-len-most.false;
      joined = ran-reported given hash W p r crew;
      counted = λ wanted.
          counted-reported given hash W p r (counts_in c.keep_counts.new.counts) (record {
            run = crew;
            counted = subst (λ ws. AreCountsOf ws (counts_in c.keep_counts.new.counts)) c.as_slice.ensures.value (c.in_ok-keep_counts.ensures.counts wanted);
          });
    }

pub returns-in_err-ended : goal.returns-in_err-ended
returns-in_err-ended g c =
    let given = g.F.PlanFunctions in
    let j = c.args.job.now in
    let hash = g.R.Router.route_of c.args.router.now in
    let W = model_of hash j in
    let p = job_plan given j in
    let r = c.from_residual-in_err-ended.result in
    let e = c.in_err-ended.field-0.0 in
    let handed = c.from_residual-in_err-ended.ensures.1 in
    let refused = c.in_err-ended.ensures.fault in
    record {
      run = refusal-reported (λ z. PromiseOnceSet hash (given.functions j.functions) NoThreadStarted j.plan.now j.database.now (sizes_of j) z) r e handed refused
          (record { done = tt; failed = inl tt; first = inl (inl refl) }) (record { done = tt; failed = inr refl; first = inr refl });
      whole = search rules;
      few = refusal-reported (λ z. NeedsFew c.args.most (crew_size W.sizes p) z) r e handed refused (λ few. inr refl) (λ few. inl refl);
      joined = refusal-reported (λ z. RanByThreads given hash W p z) r e handed refused (inl refl) (inr (inl refl));
      counted = λ wanted. refusal-reported (λ z. CountedByThreads given hash W p z (counts_in c.args.counts.now)) r e handed refused (inl refl) (inr (inl refl));
    }
