use denote.Exit.{yes}
use denote.Param.Send.{param_send, arg_send, param_sync, arg_sync}
use Rattle.std.proofs.Common.{◌≡◌, List, length, refl, ap, sym, ◌∙◌, subst, arith}
use Rattle.std.specs.List.{All}
use Rattle.vx_plan_nodes.specs.declared.functions.PlanFunctions.{Ghosts}
use Rattle.vx_plan_nodes.specs.Plan.{Plan}
use Rattle.vx_plan_nodes.specs.Numbering.{nodes}
use Rattle.vx_plan_nodes.specs.TypedView.{plan as whole_plan, resolved_of}
use Rattle.vx_worker.specs.Trace.{scan_morsels}
use Rattle.vx_plan_nodes.specs.Workers.{worker_group_at}
use Rattle.vx_exec_layout.specs.Layout.{spans_of}
use Rattle.vx_exec_layout.specs.declared.layout.Layout.{Layout}
use Rattle.vx_exec_layout.specs.declared.span.NodeSpan.{NodeSpan}
use Rattle.vx_exec_layout.proofs.Spans.{spans-count}
use Rattle.vx_exec_assembly.specs.Spans.{IsSmall}
use Rattle.vx_exec_assembly.proofs.Spanning.{small-spans}
use Rattle.vx_exec.specs.Job.{model_of, job_plan}
use Rattle.vx_exec.specs.declared.job.Job.{Job}
use Rattle.vx_exec_parallel.proofs.Crews.{few-members, as-many-ends, as-many-places, members-ready, were-run, were-joined, have-run}
use Rattle.vx_exec_parallel.proofs.Crossing.{operator, job}
use Rattle.vx_exec_parallel.proofs.Wirings.{laid-under}
use Rattle.vx_exec_parallel.proofs.run.run_crew.Goals as goal

-- the layout that a job has is its plan's
laid-as : {F : Type 0} (given : Ghosts F) (j : Job F) (l : Layout) → l ≡ j.layout → l.spans.items ≡ spans_of (worker_group_at j.layout.worker_groups.items) (whole_plan j.plan.now) 0 1
    → l.spans.items ≡ spans_of (worker_group_at l.worker_groups.items) (job_plan given j) 0 1
laid-as given j l same laid =
    laid-under given j l.spans.items laid ∙ ap (λ (x : Layout). spans_of (worker_group_at x.worker_groups.items) (job_plan given j) 0 1) (sym same)

pub places_of-requires : goal.places_of-requires
places_of-requires g c =
    let j = c.args.job.now in
    let p : Plan = whole_plan j.plan.now in
    let count : length c.layout-layout.result.now.spans.items ≡ nodes p =
    ap (λ (z : List NodeSpan). length z) c.layout-layout.ensures.spans ∙ spans-count (worker_group_at j.layout.worker_groups.items) p 0 1 in
    let few = j.plan.now.few_nodes in
    omega (arith, count, few)

pub members_of-requires : goal.members_of-requires
members_of-requires g c =
    let given = g.F.PlanFunctions in
    let j = c.args.job.now in
    let hash = g.R.Router.route_of c.args.router.now in
    let laid = laid-under given j c.layout-layout.result.now.spans.items c.layout-layout.ensures.spans in
    let many = as-many-places given j hash c.args.workers.items c.in_ok-seats.seats.items c.as_slice.result.now c.layout-layout.result.now.spans.items c.requires.new
    laid c.as_slice.ensures.value c.in_ok-seats.ensures in
    let few = few-members given j hash c.args.workers.items c.requires.new in
    record {
      ends = as-many-ends given j hash c.args.workers.items c.args.wiring c.requires.new c.requires.wired;
      places = many;
      few = omega (arith, many, few);
    }

pub run_in_threads-requires-send-O : goal.run_in_threads-requires-send-O
run_in_threads-requires-send-O g c κs within = param_send 0 _ (arg_send _ yes _ (operator _ g.F.PlanFunctions c.type_bounds.send-F))

pub run_in_threads-requires-sync-G : goal.run_in_threads-requires-sync-G
run_in_threads-requires-sync-G g c κs within = param_sync 2 _ (arg_sync _ yes _ (job _ _ c.type_bounds.sync-F))

pub run_in_threads-requires-after_bounds : goal.run_in_threads-requires-after_bounds
run_in_threads-requires-after_bounds g c κs within =
    members-ready g.F.PlanFunctions c.args.job.now c.args.workers.items c.args.wiring c.in_ok-members.members.items c.requires.new c.requires.wired c.in_ok-members.ensures.workers
    c.in_ok-members.ensures.ends

pub assemble-requires : goal.assemble-requires
assemble-requires g c =
    let given = g.F.PlanFunctions in
    let j = c.args.job.now in
    let hash = g.R.Router.route_of c.args.router.now in
    let W = model_of hash j in
    let p : Plan = job_plan given j in
    let l : Layout = c.layout-layout.result.now in
    let same = c.layout-layout.ensures.value in
    record {
      small = subst (λ (z : List NodeSpan). All IsSmall z) (sym c.layout-layout.ensures.spans) (small-spans j.layout.worker_groups.items j.within.worker_groups (whole_plan j.plan.now) 0 1 (omega arith) j.few_workers);
      ran = (
        hash,
        scan_morsels W,
        W,
        p,
        ap (λ (x : Layout). worker_group_at x.worker_groups.items) (sym same),
        laid-as given j l same c.layout-layout.ensures.spans,
        were-run given j hash c.args.workers.items c.args.wiring c.in_ok-members.members.items c.in_ok-joined.joined.items p c.as_slice-2.result.now c.requires.new c.requires.wired
            c.in_ok-members.ensures.workers c.in_ok-members.ensures.ends refl c.as_slice-2.ensures.value c.in_ok-joined.ensures.honest,
      );
    }

pub returns-clause-run : goal.returns-clause-run
returns-clause-run g c = λ ok.
    let given = g.F.PlanFunctions in
    let j = c.args.job.now in
    let hash = g.R.Router.route_of c.args.router.now in
    let W = model_of hash j in
    let m = scan_morsels W in
    let p : Plan = job_plan given j in
    let same = c.layout-layout.ensures.value in
    let sizes = ap (λ (x : Layout). worker_group_at x.worker_groups.items) (sym same) in
    let laid = laid-as given j c.layout-layout.result.now same c.layout-layout.ensures.spans in
    let ws = c.args.workers.items in
    let cs = c.in_ok-members.members.items in
    let js = c.in_ok-joined.joined.items in
    let x = c.in_ok-ended.ended in
    let total = (resolved_of j.plan.now).total in
    let was = were-run given j hash ws c.args.wiring cs js p c.as_slice-2.result.now c.requires.new c.requires.wired
    c.in_ok-members.ensures.workers c.in_ok-members.ensures.ends refl c.as_slice-2.ensures.value c.in_ok-joined.ensures.honest in
    have-run given j hash ws x.0.items cs js p x.1 c.in_ok-members.ensures.workers refl c.in_ok-ended.ensures.workers c.in_ok-joined.ensures.honest
    (c.in_ok-ended.ensures.answers hash m W p total sizes laid was ok) (c.in_ok-ended.ensures.first hash m W p total sizes laid was ok)
    (c.in_ok-ended.ensures.whole hash m W p sizes laid was)

pub returns-clause-joined : goal.returns-clause-joined
returns-clause-joined g c =
    let given = g.F.PlanFunctions in
    let j = c.args.job.now in
    let hash = g.R.Router.route_of c.args.router.now in
    let W = model_of hash j in
    let m = scan_morsels W in
    let p : Plan = job_plan given j in
    let same = c.layout-layout.ensures.value in
    let sizes = ap (λ (x : Layout). worker_group_at x.worker_groups.items) (sym same) in
    let laid = laid-as given j c.layout-layout.result.now same c.layout-layout.ensures.spans in
    let js = c.in_ok-joined.joined.items in
    let x = c.in_ok-ended.ended in
    let was = were-run given j hash c.args.workers.items c.args.wiring c.in_ok-members.members.items js p c.as_slice-2.result.now c.requires.new c.requires.wired
    c.in_ok-members.ensures.workers c.in_ok-members.ensures.ends refl c.as_slice-2.ensures.value c.in_ok-joined.ensures.honest in
    were-joined given j hash p c.args.wiring.decks.items c.as_slice-2.result.now js x.0.items x.1 refl was c.in_ok-ended.ensures.workers (c.in_ok-ended.ensures.settled hash m W p sizes laid was)
