use Rattle.std.proofs.Common.{◌≡◌, [], ◌∷◌, map, flat_map, refl, sym, ap, ◌∙◌}
use Rattle.std.proofs.lemmas.List.Elements.{All-map}
use Rattle.std.proofs.lemmas.Simd.{map-map}
use Rattle.vx_plan_nodes.specs.Plan.{Plan}
use Rattle.vx_plan_nodes.specs.TypedView.{plan}
use Rattle.vx_plan_nodes.proofs.UnderFacts.{nodes-stay}
use Rattle.vx_exec_layout.specs.Layout.{spans_of}
use Rattle.vx_exec_layout.proofs.UnderFacts.{layout-stays}
use Rattle.vx_exchange_ends.specs.Sending.{RoutesAs}
use Rattle.vx_worker.specs.Fragment.{goes}
use Rattle.vx_worker.specs.Trace.{scan_morsels}
use Rattle.vx_worker.specs.Worker.{Role, role_of}
use Rattle.vx_exec_operators.specs.Operator.{operator_op}
use Rattle.vx_exec_operators.specs.Destination.{post_of, bounds_of}
use Rattle.vx_exec_steps.specs.Crews.{duty_of}
use Rattle.vx_exec.specs.Job.{job_plan, model_of}
use Rattle.vx_exec.specs.Links.{morsels_in, station_in, sends_in, queues_in}
use Rattle.vx_exec.proofs.BySpans.{stations-by-spans, sends-by-spans, queues-by-spans}
use Rattle.vx_exec.proofs.crew.Crew.new.Goals as goal

pub returns-clause-ready : goal.returns-clause-ready
returns-clause-ready g c = λ hash.
    let j = c.args.job.now in
    let S = model_of hash j in
    let given = g.F.PlanFunctions in
    let functions = given.functions j.functions in
    let p : Plan = job_plan given j in
    let ws = c.in_ok-workers.workers.items in
    let new = c.in_ok-workers.ensures.new in
    let laid : c.spans-spans.result.now ≡ spans_of S.sizes p 0 1 = c.spans-spans.ensures ∙ c.layout.ensures.spans ∙ sym (layout-stays.spans functions S.sizes (plan j.plan.now) 0 1) in
    record {
      crew = record {
        numbered = nodes-stay.numbered functions 0 (plan j.plan.now) ∙ j.plan.now.numbered;
        duties = map-map duty_of (role_of (operator_op given) post_of bounds_of) ws ∙ c.in_ok-workers.ensures.duties hash;
        outside = 0;
        sends = c.in_ok-sends.ensures ∙ ap (λ z. 0 ∷ z) (ap (flat_map sends_in) laid ∙ sends-by-spans S p 0 1);
        stations = c.in_ok-stations.ensures ∙ ap (map (station_in (morsels_in j))) laid ∙ stations-by-spans S p 0 1;
        queues = c.in_ok-ports.ensures ∙ ap (λ z. [] ∷ z) (ap (flat_map queues_in) laid ∙ queues-by-spans S p 0 1);
      };
      morsels = refl;
      routes = All-map (λ (r : Role). RoutesAs r.post r.bounds hash (goes S)) (role_of (operator_op given) post_of bounds_of) ws (λ k d l. (new k d l).routes hash);
      fresh = λ k d l. (new k d l).stands (goes S) (scan_morsels S);
    }
