use Rattle.std.proofs.Common.{◌≡◌, ◌∙◌, ◌++◌, ◌∷◌, [], ap, subst, arith, map}
use Rattle.std.proofs.lemmas.List.Elements.{All-push, All-same}
use Rattle.vx_rows.specs.Lists.{each_below}
use Rattle.vx_plan_nodes.specs.Outline.{plan_of, kind_of}
use Rattle.vx_plan_nodes.specs.Streams.{workers}
use Rattle.vx_plan_nodes.specs.Under.{under}
use Rattle.vx_plan_nodes.specs.Workers.{worker_group_at}
use Rattle.vx_exec_steps.specs.Crews.{producer_duty}
use Rattle.vx_exec.specs.Crew.{duty, IsNew}
use Rattle.vx_exec.specs.Job.{model_of}
use Rattle.vx_exec.proofs.Each.{each-begun, each-mapped}
use Rattle.vx_exec.proofs.crew.add_producers.Goals as goal

pub loop-place-init : goal.loop-place-init
loop-place-init g c = record {
  duties = λ hash. each-begun (producer_duty (model_of hash c.args.job.now) c.args.exchange (kind_of c.args.kind.now) (under (g.F.PlanFunctions.functions c.args.job.now.functions) (plan_of c.args.node.now))) (map (duty g.F.PlanFunctions) c.args.crew.now.items);
  new = c.requires.new;
}

pub loop-place-preserved : goal.loop-place-preserved
loop-place-preserved g c =
    let made = c.in_ok-producer in
    record {
      duties = λ hash.
          each-mapped (duty g.F.PlanFunctions) (producer_duty (model_of hash c.args.job.now) c.args.exchange (kind_of c.args.kind.now) (under (g.F.PlanFunctions.functions c.args.job.now.functions) (plan_of c.args.node.now))) c.loop-place.place (map (duty g.F.PlanFunctions) c.args.crew.now.items)
          c.loop-place.crew.items c.push.new.self.items made.field-0 c.in_ok-push.ensures.items (made.ensures.duty hash) (c.loop-place.invariant.duties hash);
      new = All-same (IsNew g.F.PlanFunctions c.args.job.now) c.push.new.self.items (c.loop-place.crew.items ++ made.field-0 ∷ []) c.in_ok-push.ensures.items
          (All-push (IsNew g.F.PlanFunctions c.args.job.now) c.loop-place.crew.items made.field-0 c.loop-place.invariant.new made.ensures.new);
    }

pub returns-clause-duties : goal.returns-clause-duties
returns-clause-duties g c = λ hash.
    let job = c.args.job.now in
    let count : c.loop-place.place ≡ c.workers-place-end.result = omega (arith, c.loop-place.auto.place-end, c.loop-place-test.false) in
    subst (λ z. map (duty g.F.PlanFunctions) c.loop-place.crew.items
    ≡ map (duty g.F.PlanFunctions) c.args.crew.now.items ++ each_below z (producer_duty (model_of hash job) c.args.exchange (kind_of c.args.kind.now) (under (g.F.PlanFunctions.functions c.args.job.now.functions) (plan_of c.args.node.now))))
    (count ∙ c.workers-place-end.ensures.value ∙ ap (λ z. workers (worker_group_at job.layout.worker_groups.items) z) c.size.ensures) (c.loop-place.invariant.duties hash)
