use Rattle.std.proofs.Common.{refl}
use Rattle.vx_plan_nodes.specs.TypedView.{resolved_of}
use Rattle.vx_plan_json.specs.PlanView.{document_of}
use Rattle.vx_check_annotate.proofs.DerivedPlans.{bare-plan}
use Rattle.vx_check_annotate.proofs.found_plan.keyed_plan.Goals as goal

pub keyed-requires : goal.keyed-requires
keyed-requires c =
    let d = document_of c.args.plan in
    let is = c.claimed_plan-plan.ensures.bare c.new.ensures.items refl in
    (d, bare-plan c.args.catalog.now d (document_of c.claimed_plan-plan.result) (resolved_of c.in_ok-typed.typed) c.len-relations.ensures.fine c.args.plan.formed is c.claimed_plan-plan.ensures.same c.in_ok-typed.ensures)

pub settled-requires : goal.settled-requires
settled-requires c =
    let d = document_of c.args.plan in
    let is = c.claimed_plan-plan.ensures.bare c.new.ensures.items refl in
    let has = bare-plan c.args.catalog.now d (document_of c.claimed_plan-plan.result) (resolved_of c.in_ok-typed.typed) c.len-relations.ensures.fine c.args.plan.formed is c.claimed_plan-plan.ensures.same c.in_ok-typed.ensures in
    (d, c.in_ok-first.ensures d has)

pub returns-clause-keys : goal.returns-clause-keys
returns-clause-keys c =
    let d = document_of c.args.plan in
    let is = c.claimed_plan-plan.ensures.bare c.new.ensures.items refl in
    let has = bare-plan c.args.catalog.now d (document_of c.claimed_plan-plan.result) (resolved_of c.in_ok-typed.typed) c.len-relations.ensures.fine c.args.plan.formed is c.claimed_plan-plan.ensures.same c.in_ok-typed.ensures in
    c.in_ok-settled.ensures d (c.in_ok-first.ensures d has)
