use Rattle.std.proofs.Common.{[], map, inl}
use Rattle.std.proofs.lemmas.Result.{IfOk-weaker}
use Rattle.vx_plan_nodes.specs.TypedView.{resolved_of}
use Rattle.vx_check_failures.specs.FailureView.{failure_is}
use Rattle.vx_check_causes.proofs.CauseFacts.{causes-named, none-named, named-count, are-none}
use Rattle.vx_check_causes.proofs.finding.causes.Goals as goal

pub returns-in-Some-clause-named : goal.returns-in-Some-clause-named
returns-in-Some-clause-named c =
    IfOk-weaker c.causes_by.result _ _ (λ v h. rw h (causes-named (resolved_of c.args.typed.now) (resolved_of c.in-Some.claimed) [] (map failure_is c.args.failures.now) c.args.typed.now.numbered)) c.causes_by.ensures

pub returns-in-Some-clause-count : goal.returns-in-Some-clause-count
returns-in-Some-clause-count c =
    IfOk-weaker c.causes_by.result _ _ (λ v h. named-count (resolved_of c.args.typed.now).root c.args.failures.now v.items h) (returns-in-Some-clause-named c)

pub returns-in-None-clause-named : goal.returns-in-None-clause-named
returns-in-None-clause-named c =
    IfOk-weaker c.no_causes.result _ _ (λ v h. rw (are-none c.args.failures.now v.items h) (none-named (resolved_of c.args.typed.now).root [] (map failure_is c.args.failures.now))) c.no_causes.ensures

pub returns-in-None-clause-count : goal.returns-in-None-clause-count
returns-in-None-clause-count c =
    IfOk-weaker c.no_causes.result _ _ (λ v h. named-count (resolved_of c.args.typed.now).root c.args.failures.now v.items h) (returns-in-None-clause-named c)

pub returns-in-None-clause-causes : goal.returns-in-None-clause-causes
returns-in-None-clause-causes c =
    let none = rw c.in-None.is at c.in_ok-claimed.ensures in
    IfOk-weaker c.no_causes.result _ _ (λ v h. inl (none, are-none c.args.failures.now v.items h)) c.no_causes.ensures
