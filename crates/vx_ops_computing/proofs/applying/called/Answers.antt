use Rattle.std.proofs.Common.{◌≡◌, List, Option}
use Rattle.std.proofs.lemmas.Result.{IfOk-weaker}
use Rattle.vx_functions.specs.Standard.{meaning}
use Rattle.vx_rows_values.specs.Values.{Val}
use Rattle.vx_plan_nodes.specs.Functions.{Functions, AnswersAreTyped}
use Rattle.vx_ops_computing.specs.Called.{IsCalled, CallOverflows}
use Rattle.vx_ops_computing.proofs.Blaming.{err-blames}
use Rattle.vx_ops_computing.proofs.CallFacts.{answers-typed, answers-as, called-as, overflows-as}
use Rattle.vx_ops_computing.proofs.applying.called.Goals as goal

pub applied-requires-clause-typed : goal.applied-requires-clause-typed
applied-requires-clause-typed g c =
    let given : Functions = g.F.PlanFunctions.functions c.args.functions.now in
    let law : AnswersAreTyped given = g.met.F.PlanFunctions.typed c.args.functions.now in
    let f = c.in-Some.function in
    let says : List Val → Option Val = (given c.args.name.now).answer in
    let same : (values : List Val) → says values ≡ meaning f values = rw c.in-Some.is at c.standard.ensures in
    answers-as says (meaning f) same c.args.operands.now c.args.count c.args.answer
    (answers-typed given law c.args.name.now c.args.answer c.args.operands.now c.args.count c.requires.whole c.requires.known)

pub applied_by_rows-requires-clause-typed : goal.applied_by_rows-requires-clause-typed
applied_by_rows-requires-clause-typed g c =
    let given : Functions = g.F.PlanFunctions.functions c.args.functions.now in
    let law : AnswersAreTyped given = g.met.F.PlanFunctions.typed c.args.functions.now in
    answers-typed given law c.args.name.now c.args.answer c.args.operands.now c.args.count c.requires.whole c.requires.known

pub returns-in-Some-clause-called : goal.returns-in-Some-clause-called
returns-in-Some-clause-called g c =
    let given : Functions = g.F.PlanFunctions.functions c.args.functions.now in
    let f = c.in-Some.function in
    let says : List Val → Option Val = (given c.args.name.now).answer in
    let same : (values : List Val) → says values ≡ meaning f values = rw c.in-Some.is at c.standard.ensures in
    let os = c.args.operands.now in
    let n = c.args.count in
    let t = c.args.answer in
    IfOk-weaker c.applied.result (IsCalled (meaning f) os n t) (IsCalled says os n t) (called-as says (meaning f) same os n t) c.applied.ensures.applied

pub returns-in-Some-clause-fault : goal.returns-in-Some-clause-fault
returns-in-Some-clause-fault g c =
    let given : Functions = g.F.PlanFunctions.functions c.args.functions.now in
    let f = c.in-Some.function in
    let says : List Val → Option Val = (given c.args.name.now).answer in
    let same : (values : List Val) → says values ≡ meaning f values = rw c.in-Some.is at c.standard.ensures in
    let os = c.args.operands.now in
    let n = c.args.count in
    err-blames (CallOverflows (meaning f) os n) (CallOverflows says os n) c.applied.result (overflows-as says (meaning f) same os n) c.applied.ensures.fault
