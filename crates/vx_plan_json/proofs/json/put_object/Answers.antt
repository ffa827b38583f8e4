use Rattle.serde_json.proofs.Views.{view-Object}
use Rattle.std.proofs.Common.{rules}
use Rattle.vx_plan_json.proofs.PlainFacts.{some_object}
use Rattle.vx_plan_json.proofs.json.put_object.Goals as goal

pub returns : goal.returns
returns c =
    let put = rw (view-Object c.args.own) at c.put.ensures.ok in
    rw (some_object c.args.key.now c.args.own.entries _ (λ e. search rules)) put
