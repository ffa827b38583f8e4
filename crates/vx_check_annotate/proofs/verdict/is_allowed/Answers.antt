use Rattle.std.proofs.Common.{◌∙◌, is_none, ap, sym, subst}
use Rattle.vx_plan_nodes.specs.TypedView.{resolved_of}
use Rattle.vx_check_rules.specs.FaultView.{IsFaultOf}
use Rattle.vx_check_annotate.proofs.TurnedOutlines.{judged}
use Rattle.vx_check_annotate.proofs.verdict.is_allowed.Goals as goal

pub returns-in-Ok : goal.returns-in-Ok
returns-in-Ok c = sym (ap is_none (sym (judged c.in_ok-direct.field-0 (resolved_of c.args.typed) c.in_ok-direct.ensures) ∙ c.in-Ok.ensures.accepted.0))

pub returns-in-Err-Refused : goal.returns-in-Err-Refused
returns-in-Err-Refused c =
    let fault = subst (IsFaultOf c.in_ok-direct.field-0) c.in-Err-Refused.field-0-is c.in-Err-Refused.ensures.refused in
    sym (ap is_none (sym (judged c.in_ok-direct.field-0 (resolved_of c.args.typed) c.in_ok-direct.ensures) ∙ fault.0))
