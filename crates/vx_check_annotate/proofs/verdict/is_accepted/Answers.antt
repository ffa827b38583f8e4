use Rattle.std.proofs.Common.{sym, ◌∙◌}
use Rattle.std.proofs.lemmas.Result.{IfOk-weaker}
use Rattle.vx_check_annotate.proofs.VerdictFacts.{accepted_so}
use Rattle.vx_check_annotate.proofs.verdict.is_accepted.Goals as goal

pub returns-in-Ok : goal.returns-in-Ok
returns-in-Ok c = IfOk-weaker c.is_allowed.result _ _ (λ b h. h ∙ sym (accepted_so c.args.catalog.now _ _ c.in-Ok.ensures)) c.is_allowed.ensures
