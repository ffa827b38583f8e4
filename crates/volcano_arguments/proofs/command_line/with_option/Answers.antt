use Rattle.std.proofs.Common.{◌∙◌, ◌||◌, ap₂, Bool}
use Rattle.std.proofs.lemmas.Result.{IfOk-at_ok, IfOk-weaker}
use Rattle.clap.specs.Words.{with_rule}
use Rattle.volcano_arguments.proofs.command_line.with_option.Goals as goal

pub returns : goal.returns
returns c = λ app rule command_is option_is.
    let start = IfOk-at_ok _ c.in_ok-command.was command_is in
    IfOk-weaker c.arg.result _ _
    (λ r h. (h.shape option_is.1 ∙ ap₂ with_rule start.0 option_is.0, h.globals ∙ ap₂ (λ (x y : Bool). x || y) start.1 option_is.1)) c.arg.ensures
