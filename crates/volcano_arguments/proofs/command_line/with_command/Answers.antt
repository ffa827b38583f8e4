use Rattle.std.proofs.Common.{◌∙◌, ◌||◌, ap, ap₂, Bool}
use Rattle.std.proofs.lemmas.Result.{IfOk-at_ok, IfOk-weaker}
use Rattle.clap.specs.Words.{App, with_subcommand}
use Rattle.volcano_arguments.proofs.command_line.with_command.Goals as goal

pub returns : goal.returns
returns c = λ app sub program_is added_is.
    let so_far = IfOk-at_ok _ c.in_ok-program.was program_is in
    let more = IfOk-at_ok _ c.in_ok-added.was added_is in
    IfOk-weaker c.subcommand.result _ _
    (λ r h. (h.shape more.1 ∙ ap₂ with_subcommand so_far.0 (ap (λ (a : App). a.top) more.0), h.globals ∙ ap₂ (λ (x y : Bool). x || y) so_far.1 more.1)) c.subcommand.ensures
