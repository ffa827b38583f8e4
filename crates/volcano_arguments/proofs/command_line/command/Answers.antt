use Rattle.std.proofs.lemmas.Result.{IfOk-weaker}
use Rattle.volcano_arguments.proofs.command_line.command.Goals as goal

pub returns : goal.returns
returns c =
    let run = c.with_command-program.ensures _ _ (c.program.ensures.app, c.program.ensures.local) c.run.ensures in
    let serial = c.with_command-program-2.ensures _ _ run c.serial.ensures in
    let check = c.with_command-program-3.ensures _ _ serial c.check.ensures in
    let explain = c.with_command-program-4.ensures _ _ check c.explain.ensures in
    let annotate = c.with_command-program-5.ensures _ _ explain c.annotate.ensures in
    let sql = c.with_command-program-6.ensures _ _ annotate c.sql.ensures in
    let catalog = c.with_command-program-7.ensures _ _ sql c.catalog.ensures in
    let why = c.with_command-program-8.ensures _ _ catalog c.why.ensures in
    let generate = c.with_command-program-9.ensures _ _ why c.generate.ensures in
    IfOk-weaker c.with_command.result _ _ (λ r h. h.0) (c.with_command.ensures _ _ generate c.bundle.ensures)
