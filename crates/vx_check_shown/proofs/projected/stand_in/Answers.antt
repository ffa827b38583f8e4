use Rattle.std.proofs.Common.{◌≡◌, ◌∙◌, arith}
use Rattle.vx_plan_nodes.specs.Outline.{plan_of}
use Rattle.vx_plan_nodes.specs.Types.{width}
use Rattle.vx_plan_nodes.specs.DescribeView.{copying_of}
use Rattle.vx_plan_facts.specs.Equal.{equal_at}
use Rattle.vx_check_shown.proofs.StandIns.{copy-below}
use Rattle.vx_check_shown.proofs.projected.stand_in.Goals as goal

pub copy_of-requires : goal.copy_of-requires
copy_of-requires c =
    let catalog = c.requires.0 in
    let copies = c.requires.1 in
    let wide : c.width.result ≡ width catalog (plan_of c.args.input.now) = c.width.ensures ∙ (c.facts_of.ensures catalog copies.known).wide in
    (catalog, copies, omega (arith, wide, c.if-column-width.false))

pub returns : goal.returns
returns c =
    let catalog = c.requires.0 in
    let copies = c.requires.1 in
    let p = plan_of c.args.input.now in
    let wide : c.width.result ≡ width catalog p = c.width.ensures ∙ (c.facts_of.ensures catalog copies.known).wide in
    copy-below c.args.outputs (copying_of c.args.copying) (equal_at catalog p) c.args.column c.copy_of.result (c.copy_of.ensures catalog copies (omega (arith, wide, c.if-column-width.false)))
