use Rattle.std.proofs.Common.{◌∙◌, ap, sym, arith}
use Rattle.vx_plan_nodes.specs.DescribeView.{copying_of}
use Rattle.vx_plan_nodes.specs.Outline.{plan_of}
use Rattle.vx_plan_facts.specs.Determined.{column_in}
use Rattle.vx_plan_facts.specs.Equal.{equal_at}
use Rattle.vx_check_rules.proofs.CopySteps.{copy-here, copy-later, copy-none}
use Rattle.vx_check_rules.proofs.carried_orders.copy_of.Goals as goal

pub is_equal_source-requires : goal.is_equal_source-requires
is_equal_source-requires c = (c.requires.0, c.requires.1.known, c.requires.2, λ x e. c.requires.1.reaches c.loop-copy.copy x c.loop-copy-test.true (sym c.source.ensures ∙ e))

pub returns-then-is_equal_source : goal.returns-then-is_equal_source
returns-then-is_equal_source c = λ catalog copies below.
    let e = equal_at catalog (plan_of c.args.input.now) in
    let x = c.args.column in
    let told = c.is_equal_source.ensures catalog copies.known below (λ y s. copies.reaches c.loop-copy.copy y c.loop-copy-test.true (sym c.source.ensures ∙ s)) in
    let is = ap (column_in (λ y. e y x)) (sym c.source.ensures) ∙ sym told ∙ c.if-is_equal_source.true in
    sym (c.loop-copy.invariant catalog copies below ∙ copy-here c.loop-copy.copy c.args.outputs (copying_of c.args.copying) e x c.loop-copy-test.true is)

pub loop-copy-preserved : goal.loop-copy-preserved
loop-copy-preserved c = λ catalog copies below.
    let e = equal_at catalog (plan_of c.args.input.now) in
    let x = c.args.column in
    let told = c.is_equal_source.ensures catalog copies.known below (λ y s. copies.reaches c.loop-copy.copy y c.loop-copy-test.true (sym c.source.ensures ∙ s)) in
    let is = ap (column_in (λ y. e y x)) (sym c.source.ensures) ∙ sym told ∙ c.if-is_equal_source.false in
    c.loop-copy.invariant catalog copies below ∙ copy-later c.loop-copy.copy c.args.outputs (copying_of c.args.copying) e x c.loop-copy-test.true is

pub returns : goal.returns
returns c = λ catalog copies below.
    sym (c.loop-copy.invariant catalog copies below
    ∙ copy-none c.loop-copy.copy c.args.outputs (copying_of c.args.copying) (equal_at catalog (plan_of c.args.input.now)) c.args.column (omega (arith, c.loop-copy-test.false)))
