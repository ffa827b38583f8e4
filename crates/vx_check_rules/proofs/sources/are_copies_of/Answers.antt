use Rattle.std.proofs.Common.{◌≡◌, ◌∙◌, Some, sym, eqb, get_or, false, arith}
use Rattle.std.specs.Option.{option_eq}
use Rattle.vx_plan_nodes.specs.Describe.{source}
use Rattle.vx_plan_nodes.specs.DescribeView.{copying_of}
use Rattle.vx_check_rules.proofs.CopyFacts.{stands-length, stands-here, stands-done, not-not}
use Rattle.vx_check_rules.proofs.sources.are_copies_of.Goals as goal

pub returns-then-columns-inputs : goal.returns-then-columns-inputs
returns-then-columns-inputs c = sym (stands-length (copying_of c.args.copying) c.args.columns.now c.args.inputs.now c.if-columns-inputs.true)

pub returns-then-ne : goal.returns-then-ne
returns-then-ne c =
    let k = copying_of c.args.copying in
    let here = stands-here k c.args.columns.now c.args.inputs.now c.loop-i.i c.loop-i-test.true (omega arith) in
    let other : option_eq eqb (source k (get_or c.args.columns.now c.loop-i.i 0)) (Some (get_or c.args.inputs.now c.loop-i.i 0)) ≡ false = rw c.source.ensures at (not-not _ _ c.ne.ensures c.if-ne.true) in
    sym (sym c.loop-i.invariant.rest ∙ rw other at here)

pub returns : goal.returns
returns c =
    sym (sym c.loop-i.invariant.rest ∙ stands-done (copying_of c.args.copying) c.args.columns.now c.args.inputs.now c.loop-i.i c.loop-i-test.false (omega arith))
