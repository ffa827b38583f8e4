use Rattle.std.proofs.Common.{◌∙◌, is_some, not, ◌&&◌, sym, ap, drop, Bool, ℕ, ◌+◌, arith}
use Rattle.std.specs.List.{list_all}
use Rattle.std.proofs.lemmas.List.{at_drop_more, at_drop_all}
use Rattle.vx_plan_nodes.specs.Describe.{source}
use Rattle.vx_plan_nodes.specs.DescribeView.{copying_of}
use Rattle.vx_check_rules.proofs.CopyFacts.{copies-all}
use Rattle.vx_check_rules.proofs.sources.are_copies.Goals as goal

pub returns-then-is_none : goal.returns-then-is_none
returns-then-is_none c =
    let k = copying_of c.args.copying in
    let cols = c.args.columns.now in
    let i : ℕ = c.loop-column.column-index in
    let test : ℕ → Bool = λ col. is_some (source k col) in
    let rest : Bool = list_all test (drop (i + 1) cols) in
    let missing = ap is_some (sym c.source.ensures) ∙ c.is_none.ensures ∙ ap not c.if-is_none.true in
    sym (sym (copies-all k cols) ∙ c.loop-column.invariant ∙ at_drop_more (list_all test) cols i 0 c.loop-column-test.true ∙ ap (λ b. b && rest) missing)

pub returns : goal.returns
returns c =
    let k = copying_of c.args.copying in
    let test : ℕ → Bool = λ col. is_some (source k col) in
    sym (sym (copies-all k c.args.columns.now) ∙ c.loop-column.invariant ∙ at_drop_all (list_all test) c.args.columns.now c.loop-column.column-index (omega (arith, c.loop-column-test.false)))
