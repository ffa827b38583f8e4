use Rattle.std.proofs.Common.{◌≡◌, ◌∙◌, ℕ, Bool}
use Rattle.vx_plan_nodes.specs.Describe.{source}
use Rattle.vx_plan_nodes.specs.DescribeView.{copying_of}
use Rattle.vx_check_rules.specs.Behaviour.{is_column}
use Rattle.vx_check_options.proofs.CopyLists.{is_source, kept_here, left_here}
use Rattle.vx_check_options.proofs.choices.copies_among.Goals as goal
use Rattle.vx_check_options.proofs.choices.copies_among.Goals.{then-eq+in_ok-push, else-eq}

pub loop-column-preserved : goal.loop-column-preserved
loop-column-preserved c =
    let test : ℕ → Bool = λ d. is_column (source (copying_of c.args.copying) d) c.args.input in
    let n : ℕ = c.loop-column.column in
    let is : c.eq.result ≡ test n = (rw c.source.ensures at c.eq.ensures) ∙ is_source (source (copying_of c.args.copying) n) c.args.input in
    elim c.if-eq.branch [
      | then-eq+in_ok-push w ↦ rw (w.copies-is, w.in_ok-push.ensures.items) (kept_here test n _ _ c.loop-column.invariant is w.if-eq.true)
      | else-eq w ↦ rw w.copies-is (left_here test n _ _ c.loop-column.invariant is w.if-eq.false)
    ]
