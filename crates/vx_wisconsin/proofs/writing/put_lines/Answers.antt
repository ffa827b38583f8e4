use Rattle.std.proofs.Common.{arith, ap, ◌∙◌, ◌-◌, ◌++◌, ℕ, List}
use Rattle.vx_catalog.specs.Csv.{line_text}
use Rattle.vx_wisconsin.specs.Wisconsin.{row_of}
use Rattle.vx_wisconsin.proofs.TextFacts.{line-before-lines}
use Rattle.vx_wisconsin.proofs.writing.put_lines.Goals as goal

pub loop-first-preserved : goal.loop-first-preserved
loop-first-preserved c = record {
  after = omega arith;
  before = omega arith;
  room = omega arith;
  within = omega arith;
  text =
      c.put_line-start.ensures.text
      ∙ (ap (λ (l : List ℕ). line_text (row_of c.args.rows (c.loop-first.first - 1)) ++ l) c.loop-first.invariant.text
      ∙ line-before-lines c.args.rows (c.loop-first.first - 1) c.loop-first.first c.args.to (omega arith) c.loop-first.invariant.before);
}
