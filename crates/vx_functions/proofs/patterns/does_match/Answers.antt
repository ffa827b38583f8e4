use Rattle.std.proofs.Common.{◌-◌, length, drop, List, sym, subst}
use Rattle.vx_functions.specs.declared.patterns.Part.{Part}
use Rattle.vx_functions.specs.Like.{matches}
use Rattle.vx_functions.specs.Rows.{IsRow}
use Rattle.vx_functions.proofs.RowFacts.{parts-from}
use Rattle.vx_functions.proofs.patterns.does_match.Goals as goal

pub loop-back-preserved : goal.loop-back-preserved
loop-back-preserved c = λ start.
    let parts = c.args.parts.now in
    let P : List Part → Type 0 = λ ps. IsRow (matches ps) c.args.text.now c.put_part.new.row in
    subst P (sym (parts-from parts c.loop-back.back _ c.loop-back-test.true)) (c.put_part.ensures (matches (drop (length parts - c.loop-back.back) parts)) (c.loop-back.invariant start))
