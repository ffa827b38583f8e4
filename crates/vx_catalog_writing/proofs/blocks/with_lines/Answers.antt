use Rattle.std.proofs.Common.{◌≡◌, ◌∷◌, rules, sym, ◌∙◌}
use Rattle.std.specs.Vec.Iter.{into_iter_items}
use Rattle.vx_catalog_writing.proofs.BlockFacts.{made_more, lines_more}
use Rattle.vx_catalog_writing.proofs.blocks.with_lines.Goals as goal

pub loop-block-preserved : goal.loop-block-preserved
loop-block-preserved c =
    let left = into_iter_items c.loop-block.block-iterator in
    let rest = into_iter_items c.next.new.self in
    let block = c.in-Some.block in
    let lines = c.in-Some-into_lines.lines in
    let next : left ≡ block ∷ rest = search rules in
    let is = sym c.into_lines.ensures ∙ c.in-Some-into_lines.is in
    rw c.in_ok-push.ensures (
      tt,
      tt,
      λ made. c.loop-block.invariant.2 (made_more left rest block lines next is made),
      lines_more left rest block lines _ c.loop-block.text.items next is c.loop-block.invariant.3,
    )
