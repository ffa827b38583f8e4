use Rattle.std.proofs.Common.{◌≡◌, ◌++◌, flat_map, All}
use Rattle.std.specs.Vec.Iter.{into_iter_items}
use Rattle.vx_catalog_writing.specs.Blocks.{lines_in, IsMade}
use Rattle.vx_catalog_writing.proofs.blocks.with_lines.Given as goal

abbrev pub invariant-loop-block : goal.invariant-loop-block
invariant-loop-block l =
    (goal.iterator-loop-block).can_next l.block-iterator
    × (goal.iterator-loop-block).is_finite l.block-iterator
    × (All IsMade (into_iter_items l.block-iterator) → All IsMade l.fn.blocks.items)
    × (l.fn.text.items ++ flat_map lines_in l.fn.blocks.items ≡ l.text.items ++ flat_map lines_in (into_iter_items l.block-iterator))
