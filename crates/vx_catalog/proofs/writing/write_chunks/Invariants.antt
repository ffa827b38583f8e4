use Rattle.std.proofs.Common.{ℕ, List, ◌++◌, flat_map, take}
use Rattle.vx_rows_views.specs.Chunks.{all_rows}
use Rattle.vx_catalog.specs.Csv.{line_text}
use Rattle.vx_catalog.specs.Text.{StandsAt}
use Rattle.vx_catalog.proofs.writing.write_chunks.Given as goal

abbrev pub invariant-loop-i : goal.invariant-loop-i
invariant-loop-i l = (so_far : List ℕ) → StandsAt l.initial.text so_far → StandsAt l.text (so_far ++ flat_map line_text (all_rows (take l.i l.chunks)))
