use Rattle.std.proofs.Common.{◌≡◌, map, take}
use Rattle.volcano_embedding.specs.Texts.{table_form}
use Rattle.volcano_embedding.specs.Spans.{cut_table}
use Rattle.volcano_embedding.proofs.spans.tables_in.Given as goal

abbrev pub invariant-loop-span : goal.invariant-loop-span
invariant-loop-span l = map table_form l.tables.items ≡ map (cut_table l.bytes) (take l.span-index l.spans)
