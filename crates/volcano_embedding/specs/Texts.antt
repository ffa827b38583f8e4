-- The text of a table, as its bytes.
use Rattle.std.specs.Prelude.{ℕ, List}
use Rattle.volcano_embedding.specs.declared.tables.TableText.{TableText}

abbrev pub table_form : TableText → List ℕ × List ℕ
table_form t = (t.name.items, t.text.items)
