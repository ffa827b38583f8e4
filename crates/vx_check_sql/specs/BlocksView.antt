-- Rows in SQL, as the program holds them.
use Rattle.std.specs.Prelude.{ℕ, List, map, string_bytes, Vec, String}
use Rattle.std.specs.Global.{Global}
use Rattle.vx_check_sql.specs.Blocks.{Block, Select, Rows, block, written}
use Rattle.vx_check_sql.specs.declared.blocks.Block as rust_block
use Rattle.vx_check_sql.specs.declared.blocks.Select as rust_select
use Rattle.vx_check_sql.specs.declared.blocks.Rows as rust_rows
use Rattle.vx_check_sql.specs.declared.blocks.Rows.TheVariants as rows

abbrev pub texts_of : Vec (String Global) Global → List (List ℕ)
texts_of v = map string_bytes v.items

abbrev pub block_of : rust_block.Block → Block
block_of b = record { tables = texts_of b.tables; from = string_bytes b.from; conditions = texts_of b.conditions; columns = texts_of b.columns; is_lone = b.is_lone }

abbrev pub select_of : rust_select.Select → Select
select_of s = record { tables = texts_of s.tables; text = string_bytes s.text; names = texts_of s.names; order = s.order.items; is_union = s.is_union; is_limited = s.is_limited }

abbrev pub rows_of : rust_rows.Rows → Rows
rows_of (rows.Block b) = block (block_of b)
rows_of (rows.Written s) = written (select_of s)
