-- Looking into a JSON value: names and texts in members, and constants.
use Rattle.std.specs.Prelude.{ℕ, List, Option, Some, None, option_map, option_and_then, if◌then◌else◌}
use Rattle.serde_json.specs.Data.{Data}
use Rattle.serde_json.specs.Find.{get, as_str, as_number, as_i64}
use Rattle.vx_catalog_json.specs.Look.{name_in}
pub use Rattle.vx_catalog_json.specs.Look.{or_default, each_in, some_in}
use Rattle.vx_rows_values.specs.Values.{Val, num, text}
use Rattle.vx_rows_values.specs.Types.{is_held}

-- the name in a member
unfoldable pub name_at : List ℕ → Data → Option (List ℕ)
name_at key d = option_and_then name_in (get key d)

-- the text in a member
unfoldable pub text_at : List ℕ → Data → Option (List ℕ)
text_at key d = option_and_then as_str (get key d)

abbrev pub value_or : Option Val → Option Val → Option Val
value_or None other = other
value_or (Some v) other = Some v

abbrev pub if_held : Val → Option Val
if_held v = if is_held v then Some v else None

-- a number of 64 signed bits, or a text
unfoldable pub value_in : Data → Option Val
value_in d = option_and_then if_held (value_or (option_map num (option_and_then as_i64 (as_number d))) (option_map text (as_str d)))
