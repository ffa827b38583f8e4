-- Rows as lines of JSON: for each row an object, with a member for each column.
use Rattle.std.specs.Prelude.{ℕ, List, [], ◌∷◌, ◌++◌, flat_map, codes}
use Rattle.std.specs.Fmt.{signed_decimal}
use Rattle.std.specs.List.{zip}
use Rattle.json.specs.Json.{Json, number, string, object, Members, no_members, member}
use Rattle.json.specs.Tree.{json_tokens}
use Rattle.json.specs.Print.{print}
use Rattle.vx_rows_values.specs.Values.{Val, num, text, Row}

-- a value: a number in plain decimal, or a text
abbrev pub value_json : Val → Json
value_json (num n) = number (signed_decimal n)
value_json (text s) = string s

-- members, each a name with a value
abbrev pub members_of : List (List ℕ × Val) → Members
members_of [] = no_members
members_of (field ∷ fields) = member field.0 (value_json field.1) (members_of fields)

-- a row under these names, its columns in order
abbrev pub row_json : List (List ℕ) → Row → Json
row_json names row = object (members_of (zip names row))

-- its line: no spaces, and texts with the escapes that JSON needs and no others
abbrev pub row_line : List (List ℕ) → Row → List ℕ
row_line names row = print (json_tokens (row_json names row)) ++ codes "\n"

-- a line for each row
abbrev pub json_text : List (List ℕ) → List Row → List ℕ
json_text names rows = flat_map (row_line names) rows
