-- What is found of a relation in its text: the names and types of its columns, its keys, and the order in which its rows stand.
use Rattle.std.specs.Prelude.{ℕ, zero, suc, ◌==◌, eqb, List, [], ◌∷◌, ◌++◌, Bool, true, false, not, ◌&&◌, ◌||◌, cond, if◌then◌else◌, map, length, min, take, codes, Option, Some, None, is_some, Result, Ok, Err}
use Rattle.std.specs.List.{list_all, range_with_len, starts_with}
use Rattle.std.specs.Option.{option_or}
use Rattle.std.specs.Str.{is_utf8}
use Rattle.vx_rows_values.specs.declared.value.ColType.{ColType}
use Rattle.vx_rows_values.specs.declared.value.ColType.TheVariants as kind
use Rattle.vx_rows_values.specs.declared.order.OrderEntry.{OrderEntry}
use Rattle.vx_rows_values.specs.Values.{Val, num, text, Row, value_at}
use Rattle.vx_rows_values.specs.Order.{sorted}
use Rattle.vx_rows_values.specs.Keys.{is_key}
use Rattle.vx_rows_values.specs.Limits.{max_keys}
use Rattle.vx_catalog_relations.specs.Relation.{Relation}
use Rattle.vx_catalog_relations.specs.Walk.{◌>>=◌}
use Rattle.vx_catalog.specs.Number.{number_of}
use Rattle.vx_catalog.specs.Loading.{records_of, rows_onto}
use Rattle.vx_catalog.specs.declared.fault.LoadFault.{LoadFault}
use Rattle.vx_catalog.specs.declared.fault.LoadFault.TheVariants as fault

-- ---- the text

-- the name that a field of a header is, if it is UTF-8
abbrev pub name_in : List ℕ → Result (List ℕ) LoadFault
name_in field = if is_utf8 field then Ok field else Err fault.HeaderMismatch

-- the names in a header, if they are UTF-8
unfoldable pub names_in : List (List ℕ) → Result (List (List ℕ)) LoadFault
names_in header = if list_all is_utf8 header then Ok header else Err fault.HeaderMismatch

-- the names in the first record
abbrev pub header_in : List (List (List ℕ)) → Result (List (List ℕ)) LoadFault
header_in [] = Err fault.HeaderMismatch
header_in (header ∷ records) = names_in header

-- the rows of the records behind the first, in columns of these types
abbrev pub rows_behind : List ColType → List (List (List ℕ)) → Result (List Row) LoadFault
rows_behind types [] = Err fault.HeaderMismatch
rows_behind types (header ∷ records) = rows_onto types [] records

-- ---- types

-- a column of texts for each name
abbrev pub all_texts : List (List ℕ) → List ColType
all_texts names = map (λ _. kind.Text) names

-- without a plus and without zeros before other digits, as the program writes a number
abbrev pub is_plain : List ℕ → Bool
is_plain bytes =
    not (starts_with eqb bytes (codes "+")) && not (starts_with eqb bytes (codes "-0")) && (not (starts_with eqb bytes (codes "0")) || length bytes == 1)

-- a value is a number, or a text that reads as one and is plain
abbrev pub is_plain_number : Val → Bool
is_plain_number (num z) = true
is_plain_number (text s) = is_plain s && is_some (number_of s)

-- the type of a column of rows of texts: numbers if there are rows and each text is a number
abbrev pub type_in : ℕ → List Row → ColType
type_in column [] = kind.Text
type_in column (row ∷ rows) = if list_all (λ row. is_plain_number (value_at row column)) (row ∷ rows) then kind.Int else kind.Text

-- the types of the first n columns
abbrev pub types_in : ℕ → List Row → List ColType
types_in n rows = map (λ column. type_in column rows) (range_with_len 0 n)

-- ---- keys

-- the columns, if they are a key of the rows
abbrev pub if_key : List ℕ → List Row → List (List ℕ)
if_key cols rows = cond (is_key cols rows) (cols ∷ []) []

-- those of the first n columns that are keys by themselves
abbrev pub single_keys : ℕ → List Row → List (List ℕ)
single_keys zero rows = []
single_keys (suc n) rows = single_keys n rows ++ if_key (n ∷ []) rows

-- the keys of one of the first n columns and this one
abbrev pub pairs_with : (second : ℕ) → ℕ → List Row → List (List ℕ)
pairs_with second zero rows = []
pairs_with second (suc n) rows = pairs_with second n rows ++ if_key (n ∷ second ∷ []) rows

-- the keys of two of the first n columns
abbrev pub pair_keys : ℕ → List Row → List (List ℕ)
pair_keys zero rows = []
pair_keys (suc n) rows = pair_keys n rows ++ pairs_with n n rows

-- how many columns are tried in pairs
abbrev pub paired_columns : ℕ
paired_columns = 8

-- keys, or others if there are none
abbrev pub or_keys : List (List ℕ) → List (List ℕ) → List (List ℕ)
or_keys [] others = others
or_keys (key ∷ keys) others = key ∷ keys

-- the keys of rows of so many columns: the columns that are keys by themselves, or else pairs of the first columns; as many as a relation may have
abbrev pub keys_in : ℕ → List Row → List (List ℕ)
keys_in width rows = take max_keys (or_keys (single_keys width rows) (pair_keys (min width paired_columns) rows))

-- ---- the order

-- the rows are sorted by the order and this column behind it
abbrev pub sorted_with : List OrderEntry → List Row → ℕ → (falling : Bool) → Bool
sorted_with order rows column falling = sorted (order ++ record { column = column; falling = falling } ∷ []) rows

-- the entry of a column that rises or falls; one that does both has the same value in all rows that it is to sort, and one that does neither sorts none
abbrev pub entry_if : ℕ → (rises falls : Bool) → Option OrderEntry
entry_if column true false = Some (record { column = column; falling = false })
entry_if column false true = Some (record { column = column; falling = true })
entry_if column _ _ = None

-- the entry of a column that sorts the rows which are equal on the order, if it does
abbrev pub entry_of : List OrderEntry → List Row → ℕ → Option OrderEntry
entry_of order rows column = entry_if column (sorted_with order rows column false) (sorted_with order rows column true)

-- the entry of the first of the first n columns that has one
abbrev pub next_entry : List OrderEntry → List Row → ℕ → Option OrderEntry
next_entry order rows zero = None
next_entry order rows (suc n) = option_or (next_entry order rows n) (entry_of order rows n)

-- the order with the entry behind it and what comes of that, or the order where there is no entry
abbrev pub lengthened : Option OrderEntry → List OrderEntry → (List OrderEntry → List OrderEntry) → List OrderEntry
lengthened None order more = order
lengthened (Some e) order more = more (order ++ e ∷ [])

-- the order with up to n entries more, each the next behind those before it
abbrev pub order_onto : (width n : ℕ) → List Row → List OrderEntry → List OrderEntry
order_onto width zero rows order = order
order_onto width (suc n) rows order = lengthened (next_entry order rows width) order (order_onto width n rows)

-- the order of rows of so many columns
abbrev pub order_in : ℕ → List Row → List OrderEntry
order_in width rows = order_onto width width rows []

-- ---- the relation

-- the relation of this name, with columns of these names and types, whose rows these are
abbrev pub relation_with : List ℕ → List (List ℕ) → List ColType → List Row → Relation
relation_with name names types rows =
    record { name = name; names = names; types = types; keys = keys_in (length names) rows; order = order_in (length names) rows }

-- the relation of this name with columns of texts, of which nothing more is known
abbrev pub relation_of_texts : List ℕ → List (List ℕ) → Relation
relation_of_texts name names = record { name = name; names = names; types = all_texts names; keys = []; order = [] }

-- the same with the names in a text's header, or why it has none
abbrev pub in_header : List ℕ → List ℕ → Result Relation LoadFault
in_header name bytes = header_in (records_of bytes) >>= λ names. Ok (relation_of_texts name names)

-- what is found in the records of a text
abbrev pub found_in : List ℕ → List (List (List ℕ)) → Result Relation LoadFault
found_in name records =
    header_in records >>= λ names. rows_behind (all_texts names) records >>= λ texts.
    rows_behind (types_in (length names) texts) records >>= λ rows. Ok (relation_with name names (types_in (length names) texts) rows)

-- the relation of this name that is found in a text, or why it is none
unfoldable pub found : List ℕ → List ℕ → Result Relation LoadFault
found name bytes = found_in name (records_of bytes)
