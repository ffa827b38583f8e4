-- The rows that a text holds of a relation, or the first reason why it holds none. The records are those that `csv` reads.
use Rattle.std.specs.Prelude.{◌≡◌, ℕ, ℤ, ◌+◌, ◌==◌, List, [], ◌∷◌, ◌++◌, length, Option, Some, None, Result, Ok, Err, nat_lt, if◌then◌else◌, Bool, true, false, ◌&&◌, bytes_eq}
use Rattle.std.specs.Ordering.{is_lt}
use Rattle.std.specs.Str.{is_utf8}
use Rattle.csv.specs.Reading.{records, default_config, strip_bom}
use Rattle.csv.specs.Records.{field_at}
use Rattle.vx_rows_values.specs.Values.{Val, num, text, Row}
use Rattle.vx_rows_values.specs.declared.order.OrderEntry.{OrderEntry}
use Rattle.vx_rows_values.specs.Order.{compare_on}
use Rattle.vx_rows_values.specs.Keys.{first_clash}
use Rattle.vx_rows_values.specs.declared.value.ColType.{ColType}
use Rattle.vx_rows_values.specs.declared.value.ColType.TheVariants as kind
use Rattle.vx_catalog_relations.specs.Relation.{Relation}
use Rattle.vx_catalog_relations.specs.Walk.{◌>>=◌, walk_onto}
use Rattle.vx_catalog.specs.Number.{number_of}
use Rattle.vx_catalog.specs.declared.fault.LoadFault.{LoadFault}
use Rattle.vx_catalog.specs.declared.fault.LoadFault.TheVariants as fault
use Rattle.vx_rows_values.specs.Limits.{max_rows, max_text_bytes}

-- what a call refused is what the reading refuses; running out of memory excuses, and no reading of bytes fails as a reader does
abbrev pub Fails : {Y : Type 0} → LoadFault → Result Y LoadFault → Type 0
Fails fault.NoMemory read = Unit {0}
Fails fault.ReadFailed read = ⊥
Fails fault.HeaderMismatch read = read ≡ Err fault.HeaderMismatch
Fails (fault.BadWidth row) read = read ≡ Err (fault.BadWidth row)
Fails (fault.BadInt row col) read = read ≡ Err (fault.BadInt row col)
Fails (fault.NotUtf8 row) read = read ≡ Err (fault.NotUtf8 row)
Fails (fault.KeyBroken key first second) read = read ≡ Err (fault.KeyBroken key first second)
Fails (fault.OrderBroken row) read = read ≡ Err (fault.OrderBroken row)
Fails fault.TooLarge read = read ≡ Err fault.TooLarge

-- what a call answered, seen by `look`, is what the reading gives, unless memory ran out
abbrev pub Gives : {X Y : Type 0} → (X → Y) → Result X LoadFault → Result Y LoadFault → Type 0
Gives look (Ok x) read = read ≡ Ok (look x)
Gives look (Err e) read = Fails e read

-- the records of a text, as `csv` reads them in its default dialect
abbrev pub records_of : List ℕ → List (List (List ℕ))
records_of bytes = records default_config (strip_bom bytes)

abbrev pub some_number : ℕ → ℕ → Option ℤ → Result Val LoadFault
some_number row col (Some n) = Ok (num n)
some_number row col None = Err (fault.BadInt row col)

-- the value of a field, in a column of this type
unfoldable pub value_of : ℕ → ℕ → ColType → List ℕ → Result Val LoadFault
value_of row col kind.Int field = some_number row col (number_of field)
value_of row col kind.Text field = if is_utf8 field then Ok (text field) else Err (fault.NotUtf8 row)

abbrev pub some_value : ℕ → ℕ → ColType → Option (List ℕ) → Result Val LoadFault
some_value row col type None = Err (fault.BadWidth row)
some_value row col type (Some field) = value_of row col type field

-- the next value of a row, behind those before it, in a column of this type
unfoldable pub next_value : ℕ → List (List ℕ) → List Val → ColType → Result Val LoadFault
next_value row fields prior type = some_value row (length prior) type (field_at fields (length prior))

-- the row with this number
unfoldable pub row_of : ℕ → List ColType → List (List ℕ) → Result Row LoadFault
row_of row types fields = if length fields == length types then walk_onto (next_value row fields) [] types else Err (fault.BadWidth row)

-- the rows so far, and one more
unfoldable pub row_added : List ColType → List Row → List (List ℕ) → Result (List Row) LoadFault
row_added types prior fields =
    if nat_lt (length prior) max_rows then (row_of (length prior) types fields >>= λ row. Ok (prior ++ row ∷ [])) else Err fault.TooLarge

-- the rows of these records, behind those so far
unfoldable pub rows_onto : List ColType → List Row → List (List (List ℕ)) → Result (List Row) LoadFault
rows_onto types prior [] = Ok prior
rows_onto types prior (fields ∷ records) = row_added types prior fields >>= λ rows. rows_onto types rows records

abbrev pub same_name : List ℕ → ℕ → Option (List ℕ) → Bool
same_name name i None = false
same_name name i (Some field) = bytes_eq (if i == 0 then strip_bom field else field) name

-- the names of the columns from the i-th on; a byte order mark before the first is dropped
unfoldable pub names_from : ℕ → List (List ℕ) → List (List ℕ) → Bool
names_from i fields [] = true
names_from i fields (name ∷ names) = same_name name i (field_at fields i) && names_from (i + 1) fields names

abbrev pub is_header : List (List ℕ) → List (List ℕ) → Bool
is_header names fields = (length fields == length names) && names_from 0 fields names

-- the rows under a header with these names
abbrev pub under_header : List (List ℕ) → List ColType → List (List (List ℕ)) → Result (List Row) LoadFault
under_header names types [] = Err fault.HeaderMismatch
under_header names types (fields ∷ records) = if is_header names fields then rows_onto types [] records else Err fault.HeaderMismatch

abbrev pub no_clash : ℕ → Option (ℕ × ℕ) → Result (List Row) LoadFault → Result (List Row) LoadFault
no_clash key None rest = rest
no_clash key (Some (first, second)) rest = Err (fault.KeyBroken key first second)

-- the rows, if no two agree on one of these keys, which are numbered from this one on
unfoldable pub keys_kept : ℕ → List (List ℕ) → List Row → Result (List Row) LoadFault
keys_kept key [] rows = Ok rows
keys_kept key (cols ∷ keys) rows = no_clash key (first_clash cols rows) (keys_kept (key + 1) keys rows)

-- the number of the first of these rows that is smaller than the one before it; `last` comes before them, and the first of them is row n
abbrev pub fall_from : List OrderEntry → ℕ → Row → List Row → Option ℕ
fall_from order n last [] = None
fall_from order n last (row ∷ rows) = if is_lt (compare_on order row last) then Some n else fall_from order (n + 1) row rows

unfoldable pub first_fall : List OrderEntry → List Row → Option ℕ
first_fall order [] = None
first_fall order (row ∷ rows) = fall_from order 1 row rows

-- the entries of an order, for columns that stand where the order names them, from a place on
abbrev pub in_place_from : ℕ → List OrderEntry → List OrderEntry
in_place_from place [] = []
in_place_from place (e ∷ order) = record { column = place; falling = e.falling } ∷ in_place_from (place + 1) order

abbrev pub in_place : List OrderEntry → List OrderEntry
in_place order = in_place_from 0 order

abbrev pub no_fall : List Row → Option ℕ → Result (List Row) LoadFault
no_fall rows None = Ok rows
no_fall rows (Some row) = Err (fault.OrderBroken row)

-- the rows, if none is smaller than the one before it
abbrev pub order_kept : List OrderEntry → List Row → Result (List Row) LoadFault
order_kept order rows = no_fall rows (first_fall order rows)

-- the rows, if they meet a relation's keys and then its order
abbrev pub tested : Relation → List Row → Result (List Row) LoadFault
tested relation rows = keys_kept 0 relation.keys rows >>= λ rows. order_kept relation.order rows

-- the rows of a relation's text: its size, the header, then row by row, then key by key, then the order
unfoldable pub load_of : Relation → List ℕ → Result (List Row) LoadFault
load_of relation bytes =
    if nat_lt max_text_bytes (length bytes) then Err fault.TooLarge
    else under_header relation.names relation.types (records_of bytes) >>= tested relation
