-- The values of a row and the rows of a text, one after another.
use Rattle.std.proofs.Common.{◌≡◌, ℕ, ◌+◌, ◌<◌, List, [], ◌∷◌, ◌++◌, Bool, true, false, cond, Result, Ok, Err, refl, sym, ◌∙◌, arith, length, nat_lt, Option, Some, None}
use Rattle.std.specs.Prelude.{IsUtf8, ℤ, IfSome, ◌≢◌}
use Rattle.std.proofs.lemmas.Bool.Decides.{Decides-ltb}
use Rattle.std.proofs.lemmas.List.{length-append}
use Rattle.csv.specs.Records.{field_at}
use Rattle.vx_rows_values.specs.Types.{type_of}
use Rattle.vx_catalog.specs.Number.{number_of}
use Rattle.vx_catalog_relations.proofs.Accepted.{ok_bind}
use Rattle.std.specs.Str.{is_utf8, IsAscii}
use Rattle.std.proofs.lemmas.Str.{is_utf8-from_IsUtf8, IsUtf8-from_is_utf8, IsUtf8-from_ascii}
use Rattle.vx_rows_values.specs.Values.{Row, Val, num, text}
use Rattle.vx_rows_values.specs.declared.value.ColType.{ColType}
use Rattle.vx_rows_values.specs.declared.value.ColType.TheVariants as kind
use Rattle.vx_catalog_relations.specs.Walk.{◌>>=◌}
use Rattle.vx_catalog.specs.declared.fault.LoadFault.{LoadFault}
use Rattle.vx_catalog.specs.declared.fault.LoadFault.TheVariants as fault
use Rattle.vx_catalog.specs.Records.{Begins}
use Rattle.vx_catalog.proofs.RowsReported.{RowsSoFar}
use Rattle.vx_catalog.specs.Loading.{Fails, some_number, value_of, some_value, next_value, row_of, row_added, rows_onto}
use Rattle.vx_rows_values.specs.Limits.{max_rows}

pub ascii_is_utf8 : (bytes : List ℕ) → IsAscii bytes → IsUtf8 bytes
ascii_is_utf8 bytes h = IsUtf8-from_ascii bytes h

pub text_read : (row col : ℕ) (field bytes : List ℕ) → IsUtf8 field → bytes ≡ field → value_of row col kind.Text field ≡ Ok (text bytes)
unfolding value_of
text_read row col field bytes h e = rw (is_utf8-from_IsUtf8 field h, e) refl

else_of : {A : Type 0} (b : Bool) (x y : A) → (b ≡ true → ⊥) → cond b x y ≡ y
else_of true x y h = absurd (h refl)
else_of false x y h = refl

pub text_refused : (row col : ℕ) (field : List ℕ) → (IsUtf8 field → ⊥) → value_of row col kind.Text field ≡ Err (fault.NotUtf8 row)
unfolding value_of
text_refused row col field h = else_of (is_utf8 field) (Ok (text field)) (Err (fault.NotUtf8 row)) (λ t. h (IsUtf8-from_is_utf8 field t))

-- a refusal of a part is one of the whole
pub fails_along : {X Y : Type 0} (e : LoadFault) (part : Result X LoadFault) (whole : Result Y LoadFault) → ((r : LoadFault) → part ≡ Err r → whole ≡ Err r) → Fails e part → Fails e whole
fails_along e part whole along bad = grind arith

-- ---- the values of a row

value_type : (row col : ℕ) (type : ColType) (field : List ℕ) (v : Val) → value_of row col type field ≡ Ok v → type_of v ≡ type
unfolding value_of
value_type row col kind.Int field v h = by_number (number_of field) h
  where
    by_number : (o : Option ℤ) → some_number row col o ≡ Ok v → type_of v ≡ kind.Int
    by_number None e = cc
    by_number (Some n) e = let k : num n ≡ v = cc in rw (← k) refl
value_type row col kind.Text field v h = by_test (is_utf8 field) h
  where
    by_test : (b : Bool) → cond b (Ok (text field)) (Err (fault.NotUtf8 row)) ≡ Ok v → type_of v ≡ kind.Text
    by_test true e = let k : text field ≡ v = cc in rw (← k) refl
    by_test false e = cc

-- a value has the type of its column
pub type_kept : (row col : ℕ) (type : ColType) (field : Option (List ℕ)) (v : Val) → some_value row col type field ≡ Ok v → type_of v ≡ type
type_kept row col type None v e = cc
type_kept row col type (Some field) v e = value_type row col type field v e

-- the next value is that of the column behind the front
pub next_is : (row col : ℕ) (fields : List (List ℕ)) (front : List Val) (type : ColType) → length front ≡ col → next_value row fields front type ≡ some_value row col type (field_at fields col)
unfolding next_value
next_is row col fields front type e = rw e refl

-- ---- the rows

pub rows_more : (types : List ColType) (front : List Row) (fields : List (List ℕ)) (records all : List (List (List ℕ))) (next : List Row) (total : Result (List Row) LoadFault)
    → all ≡ fields ∷ records → row_added types front fields ≡ Ok next → rows_onto types front all ≡ total → rows_onto types next records ≡ total
unfolding rows_onto
rows_more types front fields records all next total is added so_far = rw (is, added) at so_far

pub rows_stop : (types : List ColType) (front : List Row) (fields : List (List ℕ)) (records all : List (List (List ℕ))) (total : Result (List Row) LoadFault)
    → all ≡ fields ∷ records → rows_onto types front all ≡ total → (r : LoadFault) → row_added types front fields ≡ Err r → total ≡ Err r
unfolding rows_onto
rows_stop types front fields records all total is so_far r bad = sym so_far ∙ rw (is, bad) refl

pub rows_done : (types : List ColType) (front : List Row) (all : List (List (List ℕ))) (total : Result (List Row) LoadFault) → all ≡ [] → rows_onto types front all ≡ total → total ≡ Ok front
unfolding rows_onto
rows_done types front all total is so_far = sym so_far ∙ rw is refl

row_added_if : (b : Bool) (n : ℕ) (types : List ColType) (front : List Row) (fields : List (List ℕ)) (next : List Row)
    → cond b (row_of n types fields >>= λ row. Ok (front ++ row ∷ [])) (Err fault.TooLarge) ≡ Ok next → (b ≡ true) × (length next ≡ length front + 1)
row_added_if true n types front fields next h =
    let t = ok_bind (row_of n types fields) (λ (row : Row). Ok (front ++ row ∷ [])) next h in
    let e : front ++ t.0 ∷ [] ≡ next = cc in
    (refl, rw (← e) (length-append front (t.0 ∷ [])))
row_added_if false n types front fields next h = cc

pub row_added_few : (types : List ColType) (front : List Row) (fields : List (List ℕ)) (next : List Row) → row_added types front fields ≡ Ok next → (length front < max_rows) × (length next ≡ length front + 1)
unfolding row_added
row_added_few types front fields next h =
    let t = row_added_if (nat_lt (length front) max_rows) (length front) types front fields next h in
    ((Decides-ltb (length front) max_rows).0 t.0, t.1)

-- ---- the rows of records that may be unknown

pub rows_reported_more : (types : List ColType) (front next : List Row) (fields : List (List ℕ)) (all now left : Option (List (List (List ℕ)))) → RowsSoFar types front all now → Begins fields now left
    → row_added types front fields ≡ Ok next → RowsSoFar types next all left
rows_reported_more types front next fields None now left so_far begins added = tt
rows_reported_more types front next fields (Some all) None left so_far begins added = absurd so_far
rows_reported_more types front next fields (Some all) (Some now) None so_far begins added = absurd begins
rows_reported_more types front next fields (Some all) (Some now) (Some left) so_far begins added = rows_more types front fields left now next _ begins added so_far

pub rows_reported_stop : (types : List ColType) (front : List Row) (fields : List (List ℕ)) (all now left : Option (List (List (List ℕ)))) (e : LoadFault) → RowsSoFar types front all now → Begins fields now left
    → Fails e (row_added types front fields) → IfSome all (λ records. Fails e (rows_onto types [] records))
rows_reported_stop types front fields None now left e so_far begins bad = tt
rows_reported_stop types front fields (Some all) None left e so_far begins bad = absurd so_far
rows_reported_stop types front fields (Some all) (Some now) None e so_far begins bad = absurd begins
rows_reported_stop types front fields (Some all) (Some now) (Some left) e so_far begins bad =
    fails_along e (row_added types front fields) _ (rows_stop types front fields left now _ begins so_far) bad

pub rows_reported_done : (types : List ColType) (front : List Row) (all now : Option (List (List (List ℕ)))) → RowsSoFar types front all now → IfSome now (λ records. records ≡ [])
    → IfSome all (λ records. rows_onto types [] records ≡ Ok front)
rows_reported_done types front None now so_far none = tt
rows_reported_done types front (Some all) None so_far none = absurd so_far
rows_reported_done types front (Some all) (Some now) so_far none = rows_done types front now _ none so_far

-- what a call refuses of what is known is no failure of its source
pub fails_own : {Y : Type 0} (e : LoadFault) (read : Result Y LoadFault) → Fails e read → e ≢ fault.ReadFailed
fails_own e read bad = grind arith
