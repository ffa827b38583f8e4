-- The text of the relation is loaded as its rows.
use Rattle.std.proofs.Common.{◌≡◌, ℕ, zero, suc, ◌+◌, ◌*◌, ◌<◌, ◌≤◌, List, [], ◌∷◌, ◌++◌, length, map, flat_map, Some, Ok, true, refl, sym, ap, ◌∙◌, arith, length-append}
use Rattle.std.specs.Prelude.{pos, replicate}
use Rattle.std.specs.List.{AllByRecursion, AllZip, range_with_len}
use Rattle.std.specs.Fmt.{decimal}
use Rattle.std.proofs.lemmas.Fmt.{decimal_is_IsNumeral, length-decimal-le}
use Rattle.std.proofs.lemmas.Str.Parse.{digit_at}
use Rattle.csv.specs.Machine.{next_record}
use Rattle.csv.specs.Reading.{records, records_from, default_config, strip_bom}
use Rattle.csv.specs.Records.{field_at}
use Rattle.csv.specs.Writing.{default_writer, row_text, read_back}
use Rattle.csv.specs.declared.parser.State.TheVariants as st
use Rattle.csv.proofs.RoundTrip.{rows_text, read-write}
use Rattle.vx_rows_values.specs.declared.value.ColType.{ColType}
use Rattle.vx_rows_values.specs.declared.value.ColType.TheVariants.{Int, Text}
use Rattle.vx_rows_values.specs.Values.{num, text, Row}
use Rattle.vx_catalog.specs.Csv.{field_text, line_text, csv_text}
use Rattle.vx_catalog.specs.Number.{number_of}
use Rattle.vx_catalog.specs.Loading.{records_of, is_header, names_from, load_of}
use Rattle.vx_catalog.specs.Meaning.{IsRowOf}
use Rattle.vx_catalog.proofs.NumberFacts.{with_none}
use Rattle.vx_catalog.proofs.Meant.{texts_load_exactly}
use Rattle.vx_wisconsin.specs.Wisconsin.{unique1, numbers, seven_letters, text_of, string4, row_of, wisconsin, column_names, relation_named, WisconsinLaw}
use Rattle.vx_rows_values.specs.Limits.{max_generated_rows}
use Rattle.vx_wisconsin.specs.Line.{number_text}
use Rattle.vx_wisconsin.proofs.Unique.{unique1-below}
use Rattle.vx_wisconsin.proofs.LineFacts.{number_fields, line-is}
use Rattle.vx_wisconsin.proofs.RelationFacts.{size, rows-meet, text-held, string4-held}
use Rattle.vx_wisconsin.proofs.TextFacts.{header-is}

-- the fields of rows
abbrev pub fields_of : List Row → List (List (List ℕ))
fields_of rows = map (λ row. map field_text row) rows

-- ---- values

number-read : (k : ℕ) → k < 9223372036854775808 → number_of (decimal k) ≡ Some (pos k)
number-read k h =
    let is = decimal_is_IsNumeral k (omega arith) in
    let first = digit_at (decimal k) 0 is.0.1 is.0.0 in
    let value = is.1 in
    sym (with_none (decimal k) (Some (pos k)) (λ e. omega arith) (λ e. omega arith) ((is.0, omega arith), ap pos (sym value)))

numbers-read : (ks : List ℕ) (types : List ColType) (fields : List (List ℕ)) (values : Row) → AllByRecursion (λ k. k < 9223372036854775808) ks → IsRowOf types fields values
    → IsRowOf (replicate (length ks) Int ++ types) (number_fields ks ++ fields) (map (λ k. num (pos k)) ks ++ values)
numbers-read [] types fields values h r = r
numbers-read (k ∷ ks) types fields values h r = (number-read k h.0, numbers-read ks types fields values h.1 r)

small : (u i : ℕ) → u < 9223372036854775808 → i < 9223372036854775808 → AllByRecursion (λ k. k < 9223372036854775808) (numbers u i)
small u i h k =
    (h, (k, (omega arith, (omega arith, (omega arith, (omega arith, (omega arith, (omega arith, (omega arith, (omega arith, (h, (omega arith, (omega arith, tt)))))))))))))

row-read : (name : List ℕ) (n i : ℕ) → i < n → n ≤ max_generated_rows → IsRowOf (relation_named name).types (map field_text (row_of n i)) (row_of n i)
unfolding row_of
row-read name n i h k =
    let below = unique1-below n i h in
    let u : ℕ = unique1 n i in
    numbers-read (numbers u i) (replicate 3 Text) (text_of u ∷ text_of i ∷ string4 i ∷ []) (text (text_of u) ∷ text (text_of i) ∷ text (string4 i) ∷ []) (small u i (omega arith) (omega arith))
    ((text-held u, refl), ((text-held i, refl), ((string4-held i, refl), tt)))

rows-read : (name : List ℕ) (n a m : ℕ) → a + m ≤ n → n ≤ max_generated_rows → AllZip (IsRowOf (relation_named name).types) (fields_of (map (row_of n) (range_with_len a m))) (map (row_of n) (range_with_len a m))
rows-read name n a zero h k = tt
rows-read name n a (suc m) h k = (row-read name n a (omega arith) k, rows-read name n (a + 1) m (omega arith) k)

-- ---- records

read-all : (rows : List (List (List ℕ))) (n : ℕ) → length rows ≤ n → records_from default_config n st.StartRecord (rows_text rows) ≡ map read_back rows
unfolding records_from rows_text next_record
read-all [] zero h = refl
read-all [] (suc n) h = refl
read-all (row ∷ rows) zero h = absurd (omega arith)
read-all (row ∷ rows) (suc n) h = rw (read-write row (rows_text rows)) (ap (λ (t : List (List (List ℕ))). read_back row ∷ t) (read-all rows n (omega arith)))

ends : (body blank : List ℕ) → 1 ≤ length (body ++ (blank ++ 10 ∷ []))
ends body blank =
    let a = length-append body (blank ++ 10 ∷ []) in
    let b = length-append blank (10 ∷ []) in
    omega arith

some-bytes : (row : List (List ℕ)) → 1 ≤ length (row_text default_writer row)
some-bytes row = ends _ _

rows-long : (rows : List (List (List ℕ))) → length rows ≤ length (rows_text rows)
unfolding rows_text
rows-long [] = omega arith
rows-long (row ∷ rows) =
    let a = length-append (row_text default_writer row) (rows_text rows) in
    let b = some-bytes row in
    let c = rows-long rows in
    omega arith

lines-are : (rows : List Row) → flat_map line_text rows ≡ rows_text (fields_of rows)
unfolding rows_text
lines-are [] = refl
lines-are (row ∷ rows) = ap (λ (l : List ℕ). line_text row ++ l) (lines-are rows)

text-is : (rows : List Row) → csv_text column_names rows ≡ rows_text (column_names ∷ fields_of rows)
unfolding rows_text
text-is rows = ap (λ (l : List ℕ). row_text default_writer column_names ++ l) (lines-are rows)

no-mark : (rest : List ℕ) → strip_bom (row_text default_writer column_names ++ rest) ≡ row_text default_writer column_names ++ rest
unfolding strip_bom
no-mark rest = rw header-is refl

header-back : read_back column_names ≡ column_names
unfolding column_names
header-back = refl

row-back : (n i : ℕ) → read_back (map field_text (row_of n i)) ≡ map field_text (row_of n i)
unfolding row_of
row-back n i = refl

rows-back : (n a m : ℕ) → map read_back (fields_of (map (row_of n) (range_with_len a m))) ≡ fields_of (map (row_of n) (range_with_len a m))
rows-back n a zero = refl
rows-back n a (suc m) = rw (row-back n a, rows-back n (a + 1) m) refl

records-are : (n : ℕ) → records_of (csv_text column_names (wisconsin n)) ≡ column_names ∷ fields_of (wisconsin n)
records-are n =
    let all : List (List (List ℕ)) = column_names ∷ fields_of (wisconsin n) in
    let long = rows-long all in
    ap (λ (bytes : List ℕ). records default_config bytes) (no-mark (flat_map line_text (wisconsin n)) ∙ text-is (wisconsin n))
    ∙ (read-all all (length (rows_text all) + 1) (omega arith)
    ∙ rw (header-back, rows-back n 0 n) refl)

header-read : is_header column_names column_names ≡ true
unfolding column_names names_from field_at strip_bom
header-read = refl

-- ---- the size

numbers-short : (ks : List ℕ) → AllByRecursion (λ k. k < 9223372036854775808) ks → length (flat_map number_text ks) ≤ length ks * 21
numbers-short [] h = omega arith
numbers-short (k ∷ ks) h =
    let bound = h.0 in
    let short = length-decimal-le 20 k (omega arith) (omega arith) (omega arith) in
    let a = length-append (decimal k ++ 44 ∷ []) (flat_map number_text ks) in
    let b = length-append (decimal k) (44 ∷ []) in
    let c = numbers-short ks h.1 in
    omega arith

text-long : (k : ℕ) → ◌≡◌ {A = ℕ} (length (text_of k)) 52
unfolding seven_letters
text-long k = refl

string4-long : (i : ℕ) → ◌≡◌ {A = ℕ} (length (string4 i)) 52
unfolding string4
string4-long i = refl

parts-long : (f a b c : List ℕ) → length f ≤ 273 → length a ≡ 52 → length b ≡ 52 → length c ≡ 52 → length (f ++ (a ++ 44 ∷ (b ++ 44 ∷ (c ++ 10 ∷ [])))) ≤ 432
parts-long f a b c h p q r =
    let w = length-append f (a ++ 44 ∷ (b ++ 44 ∷ (c ++ 10 ∷ []))) in
    let x = length-append a (44 ∷ (b ++ 44 ∷ (c ++ 10 ∷ []))) in
    let y = length-append b (44 ∷ (c ++ 10 ∷ [])) in
    let z = length-append c (10 ∷ []) in
    omega arith

line-short : (n i : ℕ) → i < n → n ≤ max_generated_rows → length (line_text (row_of n i)) ≤ 432
line-short n i h k =
    let below = unique1-below n i h in
    let u : ℕ = unique1 n i in
    let e = ap length (line-is n i (omega arith) (omega arith)) in
    let l = parts-long (flat_map number_text (numbers u i)) (text_of u) (text_of i) (string4 i) (numbers-short (numbers u i) (small u i (omega arith) (omega arith))) (text-long u) (text-long i) (string4-long i) in
    omega (arith, e, l)

lines-short : (n a m : ℕ) → a + m ≤ n → n ≤ max_generated_rows → length (flat_map line_text (map (row_of n) (range_with_len a m))) ≤ m * 432
lines-short n a zero h k = omega arith
lines-short n a (suc m) h k =
    let one = line-short n a (omega arith) k in
    let others = lines-short n (a + 1) m (omega arith) k in
    let both = length-append (line_text (row_of n a)) (flat_map line_text (map (row_of n) (range_with_len (a + 1) m))) in
    omega (arith, one, others, both)

header-long : ◌≡◌ {A = ℕ} (length (row_text default_writer column_names)) 148
header-long = ap length header-is

text-short : (n : ℕ) → n ≤ max_generated_rows → length (csv_text column_names (wisconsin n)) ≤ 1099511627776
text-short n h =
    let a = header-long in
    let b = lines-short n 0 n (omega arith) h in
    let c = length-append (row_text default_writer column_names) (flat_map line_text (wisconsin n)) in
    omega (arith, a, b, c)

-- ---- the law

pub text-loads : (name : List ℕ) (n : ℕ) → n ≤ max_generated_rows → load_of (relation_named name) (csv_text column_names (wisconsin n)) ≡ Ok (wisconsin n)
text-loads name n h =
    let meets = rows-meet name n h in
    let many = size n in
    (texts_load_exactly.loads (relation_named name) (csv_text column_names (wisconsin n)) (wisconsin n)).1
    record {
      small = text-short n h;
      under = rw (records-are n) (header-read, rows-read name n 0 n (omega arith) h);
      few = omega arith;
      keys = meets.keys;
      order = meets.order;
    }

pub law : WisconsinLaw
law = record { many = size; meets = rows-meet; loads = text-loads }
