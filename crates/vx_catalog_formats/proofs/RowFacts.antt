-- The text of one value, one row and one chunk more.
use Rattle.std.proofs.Common.{◌≡◌, ℕ, zero, suc, ◌+◌, ◌<◌, ◌≤◌, List, [], ◌∷◌, ◌++◌, sym, ap, ◌∙◌, arith, append_assoc, append-nil, get_or, drop, take, length, map, flat_map, string_bytes, String, Global}
use Rattle.std.specs.Prelude.{min, pos}
use Rattle.std.specs.List.{zip, AllByRecursion}
use Rattle.std.proofs.lemmas.Grind.{flat_map-append}
use Rattle.std.proofs.lemmas.List.{take_more, take_all, drop_all, at_drop_more, length-map, get_or-map}
use Rattle.std.proofs.lemmas.Slice.Zip.{length-zip, get_or-zip}
use Rattle.json.specs.Token.{Token, key, end_object}
use Rattle.json.specs.Tree.{json_tokens, members_tokens}
use Rattle.vx_rows_values.specs.Values.{Val, num, text, Row}
use Rattle.vx_rows_values.specs.Types.{Fits, type_of}
use Rattle.vx_rows_values.specs.declared.value.ColType.{ColType}
use Rattle.vx_rows.specs.View.{RowsView}
use Rattle.vx_rows_views.specs.Chunks.{all_rows}
use Rattle.vx_rows_views.proofs.Whole.{next-rows}
use Rattle.vx_catalog_formats.specs.JsonLines.{value_json, members_of}
use Rattle.vx_catalog_formats.specs.Table.{field}

-- a row has a value of each column
pub row_length : (types : List ColType) (rows : List Row) (i : ℕ) → AllByRecursion (Fits types) rows → i < length rows → length (get_or rows i []) ≡ length types
row_length types [] i fit near = absurd (omega arith)
row_length types (r ∷ rows) zero fit near = sym (length-map r type_of) ∙ ap length fit.0.types_are
row_length types (r ∷ rows) (suc i) fit near = row_length types rows i fit.1 (omega arith)

-- the parts of one item more
pub parts_more : {X : Type 0} (f : X → List ℕ) (so_far : List ℕ) (xs : List X) (i : ℕ) (d : X) → i < length xs
    → (so_far ++ flat_map f (take i xs)) ++ f (get_or xs i d) ≡ so_far ++ flat_map f (take (i + 1) xs)
parts_more f so_far xs i d near =
    let one : flat_map f (take (i + 1) xs) ≡ flat_map f (take i xs) ++ f (get_or xs i d) =
    ap (flat_map f) (take_more xs i d near) ∙ (flat_map-append f (take i xs) (get_or xs i d ∷ []) ∙ ap (λ l. flat_map f (take i xs) ++ l) (append-nil (f (get_or xs i d)))) in
    append_assoc so_far (flat_map f (take i xs)) (f (get_or xs i d)) ∙ ap (λ l. so_far ++ l) (sym one)

-- the parts of the rows of one chunk more
pub chunks_more : (f : Row → List ℕ) (so_far : List ℕ) (chunks : List RowsView) (i : ℕ) (c : RowsView) → i < length chunks → c ≡ get_or chunks i c
    → (so_far ++ flat_map f (all_rows (take i chunks))) ++ flat_map f c.rows ≡ so_far ++ flat_map f (all_rows (take (i + 1) chunks))
chunks_more f so_far chunks i c near is =
    append_assoc so_far (flat_map f (all_rows (take i chunks))) (flat_map f c.rows)
    ∙ ap (λ l. so_far ++ l) (sym (ap (flat_map f) (next-rows chunks i c near is) ∙ flat_map-append f (all_rows (take i chunks)) c.rows))

-- the line of one field more
pub fields_more : (widths : List ℕ) (row : Row) (i : ℕ) (value : Val) → i < length widths → i < length row → value ≡ get_or row i (num (pos 0))
    → flat_map field (take i (zip widths row)) ++ field (get_or widths i 0, value) ≡ flat_map field (take (i + 1) (zip widths row))
fields_more widths row i value near there is =
    let d : ℕ × Val = (0, num (pos 0)) in
    let n = length-zip widths row in
    let pair : (get_or widths i 0, value) ≡ get_or (zip widths row) i d = ap (λ v. (get_or widths i 0, v)) is ∙ sym (get_or-zip widths row i d near there) in
    ap (λ p. flat_map field (take i (zip widths row)) ++ field p) pair ∙ parts_more field [] (zip widths row) i d (omega (arith, n, near, there))

-- the line of all fields
pub fields_all : (widths : List ℕ) (row : Row) (i : ℕ) → min (length widths) (length row) ≤ i → flat_map field (take i (zip widths row)) ≡ flat_map field (zip widths row)
fields_all widths row i past =
    let n = length-zip widths row in
    ap (flat_map field) (take_all i (zip widths row) (omega (arith, n, past)))

-- the bytes of a name
pub name_at : (names : List (String Global)) (i : ℕ) (name : String Global) → i < length names → name ≡ get_or names i name → string_bytes name ≡ get_or (map string_bytes names) i []
name_at names i name near is = sym (get_or-map string_bytes names i name [] near ∙ ap string_bytes (sym is))

-- a name as a value
pub name_value : (names : List (String Global)) (i : ℕ) (name : String Global) → i < length names → name ≡ get_or names i name
    → text (string_bytes name) ≡ get_or (map text (map string_bytes names)) i (num (pos 0))
name_value names i name near is =
    let n = length-map names string_bytes in
    ap text (name_at names i name near is) ∙ sym (get_or-map text (map string_bytes names) i [] (num (pos 0)) (omega (arith, n, near)))

-- a value for each name
pub names_length : (names : List (String Global)) → length (map text (map string_bytes names)) ≡ length names
names_length names = length-map (map string_bytes names) text ∙ length-map names string_bytes

-- the tokens of the fields from one on
abbrev pub tokens_from : List (List ℕ × Val) → ℕ → List Token
tokens_from fields i = members_tokens (members_of (drop i fields))

-- the tokens of one field more
pub tokens_more : (names : List (List ℕ)) (row : Row) (i : ℕ) (name : List ℕ) (value : Val) (before : List Token) → i < length names → i < length row
    → name ≡ get_or names i [] → value ≡ get_or row i (num (pos 0))
    → ((before ++ key name ∷ []) ++ json_tokens (value_json value)) ++ tokens_from (zip names row) (i + 1) ≡ before ++ tokens_from (zip names row) i
tokens_more names row i name value before near there name_is value_is =
    let fields = zip names row in
    let d : List ℕ × Val = ([], num (pos 0)) in
    let n = length-zip names row in
    let F : List (List ℕ × Val) → List Token = λ fs. members_tokens (members_of fs) in
    let pair : get_or fields i d ≡ (name, value) = get_or-zip names row i d near there ∙ (ap (λ x. (x, get_or row i (num (pos 0)))) (sym name_is) ∙ ap (λ v. (name, v)) (sym value_is)) in
    let one : tokens_from fields i ≡ (key name ∷ json_tokens (value_json value)) ++ tokens_from fields (i + 1) =
    at_drop_more F fields i d (omega (arith, n, near, there)) ∙ ap (λ f. F (f ∷ drop (i + 1) fields)) pair in
    ap (λ l. l ++ tokens_from fields (i + 1)) (append_assoc before (key name ∷ []) (json_tokens (value_json value)))
    ∙ (append_assoc before (key name ∷ json_tokens (value_json value)) (tokens_from fields (i + 1)) ∙ ap (λ l. before ++ l) (sym one))

-- the token behind all fields
pub tokens_all : (names : List (List ℕ)) (row : Row) (i : ℕ) → min (length names) (length row) ≤ i → tokens_from (zip names row) i ≡ end_object ∷ []
tokens_all names row i past =
    let n = length-zip names row in
    ap (λ fs. members_tokens (members_of fs)) (drop_all i (zip names row) (omega (arith, n, past)))
