-- A text is cut before a line feed, behind bytes without a quote: what is read of its parts is what is read of it.
use Rattle.std.proofs.Common.{◌≡◌, ◌≢◌, ℕ, ◌≤◌, ◌==◌, List, [], ◌∷◌, ◌++◌, Bool, true, false, cond, not, Result, Ok, Err, refl, sym, ap, subst, ◌∙◌, arith, length}
use Rattle.std.specs.Prelude.{◌||◌, ◌&&◌}
use Rattle.std.specs.List.{list_any}
use Rattle.csv.specs.Machine.{next_record}
use Rattle.csv.specs.Reading.{records_from, strip_bom}
use Rattle.std.proofs.lemmas.List.{append-nil}
use Rattle.std.proofs.lemmas.Bool.{eqb-true}
use Rattle.vx_rows_values.specs.Values.{Row}
use Rattle.vx_rows_values.specs.declared.value.ColType.{ColType}
use Rattle.vx_catalog_relations.specs.Walk.{◌>>=◌}
use Rattle.vx_catalog.specs.declared.fault.LoadFault.{LoadFault}
use Rattle.vx_catalog.specs.declared.fault.LoadFault.TheVariants as fault
use Rattle.vx_catalog.specs.Loading.{records_of, is_header, row_added, rows_onto, under_header}
use Rattle.vx_catalog_split.specs.Split.{is_unquoted}
use Rattle.vx_catalog_split.proofs.SplitFacts.{split_law}
use Rattle.vx_catalog_loading.specs.Pieces.{behind, may_cut_before, rows_of_text}
use Rattle.vx_catalog_loading.proofs.Behind.{onto_behind}
use Rattle.vx_rows_values.specs.Limits.{max_rows}

bind_assoc : {E X Y Z : Type 0} (r : Result X E) (f : X → Result Y E) (g : Y → Result Z E) → ((r >>= f) >>= g) ≡ (r >>= λ x. (f x >>= g))
bind_assoc (Ok x) f g = refl
bind_assoc (Err e) f g = refl

bind_same : {E X Y : Type 0} (r : Result X E) (f g : X → Result Y E) → ((x : X) → r ≡ Ok x → f x ≡ g x) → (r >>= f) ≡ (r >>= g)
bind_same (Ok x) f g h = h x refl
bind_same (Err e) f g h = refl

pub bind_ok : {E X : Type 0} (r : Result X E) → (r >>= λ x. Ok x) ≡ r
bind_ok (Ok x) = refl
bind_ok (Err e) = refl

rows_append : (types : List ColType) (one two : List (List (List ℕ))) (front : List Row) → rows_onto types front (one ++ two) ≡ (rows_onto types front one >>= λ rows. rows_onto types rows two)
unfolding rows_onto
rows_append types [] two front = refl
rows_append types (fields ∷ one) two front =
    bind_same (row_added types front fields) (λ (rows : List Row). rows_onto types rows (one ++ two)) (λ (rows : List Row). (rows_onto types rows one >>= λ all. rows_onto types all two)) (λ rows e. rows_append types one two rows)
    ∙ sym (bind_assoc (row_added types front fields) (λ (rows : List Row). rows_onto types rows one) (λ (all : List Row). rows_onto types all two))

-- the rows of records behind others
pub records_behind : (types : List ColType) (front : List Row) (records : List (List (List ℕ))) → length front ≤ max_rows → behind front (rows_onto types [] records) ≡ rows_onto types front records
records_behind types front records h =
    sym (onto_behind types records front [] (omega (arith, h))) ∙ ap (λ (l : List Row). rows_onto types l records) (append-nil front)

no_records : (types : List ColType) (rows : List Row) → rows_of_text types rows [] ≡ Ok rows
unfolding rows_onto records_from strip_bom next_record
no_records types rows = refl

-- where a text is cut, its rows are those of the first part and then those of the second
pub rows_cut : (types : List ColType) (front : List Row) (piece rest : List ℕ) → is_unquoted piece ≡ true → may_cut_before rest ≡ true
    → rows_of_text types front (piece ++ rest) ≡ (rows_of_text types front piece >>= λ rows. rows_of_text types rows rest)
rows_cut types front piece [] u m =
    ap (rows_of_text types front) (append-nil piece)
    ∙ sym (bind_same (rows_of_text types front piece) (λ (rows : List Row). rows_of_text types rows []) (λ (rows : List Row). Ok rows) (λ rows e. no_records types rows) ∙ bind_ok (rows_of_text types front piece))
rows_cut types front piece (c ∷ rest) u m =
    let feed : c ≡ 10 = eqb-true c 10 m in
    let cut = split_law piece rest u in
    let whole = subst (λ d. records_of (piece ++ d ∷ rest) ≡ records_of piece ++ records_of (d ∷ rest)) (sym feed) cut in
    ap (rows_onto types front) whole ∙ rows_append types (records_of piece) (records_of (c ∷ rest)) front

-- the same, where the first part is read by itself
pub piece_cut : (types : List ColType) (front : List Row) (piece rest : List ℕ) → length front ≤ max_rows → is_unquoted piece ≡ true → may_cut_before rest ≡ true
    → rows_of_text types front (piece ++ rest) ≡ (behind front (rows_of_text types [] piece) >>= λ rows. rows_of_text types rows rest)
piece_cut types front piece rest few u m =
    rows_cut types front piece rest u m ∙ ap (λ (r : Result (List Row) LoadFault). (r >>= λ rows. rows_of_text types rows rest)) (sym (records_behind types front (records_of piece) few))

under_append : (names : List (List ℕ)) (types : List ColType) (one two : List (List (List ℕ))) → one ≢ [] → under_header names types (one ++ two) ≡ (under_header names types one >>= λ rows. rows_onto types rows two)
under_append names types [] two h = absurd (h refl)
under_append names types (fields ∷ one) two h = by_names (is_header names fields)
  where
    by_names : (b : Bool) → cond b (rows_onto types [] (one ++ two)) (Err fault.HeaderMismatch) ≡ (cond b (rows_onto types [] one) (Err fault.HeaderMismatch) >>= λ rows. rows_onto types rows two)
    by_names true = rows_append types one two []
    by_names false = refl

-- where a text is cut behind its header, its rows are those of the first part and then those of the second
pub under_cut : (names : List (List ℕ)) (types : List ColType) (piece rest : List ℕ) → records_of piece ≢ [] → is_unquoted piece ≡ true → may_cut_before rest ≡ true
    → under_header names types (records_of (piece ++ rest)) ≡ (under_header names types (records_of piece) >>= λ rows. rows_of_text types rows rest)
under_cut names types piece [] some u m =
    ap (λ l. under_header names types (records_of l)) (append-nil piece)
    ∙ sym (bind_same (under_header names types (records_of piece)) (λ (rows : List Row). rows_of_text types rows []) (λ (rows : List Row). Ok rows) (λ rows e. no_records types rows) ∙ bind_ok (under_header names types (records_of piece)))
under_cut names types piece (c ∷ rest) some u m =
    let feed : c ≡ 10 = eqb-true c 10 m in
    let cut = split_law piece rest u in
    let whole = subst (λ d. records_of (piece ++ d ∷ rest) ≡ records_of piece ++ records_of (d ∷ rest)) (sym feed) cut in
    ap (under_header names types) whole ∙ under_append names types (records_of piece) (records_of (c ∷ rest)) some

-- bytes have no quote where none of them is one
pub unquoted_is : (bytes : List ℕ) → not (list_any (λ y. y == 34) bytes) ≡ is_unquoted bytes
unfolding is_unquoted
unquoted_is [] = refl
unquoted_is (c ∷ bytes) = by_test (c == 34) (list_any (λ y. y == 34) bytes) (is_unquoted bytes) (unquoted_is bytes)
  where
    by_test : (b x y : Bool) → not x ≡ y → not (b || x) ≡ not b && y
    by_test true x y h = refl
    by_test false x y h = h

-- what may follow a text may follow its end
pub cut_append : (xs rest : List ℕ) → may_cut_before xs ≡ true → may_cut_before rest ≡ true → may_cut_before (xs ++ rest) ≡ true
cut_append [] rest h k = k
cut_append (x ∷ xs) rest h k = h
