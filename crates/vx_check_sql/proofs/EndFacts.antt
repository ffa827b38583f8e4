-- How lists compare where one of them has ended.
use Rattle.std.proofs.Common.{◌≡◌, ℕ, ◌<◌, ◌≤◌, true, false, List, [], ◌∷◌, map, length, drop, refl, ◌∙◌, String, Global, string_bytes, length-drop, arith}
use Rattle.std.proofs.lemmas.List.{at_drop_all}
use Rattle.vx_rows_values.specs.declared.order.OrderEntry.{OrderEntry}
use Rattle.vx_check_sql.specs.Statement.{begins, are_same}

none_begin : (fs : List OrderEntry) → 0 < length fs → begins fs [] ≡ false
none_begin [] h = absurd (omega arith)
none_begin (f ∷ fs) h = refl

pub begins_past : (i : ℕ) (fs es : List OrderEntry) → i < length fs → length es ≤ i → begins (drop i fs) (drop i es) ≡ false
begins_past i fs es h k = at_drop_all (begins (drop i fs)) es i k ∙ none_begin (drop i fs) (omega (arith, length-drop i fs))

none_same : (ys : List (String Global)) → 0 < length ys → are_same [] (map string_bytes ys) ≡ false
none_same [] h = absurd (omega arith)
none_same (y ∷ ys) h = refl

some_same : (xs : List (String Global)) → 0 < length xs → are_same (map string_bytes xs) [] ≡ false
some_same [] h = absurd (omega arith)
some_same (x ∷ xs) h = refl

pub same_past : (i : ℕ) (xs ys : List (String Global)) → i < length xs → length ys ≤ i → are_same (map string_bytes (drop i xs)) (map string_bytes (drop i ys)) ≡ false
same_past i xs ys h k =
    at_drop_all (λ z. are_same (map string_bytes (drop i xs)) (map string_bytes z)) ys i k ∙ some_same (drop i xs) (omega (arith, length-drop i xs))

pub same_before : (i : ℕ) (xs ys : List (String Global)) → length xs ≤ i → i < length ys → are_same (map string_bytes (drop i xs)) (map string_bytes (drop i ys)) ≡ false
same_before i xs ys h k =
    at_drop_all (λ z. are_same (map string_bytes z) (map string_bytes (drop i ys))) xs i h ∙ none_same (drop i ys) (omega (arith, length-drop i ys))

pub same_end : (i : ℕ) (xs ys : List (String Global)) → length xs ≤ i → length ys ≤ i → are_same (map string_bytes (drop i xs)) (map string_bytes (drop i ys)) ≡ true
same_end i xs ys h k =
    at_drop_all (λ z. are_same (map string_bytes z) (map string_bytes (drop i ys))) xs i h ∙ at_drop_all (λ z. are_same [] (map string_bytes z)) ys i k
