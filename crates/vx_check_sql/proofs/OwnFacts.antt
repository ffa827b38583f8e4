-- The names that a statement makes are apart: their level is above that of each known name, and no level changes with the case of letters.
use Rattle.std.proofs.Common.{◌≡◌, ℕ, zero, suc, ◌+◌, ◌<◌, ◌≤◌, ◌^◌, ◌==◌, ◌||◌, true, false, List, [], ◌∷◌, ◌++◌, max, length, get_or, drop, replicate, decimal, codes, refl, sym, ap, ◌∙◌, subst, append-nil, arith}
use Rattle.std.specs.List.{Contains, flat_map}
use Rattle.std.specs.Int.{IsInRange}
use Rattle.std.specs.Char.{to_ascii_lowercase, is_ascii_digit}
use Rattle.std.specs.Str.{str_to_ascii_lowercase}
use Rattle.std.proofs.lemmas.Fmt.{decimal_is_IsNumeral}
use Rattle.std.proofs.lemmas.Str.Ascii.{lowercase-lowercase, lowercase_is}
use Rattle.std.proofs.lemmas.Str.Parse.{digit_at}
use Rattle.std.proofs.lemmas.List.{at_drop_more}
use Rattle.std.proofs.lemmas.Grind.{common_steps}
use Rattle.vx_rows_values.specs.Values.{Name}
use Rattle.vx_catalog_relations.specs.Relation.{Relation}
use Rattle.vx_catalog_relations.specs.Catalog.{relation_at}
use Rattle.vx_plan_nodes.specs.Names.{Names}
use Rattle.vx_plan_nodes.specs.Outline.{Outline}
use Rattle.vx_check_sql.specs.Words.{alias, node_name, column_name}
use Rattle.vx_check_sql.specs.OwnNames.{is_own_letter, leading, has_digit, level, greatest_level, names_of, known_names, underscores, AreAlike, OwnNamesAreApart}

-- ---- case

same_letter : (b : ℕ) → is_own_letter (to_ascii_lowercase b) ≡ is_own_letter b
same_letter b = ap (λ c. (c == 110) || (c == 99)) (lowercase-lowercase b)

same_underscore : (b : ℕ) → (to_ascii_lowercase b == 95) ≡ (b == 95)
same_underscore b = grind (arith, common_steps, lowercase_is b)

same_digit : (b : ℕ) → is_ascii_digit (to_ascii_lowercase b) ≡ is_ascii_digit b
same_digit b = grind (arith, common_steps, lowercase_is b)

leading_lower : (bs : List ℕ) → leading (str_to_ascii_lowercase bs) ≡ leading bs
leading_lower [] = refl
leading_lower (b ∷ bs) = rw (same_underscore b, leading_lower bs)

read_lower : (bs : List ℕ) (i : ℕ) → get_or (str_to_ascii_lowercase bs) i 0 ≡ to_ascii_lowercase (get_or bs i 0)
read_lower [] i = refl
read_lower (b ∷ bs) zero = refl
read_lower (b ∷ bs) (suc i) = read_lower bs i

digit_lower : (bs : List ℕ) → has_digit (str_to_ascii_lowercase bs) ≡ has_digit bs
digit_lower bs = ap (λ i. is_ascii_digit (get_or (str_to_ascii_lowercase bs) i 0)) (leading_lower bs) ∙ ap is_ascii_digit (read_lower bs (leading bs)) ∙ same_digit (get_or bs (leading bs) 0)

level_lower : (x : Name) → level (str_to_ascii_lowercase x) ≡ level x
unfolding level
level_lower [] = refl
level_lower (b ∷ bs) = rw (same_letter b, digit_lower bs, leading_lower bs)

-- ---- own names

leading_own : (k d : ℕ) (rest : List ℕ) → (d == 95) ≡ false → leading (replicate k 95 ++ (d ∷ rest)) ≡ k
leading_own zero d rest h = rw h
leading_own (suc k) d rest h = rw (leading_own k d rest h) (omega arith)

read_own : (k d : ℕ) (rest : List ℕ) → get_or (replicate k 95 ++ (d ∷ rest)) k 0 ≡ d
read_own zero d rest = refl
read_own (suc k) d rest = read_own k d rest

own_level : (letter k d : ℕ) (rest : List ℕ) → is_own_letter letter ≡ true → (d == 95) ≡ false → is_ascii_digit d ≡ true → level (letter ∷ (replicate k 95 ++ (d ∷ rest))) ≡ suc k
unfolding level
own_level letter k d rest own other digit = rw (own, leading_own k d rest other, read_own k d rest, digit)

from_digit : (letter k : ℕ) (ds rest : List ℕ) → is_own_letter letter ≡ true → 0 < length ds → IsInRange 48 57 (get_or ds 0 0) → level (letter ∷ (replicate k 95 ++ (ds ++ rest))) ≡ suc k
from_digit letter k [] rest own some digit = absurd (omega arith)
from_digit letter k (d ∷ ds) rest own some digit = own_level letter k d (ds ++ rest) own (grind (arith, digit)) (grind (arith, digit))

from_number : (letter k n : ℕ) (rest : List ℕ) → is_own_letter letter ≡ true → n < 2 ^ 32 → level (letter ∷ (replicate k 95 ++ (decimal n ++ rest))) ≡ suc k
from_number letter k n rest own small =
    let numeral = decimal_is_IsNumeral n (omega arith) in
    from_digit letter k (decimal n) rest own numeral.0.0 (digit_at (decimal n) 0 numeral.0.1 numeral.0.0)

node_level : (k n : ℕ) → n < 2 ^ 32 → level (node_name (alias k n)) ≡ suc k
unfolding node_name
node_level k n small = subst (λ z. level (110 ∷ (replicate k 95 ++ z)) ≡ suc k) (append-nil (decimal n)) (from_number 110 k n [] refl small)

column_level : (k n i : ℕ) → n < 2 ^ 32 → level (column_name (alias k n) i) ≡ suc k
unfolding column_name
column_level k n i small = from_number 99 k n (codes "_" ++ decimal i) refl small

-- ---- known names

pub greatest_append : (xs ys : List Name) → greatest_level (xs ++ ys) ≡ max (greatest_level xs) (greatest_level ys)
greatest_append [] ys = omega arith
greatest_append (x ∷ xs) ys = omega (arith, greatest_append xs ys)

-- the names of relations from number i on begin with those of number i
pub next_relation : (i : ℕ) (rs : List Relation) → i < length rs
    → greatest_level (flat_map names_of (drop i rs)) ≡ max (greatest_level (names_of (relation_at rs i))) (greatest_level (flat_map names_of (drop (i + 1) rs)))
next_relation i rs h =
    at_drop_more (λ z. greatest_level (flat_map names_of z)) rs i (record { name = []; names = []; types = []; keys = []; order = [] }) h
    ∙ greatest_append (names_of (relation_at rs i)) (flat_map names_of (drop (i + 1) rs))

level_at : (xs : List Name) (i : ℕ) (x : Name) → i < length xs → level (get_or xs i x) ≤ greatest_level xs
level_at [] i x h = absurd (omega arith)
level_at (y ∷ ys) zero x h = omega arith
level_at (y ∷ ys) (suc i) x h = omega (arith, level_at ys i x (omega arith))

known_level : (xs : List Name) (x : Name) → Contains xs x → level x ≤ greatest_level xs
known_level xs x (i, h, is) = subst (λ z. level z ≤ greatest_level xs) is (level_at xs i x h)

-- no known name is like one whose level is above theirs
differs : (known : List Name) (x y : Name) → Contains known x → level y ≡ suc (greatest_level known) → ¬ AreAlike x y
differs known x y c above alike =
    let same : level x ≡ level y = sym (level_lower x) ∙ ap level alike ∙ level_lower y in
    omega (arith, known_level known x c)

pub own_apart : (s : Names) (t : Outline) → OwnNamesAreApart s t
unfolding OwnNamesAreApart underscores
own_apart s t = λ x n i c small.
    let k = underscores s t in
    (differs (known_names s t) x (node_name (alias k n)) c (node_level k n small), differs (known_names s t) x (column_name (alias k n) i) c (column_level k n i small))
