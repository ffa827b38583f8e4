-- The names that a statement makes for its nodes and columns, and that they are apart from the names that it does not make.
use Rattle.std.specs.Prelude.{◌≡◌, ℕ, suc, ◌==◌, ◌<◌, ◌^◌, ◌||◌, ◌&&◌, ◌++◌, Bool, List, [], ◌∷◌, max, slice_index_or, if◌then◌else◌}
use Rattle.std.specs.List.{flat_map, prefix_len, Contains}
use Rattle.std.specs.Char.{to_ascii_lowercase, is_ascii_digit}
use Rattle.std.specs.Str.{str_to_ascii_lowercase}
use Rattle.vx_rows_values.specs.Values.{Name}
use Rattle.vx_catalog_relations.specs.Relation.{Relation}
use Rattle.vx_plan_nodes.specs.Names.{Names}
use Rattle.vx_plan_nodes.specs.Outline.{Outline, columns}
use Rattle.vx_check_sql.specs.Words.{alias, node_name, column_name}

-- ---- names that begin like one of the statement's own

-- the first letter of an own name: n or c, of either case
abbrev pub is_own_letter : ℕ → Bool
is_own_letter b = (to_ascii_lowercase b == 110) || (to_ascii_lowercase b == 99)

-- how many underscores these bytes begin with
abbrev pub leading : List ℕ → ℕ
leading bytes = prefix_len (λ b. b == 95) bytes

-- whether a digit is the first byte behind these underscores
abbrev pub has_digit : List ℕ → Bool
has_digit bytes = is_ascii_digit (slice_index_or bytes (leading bytes) 0)

-- a name begins like an own name where its first letter is one, and a digit stands behind it and behind underscores, if there are any.
-- Its level is then 1 and one for each of these underscores; each other name's is 0
unfoldable pub level : List ℕ → ℕ
level [] = 0
level (b ∷ bytes) = if is_own_letter b && has_digit bytes then suc (leading bytes) else 0

abbrev pub greatest_level : List Name → ℕ
greatest_level [] = 0
greatest_level (x ∷ xs) = max (level x) (greatest_level xs)

-- ---- the names that a statement does not make

abbrev pub names_of : Relation → List Name
names_of r = r.name ∷ r.names

-- those of the catalog's relations and their columns, and those of the result's columns
abbrev pub known_names : Names → Outline → List Name
known_names s t = flat_map names_of s.catalog ++ (columns t).names

-- how many underscores the own names of a statement have behind their first letter
unfoldable pub underscores : Names → Outline → ℕ
underscores s t = greatest_level (known_names s t)

-- ---- the own names are apart

-- these names are equal where the case of letters does not count
abbrev pub AreAlike : Name → Name → Type 0
AreAlike x y = str_to_ascii_lowercase x ≡ str_to_ascii_lowercase y

-- no known name is like the name of a node, whose number has 32 bits, or like that of a column of its rows
unfoldable pub OwnNamesAreApart : Names → Outline → Type 0
OwnNamesAreApart s t =
    (x : Name) (n i : ℕ) → Contains (known_names s t) x → n < 2 ^ 32
    → let node = alias (underscores s t) n in (¬ AreAlike x (node_name node)) × (¬ AreAlike x (column_name node i))
