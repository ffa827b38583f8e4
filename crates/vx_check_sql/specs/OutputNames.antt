-- What the columns of a SELECT are called: by the plan's names where each system can tell these apart, else by own names.
use Rattle.std.specs.Prelude.{ℕ, suc, ◌==◌, nat_lt, Bool, true, false, not, ◌&&◌, ◌||◌, List, [], ◌∷◌, map, length, if◌then◌else◌}
use Rattle.std.specs.List.{list_any}
use Rattle.std.specs.Str.{str_eq_ignore_ascii_case}
use Rattle.vx_rows_values.specs.Values.{Name}
use Rattle.vx_check_sql.specs.declared.dialect.Dialect.{Dialect}
use Rattle.vx_check_sql.specs.declared.dialect.Dialect.TheVariants.{Sqlite, Postgres, ClickHouse}
use Rattle.vx_check_sql.specs.declared.words.Alias.{Alias}
use Rattle.vx_check_sql.specs.Words.{identifier, column_name}

-- PostgreSQL reads 63 bytes of a name, and neither it nor SQLite reads on behind the character 0
abbrev pub is_plain : Name → Bool
is_plain x = nat_lt (length x) 64 && not (list_any (λ b. b == 0) x)

-- SQLite takes two names for one if they differ in the case of letters alone
abbrev pub has_alike : Name → List Name → Bool
has_alike x [] = false
has_alike x (y ∷ ys) = str_eq_ignore_ascii_case x y || has_alike x ys

abbrev pub are_apart : List Name → Bool
are_apart [] = true
are_apart (x ∷ xs) = (is_plain x && not (has_alike x xs)) && are_apart xs

-- own names for the columns from number i on
abbrev pub numbered : (n : Alias) (i : ℕ) → List Name → List (List ℕ)
numbered n i [] = []
numbered n i (x ∷ xs) = column_name n i ∷ numbered n (suc i) xs

-- ClickHouse has a name of an output stand for its column in the whole SELECT, in place of a column of a table
abbrev pub takes_names : Dialect → List Name → Bool
takes_names Sqlite names = are_apart names
takes_names Postgres names = are_apart names
takes_names ClickHouse names = false

-- the names of the columns of node n, as they are written
unfoldable pub output_names : Dialect → (n : Alias) → List Name → List (List ℕ)
output_names d n names = if takes_names d names then map (identifier d) names else numbered n 0 names
