-- The words of a statement: quoted names and texts, and its own names for nodes and columns.
use Rattle.std.specs.Prelude.{ℕ, ◌==◌, ◌++◌, ◌||◌, List, [], ◌∷◌, codes, decimal, replicate, if◌then◌else◌}
use Rattle.std.specs.List.{flat_map}
use Rattle.std.specs.Char.{encode_utf8}
use Rattle.std.specs.Str.{chars}
use Rattle.std.specs.Fmt.{signed_decimal}
use Rattle.vx_rows_values.specs.Values.{Val, num, text, Name}
use Rattle.vx_check_sql.specs.declared.dialect.Dialect.{Dialect}
use Rattle.vx_check_sql.specs.declared.dialect.Dialect.TheVariants.{Sqlite, Postgres, ClickHouse}
use Rattle.vx_check_sql.specs.declared.words.Alias.{Alias}

-- ---- quotes

-- what stands before a quote inside of quotes: in SQL the quote once more, in ClickHouse a backslash
abbrev pub escape_of : Dialect → ℕ → ℕ
escape_of Sqlite quote = quote
escape_of Postgres quote = quote
escape_of ClickHouse quote = 92

-- what stands for the character 0 inside of a text: where it cannot be written within quotes, a call that makes it, between the two parts of the text
abbrev pub zero_in_text : Dialect → List ℕ
zero_in_text Sqlite = codes "'||char(0)||'"
zero_in_text Postgres = codes "'||chr(0)||'"
zero_in_text ClickHouse = codes "\\0"

-- the same inside of a name, which is no expression: the character itself, but in ClickHouse
abbrev pub zero_in_name : Dialect → List ℕ
zero_in_name Sqlite = 0 ∷ []
zero_in_name Postgres = 0 ∷ []
zero_in_name ClickHouse = codes "\\0"

-- a character inside of quotes: the quote and the escape have the escape before them
abbrev pub inside : (quote escape : ℕ) → (zero : List ℕ) → ℕ → List ℕ
inside quote escape zero c =
    if c == 0 then zero
    else if (c == quote) || (c == escape) then encode_utf8 escape ++ encode_utf8 c
    else encode_utf8 c

abbrev pub insides : (quote escape : ℕ) → (zero : List ℕ) → List ℕ → List ℕ
insides quote escape zero words = flat_map (inside quote escape zero) (chars words)

unfoldable pub quoted : Dialect → (quote : ℕ) → (zero : List ℕ) → List ℕ → List ℕ
quoted d quote zero words = encode_utf8 quote ++ (insides quote (escape_of d quote) zero words ++ encode_utf8 quote)

-- the name of a table or a column of the database, in double quotes
abbrev pub identifier : Dialect → Name → List ℕ
identifier d name = quoted d 34 (zero_in_name d) name

-- a number in plain decimal, a text in single quotes
abbrev pub value_sql : Dialect → Val → List ℕ
value_sql d (num z) = signed_decimal z
value_sql d (text words) = quoted d 39 (zero_in_text d) words

-- ---- own names

-- how a statement calls a node: by its number, and by how many underscores all own names of the statement have behind their first letter
abbrev pub alias : (underscores node : ℕ) → Alias
alias k n = record { underscores = k; node = n }

-- the rows of a node
unfoldable pub node_name : Alias → List ℕ
node_name a = codes "n" ++ (replicate a.underscores 95 ++ decimal a.node)

-- a column of a node by its number
unfoldable pub column_name : Alias → ℕ → List ℕ
column_name a i = codes "c" ++ (replicate a.underscores 95 ++ (decimal a.node ++ (codes "_" ++ decimal i)))
