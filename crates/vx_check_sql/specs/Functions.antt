-- What the program's functions are in SQL: what stands before, between and behind their operands.
use Rattle.std.specs.Prelude.{ℕ, suc, ◌++◌, ◌==◌, Bool, true, false, cond, ◌&&◌, List, [], ◌∷◌, codes, Option, Some, None}
use Rattle.vx_functions.specs.declared.standard.StandardFunction.{StandardFunction}
use Rattle.vx_functions.specs.declared.standard.StandardFunction.TheVariants as f
use Rattle.vx_check_sql.specs.declared.dialect.Dialect.{Dialect}
use Rattle.vx_check_sql.specs.declared.dialect.Dialect.TheVariants.{Sqlite, Postgres, ClickHouse}

-- what stands before the first operand, the second and the third one, and behind the last; and whether that is a test, of which a call is 1 or 0
pub record Form : Type 0 where
  pub opening : List ℕ
  pub second : List ℕ
  pub third : List ℕ
  pub closing : List ℕ
  pub is_test : Bool

abbrev pub value_of : (opening second third closing : List ℕ) → Form
value_of opening second third closing = record { opening = opening; second = second; third = third; closing = closing; is_test = false }

abbrev pub test_of : (opening second closing : List ℕ) → Form
test_of opening second closing = record { opening = opening; second = second; third = []; closing = closing; is_test = true }

-- ---- those that the dialects write in ways of their own

-- toward zero
abbrev pub division : Dialect → Form
division Sqlite = value_of (codes "(") (codes " / ") [] (codes ")")
division Postgres = value_of (codes "(") (codes " / ") [] (codes ")")
division ClickHouse = value_of (codes "intDiv(") (codes ", ") [] (codes ")")

-- texts one behind the other
abbrev pub concatenation : Dialect → Form
concatenation Sqlite = value_of (codes "(") (codes " || ") [] (codes ")")
concatenation Postgres = value_of (codes "(") (codes " || ") [] (codes ")")
concatenation ClickHouse = value_of (codes "concat(") (codes ", ") [] (codes ")")

-- how many characters
abbrev pub length_form : Dialect → Form
length_form Sqlite = value_of (codes "length(") [] [] (codes ")")
length_form Postgres = value_of (codes "CAST(length(") [] [] (codes ") AS bigint)")
length_form ClickHouse = value_of (codes "toInt64(lengthUTF8(") [] [] (codes "))")

-- a text begins with another one where that is first found at its beginning
abbrev pub front : Dialect → Form
front Sqlite = test_of (codes "instr(") (codes ", ") (codes ") = 1")
front Postgres = test_of (codes "strpos(") (codes ", ") (codes ") = 1")
front ClickHouse = test_of (codes "startsWith(") (codes ", ") (codes ")")

-- a text stands in another one where it is found
abbrev pub inner_part : Dialect → Form
inner_part Sqlite = test_of (codes "instr(") (codes ", ") (codes ") > 0")
inner_part Postgres = test_of (codes "strpos(") (codes ", ") (codes ") > 0")
inner_part ClickHouse = test_of (codes "position(") (codes ", ") (codes ") > 0")

-- a text is like a pattern. SQLite's LIKE takes no account of case, so the pattern becomes one of its GLOB: characters that GLOB does not take as themselves go into
-- brackets, [A], [B], [C] and [E] stand for a backslash, a percent sign, an underscore and the end of the pattern, which no brackets of the first step are, a backslash
-- before another character goes, and then the signs of LIKE become those of GLOB. PostgreSQL refuses a backslash that escapes nothing at the end, so it is written
-- twice; ClickHouse does so too, and takes a backslash as itself before a character that is no sign, so it goes there
abbrev pub likeness : Dialect → Form
likeness Sqlite = test_of [] (codes " GLOB replace(replace(replace(replace(replace(replace(replace(replace(replace(replace(replace(replace(replace(replace(") (codes ",'[','[[]'),'*','[*]'),'?','[?]')||'[E]','\\\\','[A]'),'\\[E]','[A]'),'[E]',''),'\\%','[B]'),'\\_','[C]'),'\\',''),'%','*'),'_','?'),'[A]','\\'),'[B]','%'),'[C]','_')")
likeness Postgres = test_of [] (codes " LIKE regexp_replace(") (codes ", '^((?:[^\\\\]|\\\\.)*)\\\\$', '\\1\\\\\\\\')")
likeness ClickHouse = test_of (codes "like(") (codes ", replaceRegexpOne(replaceRegexpAll(") (codes ", '(?s)((?:[^\\\\\\\\]|\\\\\\\\[%_\\\\\\\\])*)\\\\\\\\([^%_\\\\\\\\])', '\\\\1\\\\2'), '(?s)^((?:[^\\\\\\\\]|\\\\\\\\.)*)\\\\\\\\$', '\\\\1\\\\\\\\\\\\\\\\'))")

-- characters of a text by their numbers. SQLite counts a number below 1 from the end, and ClickHouse does so or refuses it, so the span is cut to the numbers from 1 on;
-- PostgreSQL cuts it by itself
abbrev pub span : Dialect → Form
span Sqlite = value_of (codes "(SELECT substr(s, min(max(f, 1), 2147483647), min(max(k - 1 + min(f, 1), 0), 2147483647)) FROM (SELECT ") (codes " AS s, ") (codes " AS f, ") (codes " AS k))")
span Postgres = value_of (codes "substr(") (codes ", CAST(") (codes " AS int), CAST(greatest(") (codes ", 0) AS int))")
span ClickHouse = value_of (codes "arrayMap((s, f, k) -> substringUTF8(s, greatest(f, 1), greatest(greatest(k, 0) + (least(greatest(f, -9223372036854775807), 1) - 1), 0)), [") (codes "], [") (codes "], [") (codes "])[1]")

-- ---- all

-- of a name that is no function's, the operands alone
abbrev pub call_form : Dialect → Option StandardFunction → Form
call_form d None = value_of [] [] [] []
call_form d (Some f.Add) = value_of (codes "(") (codes " + ") [] (codes ")")
call_form d (Some f.Sub) = value_of (codes "(") (codes " - ") [] (codes ")")
call_form d (Some f.Mul) = value_of (codes "(") (codes " * ") [] (codes ")")
call_form d (Some f.Neg) = value_of (codes "(- ") [] [] (codes ")")
call_form d (Some f.Div) = division d
call_form d (Some f.Mod) = value_of (codes "(") (codes " % ") [] (codes ")")
call_form d (Some f.Eq) = test_of [] (codes " = ") []
call_form d (Some f.Ne) = test_of [] (codes " <> ") []
call_form d (Some f.Lt) = test_of [] (codes " < ") []
call_form d (Some f.Le) = test_of [] (codes " <= ") []
call_form d (Some f.Gt) = test_of [] (codes " > ") []
call_form d (Some f.Ge) = test_of [] (codes " >= ") []
call_form d (Some f.And) = test_of [] (codes " <> 0 AND ") (codes " <> 0")
call_form d (Some f.Or) = test_of [] (codes " <> 0 OR ") (codes " <> 0")
call_form d (Some f.Not) = test_of [] [] (codes " = 0")
call_form d (Some f.Length) = length_form d
call_form d (Some f.Lower) = value_of (codes "lower(") [] [] (codes ")")
call_form d (Some f.Upper) = value_of (codes "upper(") [] [] (codes ")")
call_form d (Some f.Concat) = concatenation d
call_form d (Some f.StartsWith) = front d
call_form d (Some f.Contains) = inner_part d
call_form d (Some f.Like) = likeness d
call_form d (Some f.Substring) = span d
call_form d (Some f.If) = value_of (codes "CASE WHEN ") (codes " <> 0 THEN ") (codes " ELSE ") (codes " END")

-- what stands before the operand with this number
abbrev pub before : Form → ℕ → List ℕ
before w i = cond (i == 1) w.second (cond (i == 2) w.third [])

-- operands from this number on
abbrev pub spaced : Form → ℕ → List (List ℕ) → List ℕ
spaced w i [] = []
spaced w i (x ∷ xs) = before w i ++ (x ++ spaced w (suc i) xs)

-- 1 where a test holds, else 0, as numbers of 64 bits
abbrev pub truth_sql : Dialect → List ℕ
truth_sql Sqlite = codes " THEN 1 ELSE 0 END"
truth_sql Postgres = codes " THEN CAST(1 AS bigint) ELSE CAST(0 AS bigint) END"
truth_sql ClickHouse = codes " THEN toInt64(1) ELSE toInt64(0) END"

-- ---- what leaves 64 bits

-- a function of numbers that may leave 64 bits, or divides
abbrev pub overflows : Option StandardFunction → Bool
overflows (Some f.Add) = true
overflows (Some f.Sub) = true
overflows (Some f.Mul) = true
overflows (Some f.Neg) = true
overflows (Some f.Div) = true
overflows (Some f.Mod) = true
overflows _ = false

-- a function whose answer in SQLite is no whole number where one of its operands is none: so the operands need no test. A remainder is one nevertheless
abbrev pub tests_operands : Option StandardFunction → Bool
tests_operands (Some f.Add) = false
tests_operands (Some f.Sub) = false
tests_operands (Some f.Mul) = false
tests_operands (Some f.Neg) = false
tests_operands (Some f.Div) = false
tests_operands _ = true

-- SQLite has a floating number where a whole one leaves 64 bits, and NULL where it divides by 0. A test makes an error of these, unless the call stands in one that does
abbrev pub is_tested : Dialect → (asks : Bool) → Option StandardFunction → Bool
is_tested Sqlite asks function = asks && overflows function
is_tested d asks function = false

-- ---- calls

abbrev pub test_before : (tests : Bool) → List ℕ
test_before tests = cond tests (codes "(SELECT CASE typeof(v) WHEN 'integer' THEN v ELSE abs(-9223372036854775807 - 1 + 0 * length(typeof(v))) END FROM (SELECT ") []

abbrev pub case_before : (is_test : Bool) → List ℕ
case_before is_test = cond is_test (codes "CASE WHEN ") []

abbrev pub opening_sql : (tests : Bool) → Form → List ℕ
opening_sql tests w = test_before tests ++ (case_before w.is_test ++ w.opening)

abbrev pub closing_sql : Dialect → (tests : Bool) → Form → List ℕ
closing_sql d tests w = w.closing ++ (cond w.is_test (truth_sql d) [] ++ cond tests (codes " AS v))") [])

-- a call with these operands
abbrev pub call_sql : Dialect → (asks : Bool) → Option StandardFunction → List (List ℕ) → List ℕ
call_sql d asks function operands =
    opening_sql (is_tested d asks function) (call_form d function) ++ (spaced (call_form d function) 0 operands ++ closing_sql d (is_tested d asks function) (call_form d function))
