-- How a text is shown on one line.
use Rattle.std.specs.Str.{is_utf8, chars}
use Rattle.std.specs.List.{list_any}
use Rattle.std.specs.Prelude.{get_or, ◌≡◌, ℕ, ◌+◌, ◌/◌, ◌%◌, ◌==◌, ◌≤◌, ◌&&◌, ◌||◌, not, nat_lt, List, [], ◌∷◌, ◌++◌, flat_map, take, length, codes, Bool, if◌then◌else◌}

-- the digit of a number below 16
abbrev pub digit : ℕ → ℕ
digit n = if nat_lt n 10 then 48 + n else 87 + n

-- a byte by its number
abbrev pub numbered : ℕ → List ℕ
numbered c = 92 ∷ 120 ∷ digit (c / 16) ∷ digit (c % 16) ∷ []

-- a byte that is shown as it is: of ASCII but for what has no shape, and the others if they are seen
abbrev pub is_bare : Bool → ℕ → Bool
is_bare seen c = not (nat_lt c 32) && (not (c == 127) && (nat_lt c 128 || seen))

-- the ends of lines and tabs have escapes of their own
unfoldable pub byte_shown : Bool → ℕ → List ℕ
byte_shown seen c =
    if c == 10 then 92 ∷ 110 ∷ [] else if c == 13 then 92 ∷ 114 ∷ [] else if c == 9 then 92 ∷ 116 ∷ []
    else if is_bare seen c then c ∷ [] else numbered c

-- in quotes, quotes and backslashes stand behind a backslash
unfoldable pub byte_quoted : Bool → ℕ → List ℕ
byte_quoted seen c = if (c == 34) || (c == 92) then 92 ∷ c ∷ [] else byte_shown seen c

-- a number is from one to another
abbrev pub is_from : ℕ → ℕ → ℕ → Bool
is_from least most n = not (nat_lt n least) && not (nat_lt most n)

-- a character that is not seen by itself, or moves what is: controls, and marks of width, direction and order
abbrev pub is_hidden : ℕ → Bool
is_hidden c =
    is_from 128 159 c || (is_from 8203 8207 c || (is_from 8232 8238 c || (is_from 8288 8297 c || c == 65279)))

-- bytes are UTF-8, and none of their characters is hidden
unfoldable pub are_seen : List ℕ → Bool
are_seen text = is_utf8 text && not (list_any is_hidden (chars text))

-- a text on a line
abbrev pub text_shown : List ℕ → List ℕ
text_shown text = flat_map (byte_shown (are_seen text)) text

-- a text on a line, where bytes beyond ASCII are seen or not
abbrev pub IsShown : List ℕ → List ℕ → Type 0
IsShown text shown = (seen : Bool) × (shown ≡ flat_map (byte_shown seen) text)

-- a byte that begins no character
abbrev pub is_continuation : ℕ → Bool
is_continuation c = nat_lt 127 c && nat_lt c 192

-- the last of the places 60 to 57 at which a character begins, or 60
abbrev pub cut_place : List ℕ → ℕ
cut_place text =
    if not (is_continuation (get_or text 60 0)) then 60 else if not (is_continuation (get_or text 59 0)) then 59
    else if not (is_continuation (get_or text 58 0)) then 58 else if not (is_continuation (get_or text 57 0)) then 57 else 60

-- how many bytes of a text are shown in quotes: all, or those before such a place
unfoldable pub quoted_length : List ℕ → ℕ
quoted_length text = if nat_lt 60 (length text) then cut_place text else length text

-- the first bytes of a text in quotes, and dots behind where it has more
abbrev pub quoted_front : ℕ → List ℕ → List ℕ
quoted_front n text = 34 ∷ (flat_map (byte_quoted (are_seen (take n text))) (take n text) ++ 34 ∷ (if nat_lt n (length text) then codes "..." else []))

abbrev pub text_quoted : List ℕ → List ℕ
text_quoted text = quoted_front (quoted_length text) text

-- a text in quotes, or the first of its bytes with dots behind
abbrev pub IsQuoted : List ℕ → List ℕ → Type 0
IsQuoted text quoted =
    (seen : Bool) × (n : ℕ) × (n ≤ 60) × (quoted ≡ 34 ∷ (flat_map (byte_quoted seen) (take n text) ++ 34 ∷ (if nat_lt n (length text) then codes "..." else [])))
