-- Functions of texts, which are lists of bytes in UTF-8: by characters where it says so.
use Rattle.std.specs.Prelude.{ℕ, ℤ, pos, ◌+◌, ◌+ℤ◌, ◌==◌, int_le, int_lt, Bool, true, false, cond, ◌&&◌, ◌||◌, List, [], ◌∷◌, ◌++◌, length}
use Rattle.std.specs.Char.{encode_utf8}
use Rattle.std.specs.Str.{chars, str_to_ascii_lowercase, str_to_ascii_uppercase}

-- how many characters
abbrev pub characters : List ℕ → ℤ
characters text = pos (length (chars text))

-- with the letters from A to Z as those from a to z, and the other way round
abbrev pub lower : List ℕ → List ℕ
lower text = str_to_ascii_lowercase text

abbrev pub upper : List ℕ → List ℕ
upper text = str_to_ascii_uppercase text

-- the text begins with the front
abbrev pub begins : (front text : List ℕ) → Bool
begins [] text = true
begins (x ∷ front) [] = false
begins (x ∷ front) (y ∷ text) = (x == y) && begins front text

-- the part stands in the text, from some byte on; as both are in UTF-8, it stands there from a character on
abbrev pub stands_in : (part text : List ℕ) → Bool
stands_in part [] = begins part []
stands_in part (y ∷ text) = begins part (y ∷ text) || stands_in part text

-- a number of a character, counted from 1, is one of so many from a number on
abbrev pub is_between : (from count number : ℤ) → Bool
is_between from count number = int_le from number && int_lt number (from +ℤ count)

-- a character, or nothing
abbrev pub if_between : (is_between : Bool) → ℕ → List ℕ
if_between b c = cond b (encode_utf8 c) []

-- the characters whose numbers are, behind so many others
abbrev pub picked : (from count : ℤ) → (passed : ℕ) → List ℕ → List ℕ
picked from count passed [] = []
picked from count passed (c ∷ cs) = if_between (is_between from count (pos (passed + 1))) c ++ picked from count (passed + 1) cs

-- so many characters of a text from this one on, counted from 1, as far as they are there; none of a number below zero
abbrev pub substring : (from count : ℤ) → List ℕ → List ℕ
substring from count text = picked from count 0 (chars text)
