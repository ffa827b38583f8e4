-- The lines of a text, and where its records begin. The records are those that `csv` reads.
use Rattle.std.specs.Prelude.{◌≡◌, ℕ, ◌+◌, ◌==◌, ◌||◌, List, [], ◌∷◌, ◌++◌, drop, count_by, Option, Some, None, Bool, false, if◌then◌else◌}
use Rattle.std.specs.Io.KnownBytes.{Consumes, IsAtEnd, Keeps, prepend_known}
use Rattle.csv.specs.Reading.{is_bom}
use Rattle.volcano_locations.specs.declared.source.ByteSource.{ByteSource}

-- a line feed ends a line
abbrev pub is_feed : ℕ → Bool
is_feed c = c == 10

-- the line behind a byte, if there is one
abbrev pub line_after : ℕ → Option ℕ → ℕ
line_after line None = line
line_after line (Some c) = if is_feed c then line + 1 else line

-- the bytes that a source has left: those of its chunk, and then those of its port, where these are known
abbrev pub left_in : {R : Type 0} → (R → Option (List ℕ)) → ByteSource R → Option (List ℕ)
left_in remaining s = prepend_known (drop s.at s.chunk.items) (remaining s.port)

-- known bytes begin with this one, and lose it; without one there is none
abbrev pub Gives : Option (List ℕ) → Option (List ℕ) → Option ℕ → Type 0
Gives old new None = IsAtEnd new × Keeps old new
Gives old new (Some c) = Consumes old new (c ∷ [])

-- bytes begin with the byte order mark
abbrev pub has_mark : List ℕ → Bool
has_mark [] = false
has_mark (a ∷ []) = false
has_mark (a ∷ b ∷ []) = false
has_mark (a ∷ b ∷ c ∷ rest) = is_bom a b c

-- a byte that ends a line
abbrev pub ends_line : ℕ → Bool
ends_line c = (c == 13) || (c == 10)

-- the line on which the first record of a text begins, where the first byte is on this line: ends of lines before it are skipped
unfoldable pub begins_on : ℕ → List ℕ → ℕ
begins_on line [] = line
begins_on line (c ∷ rest) = if ends_line c then begins_on (line_after line (Some c)) rest else line

-- known bytes lost a front, which led from a line to another
abbrev pub Passes : Option (List ℕ) → Option (List ℕ) → ℕ → ℕ → Type 0
Passes None new line next = Unit {0}
Passes (Some xs) None line next = ⊥
Passes (Some xs) (Some ys) line next = (front : List ℕ) × (xs ≡ front ++ ys) × (next ≡ line + count_by is_feed front)
