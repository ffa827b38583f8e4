-- Patterns of LIKE: `%` stands for any characters, `_` for one, and a backslash takes the next character as itself, at the end itself.
use Rattle.std.specs.Prelude.{ℕ, ◌==◌, Bool, true, false, cond, ◌&&◌, ◌||◌, List, [], ◌∷◌}
use Rattle.std.specs.Str.{chars}
use Rattle.vx_functions.specs.declared.patterns.Part.{Part}
use Rattle.vx_functions.specs.declared.patterns.Part.TheVariants.{Any, One, Itself}

-- what a character stands for that follows no backslash
abbrev pub part_of : ℕ → Part
part_of c = cond (c == 37) Any (cond (c == 95) One (Itself c))

-- the parts of a pattern, behind a backslash or not
abbrev pub parts_after : (is_escaped : Bool) → List ℕ → List Part
parts_after false [] = []
parts_after true [] = Itself 92 ∷ []
parts_after false (c ∷ cs) = cond (c == 92) (parts_after true cs) (part_of c ∷ parts_after false cs)
parts_after true (c ∷ cs) = Itself c ∷ parts_after false cs

-- ---- matches

abbrev pub is_end : List ℕ → Bool
is_end [] = true
is_end (c ∷ cs) = false

-- the text from some character on, or its end, matches
abbrev pub anywhere : (List ℕ → Bool) → List ℕ → Bool
anywhere f [] = f []
anywhere f (c ∷ cs) = f (c ∷ cs) || anywhere f cs

-- one character passes, and what is behind it matches
abbrev pub behind_one : (ℕ → Bool) → (List ℕ → Bool) → List ℕ → Bool
behind_one test f [] = false
behind_one test f (c ∷ cs) = test c && f cs

-- a character that a part may stand for
abbrev pub passes : Part → ℕ → Bool
passes Any c = true
passes One c = true
passes (Itself d) c = c == d

-- a part, before what matches behind it
abbrev pub before : Part → (List ℕ → Bool) → List ℕ → Bool
before Any f = anywhere f
before One f = behind_one (passes One) f
before (Itself d) f = behind_one (passes (Itself d)) f

-- the whole text matches the parts
abbrev pub matches : List Part → List ℕ → Bool
matches [] = is_end
matches (p ∷ ps) = before p (matches ps)

-- the text is like the pattern
abbrev pub like : (pattern text : List ℕ) → Bool
like pattern text = matches (parts_after false (chars pattern)) (chars text)
