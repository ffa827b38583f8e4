-- Elements that pass a test, by their places, and columns by the positions of their rows.
use Rattle.std.specs.Prelude.{◌≡◌, ℕ, ◌<◌, ◌+◌, ℤ, pos, Bool, false, cond, List, [], ◌∷◌, length, slice_index, slice_index_or}
use Rattle.vx_rows_values.specs.Values.{Val, num, text, Row, value_at}

-- a test of numbers, as one of values: no text passes
abbrev pub of_number : (ℤ → Bool) → Val → Bool
of_number p (num z) = p z
of_number p (text s) = false

-- the places from n on of the elements that pass
abbrev pub places_from : {X : Type 0} → (X → Bool) → ℕ → List X → List ℕ
places_from p n [] = []
places_from p n (x ∷ xs) = cond (p x) (n ∷ places_from p (n + 1) xs) (places_from p (n + 1) xs)

-- the places of the elements that pass
abbrev pub places_of : {X : Type 0} → (X → Bool) → List X → List ℕ
places_of p xs = places_from p 0 xs

-- these numbers at these positions are the values of a column
pub record AreNumbers (numbers : List ℤ) (positions : List ℕ) (column : ℕ) (rows : List Row) : Type 0 where
  pub long : length positions ≡ length rows
  pub near : (k : ℕ) → k < length rows → slice_index positions k < length numbers
  pub values : (k : ℕ) → k < length rows → value_at (slice_index_or rows k []) column ≡ num (slice_index_or numbers (slice_index positions k) (pos 0))

-- these texts at these positions are the values of a column
pub record AreTexts (texts : List (List ℕ)) (positions : List ℕ) (column : ℕ) (rows : List Row) : Type 0 where
  pub long : length positions ≡ length rows
  pub near : (k : ℕ) → k < length rows → slice_index positions k < length texts
  pub values : (k : ℕ) → k < length rows → value_at (slice_index_or rows k []) column ≡ text (slice_index_or texts (slice_index positions k) [])
