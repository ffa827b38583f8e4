-- Keys: columns on which no two rows of a list agree.
use Rattle.std.specs.Prelude.{◌≡◌, ◌↔◌, ℕ, ◌≤◌, Bool, true, not, ◌&&◌, List, [], ◌∷◌, ◌++◌, length, Option, Some, None, position, nat_lt, if◌then◌else◌}
use Rattle.std.specs.List.{list_all}
use Rattle.vx_rows_values.specs.Values.{Row}
use Rattle.vx_rows_values.specs.Order.{agree}
use Rattle.vx_rows_values.specs.Bags.{count}

-- no two positions agree on these columns: any row agrees with one of them at most
abbrev pub HasKey : List ℕ → List Row → Type 0
HasKey cols xs = (row : Row) → count (agree cols row) xs ≤ 1

-- the same as a test: no row agrees with a later one
abbrev pub is_key : List ℕ → List Row → Bool
is_key cols [] = true
is_key cols (x ∷ xs) = list_all (λ y. not (agree cols x y)) xs && is_key cols xs

-- the clash of the row at this position with the first earlier one that agrees, else that of the rows after it
abbrev pub clash_or : ℕ → Option ℕ → Option (ℕ × ℕ) → Option (ℕ × ℕ)
clash_or second (Some first) later = Some (first, second)
clash_or second None later = later

-- the first clash among these rows, which stand behind the rows `seen`
abbrev pub clash_from : List ℕ → List Row → List Row → Option (ℕ × ℕ)
clash_from cols seen [] = None
clash_from cols seen (row ∷ rows) = clash_or (length seen) (position (agree cols row) seen) (clash_from cols (seen ++ row ∷ []) rows)

-- the least second position that agrees with an earlier one, and the least such earlier one, as (earlier, second)
abbrev pub first_clash : List ℕ → List Row → Option (ℕ × ℕ)
first_clash cols rows = clash_from cols [] rows

-- of a clash that was found before, if any, and this one, the one whose second row comes first
abbrev pub earlier_clash : Option (ℕ × ℕ) → ℕ → ℕ → Option (ℕ × ℕ)
earlier_clash None first second = Some (first, second)
earlier_clash (Some clash) first second = if nat_lt second clash.1 then Some (first, second) else Some clash

-- the three forms of a key say the same
pub record KeyLaw : Type 0 where
  pub tested : (cols : List ℕ) (xs : List Row) → (is_key cols xs ≡ true) ↔ HasKey cols xs
  pub clashed : (cols : List ℕ) (xs : List Row) → (first_clash cols xs ≡ None) ↔ (is_key cols xs ≡ true)
