-- Numbers that are kept in 32 bits or in 64.
use Rattle.std.specs.Prelude.{◌≡◌, ◌≢◌, ◌↔◌, ℕ, ◌<◌, ◌≤◌, ℤ, pos, ◌+ℤ◌, ◌≤ℤ◌, ◌<ℤ◌, true, List, [], map, length, slice_index_or, Option, Some, None}
use Rattle.vx_rows_values.specs.Values.{Row}
use Rattle.vx_rows_values.specs.Order.{agree}
use Rattle.vx_rows.specs.declared.numbers.NumberWidth.{NumberWidth}
use Rattle.vx_rows.specs.declared.numbers.NumberWidth.TheVariants as number_width
use Rattle.vx_rows.specs.declared.numbers.NumbersRef.{NumbersRef}
use Rattle.vx_rows.specs.declared.numbers.NumbersRef.TheVariants as seen

-- the numbers, in order
abbrev pub kept_numbers : NumberWidth → List ℤ
kept_numbers (number_width.Narrow v) = v.items
kept_numbers (number_width.Wide v) = v.items

-- the numbers that a loop goes over
abbrev pub seen_numbers : NumbersRef → List ℤ
seen_numbers (seen.Narrow list) = list.now
seen_numbers (seen.Wide list) = list.now

-- the numbers at some positions
abbrev pub numbers_at : List ℤ → List ℕ → List ℤ
numbers_at numbers positions = map (λ p. slice_index_or numbers p (pos 0)) positions

-- the old numbers stay, and others may follow
pub record KeepsNumbers (old new : List ℤ) : Type 0 where
  pub long : length old ≤ length new
  pub kept : (k : ℕ) → k < length old → slice_index_or new k (pos 0) ≡ slice_index_or old k (pos 0)

-- the number at a position, and 0 past the end
abbrev pub number_at : List ℤ → ℕ → ℤ
number_at numbers k = slice_index_or numbers k (pos 0)

-- the first n numbers are `low` or above it, by less than `width`
pub record AreNear (numbers : List ℤ) (n : ℕ) (low : ℤ) (width : ℕ) : Type 0 where
  pub above : (k : ℕ) → k < n → low ≤ℤ (number_at numbers k)
  pub below : (k : ℕ) → k < n → (number_at numbers k) <ℤ (low +ℤ pos width)

-- no two of the first n numbers are equal
abbrev pub Differ : List ℤ → ℕ → Type 0
Differ numbers n = (i j : ℕ) → i < j → j < n → number_at numbers j ≢ number_at numbers i

-- an earlier position has the number at this one, and those before this one differ
pub record IsFirstRepeat (numbers : List ℤ) (second : ℕ) : Type 0 where
  pub earlier : ℕ
  pub order : earlier < second
  pub equal : number_at numbers second ≡ number_at numbers earlier
  pub before : Differ numbers second

-- of the first n numbers none are equal, or these are the first two: the least second position, and the least one equal to it
abbrev pub AreFirstEqual : List ℤ → ℕ → Option (ℕ × ℕ) → Type 0
AreFirstEqual numbers n None = Differ numbers n
AreFirstEqual numbers n (Some p) =
    (p.0 < p.1) × (p.1 < n) × (number_at numbers p.1 ≡ number_at numbers p.0) × Differ numbers p.1 × ((k : ℕ) → k < p.0 → number_at numbers p.1 ≢ number_at numbers k)

-- rows agree on these columns where their numbers are equal, and nowhere else
pub record AreKeyNumbers (cols : List ℕ) (rows : List Row) (numbers : List ℤ) : Type 0 where
  pub long : length rows ≤ length numbers
  pub same : (i j : ℕ) → i < length rows → j < length rows → (agree cols (slice_index_or rows i []) (slice_index_or rows j []) ≡ true) ↔ (number_at numbers i ≡ number_at numbers j)
