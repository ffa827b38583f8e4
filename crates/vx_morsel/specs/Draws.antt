-- Numbers that are dealt out to the seats of a deck (our own).
use Rattle.std.specs.Prelude.{◌≡◌, ℕ, ◌+◌, ◌<◌, ◌≤◌, ◌==◌, nat_lt, Bool, true, cond, List, [], ◌∷◌, zero, suc, false, ◌||◌}

-- the numbers that a seat drew, and whether it met the end
pub record Draws : Type 0 where
  pub numbers : List ℕ
  pub met_end : Bool

-- how often x stands in the list
abbrev pub times : ℕ → List ℕ → ℕ
times x [] = 0
times x (y ∷ ys) = cond (y == x) 1 0 + times x ys

-- 1 if x is below n, and else 0
abbrev pub once_below : ℕ → ℕ → ℕ
once_below x n = cond (nat_lt x n) 1 0

-- each number of the list is above n
abbrev pub AllAbove : ℕ → List ℕ → Type 0
AllAbove n [] = Unit {0}
AllAbove n (y ∷ ys) = (n < y) × AllAbove n ys

-- each number is larger than those before it
abbrev pub Rises : List ℕ → Type 0
Rises [] = Unit {0}
Rises (x ∷ xs) = AllAbove x xs × Rises xs

-- each seat's list rises
abbrev pub AllRise : List Draws → Type 0
AllRise [] = Unit {0}
AllRise (h ∷ hs) = Rises h.numbers × AllRise hs

-- some seat met the end
abbrev pub any_ended : List Draws → Bool
any_ended [] = false
any_ended (h ∷ hs) = h.met_end || any_ended hs

-- how often x was drawn
abbrev pub drawn_times : ℕ → List Draws → ℕ
drawn_times x [] = 0
drawn_times x (h ∷ hs) = times x h.numbers + drawn_times x hs

-- each list rises; the numbers of all lists are those below one number t, each once; t is at most m, and is m if some seat met the end
pub record DealtOut (m t : ℕ) (hs : List Draws) : Type 0 where
  pub rise : AllRise hs
  pub each : (x : ℕ) → drawn_times x hs ≡ once_below x t
  pub most : t ≤ m
  pub ended : any_ended hs ≡ true → t ≡ m

-- what the seat with this number drew
abbrev pub seat_at : List Draws → ℕ → Draws
seat_at [] w = record { numbers = []; met_end = false }
seat_at (h ∷ hs) zero = h
seat_at (h ∷ hs) (suc w) = seat_at hs w
