-- What a shared deck keeps between any two steps: its one word counts the tries to draw, and the tokens of its table know what was drawn (our own).
use Rattle.std.specs.Prelude.{◌≡◌, ℕ, ◌+◌, ◌<◌, ◌≤◌, ◌^◌, true, false, nat_lt, min, List, [], ◌∷◌, ◌++◌, take, drop, replicate, cond}
use mathlib.Core.Option.{some}
use lib.ListN.{get_elem?}
use Rattle.atomic_table.specs.Table.{State, Me}
use Rattle.vx_morsel.specs.Draws.{Draws, times, once_below, Rises}
use Rattle.vx_morsel_decks.specs.declared.rule.Account.{Account}
use Rattle.vx_morsel_decks.specs.declared.rule.DeckSize.{DeckSize}

-- f of each element, added up
abbrev pub total : {A : Type 0} → (A → ℕ) → List A → ℕ
total f [] = 0
total f (x ∷ xs) = f x + total f xs

-- each number of the list is below n
abbrev pub AllBelow : ℕ → List ℕ → Type 0
AllBelow n [] = Unit {0}
AllBelow n (y ∷ ys) = (y < n) × AllBelow n ys

-- a seat that drew nothing
abbrev pub no_draws : Draws
no_draws = record { numbers = []; met_end = false }

-- f of each seat of an account, added up
abbrev pub weigh : (Draws → ℕ) → Account → ℕ
weigh f v = total f v.seats

-- each seat counts once
abbrev pub one : Draws → ℕ
one h = 1

-- 1 for a seat that met the end
abbrev pub end_of : Draws → ℕ
end_of h = cond h.met_end 1 0

-- each of these seats drew rising numbers, and one that met the end knows of that many tries at least
abbrev pub FitsSeats : ℕ → ℕ → List Draws → Type 0
FitsSeats m w [] = Unit {0}
FitsSeats m w (h ∷ hs) = Rises h.numbers × (h.met_end ≡ true → m ≤ w) × FitsSeats m w hs

abbrev pub FitsAccount : ℕ → ℕ → Account → Type 0
FitsAccount m w v = FitsSeats m w v.seats

-- after w tries: all seats together drew the numbers below w that the deck has, each once, and each try beyond them made a seat meet the end
pub record IsKept (size : DeckSize) (w : ℕ) (views : List Account) : Type 0 where
  pub small : size.morsels + size.seats < 2 ^ 63
  pub seats : total (weigh one) views ≡ size.seats
  pub each : (x : ℕ) → total (weigh (λ h. times x h.numbers)) views ≡ once_below x (min w size.morsels)
  pub fits : (k : ℕ) (v : Account) → get_elem? views k ≡ some v → FitsAccount size.morsels w v
  pub tries : w ≤ size.morsels + total (weigh end_of) views

-- the rule of the table
abbrev pub Holds : {S : Type 0} → DeckSize → State S Account → Type 0
Holds size s = (w : ℕ) × (s.words ≡ w ∷ []) × IsKept size w s.views

-- the first token speaks for every seat
abbrev pub first_account : DeckSize → Account
first_account size = record { morsels = size.morsels; seats = replicate size.seats no_draws }

-- what a seat drew, after a try that found n tries before it
abbrev pub drew : ℕ → ℕ → Draws → Draws
drew m n h = cond (nat_lt n m) (record { numbers = h.numbers ++ n ∷ []; met_end = h.met_end }) (record { numbers = h.numbers; met_end = true })

abbrev pub first_seat : List Draws → Draws
first_seat [] = no_draws
first_seat (h ∷ hs) = h

-- the account of one seat
abbrev pub one_seat : ℕ → Draws → Account
one_seat m h = record { morsels = m; seats = h ∷ [] }

-- what a try tells its seat: it drew the number found, which is above all that it drew before, or met the end
abbrev pub Tells : {S : Type 0} → Me S Account → ℕ → Me S Account → Type 0
Tells me n me' = (me'.1 ≡ me.1) × (me'.0 ≡ one_seat me.0.morsels (drew me.0.morsels n (first_seat me.0.seats))) × (n < me.0.morsels → AllBelow n (first_seat me.0.seats).numbers)

-- a token gives up its first seat, to a token of its own
abbrev pub left_of : Account → Account
left_of v = record { morsels = v.morsels; seats = drop 1 v.seats }

abbrev pub right_of : Account → Account
right_of v = record { morsels = v.morsels; seats = take 1 v.seats }

-- a token takes over the seats of another, which speaks for none from then on
abbrev pub both_of : Account → Account → Account
both_of v w = record { morsels = v.morsels; seats = v.seats ++ w.seats }

abbrev pub spent_account : Account
spent_account = record { morsels = 0; seats = [] }
