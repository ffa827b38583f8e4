-- Rows whose neighbours are in order are in order.
use Rattle.std.proofs.Common.{◌≡◌, ℕ, zero, suc, ◌<◌, Bool, true, false, List, [], ◌∷◌, refl, sym, ap, ◌∙◌, length, get_or, arith, true≢false, is_le, is_lt, Ordering, Less, Equal, Greater}
use Rattle.std.specs.List.{list_all}
use Rattle.std.specs.Ordering.{ordering_reverse}
use Rattle.vx_rows_values.specs.declared.order.OrderEntry.{OrderEntry}
use Rattle.vx_rows_values.specs.Values.{Row}
use Rattle.vx_rows_values.specs.Order.{compare_on, sorted}
use Rattle.vx_rows_values.proofs.Booleans.{and-left, and-right, and-both}
use Rattle.vx_rows_values.proofs.Compare.{le-trans, compare_on_total}

-- no row but the first is smaller than the one before it
abbrev pub NoFall : List OrderEntry → List Row → ℕ → Type 0
NoFall order rows n = (k : ℕ) → suc k < n → is_lt (compare_on order (get_or rows (suc k) []) (get_or rows k [])) ≡ false

turn : (o p : Ordering) → o ≡ ordering_reverse p → is_lt o ≡ false → is_le p ≡ true
turn o Less e h = refl
turn o Equal e h = refl
turn o Greater e h = let b : is_lt o ≡ true = ap is_lt e in absurd (true≢false (sym b ∙ h))

back : (o p : Ordering) → o ≡ ordering_reverse p → is_le p ≡ true → is_lt o ≡ false
back o Less e h = ap is_lt e
back o Equal e h = ap is_lt e
back o Greater e h = absurd (true≢false (sym h))

up : (order : List OrderEntry) (a b : Row) → is_lt (compare_on order b a) ≡ false → is_le (compare_on order a b) ≡ true
up order a b h = turn (compare_on order b a) (compare_on order a b) ((compare_on_total order).antisymm b a) h

down : (order : List OrderEntry) (a b : Row) → is_le (compare_on order a b) ≡ true → is_lt (compare_on order b a) ≡ false
down order a b h = back (compare_on order b a) (compare_on order a b) ((compare_on_total order).antisymm b a) h

all_up : (order : List OrderEntry) (x z : Row) (zs : List Row) → is_le (compare_on order x z) ≡ true → list_all (λ y. is_le (compare_on order z y)) zs ≡ true → list_all (λ y. is_le (compare_on order x y)) zs ≡ true
all_up order x z [] h k = refl
all_up order x z (y ∷ ys) h k = and-both _ _ (le-trans order x z y h (and-left _ _ k)) (all_up order x z ys h (and-right _ _ k))

pub sorted_from : (order : List OrderEntry) (rows : List Row) → NoFall order rows (length rows) → sorted order rows ≡ true
sorted_from order [] h = refl
sorted_from order (x ∷ []) h = refl
sorted_from order (x ∷ z ∷ zs) h =
    let rest : sorted order (z ∷ zs) ≡ true = sorted_from order (z ∷ zs) (λ k l. h (suc k) (omega arith)) in
    let first : is_le (compare_on order x z) ≡ true = up order x z (h zero (omega arith)) in
    and-both _ _ (and-both _ _ first (all_up order x z zs first (and-left _ _ rest))) rest

pub sorted_neighbours : (order : List OrderEntry) (rows : List Row) → sorted order rows ≡ true → NoFall order rows (length rows)
sorted_neighbours order [] s k l = absurd (omega arith)
sorted_neighbours order (x ∷ []) s k l = absurd (omega arith)
sorted_neighbours order (x ∷ z ∷ zs) s zero l = down order x z (and-left _ _ (and-left _ _ s))
sorted_neighbours order (x ∷ z ∷ zs) s (suc k) l = sorted_neighbours order (z ∷ zs) (and-right _ _ s) k (omega arith)

pub not_sorted : (order : List OrderEntry) (rows : List Row) (k : ℕ) → suc k < length rows → is_lt (compare_on order (get_or rows (suc k) []) (get_or rows k [])) ≡ true → (b : Bool) → sorted order rows ≡ b → b ≡ false
not_sorted order rows k l h true e = absurd (true≢false (sym h ∙ sorted_neighbours order rows e k l))
not_sorted order rows k l h false e = refl
