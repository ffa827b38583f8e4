-- Lists one after the other are a shuffle of them.
use Rattle.std.proofs.Common.{◌≡◌, ◌≢◌, ℕ, zero, suc, ◌<◌, ◌≤◌, nat_lt, true, List, [], ◌++◌, map, inl, inr, refl, sym, ap₂, ◌∙◌, subst, arith, append-nil}
use Rattle.std.specs.List.{list_all}
use Rattle.std.proofs.lemmas.Bool.Decides.{eqb_tells}
use Rattle.vx_rows_values.specs.Values.{Row}
use Rattle.vx_plan_nodes.specs.Streams.{Streams, joined, bearing, Dealt}
use Rattle.vx_exchange_ends.proofs.Deals.{numbered_same, rows-numbered_same, range-numbered_same, bearing-same, bearing-other, bearing-append, numbers-append, ranges-append}

-- the same streams joined
pub joined-ext : (m : ℕ) (f g : Streams) → ((i : ℕ) → i < m → f i ≡ g i) → joined m f ≡ joined m g
joined-ext zero f g e = refl
joined-ext (suc m) f g e = ap₂ (λ a b. a ++ b) (joined-ext m f g (λ i l. e i (omega arith))) (e m (omega arith))

-- the rows of m streams one after the other, each with its stream's number
abbrev tagged : Streams → ℕ → List (ℕ × Row)
tagged s zero = []
tagged s (suc m) = tagged s m ++ numbered_same m (s m)

untagged : (s : Streams) (m : ℕ) → map (λ (t : ℕ × Row). t.1) (tagged s m) ≡ joined m s
untagged s zero = refl
untagged s (suc m) = numbers-append (tagged s m) (numbered_same m (s m)) ∙ ap₂ (λ a b. a ++ b) (untagged s m) (rows-numbered_same m (s m))

ranged : (s : Streams) (m n : ℕ) → m ≤ n → list_all (λ (t : ℕ × Row). nat_lt t.0 n) (tagged s m) ≡ true
ranged s zero n l = refl
ranged s (suc m) n l = ranges-append n (tagged s m) (numbered_same m (s m)) (ranged s m n (omega arith)) (range-numbered_same n m (s m) (omega arith))

-- nothing bears the number of a stream behind them
past : (s : Streams) (m i : ℕ) → m ≤ i → bearing i (tagged s m) ≡ []
past s zero i l = refl
past s (suc m) i l =
    let other : i ≢ m = λ e. absurd (omega (arith, e, l)) in
    bearing-append i (tagged s m) (numbered_same m (s m)) ∙ ap₂ (λ a b. a ++ b) (past s m i (omega arith)) (bearing-other i m (s m) other)

own-or-before : (s : Streams) (m i : ℕ) → i < suc m → (i < m → bearing i (tagged s m) ≡ s i) → bearing i (tagged s m) ++ bearing i (numbered_same m (s m)) ≡ s i
own-or-before s m i l before = elim (eqb_tells i m) [
  | inl e ↦
      let P : ℕ → Type 0 = λ j. bearing j (tagged s m) ++ bearing j (numbered_same m (s m)) ≡ s j in
      subst P (sym e.1) (ap₂ (λ a b. a ++ b) (past s m m (omega arith)) (bearing-same m (s m)))
  | inr e ↦
      let less : i < m = omega (arith, e.1, l) in
      ap₂ (λ a b. a ++ b) (before less) (bearing-other i m (s m) e.1) ∙ append-nil (s i)
]

borne : (s : Streams) (m i : ℕ) → i < m → bearing i (tagged s m) ≡ s i
borne s zero i l = absurd (omega arith)
borne s (suc m) i l = bearing-append i (tagged s m) (numbered_same m (s m)) ∙ own-or-before s m i l (λ k. borne s m i k)

pub joined-dealt : (n : ℕ) (s : Streams) → Dealt n (joined n s) s
joined-dealt n s = record { numbered = tagged s n; whole = untagged s n; in_range = ranged s n n (omega arith); lists_are = λ i l. borne s n i l }
