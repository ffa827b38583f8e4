-- The order of the producers' next rows, and heads of which one is changed.
use Rattle.std.proofs.Common.{ℕ, zero, suc, ◌≡◌, ◌≢◌, ◌<◌, ◌≤◌, refl, sym, ap, ◌∙◌, arith, List, [], ◌∷◌, Some, slice_get, length, get_or, drop, drop-cons, length-drop, Bool, true, false, true≢false, is_le, is_lt, Ordering, Less, Equal, Greater}
use Rattle.std.proofs.Math.ListN.{set}
use Rattle.std.proofs.lemmas.Option.{slice_get-get_or}
use Rattle.std.specs.Ordering.{ordering_reverse}
use Rattle.vx_rows_values.specs.declared.order.OrderEntry.{OrderEntry}
use Rattle.vx_rows_values.specs.Values.{Row}
use Rattle.vx_rows_values.specs.Order.{compare_on}
use Rattle.vx_rows_values.proofs.Compare.{le-trans, le-other, compare_on_total}
use Rattle.vx_exchange_receivers.specs.declared.heads.StreamHead.{StreamHead}
use Rattle.vx_exchange_receivers.specs.Heads.{GoesBefore, Precedes, held_at}

-- a head that was changed, and the others
pub set-there : (hs : List StreamHead) (p : ℕ) (h : StreamHead) → p < length hs → slice_get (set hs p h) p ≡ Some h
set-there [] p h l = absurd (omega (arith, l))
set-there (x ∷ hs) zero h l = refl
set-there (x ∷ hs) (suc p) h l = set-there hs p h (omega (arith, l))

pub set-other : (hs : List StreamHead) (p q : ℕ) (h : StreamHead) → q ≢ p → slice_get (set hs p h) q ≡ slice_get hs q
set-other [] p q h ne = refl
set-other (x ∷ hs) zero zero h ne = absurd (ne refl)
set-other (x ∷ hs) zero (suc q) h ne = refl
set-other (x ∷ hs) (suc p) zero h ne = refl
set-other (x ∷ hs) (suc p) (suc q) h ne = set-other hs p q h (λ e. ne (ap suc e))

pub the-head : (hs : List StreamHead) (p : ℕ) (h g : StreamHead) → slice_get hs p ≡ Some h → slice_get hs p ≡ Some g → h ≡ g
the-head hs p h g e f = cc

pub held-within : (hs : List StreamHead) (p i : ℕ) → i < length (held_at hs p) → p < length hs
held-within [] p i l = absurd (omega (arith, l))
held-within (x ∷ hs) zero i l = omega arith
held-within (x ∷ hs) (suc p) i l = let h = held-within hs p i l in omega (arith, h)

-- a head that was read by its place
pub read-there : (hs : List StreamHead) (p : ℕ) (h : StreamHead) → p < length hs → h ≡ get_or hs p h → slice_get hs p ≡ Some h
read-there hs p h l e = slice_get-get_or hs p h l ∙ ap Some (sym e)

turn : (o p : Ordering) → p ≡ ordering_reverse o → is_lt o ≡ true → is_le p ≡ false
turn Less p e h = ap is_le e
turn Equal p e h = absurd (true≢false (sym h))
turn Greater p e h = absurd (true≢false (sym h))

not-le : (merge : List OrderEntry) (x y : Row) → is_lt (compare_on merge x y) ≡ true → is_le (compare_on merge y x) ≡ false
not-le merge x y h = turn (compare_on merge x y) (compare_on merge y x) ((compare_on_total merge).antisymm y x) h

-- which goes first, from how the rows compare
pub less-before : (merge : List OrderEntry) (x y : Row) (p q : ℕ) → compare_on merge x y ≡ Less → GoesBefore merge x p y q
less-before merge x y p q e = record {
  le = ap is_le e;
  tie = λ h. absurd (true≢false (sym h ∙ not-le merge x y (ap is_lt e)));
}

pub equal-before : (merge : List OrderEntry) (x y : Row) (p q : ℕ) → compare_on merge x y ≡ Equal → p < q → GoesBefore merge x p y q
equal-before merge x y p q e lt = record { le = ap is_le e; tie = λ h. lt }

pub equal-behind : (merge : List OrderEntry) (x y : Row) (p q : ℕ) → compare_on merge x y ≡ Equal → q < p → GoesBefore merge y q x p
equal-behind merge x y p q e lt = record { le = flip (compare_on merge x y) (compare_on merge y x) ((compare_on_total merge).antisymm y x) e; tie = λ h. lt }
  where
    flip : (o r : Ordering) → r ≡ ordering_reverse o → o ≡ Equal → is_le r ≡ true
    flip Less r a b = cc
    flip Equal r a b = ap is_le a
    flip Greater r a b = cc

pub greater-behind : (merge : List OrderEntry) (x y : Row) (p q : ℕ) → compare_on merge x y ≡ Greater → GoesBefore merge y q x p
greater-behind merge x y p q e = record { le = le-other merge x y (ap is_le e); tie = λ h. absurd (true≢false (sym h ∙ ap is_le e)) }

pub before-trans : (merge : List OrderEntry) (x y z : Row) (p q r : ℕ) → GoesBefore merge x p y q → GoesBefore merge y q z r → GoesBefore merge x p z r
before-trans merge x y z p q r a b = record {
  le = le-trans merge x y z a.le b.le;
  tie = λ h.
      let s = a.tie (le-trans merge y z x b.le h) in
      let t = b.tie (le-trans merge z x y h a.le) in
      omega (arith, s, t);
}

pub le-refl : (merge : List OrderEntry) (a : Row) → is_le (compare_on merge a a) ≡ true
le-refl merge a = go (is_le (compare_on merge a a)) refl
  where
    go : (v : Bool) → is_le (compare_on merge a a) ≡ v → is_le (compare_on merge a a) ≡ true
    go true e = e
    go false e = le-other merge a a e

-- no producer goes before itself
pub not-itself : (merge : List OrderEntry) (hs : List StreamHead) (p : ℕ) → Precedes merge hs p p → ⊥
not-itself merge hs p h = let t = h.tie h.le in omega (arith, t)

-- where the rows left begin with one, that is the next one
pub begins-at : (xs : List Row) (i : ℕ) (y : Row) (ys : List Row) → drop i xs ≡ y ∷ ys → (i < length xs) × (y ≡ get_or xs i [])
begins-at xs i y ys e =
    let n : length (drop i xs) ≡ suc (length ys) = ap length e in
    let lt : i < length xs = omega (arith, n, length-drop i xs) in
    let d : drop i xs ≡ get_or xs i [] ∷ drop (suc i) xs = drop-cons xs i [] lt in
    (lt, cc)

pub none-left : (xs : List Row) (i : ℕ) → drop i xs ≡ [] → length xs ≤ i
none-left xs i e = let n : length (drop i xs) ≡ 0 = ap length e in omega (arith, n, length-drop i xs)
