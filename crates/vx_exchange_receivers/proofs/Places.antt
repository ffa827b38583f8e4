-- Where a producer belongs in an order of others, and how far its rows go before another's.
use Rattle.std.proofs.Common.{ℕ, zero, suc, ◌≡◌, ◌≢◌, ◌<◌, ◌≤◌, ◌+◌, refl, sym, ap, ◌∙◌, arith, subst, List, [], ◌∷◌, Some, slice_get, length, get_or, drop, true, is_le}
use Rattle.std.specs.List.{AllWithin, AllPairs, Contains, insert, list_all}
use Rattle.std.proofs.Math.ListN.{set}
use Rattle.std.proofs.lemmas.List.{get_or_default}
use Rattle.std.proofs.lemmas.Option.{get_or_from_slice_get}
use Rattle.vx_rows_values.specs.declared.order.OrderEntry.{OrderEntry}
use Rattle.vx_rows_values.specs.Values.{Row}
use Rattle.vx_rows_values.proofs.Booleans.{and-left, and-right}
use Rattle.vx_rows_values.specs.Order.{compare_on, sorted}
use Rattle.vx_rows_values.proofs.Compare.{le-trans}
use Rattle.vx_exchange_receivers.specs.declared.heads.StreamHead.{StreamHead}
use Rattle.vx_exchange_receivers.specs.Heads.{HasRowAt, GoesBefore, Precedes, IsOrder, IsRun, AllRise, held_at, next_at, position_at}
use Rattle.vx_exchange_receivers.proofs.HeadFacts.{before-trans, not-itself, set-other}
use Rattle.vx_exchange_receivers.proofs.Orders.{all-insert, pairs-tail, pairs-head, pairs-insert}
use Rattle.vx_exchange_receivers.proofs.Merges.{by-order}

pub next-is : (hs : List StreamHead) (q : ℕ) (h : StreamHead) → slice_get hs q ≡ Some h → get_or (held_at hs q) h.at [] ≡ next_at hs q
next-is hs q h e = rw e refl

-- all up to one that goes before p go before it
pub halves-up : (merge : List OrderEntry) (hs : List StreamHead) (order : List ℕ) (p q middle : ℕ) → AllPairs (Precedes merge hs) order → middle < length order → q ≡ get_or order middle q → Precedes merge hs q p
    → AllWithin (λ k. Precedes merge hs k p) order 0 (middle + 1)
halves-up merge hs order p q middle rises l e h k d a b =
    let same : get_or order middle d ≡ q = get_or_default order middle d q l ∙ sym e in
    by-order k middle
    (λ lt. before-trans merge (next_at hs (get_or order k d)) (next_at hs q) (next_at hs p) (get_or order k d) q p (subst (Precedes merge hs (get_or order k d)) same (rises k middle d lt l)) h)
    (λ le. let i : k ≡ middle = omega (arith, le, b) in subst (λ z. Precedes merge hs z p) (sym (ap (λ n. get_or order n d) i ∙ same)) h)

-- p goes before all from one on that it goes before
pub halves-down : (merge : List OrderEntry) (hs : List StreamHead) (order : List ℕ) (p q middle : ℕ) → AllPairs (Precedes merge hs) order → middle < length order → q ≡ get_or order middle q → Precedes merge hs p q
    → AllWithin (λ k. Precedes merge hs p k) order middle (length order)
halves-down merge hs order p q middle rises l e h k d a b =
    let same : get_or order middle d ≡ q = get_or_default order middle d q l ∙ sym e in
    by-order middle k
    (λ lt. before-trans merge (next_at hs p) (next_at hs q) (next_at hs (get_or order k d)) p q (get_or order k d) h (subst (λ z. Precedes merge hs z (get_or order k d)) same (rises middle k d lt b)))
    (λ le. let i : k ≡ middle = omega (arith, le, a) in subst (λ z. Precedes merge hs p z) (sym (ap (λ n. get_or order n d) i ∙ same)) h)

pub not-in : (order : List ℕ) (p q middle : ℕ) → middle < length order → q ≡ get_or order middle q → (Contains order p → ⊥) → q ≢ p
not-in order p q middle l e none f = none (middle, l, subst (λ z. get_or order middle z ≡ z) f (sym e))

-- it is an order with one more
pub added-order : (merge : List OrderEntry) (hs : List StreamHead) (order : List ℕ) (p place : ℕ) → IsOrder merge hs order → HasRowAt hs p → place ≤ length order
    → AllWithin (λ q. Precedes merge hs q p) order 0 place → AllWithin (λ q. Precedes merge hs p q) order place (length order) → IsOrder merge hs (insert order place p)
added-order merge hs order p place o r l a b = record {
  there = all-insert (HasRowAt hs) order place p o.there r;
  rises = pairs-insert (Precedes merge hs) order place p o.rises a b l;
}

-- what goes before the second of an order goes before all that follow
pub run-all : (merge : List OrderEntry) (hs : List StreamHead) (p q : ℕ) (rest : List ℕ) (to : ℕ) → AllPairs (Precedes merge hs) (q ∷ rest) → position_at hs p < to → to ≤ length (held_at hs p)
    → ((k : ℕ) → position_at hs p ≤ k → k < to → is_le (compare_on merge (get_or (held_at hs p) k []) (next_at hs q)) ≡ true) → IsRun merge hs (q ∷ rest) p to
run-all merge hs p q rest to rises more within least = record {
  more = more;
  within = within;
  least = λ k a b n d l. go k a b n d l;
}
  where
    go : (k : ℕ) → position_at hs p ≤ k → k < to → (n d : ℕ) → n < length (q ∷ rest) → is_le (compare_on merge (get_or (held_at hs p) k []) (next_at hs (get_or (q ∷ rest) n d))) ≡ true
    go k a b zero d l = least k a b
    go k a b (suc n) d l = le-trans merge (get_or (held_at hs p) k []) (next_at hs q) (next_at hs (get_or rest n d)) (least k a b) (pairs-head (Precedes merge hs) q rest rises n d (omega (arith, l))).le

-- what comes after a row is not less than it
all-at : (merge : List OrderEntry) (x : Row) (xs : List Row) (k : ℕ) → list_all (λ y. is_le (compare_on merge x y)) xs ≡ true → k < length xs → is_le (compare_on merge x (get_or xs k [])) ≡ true
all-at merge x [] k h l = absurd (omega (arith, l))
all-at merge x (y ∷ ys) zero h l = and-left _ _ h
all-at merge x (y ∷ ys) (suc k) h l = all-at merge x ys k (and-right _ _ h) (omega (arith, l))

sorted-at : (merge : List OrderEntry) (xs : List Row) (i j : ℕ) → sorted merge xs ≡ true → i < j → j < length xs → is_le (compare_on merge (get_or xs i []) (get_or xs j [])) ≡ true
sorted-at merge [] i j s a b = absurd (omega (arith, b))
sorted-at merge (x ∷ xs) i zero s a b = absurd (omega (arith, a))
sorted-at merge (x ∷ xs) zero (suc j) s a b = all-at merge x xs j (and-left _ _ s) (omega (arith, b))
sorted-at merge (x ∷ xs) (suc i) (suc j) s a b = sorted-at merge xs i j (and-right _ _ s) (omega (arith, a)) (omega (arith, b))

-- all rows up to one that is not greater than the next row of q are not greater either
pub run-up : (merge : List OrderEntry) (hs : List StreamHead) (p q middle : ℕ) → AllRise merge hs → middle < length (held_at hs p) → is_le (compare_on merge (get_or (held_at hs p) middle []) (next_at hs q)) ≡ true
    → (k : ℕ) → k ≤ middle → is_le (compare_on merge (get_or (held_at hs p) k []) (next_at hs q)) ≡ true
run-up merge hs p q middle rise l h k a =
    by-order k middle
    (λ lt. le-trans merge (get_or (held_at hs p) k []) (get_or (held_at hs p) middle []) (next_at hs q) (sorted-at merge (held_at hs p) k middle (rise p) lt l) h)
    (λ le. let e : k ≡ middle = omega (arith, a, le) in rw e h)

-- the first of an order is not among the others
pub first-once : (merge : List OrderEntry) (hs : List StreamHead) (p : ℕ) (rest : List ℕ) → IsOrder merge hs (p ∷ rest) → Contains rest p → ⊥
first-once merge hs p rest o c = not-itself merge hs p (subst (Precedes merge hs p) c.2 (pairs-head (Precedes merge hs) p rest o.rises c.0 p c.1))

-- an order of producers of which none was changed
pub order-kept : (merge : List OrderEntry) (hs : List StreamHead) (p : ℕ) (g : StreamHead) (order : List ℕ) → (Contains order p → ⊥) → IsOrder merge hs order → IsOrder merge (set hs p g) order
order-kept merge hs p g order none o = record {
  there = λ k d l. let h = o.there k d l in (h.0, set-other hs p (get_or order k d) g (other k d l) ∙ h.1, h.2);
  rises = λ i j d a b.
      let h = o.rises i j d a b in
      let near : i < length order = omega (arith, a, b) in
      rw (set-other hs p (get_or order i d) g (other i d near), set-other hs p (get_or order j d) g (other j d b)) h;
}
  where
    other : (k d : ℕ) → k < length order → get_or order k d ≢ p
    other k d l e = none (k, l, get_or_default order k p d l ∙ e)

-- a head that was read, with any default
pub place-row : (hs : List StreamHead) (q : ℕ) (d : StreamHead) → HasRowAt hs q → (get_or hs q d).at < length (held_at hs q)
place-row hs q d r = let e = get_or_from_slice_get hs q r.0 d r.1 in rw (e, r.1) r.2

pub place-at : (hs : List StreamHead) (q : ℕ) (d : StreamHead) → HasRowAt hs q → (get_or hs q d).at ≡ position_at hs q
place-at hs q d r = let e = get_or_from_slice_get hs q r.0 d r.1 in rw (e, r.1) refl

pub place-count : (hs : List StreamHead) (q : ℕ) (d : StreamHead) → HasRowAt hs q → length (get_or hs q d).rows.rows ≡ length (held_at hs q)
place-count hs q d r = let e = get_or_from_slice_get hs q r.0 d r.1 in rw (e, r.1) refl

pub read-before : (merge : List OrderEntry) (hs : List StreamHead) (p q : ℕ) (d : StreamHead) → HasRowAt hs q → GoesBefore merge (get_or (held_at hs q) (get_or hs q d).at []) q (next_at hs p) p → Precedes merge hs q p
read-before merge hs p q d r g =
    subst (λ x. GoesBefore merge x q (next_at hs p) p) (ap (λ (y : StreamHead). get_or (held_at hs q) y.at []) (get_or_from_slice_get hs q r.0 d r.1) ∙ next-is hs q r.0 r.1) g

pub read-behind : (merge : List OrderEntry) (hs : List StreamHead) (p q : ℕ) (d : StreamHead) → HasRowAt hs q → GoesBefore merge (next_at hs p) p (get_or (held_at hs q) (get_or hs q d).at []) q → Precedes merge hs p q
read-behind merge hs p q d r g =
    subst (λ x. GoesBefore merge (next_at hs p) p x q) (ap (λ (y : StreamHead). get_or (held_at hs q) y.at []) (get_or_from_slice_get hs q r.0 d r.1) ∙ next-is hs q r.0 r.1) g

pub run-rest : (merge : List OrderEntry) (hs : List StreamHead) (order : List ℕ) (to : ℕ) → IsOrder merge hs order → 1 < length order → position_at hs (get_or order 0 0) < to → to ≤ length (held_at hs (get_or order 0 0))
    → ((k : ℕ) → position_at hs (get_or order 0 0) ≤ k → k < to → is_le (compare_on merge (get_or (held_at hs (get_or order 0 0)) k []) (next_at hs (get_or order 1 0))) ≡ true) → IsRun merge hs (drop 1 order) (get_or order 0 0) to
run-rest merge hs [] to o l more within least = absurd (omega (arith, l))
run-rest merge hs (p ∷ []) to o l more within least = absurd (omega (arith, l))
run-rest merge hs (p ∷ q ∷ rest) to o l more within least = run-all merge hs p q rest to (pairs-tail (Precedes merge hs) p (q ∷ rest) o.rises) more within least
