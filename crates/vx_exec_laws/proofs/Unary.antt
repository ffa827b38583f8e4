-- Sorts, and projections on columns, keep what the rule table says.
use Rattle.std.proofs.Common.{◌≡◌, ℕ, Bool, true, false, cond, List, [], ◌∷◌, map, refl, ap, ◌∙◌, Some, unwrap_or, is_le}
use Rattle.std.specs.List.{list_all}
use Rattle.vx_rows_values.specs.declared.order.OrderEntry.{OrderEntry}
use Rattle.vx_rows_values.specs.Values.{Row, pick}
use Rattle.vx_rows_values.specs.Order.{compare_on, sorted, insert_sorted, sort_on}
use Rattle.vx_check_rules.specs.Rules.{copied_order}
use Rattle.vx_exec_laws.proofs.Bags.{and-left, and-right, and-both}
use Rattle.vx_exec_laws.proofs.Parts.{list_all-weaken}
use Rattle.vx_rows_values.proofs.Compare.{le-trans, le-other}
use Rattle.vx_exec_laws.proofs.OrderFacts.{compare-copied}

pub some-is : {X : Type 0} (x y : X) → Some x ≡ Some y → x ≡ y
some-is x y e = ap (λ o. unwrap_or o x) e

-- sort
pub insert-all : (p : Row → Bool) (order : List OrderEntry) (x : Row) (ys : List Row) → p x ≡ true → list_all p ys ≡ true → list_all p (insert_sorted order x ys) ≡ true
insert-all p order x [] h k = and-both _ _ h refl
insert-all p order x (y ∷ ys) h k = cases (is_le (compare_on order x y)) (insert-all p order x ys h (and-right _ _ k))
  where
    cases : (b : Bool) → list_all p (insert_sorted order x ys) ≡ true → list_all p (cond b (x ∷ y ∷ ys) (y ∷ insert_sorted order x ys)) ≡ true
    cases true r = and-both _ _ h k
    cases false r = and-both _ _ (and-left _ _ k) r

pub sort-all : (p : Row → Bool) (order : List OrderEntry) (xs : List Row) → list_all p xs ≡ true → list_all p (sort_on order xs) ≡ true
sort-all p order [] h = refl
sort-all p order (x ∷ xs) h = insert-all p order x (sort_on order xs) (and-left _ _ h) (sort-all p order xs (and-right _ _ h))

pub insert-sorted : (order : List OrderEntry) (x : Row) (ys : List Row) → sorted order ys ≡ true → sorted order (insert_sorted order x ys) ≡ true
insert-sorted order x [] h = refl
insert-sorted order x (y ∷ ys) h = cases (is_le (compare_on order x y)) refl (insert-sorted order x ys (and-right _ _ h))
  where
    cases : (b : Bool) → is_le (compare_on order x y) ≡ b → sorted order (insert_sorted order x ys) ≡ true
        → sorted order (cond b (x ∷ y ∷ ys) (y ∷ insert_sorted order x ys)) ≡ true
    cases true e r =
        and-both _ _ (and-both _ _ e (list_all-weaken _ _ (λ z. le-trans order x y z e) ys (and-left _ _ h))) h
    cases false e r = and-both _ _ (insert-all _ order x ys (le-other order x y e) (and-left _ _ h)) r

pub sort-sorted : (order : List OrderEntry) (xs : List Row) → sorted order (sort_on order xs) ≡ true
sort-sorted order [] = refl
sort-sorted order (x ∷ xs) = insert-sorted order x (sort_on order xs) (sort-sorted order xs)

-- projections on columns
pub map-all : (p : Row → Bool) (g : Row → Row) (xs : List Row) → list_all (λ x. p (g x)) xs ≡ true → list_all p (map g xs) ≡ true
map-all p g [] h = refl
map-all p g (x ∷ xs) h = and-both _ _ (and-left _ _ h) (map-all p g xs (and-right _ _ h))

pub project-sorted : (kept : List ℕ) (order ds : List OrderEntry) → copied_order kept order ≡ Some ds → (xs : List Row) → sorted ds xs ≡ true → sorted order (map (pick kept) xs) ≡ true
project-sorted kept order ds h [] k = refl
project-sorted kept order ds h (x ∷ xs) k = and-both _ _
    (map-all _ (pick kept) xs (list_all-weaken _ _ (λ y e. ap is_le (compare-copied kept order ds h x y) ∙ e) xs (and-left _ _ k)))
    (project-sorted kept order ds h xs (and-right _ _ k))
