-- Facts of each row of a list: they hold of lists that are made of it.
use Rattle.std.proofs.Common.{ℕ, zero, suc, ◌≡◌, ◌≢◌, ◌+◌, ◌<◌, ◌≤◌, ◌==◌, nat_lt, Bool, true, false, cond, not, List, [], ◌∷◌, ◌++◌, map, filter, flat_map, take, refl, sym, subst, arith, true≢false, ltb-true, eqb-true, eq-eqb}
use Rattle.std.proofs.lemmas.Bool.{eqb-false}
use Rattle.std.specs.List.{list_all, AllByRecursion}
use Rattle.std.specs.Ordering.{is_le}
use Rattle.vx_rows_values.specs.Values.{Row, row_eq}
use Rattle.vx_rows_values.specs.declared.order.OrderEntry.{OrderEntry}
use Rattle.vx_rows_values.specs.Order.{compare_on, insert_sorted, sort_on}
use Rattle.vx_rows_values.specs.Bags.{count, SameRows}
use Rattle.vx_rows_values.proofs.Compare.{row_eq-same, row_eq-refl}
use Rattle.vx_rows_values.proofs.Booleans.{and-left, and-right}
use Rattle.vx_plan_nodes.specs.Serial.{firsts}
use Rattle.vx_plan_nodes.specs.Streams.{Streams, joined, bearing, Dealt}

pub each-weaken : {X : Type 0} (P Q : X → Type 0) → ((x : X) → P x → Q x) → (xs : List X) → AllByRecursion P xs → AllByRecursion Q xs
each-weaken P Q f [] h = tt
each-weaken P Q f (x ∷ xs) h = (f x h.0, each-weaken P Q f xs h.1)

pub each-map : (P Q : Row → Type 0) (g : Row → Row) → ((x : Row) → P x → Q (g x)) → (xs : List Row) → AllByRecursion P xs → AllByRecursion Q (map g xs)
each-map P Q g f [] h = tt
each-map P Q g f (x ∷ xs) h = (f x h.0, each-map P Q g f xs h.1)

each-cond : (P : Row → Type 0) (b : Bool) (x : Row) (xs : List Row) → (b ≡ true → P x) → AllByRecursion P xs → AllByRecursion P (cond b (x ∷ xs) xs)
each-cond P true x xs h k = (h refl, k)
each-cond P false x xs h k = k

-- of rows that pass a test
pub each-filter : (P Q : Row → Type 0) (p : Row → Bool) → ((x : Row) → p x ≡ true → P x → Q x) → (xs : List Row) → AllByRecursion P xs
    → AllByRecursion Q (filter p xs)
each-filter P Q p f [] h = tt
each-filter P Q p f (x ∷ xs) h = each-cond Q (p x) x (filter p xs) (λ e. f x e h.0) (each-filter P Q p f xs h.1)

-- of two lists one after the other, and of each of them
pub each-append : (P : Row → Type 0) (xs ys : List Row) → AllByRecursion P xs → AllByRecursion P ys → AllByRecursion P (xs ++ ys)
each-append P [] ys h k = k
each-append P (x ∷ xs) ys h k = (h.0, each-append P xs ys h.1 k)

pub each-front : (P : Row → Type 0) (xs ys : List Row) → AllByRecursion P (xs ++ ys) → AllByRecursion P xs
each-front P [] ys h = tt
each-front P (x ∷ xs) ys h = (h.0, each-front P xs ys h.1)

pub each-back : (P : Row → Type 0) (xs ys : List Row) → AllByRecursion P (xs ++ ys) → AllByRecursion P ys
each-back P [] ys h = h
each-back P (x ∷ xs) ys h = each-back P xs ys h.1

-- of the first ones
pub each-take : (P : Row → Type 0) (n : ℕ) (xs : List Row) → AllByRecursion P xs → AllByRecursion P (take n xs)
each-take P zero xs h = tt
each-take P (suc n) [] h = tt
each-take P (suc n) (x ∷ xs) h = (h.0, each-take P n xs h.1)

pub each-flat : (P Q : Row → Type 0) (g : Row → List Row) → ((x : Row) → P x → AllByRecursion Q (g x)) → (xs : List Row) → AllByRecursion P xs
    → AllByRecursion Q (flat_map g xs)
each-flat P Q g f [] h = tt
each-flat P Q g f (x ∷ xs) h = each-append Q (g x) (flat_map g xs) (f x h.0) (each-flat P Q g f xs h.1)

pub each-firsts : (P : Row → Type 0) (xs : List Row) → AllByRecursion P xs → AllByRecursion P (firsts xs)
each-firsts P [] h = tt
each-firsts P (x ∷ xs) h = (h.0, each-filter P P (λ y. not (row_eq x y)) (λ y e k. k) (firsts xs) (each-firsts P xs h.1))

each-insert : (P : Row → Type 0) (order : List OrderEntry) (x : Row) (ys : List Row) → P x → AllByRecursion P ys → AllByRecursion P (insert_sorted order x ys)
each-insert P order x [] h k = (h, tt)
each-insert P order x (y ∷ ys) h k = go (is_le (compare_on order x y)) (each-insert P order x ys h k.1)
  where
    go : (b : Bool) → AllByRecursion P (insert_sorted order x ys) → AllByRecursion P (cond b (x ∷ y ∷ ys) (y ∷ insert_sorted order x ys))
    go true r = (h, k)
    go false r = (k.0, r)

pub each-sort : (P : Row → Type 0) (order : List OrderEntry) (xs : List Row) → AllByRecursion P xs → AllByRecursion P (sort_on order xs)
each-sort P order [] h = tt
each-sort P order (x ∷ xs) h = each-insert P order x (sort_on order xs) h.0 (each-sort P order xs h.1)

-- ---- rows that are among those of a list

-- of a row that the list has
pub each-has : (P : Row → Type 0) (row : Row) (xs : List Row) → AllByRecursion P xs → 1 ≤ count (row_eq row) xs → P row
each-has P row [] h k = absurd (omega arith)
each-has P row (x ∷ xs) h k = go (row_eq row x) refl k (λ l. each-has P row xs h.1 l)
  where
    go : (b : Bool) → row_eq row x ≡ b → 1 ≤ cond b 1 0 + count (row_eq row) xs → (1 ≤ count (row_eq row) xs → P row) → P row
    go true e l more = subst P (sym (row_eq-same row x e)) h.0
    go false e l more = more (omega arith)

-- of a list, where it holds of each row that the list has
pub each-of-had : (P : Row → Type 0) (xs : List Row) → ((row : Row) → 1 ≤ count (row_eq row) xs → P row) → AllByRecursion P xs
each-of-had P [] h = tt
each-of-had P (x ∷ xs) h = (h x (first (row_eq x x) (row_eq-refl x)), each-of-had P xs (λ row l. h row (later (row_eq row x) row l)))
  where
    first : (b : Bool) → b ≡ true → 1 ≤ cond b 1 0 + count (row_eq x) xs
    first true e = omega arith
    first false e = cc

    later : (b : Bool) (row : Row) → 1 ≤ count (row_eq row) xs → 1 ≤ cond b 1 0 + count (row_eq row) xs
    later b row l = omega arith

-- of rows that are some of the list's, in any order
pub each-among : (P : Row → Type 0) (some xs : List Row) → ((row : Row) → count (row_eq row) some ≤ count (row_eq row) xs) → AllByRecursion P xs
    → AllByRecursion P some
each-among P some xs among h = each-of-had P some (λ row l. let a : count (row_eq row) some ≤ count (row_eq row) xs = among row in each-has P row xs h (omega arith))

-- of the same rows in another order
pub each-same : (P : Row → Type 0) (xs ys : List Row) → SameRows xs ys → AllByRecursion P xs → AllByRecursion P ys
each-same P xs ys same h =
    each-among P ys xs (λ row. let a : count (row_eq row) xs ≡ count (row_eq row) ys = same.totals (λ x. cond (row_eq row x) 1 0) in omega arith) h

-- ---- streams

-- of workers' streams one behind the other, and of each of them
pub each-joined : (P : Row → Type 0) (n : ℕ) (s : Streams) → ((w : ℕ) → w < n → AllByRecursion P (s w)) → AllByRecursion P (joined n s)
each-joined P zero s h = tt
each-joined P (suc n) s h = each-append P (joined n s) (s n) (each-joined P n s (λ w l. h w (omega arith))) (h n (omega arith))

pub each-stream : (P : Row → Type 0) (n : ℕ) (s : Streams) → AllByRecursion P (joined n s)
    → (w : ℕ) → w < n → AllByRecursion P (s w)
each-stream P zero s h w l = absurd (omega arith)
each-stream P (suc n) s h w l = go (w == n) refl (λ k. each-stream P n s (each-front P (joined n s) (s n) h) w k)
  where
    go : (b : Bool) → (w == n) ≡ b → (w < n → AllByRecursion P (s w)) → AllByRecursion P (s w)
    go true e more = subst (λ i. AllByRecursion P (s i)) (sym (eqb-true w n e)) (each-back P (joined n s) (s n) h)
    go false e more = let apart : w ≢ n = eqb-false w n e in more (omega arith)

each-bearing : (P : Row → Type 0) (i : ℕ) (ts : List (ℕ × Row)) → AllByRecursion P (map (λ t. t.1) ts) → AllByRecursion P (bearing i ts)
each-bearing P i [] h = tt
each-bearing P i (t ∷ ts) h = each-cond P (t.0 == i) t.1 (bearing i ts) (λ e. h.0) (each-bearing P i ts h.1)

-- of the lists that rows are dealt out to
pub each-dealt : (P : Row → Type 0) (n : ℕ) (xs : List Row) (lists : Streams) → Dealt n xs lists → AllByRecursion P xs
    → (i : ℕ) → i < n → AllByRecursion P (lists i)
each-dealt P n xs lists d h i l = subst (AllByRecursion P) (d.lists_are i l) (each-bearing P i d.numbered (subst (AllByRecursion P) (sym d.whole) h))

each-numbered : (P : Row → Type 0) (n : ℕ) (ts : List (ℕ × Row)) → list_all (λ t. nat_lt t.0 n) ts ≡ true → ((i : ℕ) → i < n → AllByRecursion P (bearing i ts))
    → AllByRecursion P (map (λ t. t.1) ts)
each-numbered P n [] h k = tt
each-numbered P n (t ∷ ts) h k = (
  first (t.0 == t.0) (eq-eqb t.0 t.0 refl) (k t.0 (ltb-true t.0 n (and-left (nat_lt t.0 n) (list_all (λ u. nat_lt u.0 n) ts) h))),
  each-numbered P n ts (and-right (nat_lt t.0 n) (list_all (λ u. nat_lt u.0 n) ts) h) (λ i l. rest (t.0 == i) (bearing i ts) (k i l)),
)
  where
    first : (b : Bool) → b ≡ true → AllByRecursion P (cond b (t.1 ∷ bearing t.0 ts) (bearing t.0 ts)) → P t.1
    first true e h = h.0
    first false e h = absurd (true≢false (sym e))

    rest : (b : Bool) (xs : List Row) → AllByRecursion P (cond b (t.1 ∷ xs) xs) → AllByRecursion P xs
    rest true xs h = h.1
    rest false xs h = h

-- of a shuffle of lists
pub each-shuffled : (P : Row → Type 0) (n : ℕ) (xs : List Row) (lists : Streams) → Dealt n xs lists
    → ((i : ℕ) → i < n → AllByRecursion P (lists i)) → AllByRecursion P xs
each-shuffled P n xs lists d h =
    subst (AllByRecursion P) d.whole (each-numbered P n d.numbered d.in_range (λ i l. subst (AllByRecursion P) (sym (d.lists_are i l)) (h i l)))
