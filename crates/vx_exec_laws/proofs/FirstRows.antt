-- Rows of one worker in a total order: two sorted lists of the same rows are one list, where rows that agree on the order are equal.
use Rattle.std.proofs.Common.{◌≡◌, ℕ, ◌+◌, ◌<◌, ◌≤◌, ◌==◌, Bool, true, false, cond, ⊎_elim, List, [], ◌∷◌, length, refl, sym, ap, ◌∙◌, subst, arith, true≢false, eqb-true, is_le}
use Rattle.std.specs.List.{list_all, list_any}
use Rattle.vx_rows_values.specs.declared.order.OrderEntry.{OrderEntry}
use Rattle.vx_rows_values.specs.Values.{Row, row_eq, pick}
use Rattle.vx_rows_values.specs.Order.{order_columns, agree, sorted, compare_on}
use Rattle.vx_rows_values.specs.Bags.{count, SameRows}
use Rattle.vx_rows_values.specs.Keys.{HasKey}
use Rattle.vx_catalog_relations.specs.Relation.{Relation, KeysHold, Meets}
use Rattle.vx_plan_nodes.specs.Plan.{Claim, Plan, claim}
use Rattle.vx_plan_nodes.specs.Types.{well_formed, width}
use Rattle.vx_plan_nodes.specs.Serial.{rows, serial}
use Rattle.vx_plan_nodes.specs.Streams.{Streams, joined}
use Rattle.vx_plan_nodes.specs.Routes.{Routing}
use Rattle.vx_check_rules.specs.Rules.{within, numbers_below, is_total_order}
use Rattle.vx_check_rules.specs.Claims.{ClaimHolds}
use Rattle.vx_rows.proofs.SortFacts.{both-le}
use Rattle.vx_rows_values.proofs.Compare.{row_eq-same, row_eq-refl, row_eq-laws, compare_on_total, compare_on-agree}
use Rattle.vx_exec_laws.proofs.Bags.{and-left, and-right, and-both, total-add, SameRows-all, SameRows-sym}
use Rattle.vx_exec_laws.proofs.Parts.{InRange, or-cases, from_single-of, list_all-always}
use Rattle.vx_exec_laws.proofs.Keys.{agree-within}
use Rattle.vx_exec_laws.proofs.Join.{total-all-le}
use Rattle.vx_exec_laws.proofs.JoinOrder.{wide}
use Rattle.vx_exec_laws.proofs.Apart.{self-counts, nothing-same, find-in, agree-all}
use Rattle.vx_exec_laws.proofs.Wide.{serial-wide}
use Rattle.vx_exec_laws.proofs.OrderFacts.{agree-le}

-- rows of the list that agree on these columns are equal
abbrev pub Reports : List ℕ → List Row → Type 0
Reports cols xs = (a b : Row) → 0 < count (row_eq a) xs → 0 < count (row_eq b) xs → agree cols a b ≡ true → a ≡ b

pub same-list : (order : List OrderEntry) (xs ys : List Row) → Reports (order_columns order) xs → SameRows xs ys → sorted order xs ≡ true → sorted order ys ≡ true → xs ≡ ys
same-list order [] [] t s h k = refl
same-list order [] (y ∷ ys) t s h k = absurd (nothing-same y ys s)
same-list order (x ∷ xs) [] t s h k = absurd (nothing-same x xs (SameRows-sym s))
same-list order (x ∷ xs) (y ∷ ys) t s h k =
    let le_x : Row → Bool = λ r. is_le (compare_on order x r) in
    let le_y : Row → Bool = λ r. is_le (compare_on order y r) in
    let reflexive : (a : Row) → is_le (compare_on order a a) ≡ true = λ a. agree-le order a a (row_eq-refl (pick (order_columns order) a)) in
    let all_x : list_all le_x (x ∷ xs) ≡ true = and-both (le_x x) (list_all le_x xs) (reflexive x) (and-left (list_all le_x xs) (sorted order xs) h) in
    let all_y : list_all le_y (y ∷ ys) ≡ true = and-both (le_y y) (list_all le_y ys) (reflexive y) (and-left (list_all le_y ys) (sorted order ys) k) in
    let xy : is_le (compare_on order x y) ≡ true = and-left (le_x y) (list_all le_x ys) (SameRows-all s le_x all_x) in
    let yx : is_le (compare_on order y x) ≡ true = and-left (le_y x) (list_all le_y xs) (SameRows-all (SameRows-sym s) le_y all_y) in
    let e : agree (order_columns order) x y ≡ true
    = sym (compare_on-agree order x y) ∙ both-le (compare_on order x y) (compare_on order y x) ((compare_on_total order).antisymm x y) xy yx in
    let cy = self-counts y ys in
    let cs = s.totals (λ r. cond (row_eq y r) 1 0) in
    let same : x ≡ y = t x y (self-counts x xs) (omega (arith, cy, cs)) e in
    let tails : SameRows xs ys = record { totals = λ f. let a = s.totals f in let b : f x ≡ f y = ap f same in omega (arith, a, b) } in
    let rest : xs ≡ ys = same-list order xs ys (λ a b ca cb g. t a b (omega (arith, ca)) (omega (arith, cb)) g) tails
    (and-right (list_all le_x xs) (sorted order xs) h) (and-right (list_all le_y ys) (sorted order ys) k) in
    cc

-- columns that contain a key tell rows apart
pub key-tells : (k cols : List ℕ) (xs : List Row) → within k cols ≡ true → HasKey k xs → Reports cols xs
key-tells k cols xs w key a b ca cb e = cases (row_eq a b) refl
  where
    kab : agree k a b ≡ true
    kab = agree-within k cols a b w e

    each : (r : Row) → row_eq a b ≡ false → cond (row_eq a r) 1 0 + cond (row_eq b r) 1 0 ≤ cond (agree k a r) 1 0
    each r ne = go (row_eq a r) (row_eq b r) (agree k a r) refl refl refl
      where
        go : (u v w : Bool) → row_eq a r ≡ u → row_eq b r ≡ v → agree k a r ≡ w → cond u 1 0 + cond v 1 0 ≤ cond w 1 0
        go false false w p q z = omega arith
        go true true w p q z = absurd (true≢false (sym (row_eq-laws.congr a r b p ∙ (row_eq-laws.symm r b ∙ q)) ∙ ne))
        go true false true p q z = omega arith
        go false true true p q z = omega arith
        go true false false p q z = let s : a ≡ r = row_eq-same a r p in let P : Row → Type 0 = λ v. agree k a v ≡ true in absurd (true≢false (sym (subst P s (row_eq-refl (pick k a))) ∙ z))
        go false true false p q z = let s : b ≡ r = row_eq-same b r q in let P : Row → Type 0 = λ v. agree k a v ≡ true in absurd (true≢false (sym (subst P s kab) ∙ z))

    cases : (u : Bool) → row_eq a b ≡ u → a ≡ b
    cases true h = row_eq-same a b h
    cases false h =
        let le = total-all-le (λ r. true) (λ r. cond (row_eq a r) 1 0 + cond (row_eq b r) 1 0) (λ r. cond (agree k a r) 1 0) (λ r t. each r h) xs (list_all-always (λ r. true) (λ r. refl) xs) in
        let sums = total-add (λ r. cond (row_eq a r) 1 0) (λ r. cond (row_eq b r) 1 0) xs in
        let most = key a in
        absurd (omega (arith, le, sums, most, ca, cb))

-- and so do all columns
pub all-columns-tell : (n : ℕ) (cols : List ℕ) (xs : List Row) → within (numbers_below n) cols ≡ true → wide n xs ≡ true → Reports cols xs
all-columns-tell n cols xs w h a b ca cb e = agree-all n cols a b w (width-of a ca) (width-of b cb) e
  where
    width-of : (a : Row) → 0 < count (row_eq a) xs → length a ≡ n
    width-of a c = ⊎_elim (λ z. absurd (omega arith))
        (λ r. let s : a ≡ r.0 = row_eq-same a r.0 r.1 in ap length s ∙ eqb-true (length r.0) n r.2)
        (find-in (λ row. length row == n) (row_eq a) xs h)

pub some-key : (keys : List (List ℕ)) (cols : List ℕ) (xs : List Row) → KeysHold keys xs → list_any (λ k. within k cols) keys ≡ true → Reports cols xs
some-key [] cols xs h e = absurd (true≢false (sym e))
some-key (k ∷ keys) cols xs h e = ⊎_elim (λ w. key-tells k cols xs w h.0) (λ l. some-key keys cols xs h.1 l) (or-cases (within k cols) (list_any (λ k. within k cols) keys) e)

-- a total order of a plan's claim tells its serial rows apart
pub order-tells : (catalog : ℕ → Relation) (db : ℕ → List Row) → ((r : ℕ) → Meets (catalog r) (db r)) → (p : Plan) (base : List Row) → well_formed catalog p ≡ true → serial db p ≡ rows base
    → KeysHold (claim p).keys base → is_total_order catalog p ≡ true → Reports (order_columns (claim p).order) base
order-tells catalog db meets p base wf is keys total = ⊎_elim
    (λ k. some-key (claim p).keys (order_columns (claim p).order) base keys k)
    (λ w. all-columns-tell (width catalog p) (order_columns (claim p).order) base w (serial-wide catalog db meets p base wf is))
    (or-cases (list_any (λ k. within k (order_columns (claim p).order)) (claim p).keys) (within (numbers_below (width catalog p)) (order_columns (claim p).order)) total)

-- what one worker has: the rows of which the claim holds, and their list where the claimed order tells them apart
pub one-list : (goes : Routing) → InRange goes → (c : Claim) (n : ℕ) (s : Streams) (base : List Row) → n ≡ 1 → ClaimHolds goes c n s base
    → SameRows (s 0) base × (Reports (order_columns c.order) base → s 0 ≡ base)
one-list goes law c n s base single holds =
    let P : ℕ → Type 0 = λ m. SameRows (joined m s) base in
    let same : SameRows (s 0) base = subst P single (from_single-of goes law c.part n s (λ xs. SameRows xs base) single holds.part) in
    let first : 0 < n = omega (arith, single) in
    (same, λ tells. sym (same-list c.order base (s 0) tells (SameRows-sym same) holds.order.1 (holds.order.0 0 first)))
