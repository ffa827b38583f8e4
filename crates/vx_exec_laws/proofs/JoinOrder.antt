-- Joins: order and keys.
use Rattle.std.proofs.Common.{◌≡◌, ℕ, ◌≤◌, ◌==◌, Bool, true, false, cond, ◌&&◌, ◌||◌, ⊎_elim, List, [], ◌∷◌, ◌++◌, map, filter, length, drop, refl, sym, ap, ◌∙◌, arith, true≢false, is_le, is_eq, eqb-true}
use Rattle.std.proofs.lemmas.List.Folds.{list_all-append}
use Rattle.std.specs.List.{list_all}
use Rattle.vx_rows_values.specs.declared.order.OrderEntry.{OrderEntry}
use Rattle.vx_rows_values.specs.Values.{Row, row_cmp, pick}
use Rattle.vx_rows_values.specs.Order.{order_columns, compare_on, agree, sorted}
use Rattle.vx_rows_values.specs.Bags.{total, count}
use Rattle.vx_rows_values.specs.Keys.{HasKey}
use Rattle.vx_catalog_relations.specs.Catalog.{all_below}
use Rattle.vx_plan_nodes.specs.Serial.{matches, joined_with, join_rows}
use Rattle.vx_check_rules.specs.Rules.{within, covers, shifted, join_keys}
use Rattle.vx_catalog_relations.specs.Relation.{KeysHold}
use Rattle.vx_exec_laws.proofs.Bags.{and-left, and-right, and-both, when}
use Rattle.vx_exec_laws.proofs.Parts.{or-cases, list_all-weaken, list_all-always}
use Rattle.vx_exec_laws.proofs.Keys.{agree-within, count-mono, covers-key}
use Rattle.vx_rows_values.proofs.Compare.{count-witness, agree-both, le-trans, row_eq-refl, row_eq-laws}
use Rattle.vx_exec_laws.proofs.Orders.{list_all-filter}
use Rattle.vx_exec_laws.proofs.OrderFacts.{agree-le, compare-pick}
use Rattle.vx_exec_laws.proofs.Unary.{map-all}
use Rattle.vx_exec_laws.proofs.Join.{pick-left, pick-shifted, pick-drop, total-swap, pair, join-total, total-all-le}

-- what holds of all rows of two lists one after the other holds of those of each, and the other way round
pub all-append : {X : Type 0} (q : X → Bool) (xs ys : List X) → list_all q xs ≡ true → list_all q ys ≡ true → list_all q (xs ++ ys) ≡ true
all-append q xs ys h k = list_all-append q xs ys ∙ and-both (list_all q xs) (list_all q ys) h k

pub all-front : {X : Type 0} (q : X → Bool) (xs ys : List X) → list_all q (xs ++ ys) ≡ true → list_all q xs ≡ true
all-front q xs ys h = and-left (list_all q xs) (list_all q ys) (sym (list_all-append q xs ys) ∙ h)

pub all-back : {X : Type 0} (q : X → Bool) (xs ys : List X) → list_all q (xs ++ ys) ≡ true → list_all q ys ≡ true
all-back q xs ys h = and-right (list_all q xs) (list_all q ys) (sym (list_all-append q xs ys) ∙ h)

-- what holds of each pair of a left row and a right row holds of a join's rows
pub block-all : (pr q : Row → Bool) (on : List (ℕ × ℕ)) (l : Row) (rs : List Row)
    → ((r : Row) → pr r ≡ true → q (l ++ r) ≡ true) → list_all pr rs ≡ true → list_all q (joined_with on rs l) ≡ true
block-all pr q on l rs f h = map-all q (λ r. l ++ r) (filter (matches on l) rs)
    (list_all-weaken pr (λ r. q (l ++ r)) f (filter (matches on l) rs) (list_all-filter pr (matches on l) rs h))

pub join-all : (pl pr q : Row → Bool) (on : List (ℕ × ℕ)) (ls rs : List Row)
    → ((l r : Row) → pl l ≡ true → pr r ≡ true → q (l ++ r) ≡ true) → list_all pl ls ≡ true → list_all pr rs ≡ true → list_all q (join_rows on ls rs) ≡ true
join-all pl pr q on [] rs f h k = refl
join-all pl pr q on (l ∷ ls) rs f h k =
    all-append q (joined_with on rs l) (join_rows on ls rs)
    (block-all pr q on l rs (λ r e. f l r (and-left _ _ h) e) k)
    (join-all pl pr q on ls rs f (and-right (pl l) (list_all pl ls) h) k)

pub agree-sym : (cs : List ℕ) (a b : Row) → agree cs a b ≡ true → agree cs b a ≡ true
agree-sym cs a b h = agree-both cs a b a h (row_eq-refl (pick cs a))

pub sorted-append : (order : List OrderEntry) (l : Row) (xs ys : List Row) → list_all (agree (order_columns order) l) xs ≡ true → sorted order ys ≡ true
    → list_all (λ y. is_le (compare_on order l y)) ys ≡ true → sorted order (xs ++ ys) ≡ true
sorted-append order l [] ys h k b = k
sorted-append order l (x ∷ xs) ys h k b =
    let tail = and-right (agree (order_columns order) l x) (list_all (agree (order_columns order) l) xs) h in
    let here : agree (order_columns order) l x ≡ true = and-left _ _ h in
    and-both _ _
    (all-append (λ z. is_le (compare_on order x z)) xs ys
    (list_all-weaken (agree (order_columns order) l) (λ z. is_le (compare_on order x z)) (λ z e. agree-le order x z (agree-both (order_columns order) l x z here e)) xs tail)
    (list_all-weaken (λ y. is_le (compare_on order l y)) (λ z. is_le (compare_on order x z)) (λ z e. le-trans order x l z (agree-le order x l (agree-sym (order_columns order) l x here)) e) ys b))
    (sorted-append order l xs ys tail k b)

abbrev pub wide : ℕ → List Row → Bool
wide w xs = list_all (λ row. length row == w) xs

pub all-and : {X : Type 0} (p q : X → Bool) (xs : List X) → list_all p xs ≡ true → list_all q xs ≡ true → list_all (λ x. p x && q x) xs ≡ true
all-and p q [] h k = refl
all-and p q (x ∷ xs) h k =
    and-both (p x && q x) (list_all (λ x. p x && q x) xs)
    (and-both (p x) (q x) (and-left (p x) (list_all p xs) h) (and-left (q x) (list_all q xs) k)) (all-and p q xs (and-right (p x) (list_all p xs) h) (and-right (q x) (list_all q xs) k))

-- a join keeps its left input's order
pub join-sorted : (order : List OrderEntry) (w : ℕ) (on : List (ℕ × ℕ)) (ls rs : List Row) → all_below w (order_columns order) ≡ true → wide w ls ≡ true → sorted order ls ≡ true
    → sorted order (join_rows on ls rs) ≡ true
join-sorted order w on [] rs b v h = refl
join-sorted order w on (l ∷ ls) rs b v h =
    let cols : List ℕ = order_columns order in
    let lw : length l ≡ w = eqb-true _ w (and-left _ _ v) in
    let later = and-right (length l == w) (wide w ls) v in
    sorted-append order l (joined_with on rs l) (join_rows on ls rs)
    (block-all (λ r. true) (agree cols l) on l rs
    (λ r e. ap (λ k. is_eq (row_cmp (pick cols l) k)) (pick-left w cols l r b lw) ∙ row_eq-refl (pick cols l))
    (list_all-always (λ r. true) (λ r. refl) rs))
    (join-sorted order w on ls rs b later (and-right _ _ h))
    (join-all (λ y. (length y == w) && is_le (compare_on order l y)) (λ r. true) (λ y. is_le (compare_on order l y)) on ls rs
    (λ y r e t. ap is_le (compare-pick order l (y ++ r) l y refl (pick-left w cols y r b (eqb-true _ w (and-left _ _ e)))) ∙ and-right (length y == w) (is_le (compare_on order l y)) e)
    (all-and (λ y. length y == w) (λ y. is_le (compare_on order l y)) ls later (and-left _ _ h))
    (list_all-always (λ r. true) (λ r. refl) rs))

-- rows that match and pass count for one at most, where another test bounds them
pub inner-bound : (P m c c' : Row → Bool) (a : Bool) (rs : List Row)
    → ((r : Row) → P r ≡ true → m r ≡ true → c r ≡ true → a ≡ true)
    → ((r : Row) → P r ≡ true → m r ≡ true → c r ≡ true → c' r ≡ true)
    → list_all P rs ≡ true → count c' rs ≤ 1
    → total (λ r. when (m r) (cond (c r) 1 0)) rs ≤ cond a 1 0
inner-bound P m c c' true rs f g h k =
    let e : total (λ r. when (m r) (cond (c r) 1 0)) rs ≤ count c' rs
    = total-all-le P (λ r. when (m r) (cond (c r) 1 0)) (λ r. cond (c' r) 1 0) (λ r p. le (m r) (c r) (c' r) (λ x y. g r p x y)) rs h in
    omega arith
  where
    le : (x y z : Bool) → (x ≡ true → y ≡ true → z ≡ true) → when x (cond y 1 0) ≤ cond z 1 0
    le true true z f = rw (f refl refl) (omega arith)
    le true false z f = omega arith
    le false y z f = omega arith
inner-bound P m c c' false rs f g h k =
    let e : total (λ r. when (m r) (cond (c r) 1 0)) rs ≤ total (λ r. 0) rs
    = total-all-le P (λ r. when (m r) (cond (c r) 1 0)) (λ r. 0) (λ r p. none (m r) (c r) (λ x y. absurd (true≢false (sym (f r p x y))))) rs h in
    omega (arith, e, total-none rs)
  where
    none : (x y : Bool) → (x ≡ true → y ≡ true → ⊥) → when x (cond y 1 0) ≤ 0
    none true true f = absurd (f refl refl)
    none true false f = omega arith
    none false y f = omega arith

    total-none : (xs : List Row) → total (λ r. 0) xs ≡ 0
    total-none [] = refl
    total-none (x ∷ xs) = omega (arith, total-none xs)

module _ (on : List (ℕ × ℕ)) (w : ℕ) (ls rs : List Row) (ws : wide w ls ≡ true) (x : List ℕ) (row : Row) where
  pub left-agrees : (A : List ℕ) → all_below w A ≡ true → within A x ≡ true → (l r : Row) → (length l == w) ≡ true → agree x row (l ++ r) ≡ true → agree A row l ≡ true
  left-agrees A b h l r e k =
      ap (λ v. is_eq (row_cmp (pick A row) v)) (sym (pick-left w A l r b (eqb-true _ w e))) ∙ agree-within A x row (l ++ r) h k

  pub right-agrees : (B : List ℕ) → within (shifted w B) x ≡ true → (l r : Row) → (length l == w) ≡ true → agree x row (l ++ r) ≡ true → agree B (drop w row) r ≡ true
  right-agrees B h l r e k =
      ap (λ v. is_eq (row_cmp (pick B (drop w row)) v)) (sym (pick-shifted w B l r (eqb-true _ w e)))
      ∙ (ap (λ v. is_eq (row_cmp v (pick (shifted w B) (l ++ r)))) (sym (pick-drop w B row)) ∙ agree-within (shifted w B) x row (l ++ r) h k)

  -- the left key and a bound on the right rows of each left row
  pub key-by-left : (A : List ℕ) → all_below w A ≡ true → within A x ≡ true → HasKey A ls
      → (c' : Row → Row → Bool) → ((l r : Row) → (length l == w) ≡ true → matches on l r ≡ true → agree x row (l ++ r) ≡ true → c' l r ≡ true)
      → ((l : Row) → count (c' l) rs ≤ 1) → count (agree x row) (join_rows on ls rs) ≤ 1
  key-by-left A b h key c' f g =
      let a : count (agree x row) (join_rows on ls rs) ≡ total (λ l. total (pair on (λ y. cond (agree x row y) 1 0) l) rs) ls = join-total on (λ y. cond (agree x row y) 1 0) ls rs in
      let d : total (λ l. total (pair on (λ y. cond (agree x row y) 1 0) l) rs) ls ≤ total (λ l. cond (agree A row l) 1 0) ls
      = total-all-le (λ l. length l == w) _ _ (λ l e. inner-bound (λ r. true) (matches on l) (λ r. agree x row (l ++ r)) (c' l) (agree A row l) rs
      (λ r t m k. left-agrees A b h l r e k) (λ r t m k. f l r e m k) (list_all-always (λ r. true) (λ r. refl) rs) (g l)) ls ws in
      let k : count (agree A row) ls ≤ 1 = key row in
      omega arith

  -- the right key and a bound on the left rows of each right row
  pub key-by-right : (B : List ℕ) → within (shifted w B) x ≡ true → HasKey B rs
      → (c' : Row → Row → Bool) → ((l r : Row) → (length l == w) ≡ true → matches on l r ≡ true → agree x row (l ++ r) ≡ true → c' r l ≡ true)
      → ((r : Row) → count (c' r) ls ≤ 1) → count (agree x row) (join_rows on ls rs) ≤ 1
  key-by-right B h key c' f g =
      let p : Row → Row → ℕ = pair on (λ y. cond (agree x row y) 1 0) in
      let a : count (agree x row) (join_rows on ls rs) ≡ total (λ l. total (p l) rs) ls = join-total on (λ y. cond (agree x row y) 1 0) ls rs in
      let s : total (λ l. total (p l) rs) ls ≡ total (λ r. total (λ l. p l r) ls) rs = total-swap p ls rs in
      let d : total (λ r. total (λ l. p l r) ls) rs ≤ total (λ r. cond (agree B (drop w row) r) 1 0) rs
      = total-all-le (λ r. true) _ _ (λ r t. inner-bound (λ l. length l == w) (λ l. matches on l r) (λ l. agree x row (l ++ r)) (c' r) (agree B (drop w row) r) ls
      (λ l e m k. right-agrees B h l r e k) (λ l e m k. f l r e m k) ws (g r)) rs (list_all-always (λ r. true) (λ r. refl) rs) in
      let k : count (agree B (drop w row)) rs ≤ 1 = key (drop w row) in
      omega arith

-- a key among these that is within x
pub covers-find : (w : ℕ) (keys : List (List ℕ)) (x : List ℕ) (xs : List Row) → list_all (all_below w) keys ≡ true → KeysHold keys xs → covers keys x ≡ true
    → (A : List ℕ) × (within A x ≡ true) × (all_below w A ≡ true) × HasKey A xs
covers-find w [] x xs b k h = absurd (true≢false (sym h))
covers-find w (A ∷ keys) x xs b k h = ⊎_elim
    (λ here. (A, here, and-left (all_below w A) (list_all (all_below w) keys) b, k.0))
    (λ later. covers-find w keys x xs (and-right (all_below w A) (list_all (all_below w) keys) b) k.1 later)
    (or-cases (within A x) (covers keys x) h)

pub covers-shifted : (w : ℕ) (keys : List (List ℕ)) (x : List ℕ) (xs : List Row) → KeysHold keys xs → covers (map (shifted w) keys) x ≡ true
    → (B : List ℕ) × (within (shifted w B) x ≡ true) × HasKey B xs
covers-shifted w [] x xs k h = absurd (true≢false (sym h))
covers-shifted w (B ∷ keys) x xs k h = ⊎_elim
    (λ here. (B, here, k.0))
    (λ later. covers-shifted w keys x xs k.1 later)
    (or-cases (within (shifted w B) x) (covers (map (shifted w) keys) x) h)

abbrev pub left_side : List (ℕ × ℕ) → List ℕ
left_side on = map (λ p. p.0) on

abbrev pub right_side : List (ℕ × ℕ) → List ℕ
right_side on = map (λ p. p.1) on

-- a key on the paired right columns bounds the matches of a left row
pub matches-right : (on : List (ℕ × ℕ)) (rs : List Row) → HasKey (right_side on) rs → (l : Row) → count (matches on l) rs ≤ 1
matches-right on rs key l = count-witness (matches on l) rs (λ r0 h0.
    let a : count (matches on l) rs ≤ count (agree (right_side on) r0) rs
    = count-mono (matches on l) (agree (right_side on) r0)
    (λ r h. sym (row_eq-laws.congr (pick (left_side on) l) (pick (right_side on) r0) (pick (right_side on) r) h0) ∙ h) rs in
    let b : count (agree (right_side on) r0) rs ≤ 1 = key r0 in
    omega arith)

pub matches-left : (on : List (ℕ × ℕ)) (ls : List Row) → HasKey (left_side on) ls → (r : Row) → count (λ l. matches on l r) ls ≤ 1
matches-left on ls key r = count-witness (λ l. matches on l r) ls (λ l0 h0.
    let a : count (λ l. matches on l r) ls ≤ count (agree (left_side on) l0) ls
    = count-mono (λ l. matches on l r) (agree (left_side on) l0)
    (λ l h. row_eq-laws.congr (pick (left_side on) l0) (pick (right_side on) r) (pick (left_side on) l) h0
    ∙ (row_eq-laws.symm (pick (right_side on) r) (pick (left_side on) l) ∙ h)) ls in
    let b : count (agree (left_side on) l0) ls ≤ 1 = key l0 in
    omega arith)

-- the keys that the rule table shows of a join hold
pub join-key : (on : List (ℕ × ℕ)) (w : ℕ) (lefts rights : List (List ℕ)) (ls rs : List Row) → wide w ls ≡ true → list_all (all_below w) lefts ≡ true
    → KeysHold lefts ls → KeysHold rights rs → (x : List ℕ) → join_keys on w lefts rights x ≡ true → HasKey x (join_rows on ls rs)
join-key on w lefts rights ls rs ws below kl kr x h row = ⊎_elim
    (λ first. ⊎_elim
    (λ both.
    let a = covers-find w lefts x ls below kl (and-left (covers lefts x) (covers (map (shifted w) rights) x) both) in
    let b = covers-shifted w rights x rs kr (and-right (covers lefts x) (covers (map (shifted w) rights) x) both) in
    key-by-left on w ls rs ws x row a.0 a.2 a.1 a.3 (λ l r. agree b.0 (drop w row) r)
    (λ l r e m k. right-agrees on w ls rs ws x row b.0 b.1 l r e k) (λ l. b.2 (drop w row)))
    (λ left.
    let a = covers-find w lefts x ls below kl (and-left (covers lefts x) (covers rights (right_side on)) left) in
    let b = covers-key rights (right_side on) (and-right (covers lefts x) (covers rights (right_side on)) left) rs kr in
    key-by-left on w ls rs ws x row a.0 a.2 a.1 a.3 (λ l r. matches on l r) (λ l r e m k. m) (matches-right on rs b))
    (or-cases (covers lefts x && covers (map (shifted w) rights) x) (covers lefts x && covers rights (right_side on)) first))
    (λ right.
    let b = covers-shifted w rights x rs kr (and-left (covers (map (shifted w) rights) x) (covers lefts (left_side on)) right) in
    let a = covers-key lefts (left_side on) (and-right (covers (map (shifted w) rights) x) (covers lefts (left_side on)) right) ls kl in
    key-by-right on w ls rs ws x row b.0 b.1 b.2 (λ r l. matches on l r) (λ l r e m k. m) (matches-left on ls a))
    (or-cases ((covers lefts x && covers (map (shifted w) rights) x) || (covers lefts x && covers rights (right_side on))) (covers (map (shifted w) rights) x && covers lefts (left_side on)) h)
