-- Lists of positions, and of what lies at them.
use Rattle.std.proofs.Common.{◌≡◌, ℕ, zero, suc, ◌+◌, ◌-◌, ◌^◌, ◌<◌, ◌≤◌, List, [], ◌∷◌, refl, sym, ap, ◌∙◌, length, get_or, drop, map, arith, Option, Some, None}
use Rattle.std.specs.Prelude.{slice_range, All}
use Rattle.std.proofs.lemmas.List.{same_lists, length-map, length-take, length-drop, get_or-take, get_or-drop, get_or-map, get_or_default}
use Rattle.vx_rows.specs.Lists.{each_below}
use Rattle.vx_rows.proofs.Below.{length-each_below, get_or-each_below, each_below-ext, slice_range-each_below, each_below-is, map-each_below}
use Rattle.vx_rows_views.specs.Selections.{position_at, positions_of, IsSelection}

pub length-slice : {X : Type 0} (xs : List X) (a b : ℕ) → a ≤ b → b ≤ length xs → length (slice_range xs a b) ≡ b - a
length-slice xs a b h l = omega (arith, length-take (b - a) (drop a xs), length-drop a xs)

pub get_or-slice : {X : Type 0} (xs : List X) (a b k : ℕ) (d : X) → k < b - a → get_or (slice_range xs a b) k d ≡ get_or xs (a + k) d
get_or-slice xs a b k d h = get_or-take (b - a) (drop a xs) k d h ∙ get_or-drop a xs k d

-- a part of what lies at positions
pub map-slice : {X Y : Type 0} (f : X → Y) (xs : List X) (a b : ℕ) → a ≤ b → b ≤ length xs → map f (slice_range xs a b) ≡ slice_range (map f xs) a b
map-slice {X} {Y} f [] a b h l =
    let p = length-slice {X = X} [] a b h l in
    let r = length-map (slice_range {X = X} [] a b) f in
    let q = length-slice {X = Y} [] a b h l in
    same_lists _ _ (omega (arith, p, q, r)) (λ k d near. absurd (omega (arith, p, r, near, l)))
map-slice f (x ∷ xs) a b h l =
    let ys = x ∷ xs in
    let n = length-map ys f in
    let p = length-slice ys a b h l in
    let q = length-slice (map f ys) a b h (omega (arith, n, l)) in
    let r = length-map (slice_range ys a b) f in
    same_lists _ _ (omega (arith, p, q, r)) (λ k d near.
    let small : k < b - a = omega (arith, p, r, near) in
    get_or-map f (slice_range ys a b) k x d (omega (arith, p, small))
    ∙ (ap f (get_or-slice ys a b k x small) ∙ (sym (get_or-map f ys (a + k) x d (omega (arith, small, l))) ∙ sym (get_or-slice (map f ys) a b k d small))))

-- what lies at places of positions lies at positions
pub map-places : {Y : Type 0} (f : ℕ → Y) (d : Y) (xs places : List ℕ) → All (λ i. i < length xs) places → map f (map (λ i. get_or xs i 0) places) ≡ map (λ i. get_or (map f xs) i d) places
map-places f d xs [] h = refl
map-places f d xs (p ∷ ps) h =
    let near : p < length xs = h zero 0 (omega arith) in
    let first : f (get_or xs p 0) ≡ get_or (map f xs) p d = sym (get_or-map f xs p 0 d near) in
    let rest = map-places f d xs ps (λ k e l. h (suc k) e (omega arith)) in
    ap (λ y. y ∷ map f (map (λ i. get_or xs i 0) ps)) first ∙ ap (λ ys. get_or (map f xs) p d ∷ ys) rest

-- a range of positions
pub map-range : {Y : Type 0} (rows : List Y) (d : Y) (a b : ℕ) → a ≤ b → b ≤ length rows → map (λ i. get_or rows i d) (each_below (b - a) (λ k. a + k)) ≡ slice_range rows a b
map-range rows d a b h l =
    map-each_below (λ i. get_or rows i d) (b - a) (λ k. a + k)
    ∙ (sym (slice_range-each_below (length rows) a b (λ i. get_or rows i d) h l) ∙ ap (λ xs. slice_range xs a b) (each_below-is rows d))

-- a whole list
pub whole-list : (xs : List ℕ) → each_below (length xs) (λ k. get_or xs (0 + k) 0) ≡ xs
whole-list xs = each_below-ext (length xs) _ (λ k. get_or xs k 0) (λ k h. let e : 0 + k ≡ k = omega arith in ap (λ i. get_or xs i 0) e) ∙ each_below-is xs 0

-- a part of a list
pub part-list : (xs : List ℕ) (from count : ℕ) → from + count ≤ length xs → slice_range xs from (from + count) ≡ each_below count (λ k. get_or xs (from + k) 0)
part-list xs from count h =
    let n = length-slice xs from (from + count) (omega arith) h in
    let m = length-each_below count (λ k. get_or xs (from + k) 0) in
    same_lists _ _ (omega (arith, n, m)) (λ k d near.
    let small : k < count = omega (arith, n, near) in
    get_or-slice xs from (from + count) k d (omega arith)
    ∙ (get_or_default xs (from + k) d 0 (omega arith) ∙ sym (get_or-each_below count (λ j. get_or xs (from + j) 0) k d small)))

module _ {X : Type 0} (items : X → List ℕ) where
  pub length-positions : (listed : Option X) (from count : ℕ) → length (positions_of items listed from count) ≡ count
  length-positions listed from count = length-each_below count (position_at items listed from)

  pub get-position : (listed : Option X) (from count k : ℕ) → k < count → get_or (positions_of items listed from count) k 0 ≡ position_at items listed from k
  get-position listed from count k h = get_or-each_below count (position_at items listed from) k 0 h

  moved : (listed : Option X) (from a k : ℕ) → position_at items listed from (a + k) ≡ position_at items listed (from + a) k
  moved None from a k = let e : from + (a + k) ≡ (from + a) + k = omega arith in e
  moved (Some x) from a k = let e : from + (a + k) ≡ (from + a) + k = omega arith in ap (λ i. get_or (items x) i 0) e

  -- a part of positions
  pub slice-positions : (listed : Option X) (from count a b : ℕ) → a ≤ b → b ≤ count → positions_of items listed (from + a) (b - a) ≡ slice_range (positions_of items listed from count) a b
  slice-positions listed from count a b h l =
      sym (slice_range-each_below count a b (position_at items listed from) h l ∙ each_below-ext (b - a) _ (position_at items listed (from + a)) (λ k near. moved listed from a k))

  pub whole-seen : (y : X) (n : ℕ) (xs : List ℕ) → items y ≡ xs → n ≡ length xs → each_below n (λ k. get_or (items y) (0 + k) 0) ≡ xs
  whole-seen y n xs e l = ap (λ (ps : List ℕ). each_below n (λ k. get_or ps (0 + k) 0)) e ∙ (ap (λ m. each_below m (λ k. get_or xs (0 + k) 0)) l ∙ whole-list xs)

  -- what a caller sees of positions
  module _ {listed : Option X} {from count : ℕ} {now : List ℕ} (is : positions_of items listed from count ≡ now) (f : IsSelection items listed from count) where
    pub count-seen : count ≡ length now
    count-seen = sym (length-positions listed from count) ∙ ap length is

    pub small-seen : (k : ℕ) → k < length now → from + k < 2 ^ 64
    small-seen k h = let c = count-seen in let s = f.small in omega arith

    pub near-seen : (x : X) (k : ℕ) → listed ≡ Some x → k < length now → from + k < length (items x)
    near-seen x k e h = let c = count-seen in let w = f.within x e in omega arith

    pub range-seen : (k : ℕ) → listed ≡ None → k < length now → from + k ≡ get_or now k 0
    range-seen k e h =
        let c = count-seen in
        sym (ap (λ o. position_at items o from k) e) ∙ (sym (get-position listed from count k (omega arith)) ∙ ap (λ xs. get_or xs k 0) is)

    pub listed-seen : (x : X) (k : ℕ) → listed ≡ Some x → k < length now → get_or (items x) (from + k) 0 ≡ get_or now k 0
    listed-seen x k e h =
        let c = count-seen in
        sym (ap (λ o. position_at items o from k) e) ∙ (sym (get-position listed from count k (omega arith)) ∙ ap (λ xs. get_or xs k 0) is)

    pub range-slice-seen : (a b : ℕ) → listed ≡ None → a ≤ b → b ≤ length now → each_below (b - a) (λ k. (from + a) + k) ≡ slice_range now a b
    range-slice-seen a b e h l =
        let c = count-seen in
        sym (ap (λ o. positions_of items o (from + a) (b - a)) e) ∙ (slice-positions listed from count a b h (omega arith) ∙ ap (λ xs. slice_range xs a b) is)

    pub listed-slice-seen : (x y : X) (a b : ℕ) → listed ≡ Some x → items y ≡ items x → a ≤ b → b ≤ length now
        → each_below (b - a) (λ k. get_or (items y) ((from + a) + k) 0) ≡ slice_range now a b
    listed-slice-seen x y a b e same h l =
        let c = count-seen in
        ap (λ (ps : List ℕ). each_below (b - a) (λ k. get_or ps ((from + a) + k) 0)) same
        ∙ (sym (ap (λ o. positions_of items o (from + a) (b - a)) e) ∙ (slice-positions listed from count a b h (omega arith) ∙ ap (λ xs. slice_range xs a b) is))

    pub slice-small : (a b : ℕ) → a ≤ b → b ≤ length now → (from + a) + (b - a) < 2 ^ 64
    slice-small a b h l = let c = count-seen in let s = f.small in omega arith

    pub slice-is : (x y : X) (a b : ℕ) → listed ≡ Some x → items y ≡ items x → a ≤ b → b ≤ length now → IsSelection items (Some y) (from + a) (b - a)
    slice-is x y a b e same h l = record {
      small = slice-small a b h l;
      within = λ z d. let c = count-seen in let w = f.within x e in let q : y ≡ z = cc in let r : length (items z) ≡ length (items x) = ap length (sym (ap items q) ∙ same) in omega arith;
    }

    pub part-seen : (x : X) → listed ≡ Some x → slice_range (items x) from (from + count) ≡ now
    part-seen x e = part-list (items x) from count (f.within x e) ∙ (sym (ap (λ o. positions_of items o from count) e) ∙ is)

-- the positions at places, one by one
pub moved-all : (from : ℕ) (places : List ℕ) (now : List ℕ) → All (λ i. i < length now) places → ((k : ℕ) → k < length now → from + k ≡ get_or now k 0)
    → map (λ i. from + i) places ≡ map (λ i. get_or now i 0) places
moved-all from [] now h e = refl
moved-all from (p ∷ ps) now h e =
    ap (λ y. y ∷ map (λ i. from + i) ps) (e p (h zero 0 (omega arith))) ∙ ap (λ ys. get_or now p 0 ∷ ys) (moved-all from ps now (λ k d l. h (suc k) d (omega arith)) e)

-- numbers that follow one another, one by one
pub counted-at : (first : ℕ) (numbers : List ℕ) → numbers ≡ each_below (length numbers) (λ k. first + k) → (i : ℕ) → i < length numbers → get_or numbers i 0 ≡ first + i
counted-at first numbers e i near = ap (λ xs. get_or xs i 0) e ∙ get_or-each_below (length numbers) (λ k. first + k) i 0 near
