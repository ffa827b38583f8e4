-- Keys that are found by their hashes.
use Rattle.std.proofs.Common.{◌≡◌, ℕ, suc, zero, pos, ◌+◌, ◌<◌, ◌≤◌, Bool, true, false, cond, not, ◌||◌, List, [], ◌∷◌, map, take, length, get_or, refl, sym, ap, ◌∙◌, subst, arith, true≢false, nat_eq, is_eq}
use Rattle.std.specs.Prelude.{All, position, None}
use Rattle.std.specs.List.{list_any, AllByRecursion, IsDistinct, position_or_len}
use Rattle.std.proofs.lemmas.Cmp.{eq_by_cmp_equiv, nat_eq_equiv}
use Rattle.std.proofs.lemmas.List.{take_more_same, take_all, length-map, get_or-map}
use Rattle.std.proofs.lemmas.Bool.Decides.{Decides-eqb}
use Rattle.std.proofs.lemmas.Map.Keys.{IsDistinct-cons, IsDistinct-head, IsDistinct-tail}
use Rattle.vx_rows_values.specs.declared.value.ColType.{ColType}
use Rattle.vx_rows_values.specs.Types.{type_of, type_at, Fits}
use Rattle.vx_rows_values.specs.declared.value.Cell.{Cell}
use Rattle.vx_rows_values.specs.ValueView.{cell_val}
use Rattle.vx_rows_values.specs.Values.{Val, Row, num, val_cmp, row_eq, value_at, pick}
use Rattle.vx_rows_values.specs.Equality.{row_eq-same, val_cmp-same, val_cmp_total, is_eq-Equal}
use Rattle.vx_rows.specs.View.{HasTypes, RowsView}
use Rattle.vx_rows.proofs.Below.{all_at, all_here}
use Rattle.vx_match_keys.proofs.KeyFacts.{row_eq-refl, none-distinct}
use Rattle.vx_match_keys.proofs.NumberFacts.{missing-number}

-- rows are equal where they are as long and each value is the same
pub long-apart : (a b : Row) → (length a ≡ length b → ⊥) → row_eq a b ≡ false
long-apart a b h = by (row_eq a b) refl
  where
    by : (t : Bool) → row_eq a b ≡ t → row_eq a b ≡ false
    by true e = absurd (h (ap length (row_eq-same a b e)))
    by false e = e

pub apart-at : (a b : Row) (i : ℕ) → is_eq (val_cmp (value_at a i) (value_at b i)) ≡ false → row_eq a b ≡ false
apart-at a b i h = by (row_eq a b) refl
  where
    by : (t : Bool) → row_eq a b ≡ t → row_eq a b ≡ false
    by true e =
        let same : is_eq (val_cmp (value_at a i) (value_at a i)) ≡ true = (eq_by_cmp_equiv val_cmp_total).refl (value_at a i) in
        absurd (true≢false (sym same ∙ (ap (λ r. is_eq (val_cmp (value_at a i) (value_at r i))) (row_eq-same a b e) ∙ h)))
    by false e = e

-- the comparison of a value that is read from a list of them
pub cells-compared : (xs : List Cell) (r : Row) (i : ℕ) (d : Cell) (b : Bool) (v : Val) → i < length xs → b ≡ is_eq (val_cmp (cell_val (get_or xs i d)) v) → v ≡ value_at r i
    → is_eq (val_cmp (value_at (map cell_val xs) i) (value_at r i)) ≡ b
cells-compared xs r i d b v near is value = (λ j. is_eq (val_cmp (get_or-map cell_val xs i d (num (pos 0)) near j) (sym value j))) ∙ sym is

pub same-next : (a b : Row) (i : ℕ) → i < length a → i < length b → take i a ≡ take i b → is_eq (val_cmp (value_at a i) (value_at b i)) ≡ true → take (i + 1) a ≡ take (i + 1) b
same-next a b i near far h e = take_more_same a b i (num (pos 0)) near far h (val_cmp-same (value_at a i) (value_at b i) (is_eq-Equal _ e))

pub same-all : (a b : Row) (n : ℕ) → length a ≤ n → length b ≤ n → take n a ≡ take n b → row_eq a b ≡ true
same-all a b n near far h = subst (λ r. row_eq a r ≡ true) (sym (take_all n a near) ∙ (h ∙ take_all n b far)) (row_eq-refl a)

-- the key of a row that fits has the types of its columns
value-typed : (row : Row) (c : ℕ) → type_of (value_at row c) ≡ type_at (map type_of row) c
value-typed [] c = refl
value-typed (v ∷ row) zero = refl
value-typed (v ∷ row) (suc c) = value-typed row c

key-typed : (types : List ColType) (cols : List ℕ) (row : Row) → Fits types row → map type_of (pick cols row) ≡ map (type_at types) cols
key-typed types [] row fit = refl
key-typed types (c ∷ cols) row fit = λ i. (value-typed row c ∙ ap (λ ts. type_at ts c) fit.types_are) i ∷ key-typed types cols row fit i

pub keys-typed : (types : List ColType) (cols : List ℕ) (rows : List Row) (own : List ColType) → AllByRecursion (Fits types) rows → map (type_at types) cols ≡ own → All (λ r. HasTypes own (pick cols r)) rows
keys-typed types cols rows own fit is = all_at (λ r. HasTypes own (pick cols r)) rows (go rows fit)
  where
    go : (rs : List Row) → AllByRecursion (Fits types) rs → AllByRecursion (λ r. HasTypes own (pick cols r)) rs
    go [] f = tt
    go (r ∷ rs) f = (key-typed types cols r f.0 ∙ is, go rs f.1)

pub wide : (types : List ColType) (row : Row) → Fits types row → length row ≡ length types
wide types row fit = sym (length-map row type_of) ∙ ap length fit.types_are

-- equal keys have one hash
hash-same : (f : Row → ℕ) (a b : Row) → row_eq a b ≡ true → nat_eq (f a) (f b) ≡ true
hash-same f a b e = subst (λ z. nat_eq (f a) (f z) ≡ true) (row_eq-same a b e) (nat_eq_equiv.refl (f a))

differ : (f : Row → ℕ) (a b : Row) → nat_eq (f a) (f b) ≡ false → row_eq a b ≡ false
differ f a b h = by (row_eq a b) refl
  where
    by : (t : Bool) → row_eq a b ≡ t → row_eq a b ≡ false
    by true e = absurd (true≢false (sym (hash-same f a b e) ∙ h))
    by false e = e

all-differ : (f : Row → ℕ) (a : Row) (rows : List Row) → AllByRecursion (λ h. nat_eq (f a) h ≡ false) (map f rows) → AllByRecursion (λ b. row_eq a b ≡ false) rows
all-differ f a [] h = tt
all-differ f a (b ∷ rows) h = (differ f a b h.0, all-differ f a rows h.1)

-- keys whose hashes are apart are apart
pub keys-apart : (f : Row → ℕ) (rows : List Row) → IsDistinct nat_eq (map f rows) → IsDistinct row_eq rows
keys-apart f [] d = none-distinct
keys-apart f (r ∷ rows) d =
    IsDistinct-cons row_eq r rows (all-differ f r rows (IsDistinct-head nat_eq (f r) (map f rows) d)) (keys-apart f rows (IsDistinct-tail nat_eq (f r) (map f rows) d))

-- past all where nothing passes
pub none-past : {X : Type 0} (p : X → Bool) (xs : List X) → list_any p xs ≡ false → length xs ≤ position_or_len p xs
none-past p [] h = omega arith
none-past p (x ∷ xs) h = step (p x) h (none-past p xs)
  where
    step : (b : Bool) → (b || list_any p xs) ≡ false → (list_any p xs ≡ false → length xs ≤ position_or_len p xs) → length (x ∷ xs) ≤ cond (not b) (1 + position_or_len p xs) 0
    step true g r = absurd (true≢false g)
    step false g r = let past = r g in omega (arith, past)

all-past : (h : ℕ) (hs : List ℕ) → AllByRecursion (λ y. nat_eq h y ≡ false) hs → length hs ≤ position_or_len (nat_eq h) hs
all-past h [] a = omega arith
all-past h (y ∷ hs) a = subst (λ b. length (y ∷ hs) ≤ cond (not b) (1 + position_or_len (nat_eq h) hs) 0) (sym a.0) (let past = all-past h hs a.1 in omega (arith, past))

-- where the hash of a key stands
abbrev pub hash-place : (Row → ℕ) → Row → List Row → ℕ
hash-place f key rows = position_or_len (nat_eq (f key)) (map f rows)

-- a key whose hash is nowhere is new
pub number-missing : (f : Row → ℕ) (key : Row) (rows : List Row) → length rows ≤ hash-place f key rows → length rows ≡ position_or_len (row_eq key) rows
number-missing f key [] past = refl
number-missing f key (r ∷ rows) past = step (nat_eq (f key) (f r)) (row_eq key r) refl refl past (number-missing f key rows)
  where
    step : (h e : Bool) → nat_eq (f key) (f r) ≡ h → row_eq key r ≡ e → length (r ∷ rows) ≤ cond (not h) (1 + hash-place f key rows) 0
        → (length rows ≤ hash-place f key rows → length rows ≡ position_or_len (row_eq key) rows) → length (r ∷ rows) ≡ cond (not e) (1 + position_or_len (row_eq key) rows) 0
    step true e p q g rest = absurd (omega (arith, g))
    step false true p q g rest = absurd (true≢false (sym (hash-same f key r q) ∙ p))
    step false false p q g rest = let same = rest (omega (arith, g)) in omega (arith, same)

-- a key that is where its hash stands has that number
pub number-there : (f : Row → ℕ) (key : Row) (rows : List Row) → hash-place f key rows < length rows → row_eq key (get_or rows (hash-place f key rows) []) ≡ true
    → hash-place f key rows ≡ position_or_len (row_eq key) rows
number-there f key [] near is = refl
number-there f key (r ∷ rows) near is = step (nat_eq (f key) (f r)) (row_eq key r) refl refl near is (number-there f key rows)
  where
    step : (h e : Bool) → nat_eq (f key) (f r) ≡ h → row_eq key r ≡ e → cond (not h) (1 + hash-place f key rows) 0 < length (r ∷ rows)
        → row_eq key (get_or (r ∷ rows) (cond (not h) (1 + hash-place f key rows) 0) []) ≡ true
        → (hash-place f key rows < length rows → row_eq key (get_or rows (hash-place f key rows) []) ≡ true → hash-place f key rows ≡ position_or_len (row_eq key) rows)
        → cond (not h) (1 + hash-place f key rows) 0 ≡ cond (not e) (1 + position_or_len (row_eq key) rows) 0
    step true true p q g k rest = refl
    step true false p q g k rest = absurd (true≢false (sym k ∙ q))
    step false true p q g k rest = absurd (true≢false (sym (hash-same f key r q) ∙ p))
    step false false p q g k rest =
        let on : suc (hash-place f key rows) ≡ 1 + hash-place f key rows = omega arith in
        let same = rest (omega (arith, g)) (ap (λ n. row_eq key (get_or (r ∷ rows) n [])) on ∙ k) in
        ap (λ n. 1 + n) same

-- a key that is not where its hash stands is new, where the hashes are apart
pub number-clash : (f : Row → ℕ) (key : Row) (rows : List Row) → IsDistinct nat_eq (map f rows) → hash-place f key rows < length rows → row_eq key (get_or rows (hash-place f key rows) []) ≡ false
    → length rows ≡ position_or_len (row_eq key) rows
number-clash f key [] d near is = refl
number-clash f key (r ∷ rows) d near is = step (nat_eq (f key) (f r)) (row_eq key r) refl refl near is (number-clash f key rows (IsDistinct-tail nat_eq (f r) (map f rows) d))
  where
    alone : nat_eq (f key) (f r) ≡ true → length rows ≡ position_or_len (row_eq key) rows
    alone p =
        let same : f r ≡ f key = sym ((Decides-eqb (f key) (f r)).0 p) in
        let apart : AllByRecursion (λ y. nat_eq (f key) y ≡ false) (map f rows) = subst (λ h. AllByRecursion (λ y. nat_eq h y ≡ false) (map f rows)) same (IsDistinct-head nat_eq (f r) (map f rows) d) in
        let past = all-past (f key) (map f rows) apart in
        let long = length-map rows f in
        number-missing f key rows (omega (arith, past, long))

    step : (h e : Bool) → nat_eq (f key) (f r) ≡ h → row_eq key r ≡ e → cond (not h) (1 + hash-place f key rows) 0 < length (r ∷ rows)
        → row_eq key (get_or (r ∷ rows) (cond (not h) (1 + hash-place f key rows) 0) []) ≡ false
        → (hash-place f key rows < length rows → row_eq key (get_or rows (hash-place f key rows) []) ≡ false → length rows ≡ position_or_len (row_eq key) rows)
        → length (r ∷ rows) ≡ cond (not e) (1 + position_or_len (row_eq key) rows) 0
    step true true p q g k rest = absurd (true≢false (sym q ∙ k))
    step true false p q g k rest = let same = alone p in omega (arith, same)
    step false true p q g k rest = absurd (true≢false (sym (hash-same f key r q) ∙ p))
    step false false p q g k rest =
        let on : suc (hash-place f key rows) ≡ 1 + hash-place f key rows = omega arith in
        let same = rest (omega (arith, g)) (ap (λ n. row_eq key (get_or (r ∷ rows) n [])) on ∙ k) in
        omega (arith, same)

-- the same of keys and hashes that are kept: the hash h of a key among hashes hs of keys rs
module _ (f : Row → ℕ) (key : Row) (rows rs : List Row) (hs : List ℕ) (h : ℕ) (is : hs ≡ map f rs) (same : rs ≡ rows) (hash : h ≡ f key) where
  place : position_or_len (nat_eq h) hs ≡ hash-place f key rows
  place = λ i. position_or_len (nat_eq (hash i)) ((is ∙ ap (map f) same) i)

  long : length hs ≡ length rows
  long = ap length is ∙ (length-map rs f ∙ ap length same)

  pub missing-here : position (nat_eq h) hs ≡ None → length rs ≡ position_or_len (row_eq key) rows
  missing-here none =
      let past = missing-number (nat_eq h) hs none in
      ap length same ∙ number-missing f key rows (omega (arith, past, place, long))

  pub there-here : (n : ℕ) → n ≡ position_or_len (nat_eq h) hs → n < length hs → row_eq key (get_or rows n []) ≡ true → n ≡ position_or_len (row_eq key) rows
  there-here n at within found =
      let here : n ≡ hash-place f key rows = at ∙ place in
      here ∙ number-there f key rows (omega (arith, here, within, long)) (ap (λ m. row_eq key (get_or rows m [])) (sym here) ∙ found)

  pub clash-here : (n : ℕ) → n ≡ position_or_len (nat_eq h) hs → n < length hs → IsDistinct nat_eq hs → row_eq key (get_or rows n []) ≡ false → length rs ≡ position_or_len (row_eq key) rows
  clash-here n at within apart other =
      let here : n ≡ hash-place f key rows = at ∙ place in
      ap length same
      ∙ number-clash f key rows (subst (IsDistinct nat_eq) (is ∙ ap (map f) same) apart) (omega (arith, here, within, long)) (ap (λ m. row_eq key (get_or rows m [])) (sym here) ∙ other)

  pub new-here : list_any (nat_eq h) hs ≡ false → length rows ≡ position_or_len (row_eq key) rows
  new-here none =
      let past = none-past (nat_eq h) hs none in
      number-missing f key rows (omega (arith, past, place, long))

-- the place of what passes
pub any-before : {X : Type 0} (p : X → Bool) (xs : List X) → list_any p xs ≡ true → position_or_len p xs < length xs
any-before p [] h = absurd (true≢false (sym h))
any-before p (x ∷ xs) h = step (p x) h (any-before p xs)
  where
    step : (b : Bool) → (b || list_any p xs) ≡ true → (list_any p xs ≡ true → position_or_len p xs < length xs) → cond (not b) (1 + position_or_len p xs) 0 < length (x ∷ xs)
    step true g r = omega arith
    step false g r = let before = r g in omega (arith, before)

pub off : (a b : Bool) → a ≡ not b → a ≡ true → b ≡ false
off a true e h = absurd (true≢false (sym h ∙ e))
off a false e h = refl

pub on : (a b : Bool) → a ≡ not b → a ≡ false → b ≡ true
on a true e h = refl
on a false e h = absurd (true≢false (sym e ∙ h))

-- how long the row of a number is
pub key-wide : (t u : RowsView) (n : ℕ) (types : List ColType) → t ≡ u → AllByRecursion (Fits t.types) t.rows → types ≡ t.types → n < length u.rows → length (get_or u.rows n []) ≡ length types
key-wide t u n types same fit is near =
    let fits : AllByRecursion (Fits u.types) u.rows = subst (λ (v : RowsView). AllByRecursion (Fits v.types) v.rows) same fit in
    wide u.types (get_or u.rows n []) (all_here (Fits u.types) u.rows fits n [] near) ∙ ap length (sym (is ∙ ap (λ (v : RowsView). v.types) same))
