-- Lists of columns with their values, one column or one value further.
use Rattle.std.proofs.Common.{◌≡◌, ◌∙◌, ℕ, zero, suc, ◌+◌, ◌<◌, ◌==◌, Bool, true, false, cond, nat_lt, List, [], ◌∷◌, ◌++◌, map, flat_map, length, get_or, ap, sym, refl, arith, add-one, append_assoc, ◌&&◌, ◌||◌}
use Rattle.std.specs.List.{filter, list_any}
use Rattle.std.specs.Ordering.{is_eq}
use Rattle.std.proofs.lemmas.Bool.Decides.{nat_tests}
use Rattle.std.proofs.lemmas.Grind.{flat_map-append}
use Rattle.std.proofs.lemmas.List.{append-nil, map-append}
use Rattle.std.proofs.lemmas.List.Elements.{filter-append}
use Rattle.vx_rows_values.specs.Values.{Val, val_cmp}
use Rattle.vx_plan_nodes.specs.Phases.{first_columns, columns_from}
use Rattle.vx_plan_facts.specs.Fixed.{Values, has_value}
use Rattle.vx_plan_facts.specs.Facts.{values_in, with_value, with_values}
use Rattle.vx_plan_facts.specs.Listing.{beside, listed, with_fixed, with_all, of_firsts}

-- ---- the first columns

columns-push : (i n : ℕ) → columns_from i (suc n) ≡ columns_from i n ++ (i + n) ∷ []
columns-push i zero = let z : i + 0 ≡ i = omega arith in ap (λ x. x ∷ []) (sym z)
columns-push i (suc n) = let e : suc i + n ≡ i + suc n = omega arith in ap (λ xs. i ∷ xs) (columns-push (suc i) n ∙ ap (λ x. columns_from (suc i) n ++ x ∷ []) e)

pub first-suc : (n : ℕ) → first_columns (suc n) ≡ first_columns n ++ n ∷ []
first-suc n = let z : 0 + n ≡ n = omega arith in columns-push 0 n ∙ ap (λ x. first_columns n ++ x ∷ []) z

pub first-push : (n : ℕ) → first_columns (n + 1) ≡ first_columns n ++ n ∷ []
first-push n = rw add-one (first-suc n)

from-at : (s n i : ℕ) → i < n → get_or (columns_from s n) i 0 ≡ s + i
from-at s zero i h = absurd (omega (arith, h))
from-at s (suc n) zero h = omega arith
from-at s (suc n) (suc i) h = let e = from-at (suc s) n i (omega (arith, h)) in omega (arith, e)

pub first-at : (n i : ℕ) → i < n → get_or (first_columns n) i 0 ≡ i
first-at n i h = let e = from-at 0 n i h in omega (arith, e)

from-length : (s n : ℕ) → length (columns_from s n) ≡ n
from-length s zero = refl
from-length s (suc n) = let e = from-length (suc s) n in omega (arith, e)

pub first-length : (n : ℕ) → length (first_columns n) ≡ n
first-length n = from-length 0 n

-- one column more of a list made column by column
pub flat-push : {Y : Type 0} (f : ℕ → List Y) (n : ℕ) → flat_map f (first_columns (n + 1)) ≡ flat_map f (first_columns n) ++ f n
flat-push f n = ap (flat_map f) (first-push n) ∙ flat_map-append f (first_columns n) (n ∷ []) ∙ ap (λ ys. flat_map f (first_columns n) ++ ys) (append-nil (f n))

pub flat-more : {Y : Type 0} (f : ℕ → List Y) (n : ℕ) (old new : List Y) → old ≡ flat_map f (first_columns n) → new ≡ old ++ f n → new ≡ flat_map f (first_columns (n + 1))
flat-more f n old new is more = more ∙ ap (λ ys. ys ++ f n) is ∙ sym (flat-push f n)

-- ---- the values beside a column

map-cond : {X Y : Type 0} (f : X → Y) (b : Bool) (xs ys : List X) → map f (cond b xs ys) ≡ cond b (map f xs) (map f ys)
map-cond f true xs ys = refl
map-cond f false xs ys = refl

pub values-cons : (k : ℕ) (v : Val) (es : List (ℕ × Val)) (c : ℕ) → values_in ((k, v) ∷ es) c ≡ cond (k == c) (v ∷ values_in es c) (values_in es c)
values-cons k v es c = map-cond (λ e. e.1) (k == c) ((k, v) ∷ filter (λ e. e.0 == c) es) (filter (λ e. e.0 == c) es)

pub values-append : (es fs : List (ℕ × Val)) (c : ℕ) → values_in (es ++ fs) c ≡ values_in es c ++ values_in fs c
values-append es fs c = ap (map (λ e. e.1)) (filter-append (λ e. e.0 == c) es fs) ∙ map-append (λ e. e.1) (filter (λ e. e.0 == c) es) (filter (λ e. e.0 == c) fs)

beside-same : (b : Bool) (v : Val) (vs ws : List Val) → ws ≡ cond b vs [] → cond b (v ∷ ws) ws ≡ cond b (v ∷ vs) []
beside-same true v vs ws e = ap (λ us. v ∷ us) e
beside-same false v vs ws e = e

pub cond-same : {A : Type 0} (b : Bool) (x : A) → x ≡ cond b x x
cond-same true x = refl
cond-same false x = refl

pub values-beside : (k : ℕ) (vs : List Val) (c : ℕ) → values_in (beside k vs) c ≡ cond (k == c) vs []
values-beside k [] c = cond-same (k == c) []
values-beside k (v ∷ vs) c = values-cons k v (beside k vs) c ∙ beside-same (k == c) v vs (values_in (beside k vs) c) (values-beside k vs c)

-- those of a column in a list made column by column
listed-step : (n c : ℕ) (f : Values) → cond (nat_lt c n) (f c) [] ++ cond (n == c) (f n) [] ≡ cond (nat_lt c (n + 1)) (f c) []
listed-step n c f = go (nat_lt c n) (n == c) (nat_lt c (n + 1)) refl refl refl
  where
    go : (a b d : Bool) → a ≡ nat_lt c n → b ≡ (n == c) → d ≡ nat_lt c (n + 1) → cond a (f c) [] ++ cond b (f n) [] ≡ cond d (f c) []
    go true true d p q r = absurd (grind (arith, nat_tests))
    go true false true p q r = append-nil (f c)
    go true false false p q r = absurd (grind (arith, nat_tests))
    go false true true p q r = let e : n ≡ c = grind (arith, nat_tests) in ap f e
    go false true false p q r = absurd (grind (arith, nat_tests))
    go false false true p q r = absurd (grind (arith, nat_tests))
    go false false false p q r = refl

pub values-listed : (n c : ℕ) (f : Values) → values_in (listed n f) c ≡ cond (nat_lt c n) (f c) []
values-listed zero c f = let z : nat_lt c 0 ≡ false = grind (arith, nat_tests) in rw z refl
values-listed (suc n) c f =
    let e : suc n ≡ n + 1 = omega arith in
    ap (λ m. values_in (listed m f) c) e ∙ ap (λ es. values_in es c) (flat-push (λ d. beside d (f d)) n) ∙ values-append (listed n f) (beside n (f n)) c
    ∙ ap (λ vs. vs ++ values_in (beside n (f n)) c) (values-listed n c f) ∙ ap (λ vs. cond (nat_lt c n) (f c) [] ++ vs) (values-beside n (f n) c)
    ∙ listed-step n c f ∙ ap (λ m. cond (nat_lt c m) (f c) []) (sym e)

pub values-at : (n c : ℕ) (f : Values) → c < n → values_in (listed n f) c ≡ f c
values-at n c f h = let t : nat_lt c n ≡ true = grind (arith, nat_tests) in values-listed n c f ∙ ap (λ b. cond b (f c) []) t

-- ---- values that are added where they are not there

with-cond : (b : Bool) (k c : ℕ) (v : Val) (es : List (ℕ × Val)) → b ≡ has_value (values_in es k) v
    → values_in (cond b es (es ++ (k, v) ∷ [])) c ≡ cond (k == c) (with_value (values_in es c) v) (values_in es c)
with-cond b k c v es e = go (k == c) refl b e
  where
    go : (d : Bool) → d ≡ (k == c) → (b : Bool) → b ≡ has_value (values_in es k) v → values_in (cond b es (es ++ (k, v) ∷ [])) c ≡ cond d (with_value (values_in es c) v) (values_in es c)
    go true p true h = let e : k ≡ c = grind (arith, nat_tests) in rw (sym (h ∙ ap (λ x. has_value (values_in es x) v) e)) refl
    go true p false h =
        let e : k ≡ c = grind (arith, nat_tests) in
        values-append es ((k, v) ∷ []) c ∙ ap (λ vs. values_in es c ++ vs) (values-cons k v [] c ∙ ap (λ b. cond b (v ∷ []) []) (sym p))
        ∙ ap (λ b. cond b (values_in es c) (values_in es c ++ v ∷ [])) (h ∙ ap (λ x. has_value (values_in es x) v) e)
    go false p true h = refl
    go false p false h =
        values-append es ((k, v) ∷ []) c ∙ ap (λ vs. values_in es c ++ vs) (values-cons k v [] c ∙ ap (λ b. cond b (v ∷ []) []) (sym p)) ∙ append-nil (values_in es c)

pub values-with : (es : List (ℕ × Val)) (k : ℕ) (v : Val) (c : ℕ) → values_in (with_fixed es k v) c ≡ cond (k == c) (with_value (values_in es c) v) (values_in es c)
values-with es k v c = with-cond (has_value (values_in es k) v) k c v es refl

all-step : (b : Bool) (vs ws : List Val) (v : Val) (us : List Val) → us ≡ cond b (with_value vs v) vs → cond b (with_values us ws) us ≡ cond b (with_values (with_value vs v) ws) vs
all-step true vs ws v us e = ap (λ xs. with_values xs ws) e
all-step false vs ws v us e = e

pub values-all : (es : List (ℕ × Val)) (k : ℕ) (vs : List Val) (c : ℕ) → values_in (with_all es k vs) c ≡ cond (k == c) (with_values (values_in es c) vs) (values_in es c)
values-all es k [] c = cond-same (k == c) (values_in es c)
values-all es k (v ∷ vs) c = values-all (with_fixed es k v) k vs c ∙ all-step (k == c) (values_in es c) vs v (values_in (with_fixed es k v) c) (values-with es k v c)

-- a value is in the list just if it stands there beside the column
any-step : (p : ℕ × Val → Bool) (b : Bool) (w v : Val) (es : List (ℕ × Val)) (c : ℕ) → has_value (cond b (w ∷ values_in es c) (values_in es c)) v ≡ ((b && is_eq (val_cmp w v)) || has_value (values_in es c) v)
any-step p true w v es c = refl
any-step p false w v es c = refl

pub has-any : (es : List (ℕ × Val)) (c : ℕ) (v : Val) → has_value (values_in es c) v ≡ list_any (λ e. (e.0 == c) && is_eq (val_cmp e.1 v)) es
has-any [] c v = refl
has-any ((k, w) ∷ es) c v =
    ap (λ vs. has_value vs v) (values-cons k w es c) ∙ any-step (λ e. true) (k == c) w v es c ∙ ap (λ b. ((k == c) && is_eq (val_cmp w v)) || b) (has-any es c v)

-- ---- lists made column by column

pub map-more : {Y : Type 0} (f : ℕ → Y) (n : ℕ) (old new : List Y) → old ≡ map f (first_columns n) → new ≡ old ++ f n ∷ [] → new ≡ map f (first_columns (n + 1))
map-more f n old new is more = more ∙ ap (λ ys. ys ++ f n ∷ []) is ∙ sym (ap (map f) (first-push n) ∙ map-append f (first_columns n) (n ∷ []))

pub of-first : (firsts : List ℕ) (f : Values) (n : ℕ) (old new : List (ℕ × Val)) (b : Bool) → old ≡ listed n (of_firsts firsts f) → b ≡ (get_or firsts n 0 == n) → b ≡ true → new ≡ old ++ beside n (f n)
    → new ≡ listed (n + 1) (of_firsts firsts f)
of-first firsts f n old new b is test has more =
    flat-more (λ c. beside c (of_firsts firsts f c)) n old new is (more ∙ ap (λ b. old ++ beside n (cond b (f n) [])) (sym has ∙ test))

pub of-other : (firsts : List ℕ) (f : Values) (n : ℕ) (old : List (ℕ × Val)) (b : Bool) → old ≡ listed n (of_firsts firsts f) → b ≡ (get_or firsts n 0 == n) → b ≡ false
    → old ≡ listed (n + 1) (of_firsts firsts f)
of-other firsts f n old b is test lacks =
    flat-more (λ c. beside c (of_firsts firsts f c)) n old old is (sym (append-nil old) ∙ ap (λ b. old ++ beside n (cond b (f n) [])) (sym lacks ∙ test))

-- the columns that pass a test
filter-push : (test : ℕ → Bool) (n : ℕ) → filter test (first_columns (n + 1)) ≡ filter test (first_columns n) ++ cond (test n) (n ∷ []) []
filter-push test n = ap (filter test) (first-push n) ∙ filter-append test (first_columns n) (n ∷ [])

pub kept-here : (test : ℕ → Bool) (n : ℕ) (found : List ℕ) (b : Bool) → found ≡ filter test (first_columns n) → b ≡ test n → b ≡ true → found ++ n ∷ [] ≡ filter test (first_columns (n + 1))
kept-here test n found b is e h = ap (λ xs. xs ++ n ∷ []) is ∙ ap (λ b. filter test (first_columns n) ++ cond b (n ∷ []) []) (sym h ∙ e) ∙ sym (filter-push test n)

pub left-here : (test : ℕ → Bool) (n : ℕ) (found : List ℕ) (b : Bool) → found ≡ filter test (first_columns n) → b ≡ test n → b ≡ false → found ≡ filter test (first_columns (n + 1))
left-here test n found b is e h = is ∙ sym (append-nil (filter test (first_columns n))) ∙ ap (λ b. filter test (first_columns n) ++ cond b (n ∷ []) []) (sym h ∙ e) ∙ sym (filter-push test n)

-- behind what was there
pub behind-more : {Y : Type 0} (f : ℕ → List Y) (n : ℕ) (front old new : List Y) → old ≡ front ++ flat_map f (first_columns n) → new ≡ old ++ f n → new ≡ front ++ flat_map f (first_columns (n + 1))
behind-more f n front old new is more =
    more ∙ ap (λ ys. ys ++ f n) is ∙ append_assoc front (flat_map f (first_columns n)) (f n) ∙ ap (λ ys. front ++ ys) (sym (flat-push f n))
