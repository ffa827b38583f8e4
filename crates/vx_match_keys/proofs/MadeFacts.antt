-- Keys that are made of numbers or of texts, one row of each.
use Rattle.std.proofs.Common.{◌≡◌, ℕ, ℤ, pos, ◌+◌, ◌<◌, Bool, true, false, cond, not, ◌||◌, List, [], ◌∷◌, ◌++◌, map, take, length, get_or, refl, sym, ap, ◌∙◌, subst, arith, if◌then◌else◌, string_bytes}
use Rattle.std.specs.declared.alloc.Global.{Global}
use Rattle.std.specs.declared.string.String.{String}
use Rattle.std.specs.Str.{bytes_eq}
use Rattle.std.specs.String.{string_eq}
use Rattle.std.specs.Ordering.{int_eq}
use Rattle.std.specs.List.{list_any, AllByRecursion, IsDistinct, position_or_len}
use Rattle.std.proofs.lemmas.Bool.Decides.{Decides-int_eq}
use Rattle.std.proofs.lemmas.Slice.Eq.{bytes_eq-Decides}
use Rattle.std.proofs.lemmas.List.{map-append, take_more, get_or-take, get_or_default, length-take-le}
use Rattle.std.proofs.lemmas.List.Folds.{list_any_none}
use Rattle.std.proofs.lemmas.Map.Keys.{IsDistinct-cons, IsDistinct-head, IsDistinct-tail, apart_from_distinct}
use Rattle.indexmap.specs.IndexSet.{insert_key}
use Rattle.vx_rows_values.specs.Values.{Val, num, text, Row, row_eq, value_at}
use Rattle.vx_rows_values.specs.Equality.{row_eq-same}
use Rattle.vx_match_keys.specs.Columns.{number_key, text_key, owned_key}
use Rattle.vx_match_keys.proofs.KeyFacts.{row_eq-refl, eq-swap, none-distinct}

-- a test of rows that are made of values is one of the values
pub any-made : {A : Type 0} (e : A → Row) (p : Row → Bool) (q : A → Bool) → ((a : A) → p (e a) ≡ q a) → (xs : List A) → list_any p (map e xs) ≡ list_any q xs
any-made e p q same [] = refl
any-made e p q same (x ∷ xs) = λ i. same x i || any-made e p q same xs i

pub number-made : {A : Type 0} (e : A → Row) (p : Row → Bool) (q : A → Bool) → ((a : A) → p (e a) ≡ q a) → (xs : List A) → position_or_len p (map e xs) ≡ position_or_len q xs
number-made e p q same [] = refl
number-made e p q same (x ∷ xs) = λ i. cond (not (same x i)) (1 + number-made e p q same xs i) 0

-- so is an insertion
pub insert-made : {A : Type 0} (e : A → Row) (eq : A → A → Bool) → ((a b : A) → row_eq (e a) (e b) ≡ eq a b) → (xs : List A) (x : A) → map e (insert_key eq xs x) ≡ insert_key row_eq (map e xs) (e x)
insert-made e eq same xs x = by (list_any (eq x) xs) ∙ ap (λ b. if b then map e xs else map e xs ++ e x ∷ []) (sym (any-made e (row_eq (e x)) (eq x) (same x) xs))
  where
    by : (b : Bool) → map e (if b then xs else xs ++ x ∷ []) ≡ (if b then map e xs else map e xs ++ e x ∷ [])
    by true = refl
    by false = map-append e xs (x ∷ [])

apart-made : {A : Type 0} (e : A → Row) (eq : A → A → Bool) → ((a b : A) → row_eq (e a) (e b) ≡ eq a b) → (x : A) (ys : List A) → AllByRecursion (λ y. eq x y ≡ false) ys
    → AllByRecursion (λ y. row_eq (e x) y ≡ false) (map e ys)
apart-made e eq same x [] h = tt
apart-made e eq same x (y ∷ ys) h = (same x y ∙ h.0, apart-made e eq same x ys h.1)

pub distinct-made : {A : Type 0} (e : A → Row) (eq : A → A → Bool) → ((a b : A) → row_eq (e a) (e b) ≡ eq a b) → (xs : List A) → IsDistinct eq xs → IsDistinct row_eq (map e xs)
distinct-made e eq same [] d = none-distinct
distinct-made e eq same (x ∷ xs) d =
    IsDistinct-cons row_eq (e x) (map e xs) (apart-made e eq same x xs (IsDistinct-head eq x xs d)) (distinct-made e eq same xs (IsDistinct-tail eq x xs d))

-- two tests that hold of each other
alike : (a b : Bool) → (a ≡ true → b ≡ true) → (b ≡ true → a ≡ true) → a ≡ b
alike true b there back = sym (there refl)
alike false true there back = back refl
alike false false there back = refl

number_in : Row → ℤ
number_in r = of (value_at r 0)
  where
    of : Val → ℤ
    of (num z) = z
    of (text t) = pos 0

text_in : Row → List ℕ
text_in r = of (value_at r 0)
  where
    of : Val → List ℕ
    of (num z) = []
    of (text t) = t

-- rows of one number are equal where the numbers are, and so with texts
pub numbers-same : (a b : ℤ) → row_eq (number_key a) (number_key b) ≡ int_eq a b
unfolding number_in
numbers-same a b =
    alike (row_eq (number_key a) (number_key b)) (int_eq a b)
    (λ h. (Decides-int_eq a b).1 (ap number_in (row_eq-same (number_key a) (number_key b) h)))
    (λ h. subst (λ z. row_eq (number_key a) (number_key z) ≡ true) ((Decides-int_eq a b).0 h) (row_eq-refl (number_key a)))

pub texts-same : (a b : List ℕ) → row_eq (text_key a) (text_key b) ≡ bytes_eq a b
unfolding text_in
texts-same a b =
    alike (row_eq (text_key a) (text_key b)) (bytes_eq a b)
    (λ h. (bytes_eq-Decides a b).1 (ap text_in (row_eq-same (text_key a) (text_key b) h)))
    (λ h. subst (λ z. row_eq (text_key a) (text_key z) ≡ true) ((bytes_eq-Decides a b).0 h) (row_eq-refl (text_key a)))

-- keys that are apart, inserted one by one
pub key-next : (ks : List Row) (i : ℕ) → IsDistinct row_eq ks → i < length ks → insert_key row_eq (take i ks) (get_or ks i []) ≡ take (i + 1) ks
key-next ks i distinct near = ap (λ b. if b then take i ks else take i ks ++ x ∷ []) none ∙ sym (take_more ks i [] near)
  where
    x : Row
    x = get_or ks i []

    none : list_any (row_eq x) (take i ks) ≡ false
    none =
        list_any_none (row_eq x) (take i ks) (λ k d below.
        let here : k < i = omega (arith, below, length-take-le i ks (omega (arith, near))) in
        ap (row_eq x) (get_or-take i ks k d here)
        ∙ (eq-swap x (get_or ks k d) ∙ (ap (row_eq (get_or ks k d)) (get_or_default ks i [] d near) ∙ apart_from_distinct row_eq ks k i d distinct here near)))

-- the number of a key among keys that show these
pub number-of : (z : ℤ) (zs : List ℤ) (ks : List Row) → map number_key zs ≡ ks → position_or_len (int_eq z) zs ≡ position_or_len (row_eq (number_key z)) ks
number-of z zs ks is = sym (number-made number_key (row_eq (number_key z)) (int_eq z) (numbers-same z) zs) ∙ ap (position_or_len (row_eq (number_key z))) is

pub number-of-text : (t : List ℕ) (ts : List (String Global)) (ks : List Row) → map owned_key ts ≡ ks → position_or_len (λ s. bytes_eq t (string_bytes s)) ts ≡ position_or_len (row_eq (text_key t)) ks
number-of-text t ts ks is =
    sym (number-made owned_key (row_eq (text_key t)) (λ s. bytes_eq t (string_bytes s)) (λ s. texts-same t (string_bytes s)) ts) ∙ ap (position_or_len (row_eq (text_key t))) is

-- texts that are owned
pub owned-same : (a b : String Global) → row_eq (owned_key a) (owned_key b) ≡ string_eq a b
owned-same a b = texts-same (string_bytes a) (string_bytes b)

pub number-of-owned : (s : String Global) (ts : List (String Global)) (t : List ℕ) (ks : List Row) → string_bytes s ≡ t → map owned_key ts ≡ ks
    → position_or_len (string_eq s) ts ≡ position_or_len (row_eq (text_key t)) ks
number-of-owned s ts t ks same is = sym (number-made owned_key (row_eq (owned_key s)) (string_eq s) (owned-same s) ts) ∙ (λ i. position_or_len (row_eq (text_key (same i))) (is i))

pub insert-owned : (s : String Global) (ts : List (String Global)) (t : List ℕ) (ks : List Row) → string_bytes s ≡ t → map owned_key ts ≡ ks → map owned_key (insert_key string_eq ts s) ≡ insert_key row_eq ks (text_key t)
insert-owned s ts t ks same is = insert-made owned_key string_eq owned-same ts s ∙ (λ i. insert_key row_eq (is i) (text_key (same i)))
