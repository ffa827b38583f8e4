-- Lists by their elements' numbers.
use Rattle.std.proofs.Common.{◌≡◌, ℕ, zero, suc, ◌+◌, ◌-◌, ◌<◌, ◌≤◌, List, [], ◌∷◌, ◌++◌, refl, sym, ap, ◌∙◌, length, get_or, take, drop, arith, inl, inr, append_assoc}
use Rattle.std.specs.Prelude.{slice_range, All, map}
use Rattle.std.specs.List.{AllByRecursion}
use Rattle.std.proofs.lemmas.List.{length_push, get_or_append_left, get_or_push, same_lists, length-take, length-drop, get_or-take, get_or-drop, append-nil, map-append, get_or_default}
use Rattle.std.proofs.lemmas.Bool.{cases_lt}
use Rattle.vx_rows.specs.Lists.{each_below}

pub length-each_below : {A : Type 0} (n : ℕ) (f : ℕ → A) → length (each_below n f) ≡ n
unfolding each_below
length-each_below zero f = refl
length-each_below (suc n) f = let e = length_push (each_below n f) (f n) in let r = length-each_below n f in omega (arith, e, r)

pub get_or-each_below : {A : Type 0} (n : ℕ) (f : ℕ → A) (k : ℕ) (d : A) → k < n → get_or (each_below n f) k d ≡ f k
unfolding each_below
get_or-each_below zero f k d h = absurd (omega arith)
get_or-each_below (suc n) f k d h =
    elim (cases_lt k n) [
      | inl l ↦ get_or_append_left (each_below n f) (f n ∷ []) d k (let e = length-each_below n f in omega (arith, e)) ∙ get_or-each_below n f k d l
      | inr g ↦ let e : k ≡ n = omega arith in get_or_push (each_below n f) (f n) d k (length-each_below n f ∙ sym e) ∙ ap f (sym e)
    ]

pub each_below-ext : {A : Type 0} (n : ℕ) (f g : ℕ → A) → ((k : ℕ) → k < n → f k ≡ g k) → each_below n f ≡ each_below n g
unfolding each_below
each_below-ext zero f g h = refl
each_below-ext (suc n) f g h = ap (λ xs. xs ++ f n ∷ []) (each_below-ext n f g (λ k l. h k (omega arith))) ∙ ap (λ x. each_below n g ++ x ∷ []) (h n (omega arith))

pub each_below-add : {A : Type 0} (n m : ℕ) (f : ℕ → A) → each_below (n + m) f ≡ each_below n f ++ each_below m (λ k. f (n + k))
unfolding each_below
each_below-add n zero f = let e : n + zero ≡ n = omega arith in ap (λ i. each_below i f) e ∙ sym (append-nil (each_below n f))
each_below-add n (suc m) f =
    let e : n + suc m ≡ suc (n + m) = omega arith in
    ap (λ i. each_below i f) e ∙ (ap (λ xs. xs ++ f (n + m) ∷ []) (each_below-add n m f) ∙ append_assoc (each_below n f) (each_below m (λ k. f (n + k))) (f (n + m) ∷ []))

pub each_below-one : {A : Type 0} (f : ℕ → A) → each_below 1 f ≡ f 0 ∷ []
unfolding each_below
each_below-one f = refl

-- n elements, and then those of g
pub each_below-more : {A : Type 0} (n m : ℕ) (f g h : ℕ → A) → ((k : ℕ) → k < n → f k ≡ g k) → ((k : ℕ) → k < m → f (n + k) ≡ h k) → each_below (n + m) f ≡ each_below n g ++ each_below m h
each_below-more n m f g h p q =
    each_below-add n m f ∙ (ap (λ xs. xs ++ each_below m (λ k. f (n + k))) (each_below-ext n f g p) ∙ ap (λ xs. each_below n g ++ xs) (each_below-ext m (λ k. f (n + k)) h q))

pub each_below-push : {A : Type 0} (n : ℕ) (f g : ℕ → A) (x : A) → ((k : ℕ) → k < n → f k ≡ g k) → f n ≡ x → each_below (n + 1) f ≡ each_below n g ++ x ∷ []
each_below-push n f g x p q =
    each_below-more n 1 f g (λ k. x) p (λ k h. let e : n + k ≡ n = omega arith in ap f e ∙ q) ∙ ap (λ xs. each_below n g ++ xs) (each_below-one (λ k. x))

pub slice_range-each_below : {A : Type 0} (n a b : ℕ) (f : ℕ → A) → a ≤ b → b ≤ n → slice_range (each_below n f) a b ≡ each_below (b - a) (λ k. f (a + k))
slice_range-each_below n a b f h l =
    let xs = each_below n f in
    let e : length xs ≡ n = length-each_below n f in
    let s : length (take (b - a) (drop a xs)) ≡ b - a = omega (arith, length-take (b - a) (drop a xs), length-drop a xs) in
    let t : length (each_below (b - a) (λ k. f (a + k))) ≡ b - a = length-each_below (b - a) (λ k. f (a + k)) in
    same_lists _ _ (s ∙ sym t) (λ k d near.
    get_or-take (b - a) (drop a xs) k d (omega arith)
    ∙ (get_or-drop a xs k d ∙ (get_or-each_below n f (a + k) d (omega arith) ∙ sym (get_or-each_below (b - a) (λ j. f (a + j)) k d (omega arith)))))

pub take-each_below : {A : Type 0} (n m : ℕ) (f : ℕ → A) → m ≤ n → take m (each_below n f) ≡ each_below m f
take-each_below n m f h =
    let e : length (take m (each_below n f)) ≡ m = omega (arith, length-take m (each_below n f), length-each_below n f) in
    same_lists _ _ (e ∙ sym (length-each_below m f)) (λ k d near.
    get_or-take m (each_below n f) k d (omega arith) ∙ (get_or-each_below n f k d (omega arith) ∙ sym (get_or-each_below m f k d (omega arith))))

pub each_below-next : {A : Type 0} (n : ℕ) (f : ℕ → A) → each_below (n + 1) f ≡ each_below n f ++ f n ∷ []
each_below-next n f = each_below-push n f f (f n) (λ k h. refl) refl

pub each_below-none : {A : Type 0} (f : ℕ → A) → each_below 0 f ≡ []
unfolding each_below
each_below-none f = refl

pub all_push : {A : Type 0} (P : A → Type 0) (xs : List A) (x : A) → AllByRecursion P xs → P x → AllByRecursion P (xs ++ x ∷ [])
all_push P [] x h p = (p, tt)
all_push P (y ∷ xs) x h p = (h.0, all_push P xs x h.1 p)

-- what holds of each element holds of all
pub each_below-all : {A : Type 0} (P : A → Type 0) (n : ℕ) (f : ℕ → A) → ((k : ℕ) → k < n → P (f k)) → AllByRecursion P (each_below n f)
unfolding each_below
each_below-all P zero f h = tt
each_below-all P (suc n) f h = all_push P (each_below n f) (f n) (each_below-all P n f (λ k l. h k (omega arith))) (h n (omega arith))

pub all_at : {A : Type 0} (P : A → Type 0) (xs : List A) → AllByRecursion P xs → All P xs
all_at P [] h k d l = absurd (omega arith)
all_at P (x ∷ xs) h zero d l = h.0
all_at P (x ∷ xs) h (suc k) d l = all_at P xs h.1 k d (omega arith)

pub all_here : {A : Type 0} (P : A → Type 0) (xs : List A) → AllByRecursion P xs → (k : ℕ) (d : A) → k < length xs → P (get_or xs k d)
all_here P xs h k d l = all_at P xs h k d l

pub map-each_below : {A B : Type 0} (g : A → B) (n : ℕ) (f : ℕ → A) → map g (each_below n f) ≡ each_below n (λ k. g (f k))
unfolding each_below
map-each_below g zero f = refl
map-each_below g (suc n) f = map-append g (each_below n f) (f n ∷ []) ∙ ap (λ l. l ++ g (f n) ∷ []) (map-each_below g n f)

-- a list is its elements
pub each_below-is : {A : Type 0} (xs : List A) (d : A) → each_below (length xs) (λ k. get_or xs k d) ≡ xs
each_below-is xs d =
    let l = length-each_below (length xs) (λ k. get_or xs k d) in
    same_lists _ _ l (λ k e near. get_or-each_below (length xs) (λ j. get_or xs j d) k e (omega (arith, l)) ∙ get_or_default xs k d e (omega (arith, l)))
