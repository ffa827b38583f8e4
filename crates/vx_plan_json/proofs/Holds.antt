-- What holds of an answer, if there is one.
use Rattle.std.proofs.Common.{◌≡◌, List, [], ◌∷◌, ◌++◌, Bool, true, false, cond, ◌&&◌, Option, Some, None, option_map, option_and_then, Result, Ok, Err, refl, subst}
use Rattle.std.specs.List.{list_all}
pub use Rattle.vx_rows_values.proofs.Booleans.{and-left, and-right, and-both}
use Rattle.serde_json.specs.Data.{Data}
use Rattle.vx_plan_json.specs.Fault.{Refusal, ◌>>=◌}
use Rattle.vx_catalog_json.specs.Look.{each_onto, some_entry}
use Rattle.vx_rows_values.specs.Lists.{is_some_list}

-- a test holds of the value, if there is one
abbrev pub Within : {A : Type 0} → (A → Bool) → Option A → Type 0
Within p None = Unit {0}
Within p (Some x) = p x ≡ true

pub within_then : {A B : Type 0} (q : A → Bool) (p : B → Bool) (f : A → Option B) (o : Option A) → Within q o → ((x : A) → q x ≡ true → Within p (f x)) → Within p (option_and_then f o)
within_then q p f None h k = tt
within_then q p f (Some x) h k = k x h

pub within_any : {A B : Type 0} (p : B → Bool) (f : A → Option B) (o : Option A) → ((x : A) → Within p (f x)) → Within p (option_and_then f o)
within_any p f None k = tt
within_any p f (Some x) k = k x

pub within_map : {A B : Type 0} (q : A → Bool) (p : B → Bool) (f : A → B) (o : Option A) → Within q o → ((x : A) → q x ≡ true → p (f x) ≡ true) → Within p (option_map f o)
within_map q p f None h k = tt
within_map q p f (Some x) h k = k x h

pub within_weaker : {A : Type 0} (q p : A → Bool) → ((x : A) → q x ≡ true → p x ≡ true) → (o : Option A) → Within q o → Within p o
within_weaker q p k None h = tt
within_weaker q p k (Some x) h = k x h

-- any two tests that both hold
pub within_both : {A : Type 0} (q p : A → Bool) (o : Option A) → Within q o → Within p o → Within (λ x. q x && p x) o
within_both q p None h k = tt
within_both q p (Some x) h k = and-both (q x) (p x) h k

pub within_if : {A : Type 0} (p : A → Bool) (b : Bool) (o u : Option A) → Within p o → Within p u → Within p (cond b o u)
within_if p true o u h k = h
within_if p false o u h k = k

pub all_left : {A : Type 0} (p q : A → Bool) (xs : List A) → list_all (λ x. p x && q x) xs ≡ true → list_all p xs ≡ true
all_left p q [] h = refl
all_left p q (x ∷ xs) h =
    and-both (p x) (list_all p xs) (and-left (p x) (q x) (and-left (p x && q x) (list_all (λ x. p x && q x) xs) h)) (all_left p q xs (and-right (p x && q x) (list_all (λ x. p x && q x) xs) h))

pub all_right : {A : Type 0} (p q : A → Bool) (xs : List A) → list_all (λ x. p x && q x) xs ≡ true → list_all q xs ≡ true
all_right p q [] h = refl
all_right p q (x ∷ xs) h =
    and-both (q x) (list_all q xs) (and-right (p x) (q x) (and-left (p x && q x) (list_all (λ x. p x && q x) xs) h)) (all_right p q xs (and-right (p x && q x) (list_all (λ x. p x && q x) xs) h))

pub all_push : {A : Type 0} (p : A → Bool) (xs : List A) (x : A) → list_all p xs ≡ true → p x ≡ true → list_all p (xs ++ x ∷ []) ≡ true
all_push p [] x h k = and-both (p x) true k refl
all_push p (y ∷ xs) x h k = and-both (p y) (list_all p (xs ++ x ∷ [])) (and-left (p y) (list_all p xs) h) (all_push p xs x (and-right (p y) (list_all p xs) h) k)

onto_step : {A : Type 0} (q : List A → Bool) (p : A → Bool) (f : Data → Option A) (prior : List A) (ds : List Data) (o : Option A)
    → ((prior : List A) (x : A) → q prior ≡ true → p x ≡ true → q (prior ++ x ∷ []) ≡ true) → q prior ≡ true → Within p o
    → ((prior : List A) → q prior ≡ true → Within q (each_onto f prior ds)) → Within q (option_and_then (λ x. each_onto f (prior ++ x ∷ []) ds) o)
onto_step q p f prior ds None push h k next = tt
onto_step q p f prior ds (Some x) push h k next = next (prior ++ x ∷ []) (push prior x h k)

-- a test of a list that each further element keeps
pub within_onto : {A : Type 0} (q : List A → Bool) (p : A → Bool) (f : Data → Option A) → ((prior : List A) (x : A) → q prior ≡ true → p x ≡ true → q (prior ++ x ∷ []) ≡ true)
    → ((d : Data) → Within p (f d)) → (ds : List Data) (prior : List A) → q prior ≡ true → Within q (each_onto f prior ds)
unfolding each_onto
within_onto q p f push k [] prior h = h
within_onto q p f push k (d ∷ ds) prior h = onto_step q p f prior ds (f d) push h (k d) (within_onto q p f push k ds)

pub within_each : {A : Type 0} (p : A → Bool) (f : Data → Option A) → ((d : Data) → Within p (f d)) → (ds : List Data) → Within (list_all p) (each_onto f [] ds)
within_each p f k ds = within_onto (list_all p) p f (all_push p) k ds [] refl

some_push : {A : Type 0} (p : A → Bool) (xs : List A) (x : A) → (is_some_list xs && list_all p xs) ≡ true → p x ≡ true → (is_some_list (xs ++ x ∷ []) && list_all p (xs ++ x ∷ [])) ≡ true
some_push p [] x h k = and-both (p x) true k refl
some_push p (y ∷ xs) x h k = all_push p (y ∷ xs) x h k

pub within_some : {A : Type 0} (p : A → Bool) (f : Data → Option A) → ((d : Data) → Within p (f d)) → (ds : List Data)
    → Within (λ xs. is_some_list xs && list_all p xs) (option_and_then (each_onto f []) (some_entry ds))
unfolding each_onto
within_some p f k [] = tt
within_some p f k (d ∷ ds) =
    within_then p (λ xs. is_some_list xs && list_all p xs) (λ x. each_onto f (x ∷ []) ds) (f d) (k d)
    (λ x h. within_onto (λ xs. is_some_list xs && list_all p xs) p f (some_push p) k ds (x ∷ []) (and-both (p x) true h refl))

-- a fact holds of the answer, if there is one
abbrev pub Holds : {A : Type 0} → (A → Type 0) → Result A Refusal → Type 0
Holds P (Ok x) = P x
Holds P (Err e) = Unit {0}

pub holds_then : {A B : Type 0} (Q : A → Type 0) (P : B → Type 0) (f : A → Result B Refusal) (r : Result A Refusal) → Holds Q r → ((x : A) → Q x → Holds P (f x)) → Holds P (r >>= f)
holds_then Q P f (Ok x) h k = k x h
holds_then Q P f (Err e) h k = tt

pub holds_at : {A : Type 0} (P : A → Type 0) (r : Result A Refusal) (x : A) → Holds P r → r ≡ Ok x → P x
holds_at P (Ok y) x h e = let same : y ≡ x = cc in subst P same h
holds_at P (Err r) x h e = cc
