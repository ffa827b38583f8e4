-- A walk that looks up each element, as a fact of the two lists.
use Rattle.std.proofs.Common.{◌≡◌, List, [], ◌∷◌, ◌++◌, Bool, true, Result, Ok, Err, refl, sym, ap, ◌∙◌, subst, map, append_assoc, append-nil}
use Rattle.std.specs.List.{list_all}
use Rattle.vx_rows_values.proofs.Booleans.{and-left, and-right, and-both}
use Rattle.vx_plan_json.specs.Fault.{Refusal, ◌>>=◌}
use Rattle.vx_plan.specs.Lookup.{walk_onto}

-- two steps that end well
pub ok_then : {A B : Type 0} (f : A → Result B Refusal) (r : Result A Refusal) (y : B) → (r >>= f) ≡ Ok y → (x : A) × (r ≡ Ok x) × (f x ≡ Ok y)
ok_then f (Ok x) y h = (x, refl, h)
ok_then f (Err e) y h = cc

-- the last step always ends well
pub ok_last : {A B : Type 0} (g : A → B) (r : Result A Refusal) (y : B) → (r >>= λ x. Ok (g x)) ≡ Ok y → (x : A) × (r ≡ Ok x) × (g x ≡ y)
ok_last g (Ok x) y h = let e : g x ≡ y = cc in (x, refl, e)
ok_last g (Err e) y h = cc

-- what each element gives stands in the other list
abbrev pub Each : {A B : Type 0} → (A → Result B Refusal) → List A → List B → Type 0
Each f [] [] = Unit {0}
Each f [] (y ∷ ys) = ⊥
Each f (x ∷ xs) [] = ⊥
Each f (x ∷ xs) (y ∷ ys) = (f x ≡ Ok y) × Each f xs ys

each-onto : {A B : Type 0} (f : A → Result B Refusal) (xs : List A) (done : List B) (out : List B) → walk_onto f done xs ≡ Ok out → (ys : List B) × (out ≡ done ++ ys) × Each f xs ys
unfolding walk_onto
each-onto f [] done out h = let e : done ≡ out = cc in ([], sym e ∙ sym (append-nil done), tt)
each-onto f (x ∷ xs) done out h =
    let t = ok_then (λ (y : _). walk_onto f (done ++ y ∷ []) xs) (f x) out h in
    let r = each-onto f xs (done ++ t.0 ∷ []) out t.2 in
    (t.0 ∷ r.0, r.1 ∙ append_assoc done (t.0 ∷ []) r.0, (t.1, r.2))

pub each-walked : {A B : Type 0} (f : A → Result B Refusal) (xs : List A) (out : List B) → walk_onto f [] xs ≡ Ok out → Each f xs out
each-walked f xs out h =
    let r = each-onto f xs [] out h in
    let P : List _ → Type 0 = λ ys. Each f xs ys in
    subst P (sym r.1) r.2

pub walk-each : {A B : Type 0} (f : A → Result B Refusal) (xs : List A) (done ys : List B) → Each f xs ys → walk_onto f done xs ≡ Ok (done ++ ys)
unfolding walk_onto
walk-each f [] done [] h = ap (λ (l : List _). Ok l) (sym (append-nil done))
walk-each f [] done (y ∷ ys) h = absurd h
walk-each f (x ∷ xs) done [] h = absurd h
walk-each f (x ∷ xs) done (y ∷ ys) h =
    ap (λ (r : Result _ Refusal). r >>= λ (z : _). walk_onto f (done ++ z ∷ []) xs) h.0
    ∙ (walk-each f xs (done ++ y ∷ []) ys h.1 ∙ ap (λ (l : List _). Ok l) (append_assoc done (y ∷ []) ys))

-- each of a list that passes a test is found again
pub each-again : {A B : Type 0} (f : A → Result B Refusal) (look : B → A) (p : B → Bool) → ((y : B) → p y ≡ true → f (look y) ≡ Ok y) → (ys : List B) → list_all p ys ≡ true → Each f (map look ys) ys
each-again f look p again [] h = tt
each-again f look p again (y ∷ ys) h = (again y (and-left (p y) (list_all p ys) h), each-again f look p again ys (and-right (p y) (list_all p ys) h))

-- each of a list that was found passes a test that every answer passes
pub each-pass : {A B : Type 0} (f : A → Result B Refusal) (p : B → Bool) → ((x : A) (y : B) → f x ≡ Ok y → p y ≡ true) → (xs : List A) (ys : List B) → Each f xs ys → list_all p ys ≡ true
each-pass f p passes [] [] h = refl
each-pass f p passes [] (y ∷ ys) h = absurd h
each-pass f p passes (x ∷ xs) [] h = absurd h
each-pass f p passes (x ∷ xs) (y ∷ ys) h = and-both (p y) (list_all p ys) (passes x y h.0) (each-pass f p passes xs ys h.1)

-- each of a list that was found looks as it was asked for
pub each-said : {A B : Type 0} (f : A → Result B Refusal) (look : B → A) → ((x : A) (y : B) → f x ≡ Ok y → look y ≡ x) → (xs : List A) (ys : List B) → Each f xs ys → map look ys ≡ xs
each-said f look says [] [] h = refl
each-said f look says [] (y ∷ ys) h = absurd h
each-said f look says (x ∷ xs) [] h = absurd h
each-said f look says (x ∷ xs) (y ∷ ys) h =
    let a : look y ≡ x = says x y h.0 in
    let b : map look ys ≡ xs = each-said f look says xs ys h.1 in
    cc
