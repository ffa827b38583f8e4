-- Lists of values, each once.
use Rattle.std.proofs.Common.{◌≡◌, ◌∙◌, ℕ, zero, suc, ◌+◌, ◌<◌, Bool, true, false, cond, List, [], ◌∷◌, ◌++◌, flat_map, ap, sym, refl, arith, ◌&&◌, ◌||◌}
use Rattle.std.specs.List.{filter}
use Rattle.std.specs.Ordering.{is_eq}
use Rattle.std.proofs.lemmas.List.{append-nil}
use Rattle.std.proofs.lemmas.List.Folds.{list_any-append}
use Rattle.std.proofs.lemmas.List.Elements.{filter-append}
use Rattle.vx_rows_values.specs.Values.{Val, val_cmp}
use Rattle.vx_rows_values.specs.Equality.{val_cmp-same, is_eq-Equal}
use Rattle.vx_plan_nodes.specs.Phases.{first_columns}
use Rattle.vx_plan_facts.specs.Fixed.{has_value}
use Rattle.vx_plan_facts.specs.Facts.{with_value, with_values, each_once}
use Rattle.vx_plan_facts.proofs.ValueLists.{flat-push}

pub same-val : (u v : Val) → is_eq (val_cmp u v) ≡ true → u ≡ v
same-val u v h = val_cmp-same u v (is_eq-Equal (val_cmp u v) h)

or-none : (b : Bool) → (b || false) ≡ b
or-none true = refl
or-none false = refl

or-apart : (a b c : Bool) → ((a || b) || c) ≡ (a || (b || c))
or-apart true b c = refl
or-apart false b c = refl

-- ---- what is among them

has-more : (b : Bool) (vs : List Val) (w v : Val) → b ≡ has_value vs w → has_value (cond b vs (vs ++ w ∷ [])) v ≡ (has_value vs v || is_eq (val_cmp w v))
has-more false vs w v e = list_any-append (λ u. is_eq (val_cmp u v)) vs (w ∷ []) ∙ ap (λ b. has_value vs v || b) (or-none (is_eq (val_cmp w v)))
has-more true vs w v e = go (is_eq (val_cmp w v)) refl
  where
    or-true : (b : Bool) → b ≡ true → b ≡ (b || true)
    or-true true h = refl
    or-true false h = h

    go : (d : Bool) → d ≡ is_eq (val_cmp w v) → has_value vs v ≡ (has_value vs v || d)
    go false h = sym (or-none (has_value vs v))
    go true h = or-true (has_value vs v) (sym (e ∙ ap (has_value vs) (same-val w v (sym h))))

pub has-with : (vs : List Val) (w v : Val) → has_value (with_value vs w) v ≡ (has_value vs v || is_eq (val_cmp w v))
has-with vs w v = has-more (has_value vs w) vs w v refl

pub has-withs : (vs ws : List Val) (v : Val) → has_value (with_values vs ws) v ≡ (has_value vs v || has_value ws v)
has-withs vs [] v = sym (or-none (has_value vs v))
has-withs vs (w ∷ ws) v = has-withs (with_value vs w) ws v ∙ ap (λ b. b || has_value ws v) (has-with vs w v) ∙ or-apart (has_value vs v) (is_eq (val_cmp w v)) (has_value ws v)

pub has-once : (vs : List Val) (v : Val) → has_value (each_once vs) v ≡ has_value vs v
has-once vs v = has-withs [] vs v

-- ---- lists that add the same

pub withs-append : (acc xs ys : List Val) → with_values acc (xs ++ ys) ≡ with_values (with_values acc xs) ys
withs-append acc [] ys = refl
withs-append acc (x ∷ xs) ys = withs-append (with_value acc x) xs ys

or-right : (a b : Bool) → b ≡ true → (a || b) ≡ true
or-right true b h = refl
or-right false b h = h

withs-one : (b : Bool) (acc vs : List Val) (y : Val) → b ≡ has_value vs y → with_values acc (cond b vs (vs ++ y ∷ [])) ≡ with_value (with_values acc vs) y
withs-one false acc vs y h = withs-append acc vs (y ∷ [])
withs-one true acc vs y h =
    let is : has_value (with_values acc vs) y ≡ true = has-withs acc vs y ∙ or-right (has_value acc y) (has_value vs y) (sym h) in
    sym (ap (λ b. cond b (with_values acc vs) (with_values acc vs ++ y ∷ [])) is)

withs-withs : (acc vs ys : List Val) → with_values acc (with_values vs ys) ≡ with_values (with_values acc vs) ys
withs-withs acc vs [] = refl
withs-withs acc vs (y ∷ ys) = withs-withs acc (with_value vs y) ys ∙ ap (λ us. with_values us ys) (withs-one (has_value vs y) acc vs y refl)

-- added to any list, they give the same
abbrev pub Alike : List Val → List Val → Type 0
Alike xs ys = (acc : List Val) → with_values acc xs ≡ with_values acc ys

pub alike-once : (ys : List Val) → Alike (each_once ys) ys
alike-once ys acc = withs-withs acc [] ys

pub alike-append : (xs ys us vs : List Val) → Alike xs us → Alike ys vs → Alike (xs ++ ys) (us ++ vs)
alike-append xs ys us vs h k acc = withs-append acc xs ys ∙ ap (λ a. with_values a ys) (h acc) ∙ k (with_values acc us) ∙ sym (withs-append acc us vs)

pub alike-refl : (xs ys : List Val) → xs ≡ ys → Alike xs ys
alike-refl xs ys e acc = ap (with_values acc) e

pub alike-trans : (xs ys zs : List Val) → Alike xs ys → Alike ys zs → Alike xs zs
alike-trans xs ys zs h k acc = h acc ∙ k acc

pub alike-cond : (b d : Bool) (xs ys : List Val) → b ≡ d → (b ≡ true → Alike xs ys) → Alike (cond b xs []) (cond d ys [])
alike-cond true true xs ys e h = h refl
alike-cond true false xs ys e h = absurd cc
alike-cond false true xs ys e h = absurd cc
alike-cond false false xs ys e h = alike-refl [] [] refl

pub alike-flat : (n : ℕ) (f g : ℕ → List Val) → ((d : ℕ) → d < n → Alike (f d) (g d)) → Alike (flat_map f (first_columns n)) (flat_map g (first_columns n))
alike-flat zero f g h acc = refl
alike-flat (suc n) f g h acc =
    let e : suc n ≡ n + 1 = omega arith in
    ap (λ m. with_values acc (flat_map f (first_columns m))) e ∙ ap (with_values acc) (flat-push f n)
    ∙ alike-append (flat_map f (first_columns n)) (f n) (flat_map g (first_columns n)) (g n) (alike-flat n f g (λ d k. h d (omega (arith, k)))) (h n (omega arith)) acc
    ∙ sym (ap (λ m. with_values acc (flat_map g (first_columns m))) e ∙ ap (with_values acc) (flat-push g n))

-- ---- some of them

and-none : (b : Bool) → (b && false) ≡ false
and-none true = refl
and-none false = refl

and-all : (b : Bool) → (b && true) ≡ b
and-all true = refl
and-all false = refl

filter-step : (p : Val → Bool) (b d : Bool) (v x : Val) (vs : List Val) → b ≡ p v → d ≡ is_eq (val_cmp v x) → has_value (filter p vs) x ≡ (has_value vs x && p x)
    → has_value (cond b (v ∷ filter p vs) (filter p vs)) x ≡ ((d || has_value vs x) && p x)
filter-step p true true v x vs e h is =
    let s : p x ≡ true = sym (e ∙ ap p (same-val v x (sym h))) in
    ap (λ b. b || has_value (filter p vs) x) (sym h) ∙ sym s
filter-step p true false v x vs e h is = ap (λ b. b || has_value (filter p vs) x) (sym h) ∙ is
filter-step p false true v x vs e h is =
    let s : p x ≡ false = sym (e ∙ ap p (same-val v x (sym h))) in
    is ∙ ap (λ b. has_value vs x && b) s ∙ and-none (has_value vs x) ∙ sym s
filter-step p false false v x vs e h is = is

pub has-filter : (p : Val → Bool) (vs : List Val) (x : Val) → has_value (filter p vs) x ≡ (has_value vs x && p x)
has-filter p [] x = refl
has-filter p (v ∷ vs) x = filter-step p (p v) (is_eq (val_cmp v x)) v x vs refl refl (has-filter p vs x)

filter-cond : (p : Val → Bool) (b : Bool) (vs : List Val) (x : Val) → p x ≡ true → filter p (cond b vs (vs ++ x ∷ [])) ≡ cond b (filter p vs) (filter p vs ++ x ∷ [])
filter-cond p true vs x h = refl
filter-cond p false vs x h = filter-append p vs (x ∷ []) ∙ ap (λ b. filter p vs ++ cond b (x ∷ []) []) h

filter-not : (p : Val → Bool) (b : Bool) (vs : List Val) (x : Val) → p x ≡ false → filter p (cond b vs (vs ++ x ∷ [])) ≡ filter p vs
filter-not p true vs x h = refl
filter-not p false vs x h = filter-append p vs (x ∷ []) ∙ ap (λ b. filter p vs ++ cond b (x ∷ []) []) h ∙ append-nil (filter p vs)

filter-withs : (p : Val → Bool) (vs xs : List Val) → with_values (filter p vs) (filter p xs) ≡ filter p (with_values vs xs)
filter-withs p vs [] = refl
filter-withs p vs (x ∷ xs) = go (p x) refl (filter-withs p (with_value vs x) xs)
  where
    go : (b : Bool) → b ≡ p x → with_values (filter p (with_value vs x)) (filter p xs) ≡ filter p (with_values (with_value vs x) xs)
        → with_values (filter p vs) (cond b (x ∷ filter p xs) (filter p xs)) ≡ filter p (with_values (with_value vs x) xs)
    go true h rest =
        let has : has_value (filter p vs) x ≡ has_value vs x = has-filter p vs x ∙ ap (λ b. has_value vs x && b) (sym h) ∙ and-all (has_value vs x) in
        ap (λ us. with_values us (filter p xs)) (ap (λ b. cond b (filter p vs) (filter p vs ++ x ∷ [])) has ∙ sym (filter-cond p (has_value vs x) vs x (sym h))) ∙ rest
    go false h rest = ap (λ us. with_values us (filter p xs)) (sym (filter-not p (has_value vs x) vs x (sym h))) ∙ rest

pub filter-once : (p : Val → Bool) (xs : List Val) → each_once (filter p xs) ≡ filter p (each_once xs)
filter-once p xs = filter-withs p [] xs

pub filter-same : (p q : Val → Bool) (xs : List Val) → ((v : Val) → p v ≡ q v) → filter p xs ≡ filter q xs
filter-same p q [] h = refl
filter-same p q (x ∷ xs) h = ap (λ b. cond b (x ∷ filter p xs) (filter p xs)) (h x) ∙ ap (λ ys. cond (q x) (x ∷ ys) ys) (filter-same p q xs h)
