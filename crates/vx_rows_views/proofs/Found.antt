-- What was found among values is what is asked for among the elements that have them.
use Rattle.std.proofs.Common.{◌≡◌, ℕ, List, Bool, true, sym, ap, ◌∙◌, subst, map, arith, Option, Vec, Global}
use Rattle.std.specs.Prelude.{Result, All, IfOk, IfSome, IfNone}
use Rattle.std.proofs.lemmas.List.{length-map, get_or-map}
use Rattle.std.proofs.lemmas.List.Elements.{All-map}
use Rattle.std.proofs.lemmas.Result.{IfOk-weaker}
use Rattle.vx_rows_views.specs.Selected.{places_of}
use Rattle.vx_rows_views.proofs.Maybe.{none_map}
use Rattle.vx_rows_views.proofs.Passing.{places-map}

all-from-map : {X Y : Type 0} (P : Y → Type 0) (f : X → Y) (xs : List X) → All P (map f xs) → All (λ x. P (f x)) xs
all-from-map P f xs h = λ k d l.
    let long = length-map xs f in
    subst P (get_or-map f xs k d (f d) l) (h k (f d) (omega (arith, long, l)))

-- where nothing is listed, what holds then
pub none-moved : {A E P Q : Type 0} (r : Result (Option A) E) → (P → Q) → IfOk r (λ o. IfNone o P) → IfOk r (λ o. IfNone o Q)
none-moved {A} {E} {P} {Q} r h = IfOk-weaker r (λ o. IfNone o P) (λ o. IfNone o Q) (λ o. none_map o h)

module _ {X Y E : Type 0} (p : Y → Bool) (f : X → Y) (xs : List X) (vs : List Y) (r : Result (Option (Vec ℕ Global)) E) (is : vs ≡ map f xs) where
  pub some-found : IfOk r (λ o. IfSome o (λ v. v.items ≡ places_of p vs)) → IfOk r (λ o. IfSome o (λ v. v.items ≡ places_of (λ x. p (f x)) xs))
  some-found = subst (λ (ks : List ℕ). IfOk r (λ o. IfSome o (λ v. v.items ≡ ks))) (ap (places_of p) is ∙ sym (places-map p f xs))

  pub each-found : IfOk r (λ o. IfNone o (All (λ v. p v ≡ true) vs)) → IfOk r (λ o. IfNone o (All (λ x. p (f x) ≡ true) xs))
  each-found = none-moved r (λ h. all-from-map (λ v. p v ≡ true) f xs (subst (λ (ws : List Y). All (λ v. p v ≡ true) ws) is h))

-- the same from what is said of other elements that have the same values
module _ {X Y Z E : Type 0} (p : Y → Bool) (g : Z → Y) (f : X → Y) (zs : List Z) (xs : List X) (r : Result (Option (Vec ℕ Global)) E) (is : map g zs ≡ map f xs) where
  pub some-moved : IfOk r (λ o. IfSome o (λ v. v.items ≡ places_of (λ z. p (g z)) zs)) → IfOk r (λ o. IfSome o (λ v. v.items ≡ places_of (λ x. p (f x)) xs))
  some-moved h = some-found p f xs (map g zs) r is (subst (λ (ks : List ℕ). IfOk r (λ o. IfSome o (λ v. v.items ≡ ks))) (places-map p g zs) h)

  pub each-moved : IfOk r (λ o. IfNone o (All (λ z. p (g z) ≡ true) zs)) → IfOk r (λ o. IfNone o (All (λ x. p (f x) ≡ true) xs))
  each-moved h = each-found p f xs (map g zs) r is (none-moved r (All-map (λ v. p v ≡ true) g zs) h)
