-- The columns that fixed and equal columns and keys add to a set, found at once.
use Rattle.std.proofs.Common.{◌≡◌, ℕ, ◌<◌, ◌≤◌, ◌==◌, nat_lt, Bool, true, false, ◌&&◌, ◌||◌, ⊎_elim, List, [], ◌∷◌, map, length, get_or, refl, sym, ap, ◌∙◌, subst, arith, true≢false, eqb-true, cond, ◌++◌}
use Rattle.std.specs.List.{list_any, list_all}
use Rattle.std.proofs.lemmas.Bool.Decides.{nat_tests}
use Rattle.vx_rows_values.specs.Limits.{max_columns}
use Rattle.vx_rows_values.specs.Values.{Val}
use Rattle.vx_rows_values.specs.Lists.{is_some_list}
use Rattle.vx_rows_values.proofs.Booleans.{and-left, and-right, and-both}
use Rattle.vx_plan_nodes.specs.Phases.{first_columns}
use Rattle.vx_plan_facts.specs.Equal.{Equality}
use Rattle.vx_plan_facts.specs.Fixed.{Values, has_value}
use Rattle.vx_plan_facts.specs.Facts.{Facts, Keeps, with_value, with_values, each_once, values_in, values_of}
use Rattle.vx_plan_facts.specs.Determined.{Columns, by_rows}
use Rattle.vx_plan_facts.specs.DeterminedFacts.{WithinFirst}
use Rattle.vx_plan_facts.specs.Closing.{has_equal, is_reached, IsClosed}
use Rattle.vx_plan_facts.proofs.Tests.{or-cases, or-left, or-right, any-first, any-more, all-more}
use Rattle.vx_plan_facts.proofs.ColumnSets.{any-at}

-- ---- values, each once

cond-some : (vs : List Val) (v : Val) → is_some_list vs ≡ true → is_some_list (with_value vs v) ≡ true
cond-some [] v e = absurd (true≢false (sym e))
cond-some (u ∷ us) v e = go (has_value (u ∷ us) v)
  where
    go : (b : Bool) → is_some_list (cond b (u ∷ us) ((u ∷ us) ++ v ∷ [])) ≡ true
    go true = refl
    go false = refl

some-withs : (vs ws : List Val) → is_some_list vs ≡ true → is_some_list (with_values vs ws) ≡ true
some-withs vs [] e = e
some-withs vs (w ∷ ws) e = some-withs (with_value vs w) ws (cond-some vs w e)

some-once : (vs : List Val) → is_some_list (each_once vs) ≡ is_some_list vs
some-once [] = refl
some-once (v ∷ vs) = some-withs (v ∷ []) vs refl

-- ---- the sets

pub any-map : {X Y : Type 0} (p : Y → Bool) (f : X → Y) (xs : List X) → list_any p (map f xs) ≡ list_any (λ x. p (f x)) xs
any-map p f [] = refl
any-map p f (x ∷ xs) = ap (λ b. p (f x) || b) (any-map p f xs)

pub below : (c w : ℕ) → nat_lt c w ≡ true → c < w
below c w e = grind (arith, nat_tests)

pub is-below : (c w : ℕ) → c < w → nat_lt c w ≡ true
is-below c w l = grind (arith, nat_tests)

same : (a b : ℕ) → (a == b) ≡ true → a ≡ b
same a b e = eqb-true a b e

equal-self : (a : ℕ) → (a == a) ≡ true
equal-self a = grind (arith, nat_tests)

module _ (k : Facts) (e : Equality) (f : Values) (keep : Keeps (length k.firsts) e f k) (small : length k.firsts ≤ max_columns) (s found : Columns)
    (within : (c : ℕ) → found c ≡ true → c < max_columns)
    (is : (c : ℕ) → c < max_columns → found c ≡ (nat_lt c (length k.firsts) && is_reached k s c)) where
  w : ℕ
  w = length k.firsts

  first : ℕ → ℕ
  first c = get_or k.firsts c 0

  narrow : (c : ℕ) → found c ≡ true → c < length k.firsts
  narrow c h = below c (length k.firsts) (and-left (nat_lt c (length k.firsts)) (is_reached k s c) (sym (is c (within c h)) ∙ h))

  out : (c : ℕ) → found c ≡ true → is_reached k s c ≡ true
  out c h = and-right (nat_lt c (length k.firsts)) (is_reached k s c) (sym (is c (within c h)) ∙ h)

  put : (c : ℕ) → c < length k.firsts → is_reached k s c ≡ true → found c ≡ true
  put c l h = is c (omega (arith, l, small)) ∙ and-both (nat_lt c (length k.firsts)) (is_reached k s c) (is-below c (length k.firsts) l) h

  holds : WithinFirst (length k.firsts) s found
  holds c l h =
      put c l (or-right (is_some_list (values_of k c)) (has_equal k s c)
      (any-at (λ d. s d && (get_or k.firsts d 0 == get_or k.firsts c 0)) (length k.firsts) c l
      (and-both (s c) (get_or k.firsts c 0 == get_or k.firsts c 0) h (equal-self (get_or k.firsts c 0)))))

  fixed-in : (c : ℕ) → c < length k.firsts → is_some_list (f c) ≡ true → is_some_list (values_of k c) ≡ true
  fixed-in c l h = ap is_some_list (keep.values c l) ∙ some-once (f c) ∙ h

  fixed-out : (c : ℕ) → c < length k.firsts → is_some_list (values_of k c) ≡ true → is_some_list (f c) ≡ true
  fixed-out c l h = sym (some-once (f c)) ∙ sym (ap is_some_list (keep.values c l)) ∙ h

  -- one that is equal to one that is reached is reached
  reached-equal : (d c : ℕ) → d < length k.firsts → c < length k.firsts → e d c ≡ true → is_reached k s d ≡ true → is_reached k s c ≡ true
  reached-equal d c m l q h =
      let one : get_or k.firsts d 0 ≡ get_or k.firsts c 0 = same (get_or k.firsts d 0) (get_or k.firsts c 0) (keep.equal d c m l ∙ q) in
      let P : ℕ → Type 0 = λ v. (is_some_list (values_in k.fixed v) || list_any (λ x. s x && (get_or k.firsts x 0 == v)) (first_columns (length k.firsts))) ≡ true in
      subst P one h

  unkeyed : (keys : List (List ℕ)) → list_any (list_all found) keys ≡ false → WithinFirst (length k.firsts) (by_rows (length k.firsts) e f keys found) found
  unkeyed keys none c l h =
      let equals = list_any (λ d. found d && e d c) (first_columns (length k.firsts)) in
      let keyed = list_any (list_all found) keys in
      ⊎_elim (λ a. a)
      (λ a. ⊎_elim
      (λ b. put c l (or-left (is_some_list (values_of k c)) (has_equal k s c) (fixed-in c l b)))
      (λ b. ⊎_elim
      (λ x.
      let r = any-first (λ d. found d && e d c) (length k.firsts) x in
      put c l (reached-equal r.0 c r.1 l (and-right (found r.0) (e r.0 c) r.2) (out r.0 (and-left (found r.0) (e r.0 c) r.2))))
      (λ x. absurd (true≢false (sym x ∙ none)))
      (or-cases equals keyed b))
      (or-cases (is_some_list (f c)) (equals || keyed) a))
      (or-cases (found c) (is_some_list (f c) || (equals || keyed)) h)

  least : (keys : List (List ℕ)) (t : Columns) → WithinFirst (length k.firsts) s t → WithinFirst (length k.firsts) (by_rows (length k.firsts) e f keys t) t
      → (c : ℕ) → found c ≡ true → t c ≡ true
  least keys t more closed c h =
      let l = narrow c h in
      let equals = list_any (λ d. t d && e d c) (first_columns (length k.firsts)) in
      let keyed = list_any (list_all t) keys in
      closed c l (or-right (t c) (is_some_list (f c) || (equals || keyed))
      (⊎_elim
      (λ a. or-left (is_some_list (f c)) (equals || keyed) (fixed-out c l a))
      (λ a.
      let r = any-first (λ d. s d && (get_or k.firsts d 0 == get_or k.firsts c 0)) (length k.firsts) a in
      let there = and-left (s r.0) (get_or k.firsts r.0 0 == get_or k.firsts c 0) r.2 in
      let alike = and-right (s r.0) (get_or k.firsts r.0 0 == get_or k.firsts c 0) r.2 in
      or-right (is_some_list (f c)) (equals || keyed) (or-left equals keyed
      (any-at (λ d. t d && e d c) (length k.firsts) r.0 r.1 (and-both (t r.0) (e r.0 c) (more r.0 r.1 there) (sym (keep.equal r.0 c r.1 l) ∙ alike)))))
      (or-cases (is_some_list (values_of k c)) (has_equal k s c) (out c h))))

  -- no key is among what was found
  pub closed-unkeyed : (keys : List (List ℕ)) → list_any (list_all found) keys ≡ false → IsClosed (length k.firsts) e f keys s found
  closed-unkeyed keys none = record { narrow = narrow; holds = holds; closed = unkeyed keys none; least = λ t more closed c l h. least keys t more closed c h }

  -- with a key, all columns are found
  pub closed-keyed : (keys : List (List ℕ)) → list_any (list_all found) keys ≡ true → (every : Columns) → ((c : ℕ) → every c ≡ true → c < max_columns)
      → ((c : ℕ) → c < max_columns → every c ≡ nat_lt c (length k.firsts)) → IsClosed (length k.firsts) e f keys s every
  closed-keyed keys some every few each = record {
    narrow = λ c h. below c (length k.firsts) (sym (each c (few c h)) ∙ h);
    holds = λ c l h. filled c l;
    closed = λ c l h. filled c l;
    least = λ t more closed c l h.
        let equals = list_any (λ d. t d && e d c) (first_columns (length k.firsts)) in
        let keyed = list_any (list_all t) keys in
        closed c l (or-right (t c) (is_some_list (f c) || (equals || keyed)) (or-right (is_some_list (f c)) (equals || keyed) (or-right equals keyed
        (any-more (list_all found) (list_all t) (λ key. all-more found t (least keys t more closed) key) keys some))));
  }
    where
      filled : (c : ℕ) → c < length k.firsts → every c ≡ true
      filled c l = each c (omega (arith, l, small)) ∙ is-below c (length k.firsts) l
