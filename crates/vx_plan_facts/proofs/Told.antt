-- What is kept of a node tells what it is to tell.
use Rattle.std.proofs.Common.{◌≡◌, ◌∙◌, ℕ, zero, suc, ◌<◌, ◌==◌, Bool, true, false, cond, List, [], ◌∷◌, ◌++◌, length, get_or, ap, sym, refl, arith, ◌||◌, not}
use Rattle.std.specs.List.{filter, list_any}
use Rattle.std.proofs.lemmas.Bool.{eq-eqb, ne_eqb, eqb-true}
use Rattle.std.proofs.lemmas.Bool.Decides.{nat_tests}
use Rattle.std.proofs.lemmas.List.Elements.{filter-append}
use Rattle.std.proofs.lemmas.List.Folds.{list_any-append}
use Rattle.vx_rows_values.specs.Values.{Val}
use Rattle.vx_rows_values.specs.Lists.{is_some_list}
use Rattle.vx_plan_nodes.specs.Phases.{first_columns}
use Rattle.vx_plan_facts.specs.Equal.{Equality}
use Rattle.vx_plan_facts.specs.Fixed.{Values, has_value}
use Rattle.vx_plan_facts.specs.Facts.{Facts, NamesFirsts, Keeps, values_of, with_value, with_values, each_once}
use Rattle.vx_plan_facts.proofs.ValueLists.{first-suc}
use Rattle.vx_plan_facts.proofs.Once.{has-once}

pub told-equal : (w : ℕ) (e : Equality) (f : Values) (k : Facts) → Keeps w e f k → (a b : ℕ) → a < length k.firsts → b < length k.firsts → (r : Bool) → r ≡ (get_or k.firsts a 0 == get_or k.firsts b 0) → r ≡ e a b
told-equal w e f k keeps a b ah bh r is = is ∙ keeps.equal a b ah bh

pub told-values : (w : ℕ) (e : Equality) (f : Values) (k : Facts) → Keeps w e f k → (c : ℕ) → c < length k.firsts → values_of k c ≡ each_once (f c)
told-values w e f k keeps c h = let wide = keeps.wide in keeps.values c (omega (arith, wide, h))

pub told-has : (w : ℕ) (e : Equality) (f : Values) (k : Facts) → Keeps w e f k → (c : ℕ) → c < length k.firsts → (v : Val) → has_value (values_of k c) v ≡ has_value (f c) v
told-has w e f k keeps c h v = ap (λ vs. has_value vs v) (told-values w e f k keeps c h) ∙ has-once (f c) v

stays-some : (vs ws : List Val) → is_some_list vs ≡ true → is_some_list (with_values vs ws) ≡ true
stays-some vs [] h = h
stays-some vs (w ∷ ws) h = stays-some (with_value vs w) ws (go (has_value vs w) vs h)
  where
    go : (b : Bool) (us : List Val) → is_some_list us ≡ true → is_some_list (cond b us (us ++ w ∷ [])) ≡ true
    go true us k = k
    go false [] k = refl
    go false (u ∷ us) k = refl

some-once : (vs : List Val) → is_some_list (each_once vs) ≡ is_some_list vs
some-once [] = refl
some-once (v ∷ vs) = stays-some (v ∷ []) vs refl

pub told-fixed : (w : ℕ) (e : Equality) (f : Values) (k : Facts) → Keeps w e f k → (c : ℕ) → c < length k.firsts → is_some_list (values_of k c) ≡ is_some_list (f c)
told-fixed w e f k keeps c h = ap is_some_list (told-values w e f k keeps c h) ∙ some-once (f c)

-- columns of the first n that pass one of two tests that agree there
filter-within : (p q : ℕ → Bool) (n : ℕ) → ((d : ℕ) → d < n → p d ≡ q d) → filter p (first_columns n) ≡ filter q (first_columns n)
filter-within p q zero h = refl
filter-within p q (suc n) h =
    ap (filter p) (first-suc n) ∙ filter-append p (first_columns n) (n ∷ []) ∙ ap (λ xs. xs ++ cond (p n) (n ∷ []) []) (filter-within p q n (λ d k. h d (omega (arith, k))))
    ∙ ap (λ b. filter q (first_columns n) ++ cond b (n ∷ []) []) (h n (omega arith)) ∙ sym (ap (filter q) (first-suc n) ∙ filter-append q (first_columns n) (n ∷ []))

pub told-class : (w : ℕ) (e : Equality) (f : Values) (k : Facts) → Keeps w e f k → (c : ℕ) → c < length k.firsts
    → filter (λ d. get_or k.firsts c 0 == get_or k.firsts d 0) (first_columns (length k.firsts)) ≡ filter (e c) (first_columns w)
told-class w e f k keeps c h =
    filter-within (λ d. get_or k.firsts c 0 == get_or k.firsts d 0) (e c) (length k.firsts) (λ d dh. keeps.equal c d h dh) ∙ ap (λ n. filter (e c) (first_columns n)) keeps.wide

-- a column that is there before passes the test
any-before : (p : ℕ → Bool) (n d : ℕ) → d < n → p d ≡ true → list_any p (first_columns n) ≡ true
any-before p zero d h here = absurd (omega (arith, h))
any-before p (suc n) d h here = ap (list_any p) (first-suc n) ∙ list_any-append p (first_columns n) (n ∷ []) ∙ go (d == n) refl (λ k. any-before p n d k here)
  where
    or-right : (a : Bool) → (a || (true || false)) ≡ true
    or-right true = refl
    or-right false = refl

    go : (b : Bool) → b ≡ (d == n) → (d < n → list_any p (first_columns n) ≡ true) → (list_any p (first_columns n) || (p n || false)) ≡ true
    go true e before =
        let s : d ≡ n = eqb-true d n (sym e) in
        ap (λ b. list_any p (first_columns n) || (b || false)) (sym (ap p s) ∙ here) ∙ or-right (list_any p (first_columns n))
    go false e before = let k : d < n = grind (arith, nat_tests) in ap (λ b. b || (p n || false)) (before k)

none-before : (p : ℕ → Bool) (n : ℕ) → ((d : ℕ) → d < n → p d ≡ false) → list_any p (first_columns n) ≡ false
none-before p zero h = refl
none-before p (suc n) h =
    ap (list_any p) (first-suc n) ∙ list_any-append p (first_columns n) (n ∷ []) ∙ ap (λ b. b || (p n || false)) (none-before p n (λ d k. h d (omega (arith, k)))) ∙ ap (λ b. b || false) (h n (omega arith))

pub told-first : (w : ℕ) (e : Equality) (f : Values) (k : Facts) → NamesFirsts k.firsts → Keeps w e f k → (c : ℕ) → c < length k.firsts
    → (get_or k.firsts c 0 == c) ≡ not (list_any (λ d. e d c) (first_columns c))
told-first w e f k named keeps c h = go (get_or k.firsts c 0 == c) refl
  where
    go : (b : Bool) → b ≡ (get_or k.firsts c 0 == c) → b ≡ not (list_any (λ d. e d c) (first_columns c))
    go true is =
        let own : get_or k.firsts c 0 ≡ c = eqb-true (get_or k.firsts c 0) c (sym is) in
        sym (ap not (none-before (λ d. e d c) c (λ d dh. other d dh own)))
      where
        other : (d : ℕ) → d < c → get_or k.firsts c 0 ≡ c → e d c ≡ false
        other d dh own =
            let le = named.before d (omega (arith, dh, h)) in
            sym (keeps.equal d c (omega (arith, dh, h)) h) ∙ ne_eqb (get_or k.firsts d 0) (get_or k.firsts c 0) (λ s. omega (arith, le, s, own, dh))
    go false is =
        let le = named.before c h in
        let r : ℕ = get_or k.firsts c 0 in
        let less : r < c = grind (arith, nat_tests) in
        let same : e r c ≡ true = sym (keeps.equal r c (omega (arith, less, h)) h) ∙ eq-eqb (get_or k.firsts r 0) (get_or k.firsts c 0) (named.own c h) in
        sym (ap not (any-before (λ d. e d c) c r less same))
