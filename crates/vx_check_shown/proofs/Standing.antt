-- The first of the columns that are equal to one.
use Rattle.std.proofs.Common.{◌≡◌, ◌∙◌, ℕ, zero, suc, ◌+◌, ◌<◌, ◌≤◌, ◌==◌, nat_lt, Bool, true, false, cond, ⊎_elim, List, [], ◌∷◌, map, filter, length, slice_index, Some, unwrap_or, refl, sym, ap, arith, true≢false, eqb-true, eq-eqb, ltb-true, lt-ltb, ◌⊎◌, inl, inr, ap₂}
use Rattle.std.specs.List.{list_all}
use Rattle.std.proofs.lemmas.Bool.{cases_lt}
use Rattle.vx_rows_values.specs.declared.order.OrderEntry.{OrderEntry}
use Rattle.vx_rows_values.specs.Order.{order_columns}
use Rattle.vx_catalog_relations.specs.Catalog.{all_below}
use Rattle.vx_rows_values.proofs.Booleans.{and-left, and-right, and-both}
use Rattle.vx_plan_nodes.specs.Phases.{columns_from}
use Rattle.vx_plan_facts.specs.Equal.{Equality}
use Rattle.vx_plan_facts.specs.Facts.{NamesFirsts, Tells}
use Rattle.vx_check_rules.specs.Derived.{first_of}
use Rattle.vx_check_rules.specs.Rules.{entry_at}
use Rattle.vx_check_shown.specs.Standing.{first_equal, named_first, ordered_first}
use Rattle.vx_check_shown.proofs.Equivalent.{IsEquivalence}

-- of n columns from column i on the first one that passes a test
pub record IsFirst (p : ℕ → Bool) (i m : ℕ) : Type 0 where
  pub from : i ≤ m
  pub passes : p m ≡ true
  pub none : (d : ℕ) → i ≤ d → d < m → p d ≡ false

-- it is the one that is found
pub first-is : (p : ℕ → Bool) (i n m : ℕ) → IsFirst p i m → m < i + n → first_of (filter p (columns_from i n)) ≡ Some m
first-is p i zero m is h = let l = is.from in absurd (omega (arith, h, l))
first-is p i (suc n) m is h =
    go (p i) refl (λ more. first-is p (suc i) n m (record { from = omega (arith, more); passes = is.passes; none = λ d l. is.none d (omega (arith, l)) }) (omega (arith, h)))
  where
    later : p i ≡ false → i < m
    later out = ⊎_elim (λ l. l) (λ g. absurd (no-same (let l = is.from in omega (arith, g, l)) out)) (cases_lt i m)
      where
        no-same : i ≡ m → p i ≡ false → ⊥
        no-same e out = true≢false (sym is.passes ∙ ap p (sym e) ∙ out)

    same : p i ≡ true → i ≡ m
    same held = ⊎_elim (λ l. absurd (true≢false (sym held ∙ is.none i (omega arith) l))) (λ g. let l = is.from in omega (arith, g, l)) (cases_lt i m)

    go : (b : Bool) → p i ≡ b → (i < m → first_of (filter p (columns_from (suc i) n)) ≡ Some m)
        → first_of (cond b (i ∷ filter p (columns_from (suc i) n)) (filter p (columns_from (suc i) n))) ≡ Some m
    go true e more = ap Some (same e)
    go false e more = more (later e)

-- where a column passes a test, there is a first one that does
pub has-first : (p : ℕ → Bool) (i n c : ℕ) → p c ≡ true → c < i + n → i ≤ c → (m : ℕ) × (m ≤ c) × IsFirst p i m
has-first p i zero c h l g = absurd (omega (arith, l, g))
has-first p i (suc n) c h l g = go (p i) refl (λ k. has-first p (suc i) n c h (omega (arith, l)) k)
  where
    other : p i ≡ false → i ≡ c → ⊥
    other out e = true≢false (sym h ∙ ap p (sym e) ∙ out)

    after : p i ≡ false → suc i ≤ c
    after out = ⊎_elim (λ m. omega (arith, m)) (λ m. absurd (other out (omega (arith, m, g)))) (cases_lt i c)

    none : p i ≡ false → (m : ℕ) → IsFirst p (suc i) m → (d : ℕ) → i ≤ d → d < m → p d ≡ false
    none out m is d k j = ⊎_elim (λ x. is.none d (omega (arith, x)) j) (λ x. let same : i ≡ d = omega (arith, x, k) in ap p (sym same) ∙ out) (cases_lt i d)

    go : (b : Bool) → p i ≡ b → (suc i ≤ c → (m : ℕ) × (m ≤ c) × IsFirst p (suc i) m) → (m : ℕ) × (m ≤ c) × IsFirst p i m
    go true e more = (i, g, record { from = omega arith; passes = e; none = λ d k j. absurd (omega (arith, k, j)) })
    go false e more =
        let r = more (after e) in
        let is = r.2 in
        let from = is.from in
        (r.0, r.1, record { from = omega (arith, from); passes = is.passes; none = none e r.0 is })

-- ---- the first equal column

module _ (w : ℕ) (e : Equality) (is : IsEquivalence e) where
  -- it is one of the columns, it is equal to this one, and none before it is
  pub record Stands (c m : ℕ) : Type 0 where
    pub here : first_equal w e c ≡ m
    pub before : m ≤ c
    pub equal : e m c ≡ true
    pub none : (d : ℕ) → d < m → e d c ≡ false

  pub stands : (c : ℕ) → c < w → (m : ℕ) × Stands c m
  stands c l =
      let r = has-first (λ d. e d c) 0 w c (is.itself c) (omega (arith, l)) (omega arith) in
      let le = r.1 in (
        r.0,
        record {
          here = ap (λ o. unwrap_or o c) (first-is (λ d. e d c) 0 w r.0 r.2 (omega (arith, l, le)));
          before = r.1;
          equal = r.2.passes;
          none = λ d k. r.2.none d (omega arith) k;
        },
      )

  pub first-equal : (c : ℕ) → c < w → e (first_equal w e c) c ≡ true
  first-equal c l = let r = stands c l in ap (λ m. e m c) r.1.here ∙ r.1.equal

  pub first-before : (c : ℕ) → c < w → first_equal w e c ≤ c
  first-before c l = let r = stands c l in let h = r.1.here in let b = r.1.before in omega (arith, h, b)

  -- the first of the class is its own first one
  pub first-again : (c : ℕ) → c < w → first_equal w e (first_equal w e c) ≡ first_equal w e c
  first-again c l =
      let r = stands c l in
      let le = r.1.before in
      let q = stands r.0 (omega (arith, l, le)) in
      ap (first_equal w e) r.1.here ∙ q.1.here ∙ same r.0 q.0 r.1 q.1 (cases_lt q.0 r.0) ∙ sym r.1.here
    where
      same : (m n : ℕ) → Stands c m → Stands m n → (n < m) ⊎ (m ≤ n) → n ≡ m
      same m n s t (inl less) = absurd (true≢false (sym (is.chain n m c t.equal s.equal) ∙ s.none n less))
      same m n s t (inr more) = let b = t.before in omega (arith, more, b)

  pub named-below : (cols : List ℕ) → all_below w cols ≡ true → all_below w (named_first w e cols) ≡ true
  named-below [] h = refl
  named-below (c ∷ cols) h =
      and-both (nat_lt (first_equal w e c) w) (all_below w (named_first w e cols))
      (down c (first_equal w e c) (and-left (nat_lt c w) (all_below w cols) h) (λ l. first-before c l))
      (named-below cols (and-right (nat_lt c w) (all_below w cols) h))
    where
      down : (x y : ℕ) → nat_lt x w ≡ true → (x < w → y ≤ x) → nat_lt y w ≡ true
      down x y h f = let l = ltb-true x w h in let g = f l in lt-ltb y w (omega (arith, l, g))

  pub named-firsts : (cols : List ℕ) → all_below w cols ≡ true → list_all (λ c. first_equal w e c == c) (named_first w e cols) ≡ true
  named-firsts [] h = refl
  named-firsts (c ∷ cols) h =
      let d : ℕ = first_equal w e c in
      and-both (first_equal w e d == d) (list_all (λ x. first_equal w e x == x) (named_first w e cols))
      (eq-eqb (first_equal w e d) d (first-again c (ltb-true c w (and-left (nat_lt c w) (all_below w cols) h))))
      (named-firsts cols (and-right (nat_lt c w) (all_below w cols) h))

  -- ---- of orders

  ordered-columns : (order : List OrderEntry) → order_columns (ordered_first w e order) ≡ named_first w e (order_columns order)
  ordered-columns [] = refl
  ordered-columns (x ∷ order) = ap (λ cols. first_equal w e x.column ∷ cols) (ordered-columns order)

  pub ordered-below : (order : List OrderEntry) → all_below w (order_columns order) ≡ true → all_below w (order_columns (ordered_first w e order)) ≡ true
  ordered-below order h = ap (all_below w) (ordered-columns order) ∙ named-below (order_columns order) h

  pub ordered-firsts : (order : List OrderEntry) → all_below w (order_columns order) ≡ true
      → list_all (λ c. first_equal w e c == c) (order_columns (ordered_first w e order)) ≡ true
  ordered-firsts order h = ap (list_all (λ c. first_equal w e c == c)) (ordered-columns order) ∙ named-firsts (order_columns order) h

  -- ---- as the program keeps it

  pub first-kept : (firsts : List ℕ) → NamesFirsts firsts → Tells e firsts → length firsts ≡ w → (c : ℕ) → c < w → slice_index firsts c ≡ first_equal w e c
  first-kept firsts named tells wide c l =
      let m : ℕ = slice_index firsts c in
      let b = named.before c (omega (arith, l, wide)) in
      let is-first : IsFirst (λ d. e d c) 0 m = record {
        from = omega arith;
        passes = sym (tells m c (omega (arith, l, wide, b)) (omega (arith, l, wide))) ∙ eq-eqb (slice_index firsts m) m (named.own c (omega (arith, l, wide)));
        none = λ d k h. none d h;
      } in
      sym (ap (λ o. unwrap_or o c) (first-is (λ d. e d c) 0 w m is-first (omega (arith, l, b))))
    where
      none : (d : ℕ) → d < slice_index firsts c → e d c ≡ false
      none d h = by (e d c) refl
        where
          by : (t : Bool) → e d c ≡ t → e d c ≡ false
          by false h = h
          by true k =
              let b = named.before c (omega (arith, l, wide)) in
              let small : d < length firsts = omega (arith, h, b, l, wide) in
              let b2 = named.before d small in
              let same : slice_index firsts d ≡ slice_index firsts c = eqb-true (slice_index firsts d) (slice_index firsts c) (tells d c small (omega (arith, l, wide)) ∙ k) in
              absurd (omega (arith, h, b2, same))

  pub ordered-kept : (firsts : List ℕ) → NamesFirsts firsts → Tells e firsts → length firsts ≡ w → (order : List OrderEntry) → all_below w (order_columns order) ≡ true
      → map (λ x. entry_at (slice_index firsts x.column) x) order ≡ ordered_first w e order
  ordered-kept firsts named tells wide [] h = refl
  ordered-kept firsts named tells wide (x ∷ order) h =
      let here : slice_index firsts x.column ≡ first_equal w e x.column =
      first-kept firsts named tells wide x.column (ltb-true x.column w (and-left (nat_lt x.column w) (all_below w (order_columns order)) h)) in
      ap₂ (λ c xs. entry_at c x ∷ xs) here (ordered-kept firsts named tells wide order (and-right (nat_lt x.column w) (all_below w (order_columns order)) h))
