-- The first of the columns that are equal to one.
use Rattle.std.proofs.Common.{◌≡◌, ◌∙◌, ℕ, zero, suc, ◌+◌, ◌<◌, ◌≤◌, ◌==◌, nat_lt, ltb-true, ◌||◌, Bool, true, false, cond, ⊎_elim, List, [], ◌∷◌, length, map, take, get_or, ◌++◌, slice_index, Option, Some, refl, ap, sym, subst, arith, true≢false}
use Rattle.std.specs.Option.{unwrap_or}
use Rattle.std.specs.List.{list_any, filter}
use Rattle.std.proofs.lemmas.Bool.{cases_lt, eqb-true, eq-eqb, ne_eqb}
use Rattle.std.proofs.lemmas.List.{take_more, take_all, map-append}
use Rattle.std.proofs.lemmas.List.Folds.{list_any-append, list_all-append}
use Rattle.vx_rows_values.proofs.Booleans.{and-left, and-right, and-both}
use Rattle.vx_catalog_relations.specs.Catalog.{all_below}
use Rattle.vx_check_rules.specs.Rules.{contains, within}
use Rattle.vx_check_rules.proofs.Bools.{or-left, or-right, all-more}
use Rattle.vx_check_options.specs.FoundKeys.{with_column}
use Rattle.vx_check_options.proofs.FoundFacts.{within-self, within-trans, column-in, column-within, column-there, column-distinct}
use Rattle.vx_check_shown.specs.ShownKeys.{IsNamed}
use Rattle.vx_catalog_relations.specs.Relation.{Relation}
use Rattle.vx_plan_nodes.specs.Plan.{Plan}
use Rattle.vx_plan_nodes.specs.Phases.{columns_from, first_columns}
use Rattle.vx_plan_nodes.specs.Types.{width}
use Rattle.vx_plan_facts.specs.Equal.{Equality, equal_at}
use Rattle.vx_plan_facts.specs.Fixed.{Values}
use Rattle.vx_plan_facts.specs.Facts.{Facts, NamesFirsts, Tells, Keeps}
use Rattle.vx_plan_facts.specs.FactsView.{facts_of}
use Rattle.vx_plan_facts.specs.KnownView.{IsKnownOf}
use Rattle.vx_plan_facts.specs.declared.known.KnownColumns as rust_known
use Rattle.vx_plan_facts.proofs.ColumnSets.{any-at}
use Rattle.vx_plan_facts.proofs.Searching.{top-stands}
use Rattle.vx_check_rules.specs.Derived.{first_of}
use Rattle.vx_check_shown.specs.Standing.{first_equal, named_first}

-- a column of a list is one of those that are there
pub column-at : (w : ℕ) (cols : List ℕ) (i : ℕ) → all_below w cols ≡ true → i < length cols → get_or cols i 0 < w
column-at w [] i l h = absurd (omega (arith, h))
column-at w (c ∷ cols) zero l h = ltb-true c w (and-left (nat_lt c w) (all_below w cols) l)
column-at w (c ∷ cols) (suc i) l h = column-at w cols i (and-right (nat_lt c w) (all_below w cols) l) (omega (arith, h))

-- ---- the first column that passes

pub found-first : (test : ℕ → Bool) (i n r : ℕ) → i ≤ r → r < i + n → test r ≡ true → ((d : ℕ) → d < r → test d ≡ false) → first_of (filter test (columns_from i n)) ≡ Some r
found-first test i zero r l m is none = absurd (omega (arith, l, m))
found-first test i (suc n) r l m is none = go (test i) refl (λ k. found-first test (suc i) n r k (omega (arith, m)) is none)
  where
    go : (b : Bool) → test i ≡ b → (suc i ≤ r → first_of (filter test (columns_from (suc i) n)) ≡ Some r)
        → first_of (cond b (i ∷ filter test (columns_from (suc i) n)) (filter test (columns_from (suc i) n))) ≡ Some r
    go true e later = ⊎_elim (λ less. absurd (true≢false (sym e ∙ none i less))) (λ more. let same : i ≡ r = omega (arith, more, l) in ap (λ x. Some x) same) (cases_lt i r)
    go false e later = ⊎_elim (λ less. later (omega (arith, less))) (λ more. let same : r ≡ i = omega (arith, more, l) in absurd (true≢false (sym is ∙ ap test same ∙ e))) (cases_lt i r)

-- some column passes
pub record First (test : ℕ → Bool) (w : ℕ) (o : Option ℕ) : Type 0 where
  pub column : ℕ
  pub below : column < w
  pub passes : test column ≡ true
  pub is : o ≡ Some column

first-from : (test : ℕ → Bool) (i n : ℕ) → list_any test (columns_from i n) ≡ true → First test (i + n) (first_of (filter test (columns_from i n)))
first-from test i zero h = absurd (true≢false (sym h))
first-from test i (suc n) h = go (test i) refl h (λ k. first-from test (suc i) n k)
  where
    later : First test (suc i + n) (first_of (filter test (columns_from (suc i) n))) → First test (i + suc n) (first_of (filter test (columns_from (suc i) n)))
    later f = let l = f.below in record { column = f.column; below = omega (arith, l); passes = f.passes; is = f.is }

    go : (b : Bool) → test i ≡ b → (b || list_any test (columns_from (suc i) n)) ≡ true
        → (list_any test (columns_from (suc i) n) ≡ true → First test (suc i + n) (first_of (filter test (columns_from (suc i) n))))
        → First test (i + suc n) (first_of (cond b (i ∷ filter test (columns_from (suc i) n)) (filter test (columns_from (suc i) n))))
    go true e k more = record { column = i; below = omega arith; passes = e; is = refl }
    go false e k more = later (more k)

pub first-some : (test : ℕ → Bool) (w : ℕ) → list_any test (first_columns w) ≡ true → First test w (first_of (filter test (first_columns w)))
first-some test w h = let f = first-from test 0 w h in let l = f.below in record { column = f.column; below = omega (arith, l); passes = f.passes; is = f.is }

filter-from : (p q : ℕ → Bool) (i n : ℕ) → ((d : ℕ) → d < i + n → p d ≡ q d) → filter p (columns_from i n) ≡ filter q (columns_from i n)
filter-from p q i zero h = refl
filter-from p q i (suc n) h =
    ap (λ b. cond b (i ∷ filter p (columns_from (suc i) n)) (filter p (columns_from (suc i) n))) (h i (omega arith))
    ∙ ap (λ xs. cond (q i) (i ∷ xs) xs) (filter-from p q (suc i) n (λ d l. h d (omega (arith, l))))

-- ---- classes of columns

-- of w columns each is equal to itself, and equal ones to the same ones
pub record IsSameness (w : ℕ) (e : Equality) : Type 0 where
  pub itself : (c : ℕ) → c < w → e c c ≡ true
  pub like : (c d x : ℕ) → c < w → d < w → x < w → e c d ≡ true → e x c ≡ e x d

pub told-same : (w : ℕ) (e : Equality) (firsts : List ℕ) → length firsts ≡ w → Tells e firsts → IsSameness w e
told-same w e firsts wide tells = record {
  itself = λ c l. sym (tells c c (omega (arith, l, wide)) (omega (arith, l, wide))) ∙ eq-eqb (slice_index firsts c) (slice_index firsts c) refl;
  like = λ c d x l m n k.
      let same : slice_index firsts c ≡ slice_index firsts d = eqb-true (slice_index firsts c) (slice_index firsts d) (tells c d (omega (arith, l, wide)) (omega (arith, m, wide)) ∙ k) in
      sym (tells x c (omega (arith, n, wide)) (omega (arith, l, wide))) ∙ ap (λ v. slice_index firsts x == v) same ∙ tells x d (omega (arith, n, wide)) (omega (arith, m, wide));
}

pub known-same : (catalog : ℕ → Relation) (k : rust_known.KnownColumns) (p : Plan) → IsKnownOf catalog k p → IsSameness (width catalog p) (equal_at catalog p)
known-same catalog k p h =
    let top = top-stands catalog (map facts_of k.facts.items) p h.known.numbered in
    told-same (width catalog p) (equal_at catalog p) top.0.firsts top.2.wide top.2.equal

module _ (w : ℕ) (e : Equality) (same : IsSameness w e) where
  -- the first one of a column is there, and is equal to it
  pub first-column : (c : ℕ) → c < w → first_of (filter (λ d. e d c) (first_columns w)) ≡ Some (first_equal w e c)
  first-column c l =
      let f = first-some (λ d. e d c) w (any-at (λ d. e d c) w c l (same.itself c l)) in
      f.is ∙ sym (ap (λ o. Some (unwrap_or o c)) f.is)

  pub first-below : (c : ℕ) → c < w → first_equal w e c < w
  first-below c l =
      let f = first-some (λ d. e d c) w (any-at (λ d. e d c) w c l (same.itself c l)) in
      let P : ℕ → Type 0 = λ v. v < w in
      subst P (sym (ap (λ o. unwrap_or o c) f.is)) f.below

  pub first-equals : (c : ℕ) → c < w → e (first_equal w e c) c ≡ true
  first-equals c l =
      let f = first-some (λ d. e d c) w (any-at (λ d. e d c) w c l (same.itself c l)) in
      ap (λ v. e v c) (ap (λ o. unwrap_or o c) f.is) ∙ f.passes

  -- equal columns have one first one, which is its own
  pub first-same : (a b : ℕ) → a < w → b < w → e a b ≡ true → first_equal w e a ≡ first_equal w e b
  first-same a b l m k =
      let alike = filter-from (λ d. e d a) (λ d. e d b) 0 w (λ d n. same.like a b d l m (omega (arith, n)) k) in
      let one = first-column b m in
      ap (λ xs. unwrap_or (first_of xs) a) alike ∙ ap (λ o. unwrap_or o a) one

  pub first-again : (c : ℕ) → c < w → first_equal w e (first_equal w e c) ≡ first_equal w e c
  first-again c l = first-same (first_equal w e c) c (first-below c l) l (first-equals c l)

-- the first one that is kept of a column
pub told-first : (w : ℕ) (e : Equality) (f : Values) (k : Facts) → NamesFirsts k.firsts → Keeps w e f k → (c : ℕ) → c < w → slice_index k.firsts c ≡ first_equal w e c
told-first w e f k named keeps c l =
    let wide = keeps.wide in
    let r : ℕ = slice_index k.firsts c in
    let low : r ≤ c = named.before c (omega (arith, l, wide)) in
    let is : e r c ≡ true = sym (keeps.equal r c (omega (arith, l, wide, low)) (omega (arith, l, wide))) ∙ eq-eqb (slice_index k.firsts r) r (named.own c (omega (arith, l, wide))) in
    let first = found-first (λ d. e d c) 0 w r (omega arith) (omega (arith, l, low)) is
    (λ d m. let le = named.before d (omega (arith, l, wide, low, m)) in sym (keeps.equal d c (omega (arith, l, wide, low, m)) (omega (arith, l, wide))) ∙ ne_eqb (slice_index k.firsts d) r (λ s. omega (arith, le, s, m))) in
    sym (ap (λ o. unwrap_or o c) first)

-- ---- columns by their first ones

named-take : (w : ℕ) (e : Equality) (key : List ℕ) (i : ℕ) → i < length key → named_first w e (take (i + 1) key) ≡ named_first w e (take i key) ++ first_equal w e (get_or key i 0) ∷ []
named-take w e key i h = ap (map (first_equal w e)) (take_more key i 0 h) ∙ map-append (first_equal w e) (take i key) (get_or key i 0 ∷ [])

pub named-starts : (w : ℕ) (e : Equality) (key named : List ℕ) → named ≡ [] → IsNamed w e (take 0 key) named
named-starts w e key named none = subst (λ xs. IsNamed w e (take 0 key) xs) (sym none) (record { among = refl; all = refl; distinct = refl })

-- one column further
pub named-next : (w : ℕ) (e : Equality) (key named new : List ℕ) (i : ℕ) → i < length key → new ≡ with_column named (first_equal w e (get_or key i 0)) → IsNamed w e (take i key) named
    → IsNamed w e (take (i + 1) key) new
named-next w e key named new i h is old =
    let c : ℕ = first_equal w e (get_or key i 0) in
    let before : List ℕ = named_first w e (take i key) in
    let more = named-take w e key i h in
    let there : contains (before ++ c ∷ []) c ≡ true = list_any-append (λ y. c == y) before (c ∷ []) ∙ or-right (contains before c) (contains (c ∷ []) c) (or-left (c == c) false (eq-eqb c c refl)) in
    let early : within before (before ++ c ∷ []) ≡ true =
    all-more (contains before) (contains (before ++ c ∷ [])) before (λ d k. list_any-append (λ y. d == y) before (c ∷ []) ∙ or-left (contains before d) (contains (c ∷ []) d) k) (within-self before) in
    subst (λ xs. IsNamed w e (take (i + 1) key) xs) (sym is) (record {
      among = ap (within (with_column named c)) more ∙ column-in named (before ++ c ∷ []) c (within-trans named before (before ++ c ∷ []) old.among early) there;
      all = ap (λ xs. within xs (with_column named c)) more ∙ list_all-append (contains (with_column named c)) before (c ∷ [])
          ∙ and-both (within before (with_column named c)) (within (c ∷ []) (with_column named c)) (within-trans before named (with_column named c) old.all (column-within named c))
          (and-both (contains (with_column named c) c) true (column-there named c) refl);
      distinct = column-distinct named c old.distinct;
    })

pub named-all : (w : ℕ) (e : Equality) (key named : List ℕ) (i : ℕ) → length key ≤ i → IsNamed w e (take i key) named → IsNamed w e key named
named-all w e key named i h old = subst (λ xs. IsNamed w e xs named) (take_all i key h) old

-- a column that is not among them is put
pub column-put : (cols : List ℕ) (c d : ℕ) → contains cols c ≡ false → c ≡ d → cols ++ c ∷ [] ≡ with_column cols d
column-put cols c d lacks is = sym (ap (λ b. cond b cols (cols ++ c ∷ [])) lacks) ∙ ap (with_column cols) is

pub column-kept : (cols : List ℕ) (c d : ℕ) → contains cols c ≡ true → c ≡ d → cols ≡ with_column cols d
column-kept cols c d has is = sym (ap (λ b. cond b cols (cols ++ c ∷ [])) has) ∙ ap (with_column cols) is
