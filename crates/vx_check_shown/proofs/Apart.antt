-- Columns that are set apart: none is taken twice, each is equal to the one in whose place it stands, and there are so many where so many columns can be named.
use Rattle.std.proofs.Common.{◌≡◌, ◌∙◌, ℕ, ◌<◌, ◌==◌, nat_lt, Bool, true, false, cond, not, ◌&&◌, ◌||◌, List, [], ◌∷◌, ◌++◌, append_assoc, map, Option, Some, None, refl, ap, sym, subst, arith, true≢false}
use Rattle.std.specs.List.{list_any, list_all, filter}
use Rattle.std.specs.Option.{option_and_then}
use Rattle.std.proofs.lemmas.List.{append-nil}
use Rattle.std.proofs.lemmas.Bool.{eqb-true, eq-eqb}
use Rattle.std.proofs.lemmas.Bool.Decides.{nat_tests}
use Rattle.vx_rows_values.proofs.Booleans.{and-left, and-right, and-both}
use Rattle.vx_catalog_relations.specs.Catalog.{all_below, are_distinct}
use Rattle.vx_plan_nodes.specs.Phases.{first_columns}
use Rattle.vx_plan_facts.specs.Equal.{Equality}
use Rattle.vx_plan_facts.specs.Following.{equal_lists}
use Rattle.vx_plan_facts.proofs.Tests.{all-more}
use Rattle.vx_check_rules.specs.Rules.{contains}
use Rattle.vx_check_rules.specs.Derived.{first_of}
use Rattle.vx_check_shown.specs.ShownPart.{free_equal, apart}
use Rattle.vx_check_shown.proofs.Equivalent.{IsEquivalence}
use Rattle.vx_check_shown.proofs.Finding.{first-in, first-some}
use Rattle.vx_check_shown.proofs.StandFacts.{is-below}

-- ---- tests

not-in : (b : Bool) → not b ≡ true → b ≡ false
not-in true h = cc
not-in false h = refl

in-not : (b : Bool) → b ≡ false → not b ≡ true
in-not true h = cc
in-not false h = refl

or-neither : (a b : Bool) → a ≡ false → b ≡ false → (a || b) ≡ false
or-neither true b h k = cc
or-neither false b h k = k

or-first : (a b : Bool) → (a || b) ≡ false → a ≡ false
or-first true b h = cc
or-first false b h = refl

or-rest : (a b : Bool) → (a || b) ≡ false → b ≡ false
or-rest true b h = cc
or-rest false b h = h

pub contains-end : (xs : List ℕ) (y z : ℕ) → contains (xs ++ y ∷ []) z ≡ ((z == y) || contains xs z)
contains-end [] y z = refl
contains-end (x ∷ xs) y z = ap (λ b. (z == x) || b) (contains-end xs y z) ∙ swap (z == x) (z == y) (contains xs z)
  where
    swap : (a b c : Bool) → (a || (b || c)) ≡ (b || (a || c))
    swap true true c = refl
    swap true false c = refl
    swap false b c = refl

-- ---- what is free

record Free (w : ℕ) (e : Equality) (taken : List ℕ) (c d : ℕ) : Type 0 where
  equal : e c d ≡ true
  free : contains taken d ≡ false
  within : c < w → d < w

module _ (w : ℕ) (e : Equality) (is : IsEquivalence e) where
  free-is : (taken : List ℕ) (c d : ℕ) → free_equal w e taken c ≡ Some d → Free w e taken c d
  free-is taken c d h = go (contains taken c) refl h
    where
      go : (b : Bool) → contains taken c ≡ b → cond b (first_of (filter (λ x. e c x && not (contains taken x)) (first_columns w))) (Some c) ≡ Some d → Free w e taken c d
      go true t h =
          let f = first-in (λ x. e c x && not (contains taken x)) w d h in
          record {
            equal = and-left (e c d) (not (contains taken d)) f.passes;
            free = not-in (contains taken d) (and-right (e c d) (not (contains taken d)) f.passes);
            within = λ l. f.within;
          }
      go false t h =
          let s : c ≡ d = cc in
          subst (λ v. Free w e taken c v) s (record { equal = is.itself c; free = t; within = λ l. l })

  free-some : (taken : List ℕ) (c d : ℕ) → d < w → e c d ≡ true → contains taken d ≡ false → (t : ℕ) × (free_equal w e taken c ≡ Some t)
  free-some taken c d l h k = go (contains taken c)
    where
      go : (b : Bool) → (t : ℕ) × (cond b (first_of (filter (λ x. e c x && not (contains taken x)) (first_columns w))) (Some c) ≡ Some t)
      go true = first-some (λ x. e c x && not (contains taken x)) w d l (and-both (e c d) (not (contains taken d)) h (in-not (contains taken d) k))
      go false = (c, refl)

  -- ---- what is set apart: behind those taken, equal one by one, all distinct

  pub record Apart (taken cols new : List ℕ) : Type 0 where
    pub made : List ℕ
    pub is_made : new ≡ taken ++ made
    pub alike : equal_lists e cols made ≡ true
    pub new_ones : list_all (λ c. not (contains taken c)) made ≡ true
    pub distinct : are_distinct made ≡ true
    pub below : all_below w cols ≡ true → all_below w made ≡ true

  equal-turn : (a b : ℕ) → (a == b) ≡ false → (b == a) ≡ false
  equal-turn a b h = grind (arith, nat_tests)

  none-equal : (taken : List ℕ) (d : ℕ) (ys : List ℕ) → list_all (λ c. not (contains (taken ++ d ∷ []) c)) ys ≡ true → list_any (λ y. d == y) ys ≡ false
  none-equal taken d [] h = refl
  none-equal taken d (y ∷ ys) h =
      let k = not-in (contains (taken ++ d ∷ []) y) (and-left (not (contains (taken ++ d ∷ []) y)) (list_all (λ c. not (contains (taken ++ d ∷ []) c)) ys) h) in
      or-neither (d == y) (list_any (λ z. d == z) ys) (equal-turn y d (or-first (y == d) (contains taken y) (sym (contains-end taken d y) ∙ k)))
      (none-equal taken d ys (and-right (not (contains (taken ++ d ∷ []) y)) (list_all (λ c. not (contains (taken ++ d ∷ []) c)) ys) h))

  apart-more : (c d : ℕ) (cols taken new : List ℕ) → Free w e taken c d → Apart (taken ++ d ∷ []) cols new → Apart taken (c ∷ cols) new
  apart-more c d cols taken new f r = record {
    made = d ∷ r.made;
    is_made = r.is_made ∙ append_assoc taken (d ∷ []) r.made;
    alike = and-both (e c d) (equal_lists e cols r.made) f.equal r.alike;
    new_ones = and-both (not (contains taken d)) (list_all (λ x. not (contains taken x)) r.made) (in-not (contains taken d) f.free)
        (all-more (λ x. not (contains (taken ++ d ∷ []) x)) (λ x. not (contains taken x))
        (λ x h. in-not (contains taken x) (or-rest (x == d) (contains taken x) (sym (contains-end taken d x) ∙ not-in (contains (taken ++ d ∷ []) x) h))) r.made r.new_ones);
    distinct = and-both (not (list_any (λ y. d == y) r.made)) (are_distinct r.made) (in-not (list_any (λ y. d == y) r.made) (none-equal taken d r.made r.new_ones)) r.distinct;
    below = λ l. and-both (nat_lt d w) (all_below w r.made) (below-is d (f.within (is-below c w (and-left (nat_lt c w) (all_below w cols) l)))) (r.below (and-right (nat_lt c w) (all_below w cols) l));
  }
    where
      below-is : (x : ℕ) → x < w → nat_lt x w ≡ true
      below-is x l = grind (arith, nat_tests)

  apart-then : (c : ℕ) (cols taken new : List ℕ) (o : Option ℕ) → ((d : ℕ) → o ≡ Some d → Free w e taken c d) → ((d : ℕ) → apart w e (taken ++ d ∷ []) cols ≡ Some new → Apart (taken ++ d ∷ []) cols new)
      → option_and_then (λ d. apart w e (taken ++ d ∷ []) cols) o ≡ Some new → Apart taken (c ∷ cols) new
  apart-then c cols taken new None f more h = cc
  apart-then c cols taken new (Some d) f more h = apart-more c d cols taken new (f d refl) (more d h)

  pub apart-is : (cols taken new : List ℕ) → apart w e taken cols ≡ Some new → Apart taken cols new
  apart-is [] taken new h =
      let s : taken ≡ new = cc in
      record { made = []; is_made = sym s ∙ sym (append-nil taken); alike = refl; new_ones = refl; distinct = refl; below = λ l. refl }
  apart-is (c ∷ cols) taken new h =
      apart-then c cols taken new (free_equal w e taken c) (λ d k. free-is taken c d k) (λ d k. apart-is cols (taken ++ d ∷ []) new k) h

  -- ---- so many can be set apart

  -- one column in place of another
  abbrev sub : ℕ → ℕ → ℕ → ℕ
  sub t d y = cond (y == t) d y

  sub-apart : (t d y z : ℕ) → (y == z) ≡ false → (d == y) ≡ false → (d == z) ≡ false → (sub t d y == sub t d z) ≡ false
  sub-apart t d y z h k m = go (y == t) (z == t) refl refl
    where
      go : (a b : Bool) → (y == t) ≡ a → (z == t) ≡ b → (cond a d y == cond b d z) ≡ false
      go true true p q = let s : (y == z) ≡ true = eq-eqb y z (eqb-true y t p ∙ sym (eqb-true z t q)) in absurd (true≢false (sym s ∙ h))
      go true false p q = m
      go false true p q = equal-turn d y k
      go false false p q = h

  none-sub : (t d y : ℕ) (ys : List ℕ) → list_any (λ z. y == z) ys ≡ false → (d == y) ≡ false → list_any (λ z. d == z) ys ≡ false → list_any (λ z. sub t d y == z) (map (sub t d) ys) ≡ false
  none-sub t d y [] h k m = refl
  none-sub t d y (z ∷ ys) h k m =
      or-neither (sub t d y == sub t d z) (list_any (λ x. sub t d y == x) (map (sub t d) ys))
      (sub-apart t d y z (or-first (y == z) (list_any (λ x. y == x) ys) h) k (or-first (d == z) (list_any (λ x. d == x) ys) m))
      (none-sub t d y ys (or-rest (y == z) (list_any (λ x. y == x) ys) h) k (or-rest (d == z) (list_any (λ x. d == x) ys) m))

  sub-distinct : (t d : ℕ) (ys : List ℕ) → are_distinct ys ≡ true → list_any (λ z. d == z) ys ≡ false → are_distinct (map (sub t d) ys) ≡ true
  sub-distinct t d [] h m = refl
  sub-distinct t d (y ∷ ys) h m =
      and-both (not (list_any (λ z. sub t d y == z) (map (sub t d) ys))) (are_distinct (map (sub t d) ys))
      (in-not (list_any (λ z. sub t d y == z) (map (sub t d) ys))
      (none-sub t d y ys (not-in (list_any (λ z. y == z) ys) (and-left (not (list_any (λ z. y == z) ys)) (are_distinct ys) h)) (or-first (d == y) (list_any (λ z. d == z) ys) m) (or-rest (d == y) (list_any (λ z. d == z) ys) m)))
      (sub-distinct t d ys (and-right (not (list_any (λ z. y == z) ys)) (are_distinct ys) h) (or-rest (d == y) (list_any (λ z. d == z) ys) m))

  sub-below : (t d : ℕ) (ys : List ℕ) → nat_lt d w ≡ true → all_below w ys ≡ true → all_below w (map (sub t d) ys) ≡ true
  sub-below t d [] l h = refl
  sub-below t d (y ∷ ys) l h =
      and-both (nat_lt (sub t d y) w) (all_below w (map (sub t d) ys)) (go (y == t) (and-left (nat_lt y w) (all_below w ys) h)) (sub-below t d ys l (and-right (nat_lt y w) (all_below w ys) h))
    where
      go : (b : Bool) → nat_lt y w ≡ true → nat_lt (cond b d y) w ≡ true
      go true k = l
      go false k = k

  sub-equal : (t d : ℕ) → e t d ≡ true → (cols ys : List ℕ) → equal_lists e cols ys ≡ true → equal_lists e cols (map (sub t d) ys) ≡ true
  sub-equal t d near [] [] h = refl
  sub-equal t d near [] (y ∷ ys) h = cc
  sub-equal t d near (c ∷ cols) [] h = cc
  sub-equal t d near (c ∷ cols) (y ∷ ys) h =
      and-both (e c (sub t d y)) (equal_lists e cols (map (sub t d) ys)) (go (y == t) refl (and-left (e c y) (equal_lists e cols ys) h))
      (sub-equal t d near cols ys (and-right (e c y) (equal_lists e cols ys) h))
    where
      go : (b : Bool) → (y == t) ≡ b → e c y ≡ true → e c (cond b d y) ≡ true
      go true p k = is.chain c t d (subst (λ v. e c v ≡ true) (eqb-true y t p) k) near
      go false p k = k

  -- none of them is taken then
  sub-new : (taken : List ℕ) (t d : ℕ) → contains taken d ≡ false → (ys : List ℕ) → list_any (λ z. d == z) ys ≡ false → list_all (λ y. not (contains taken y)) ys ≡ true
      → list_all (λ y. not (contains (taken ++ t ∷ []) y)) (map (sub t d) ys) ≡ true
  sub-new taken t d free [] m h = refl
  sub-new taken t d free (y ∷ ys) m h =
      and-both (not (contains (taken ++ t ∷ []) (sub t d y))) (list_all (λ z. not (contains (taken ++ t ∷ []) z)) (map (sub t d) ys))
      (in-not (contains (taken ++ t ∷ []) (sub t d y))
      (contains-end taken t (sub t d y)
      ∙ go (y == t) refl (not-in (contains taken y) (and-left (not (contains taken y)) (list_all (λ z. not (contains taken z)) ys) h)) (or-first (d == y) (list_any (λ z. d == z) ys) m)))
      (sub-new taken t d free ys (or-rest (d == y) (list_any (λ z. d == z) ys) m) (and-right (not (contains taken y)) (list_all (λ z. not (contains taken z)) ys) h))
    where
      other : (d == y) ≡ false → (y == t) ≡ true → (d == t) ≡ false
      other k p = subst (λ v. (d == v) ≡ false) (eqb-true y t p) k

      go : (b : Bool) → (y == t) ≡ b → contains taken y ≡ false → (d == y) ≡ false → ((cond b d y == t) || contains taken (cond b d y)) ≡ false
      go true p k n = or-neither (d == t) (contains taken d) (other n p) free
      go false p k n = or-neither (y == t) (contains taken y) p k

  pub apart-found : (cols ds taken : List ℕ) → equal_lists e cols ds ≡ true → all_below w ds ≡ true → are_distinct ds ≡ true → list_all (λ d. not (contains taken d)) ds ≡ true
      → (new : List ℕ) × (apart w e taken cols ≡ Some new)
  apart-found [] ds taken h l u n = (taken, refl)
  apart-found (c ∷ cols) [] taken h l u n = cc
  apart-found (c ∷ cols) (d ∷ ds) taken h l u n =
      let near = and-left (e c d) (equal_lists e cols ds) h in
      let low = and-left (nat_lt d w) (all_below w ds) l in
      let free = not-in (contains taken d) (and-left (not (contains taken d)) (list_all (λ x. not (contains taken x)) ds) n) in
      let once = not-in (list_any (λ y. d == y) ds) (and-left (not (list_any (λ y. d == y) ds)) (are_distinct ds) u) in
      let r = free-some taken c d (is-below d w low) near free in
      let t = r.0 in
      let f = free-is taken c t r.1 in
      let s = apart-found cols (map (sub t d) ds) (taken ++ t ∷ []) (sub-equal t d (is.chain t c d (is.swap c t f.equal) near) cols ds (and-right (e c d) (equal_lists e cols ds) h))
      (sub-below t d ds low (and-right (nat_lt d w) (all_below w ds) l)) (sub-distinct t d ds (and-right (not (list_any (λ y. d == y) ds)) (are_distinct ds) u) once)
      (sub-new taken t d free ds once (and-right (not (contains taken d)) (list_all (λ x. not (contains taken x)) ds) n)) in
      (s.0, ap (option_and_then (λ x. apart w e (taken ++ x ∷ []) cols)) r.1 ∙ s.1)
