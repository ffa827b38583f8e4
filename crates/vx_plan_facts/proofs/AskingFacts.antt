-- What the code of the search finds, as the lemmas of the search want it.
use Rattle.std.proofs.Common.{◌≡◌, ℕ, zero, suc, ◌+◌, ◌<◌, ◌≤◌, nat_lt, Bool, true, false, ◌&&◌, List, [], ◌∷◌, map, length, get_or, refl, sym, ap, ◌∙◌, subst, arith, true≢false, eqb-true, Option, Some, None, slice_get}
use Rattle.vx_rows_values.specs.Limits.{max_columns}
use Rattle.vx_rows_values.proofs.Booleans.{and-right}
use Rattle.vx_catalog_relations.specs.Relation.{Relation}
use Rattle.vx_plan_nodes.specs.Plan.{Plan, claim, number}
use Rattle.vx_plan_nodes.specs.Types.{width, well_formed}
use Rattle.vx_plan_nodes.specs.Describe.{Copying, source}
use Rattle.vx_plan_facts.specs.Equal.{Equality, equal_at}
use Rattle.vx_plan_facts.specs.Fixed.{Values, fixed_at}
use Rattle.vx_plan_facts.specs.Facts.{Facts, Keeps, AreFactsOf}
use Rattle.vx_plan_facts.specs.FactsView.{facts_of}
use Rattle.vx_plan_facts.specs.declared.facts.ColumnFacts as rust_facts
use Rattle.vx_plan_facts.specs.Determined.{Columns, is_copy_of, sources_in, determined}
use Rattle.vx_plan_facts.specs.DeterminedFacts.{Within}
use Rattle.vx_plan_facts.specs.Closing.{IsClosed}
use Rattle.vx_plan_facts.specs.Asking.{Input, IsKnown, Reaches, Reached, Asked, left_input, right_input}
use Rattle.vx_plan_facts.proofs.Tests.{any-first}
use Rattle.vx_plan_facts.proofs.Least.{more-from-more}
use Rattle.vx_plan_facts.proofs.ClosingFacts.{below}
use Rattle.vx_plan_facts.proofs.Searching.{wide-enough, top-stands, room, Searching, known-left, known-right, goes-left, goes-right, ends, asked-room, asked-at, asked-from, not-asked}

-- ---- the facts of the node

abbrev or-this : {Y : Type 0} → Y → Option Y → Y
or-this d None = d
or-this d (Some x) = x

abbrev holds : {Y : Type 0} → Option Y → Bool
holds None = false
holds (Some x) = true

at-map : {X Y : Type 0} (f : X → Y) (xs : List X) (i : ℕ) (d : X) (k : Y) → slice_get (map f xs) i ≡ Some k → f (get_or xs i d) ≡ k
at-map f [] i d k e = absurd (true≢false (sym (ap holds e)))
at-map f (x ∷ xs) zero d k e = ap (or-this (f x)) e
at-map f (x ∷ xs) (suc i) d k e = at-map f xs i d k e

pub own-are : (catalog : ℕ → Relation) (facts : List rust_facts.ColumnFacts) (p : Plan) → IsKnown catalog (map facts_of facts) p → (own : rust_facts.ColumnFacts) (m : ℕ)
    → m ≡ number p → own ≡ get_or facts m own → AreFactsOf catalog p (facts_of own)
own-are catalog facts p known own m is at =
    let top = top-stands catalog (map facts_of facts) p known.numbered in
    let here : slice_get (map facts_of facts) m ≡ Some top.0 = ap (slice_get (map facts_of facts)) is ∙ top.1 in
    let P : Facts → Type 0 = λ k. AreFactsOf catalog p k in
    subst P (sym (ap facts_of at ∙ at-map facts_of facts m own top.0 here)) top.2

pub closes : (catalog : ℕ → Relation) (p : Plan) (k : Facts) (keys : List (List ℕ)) (s found : Columns) → AreFactsOf catalog p k → (claim p).keys ≡ keys
    → ((e : Equality) (f : Values) → Keeps (length k.firsts) e f k → IsClosed (length k.firsts) e f keys s found)
    → IsClosed (width catalog p) (equal_at catalog p) (fixed_at catalog p) (claim p).keys s found
closes catalog p k keys s found are same h =
    let e = equal_at catalog p in
    let f = fixed_at catalog p in
    let P : ℕ → Type 0 = λ w. Keeps w e f k in
    let Q : ℕ → Type 0 = λ w. IsClosed w e f keys s found in
    let R : List (List ℕ) → Type 0 = λ ks. IsClosed (width catalog p) e f ks s found in
    subst R (sym same) (subst Q are.wide (h e f (subst P (sym are.wide) are)))

-- ---- what is asked

copy-is : (x : ℕ) (o : Option ℕ) → is_copy_of x o ≡ true → o ≡ Some x
copy-is x None h = absurd (true≢false (sym h))
copy-is x (Some d) h = ap Some (eqb-true d x h)

pub sources-below : (w : ℕ) (k : Copying) (v : ℕ) (s : Columns) → Reaches w k v → (x : ℕ) → sources_in w k s x ≡ true → x < v
sources-below w k v s reach x h =
    let r = any-first (λ c. s c && is_copy_of x (source k c)) w h in
    reach r.0 x r.1 (copy-is x (source k r.0) (and-right (s r.0) (is_copy_of x (source k r.0)) r.2))

pub bool-same : (b c d : Bool) → (b ≡ true → c ≡ true → d ≡ true) → (b ≡ true → d ≡ true → c ≡ true) → (b && c) ≡ (b && d)
bool-same false c d f g = refl
bool-same true true d f g = sym (f refl refl)
bool-same true false true f g = g refl refl
bool-same true false false f g = refl

-- what is asked of an input may be told by the first columns of it
pub same-asked : (catalog : ℕ → Relation) (p : Plan) → well_formed catalog p ≡ true → width catalog p ≤ max_columns → (s t : Columns)
    → ((x : ℕ) → x < max_columns → s x ≡ t x) → (x : ℕ) → (nat_lt x (width catalog p) && determined catalog p s x) ≡ (nat_lt x (width catalog p) && determined catalog p t x)
same-asked catalog p formed few s t is x =
    bool-same (nat_lt x (width catalog p)) (determined catalog p s x) (determined catalog p t x)
    (λ l h. more-from-more.of_first catalog p formed s t (λ y m e. sym (is y (omega (arith, m, few))) ∙ e) x (below x (width catalog p) l) h)
    (λ l h. more-from-more.of_first catalog p formed t s (λ y m e. is y (omega (arith, m, few)) ∙ e) x (below x (width catalog p) l) h)

-- ---- the answers of the code

pub was-answered : (catalog : ℕ → Relation) (facts : List Facts) (w : ℕ) (i : Input) (found asked a : Columns) (last : Option Columns) → Reached catalog facts w i.0 i.1
    → ((x : ℕ) → x < max_columns → asked x ≡ sources_in w i.0 found x) → last ≡ Some a → Within asked a → Asked catalog w (Some i) false found found last last
was-answered catalog facts w i found asked a last known is same within = (
  record {
    answer = a;
    is_last = same;
    within = λ x h.
        let l = sources-below w i.0 (width catalog i.1) found known.reaches x h in
        let few = wide-enough catalog i.1 known.known.within in
        within x (is x (omega (arith, l, few)) ∙ h);
  },
  refl,
  refl,
)

pub same-answer : (a b : Columns) → Some a ≡ Some b → a ≡ b
same-answer a b e = ap (or-this a) e

pub no-answer : {A : Type 0} (a : Columns) → None ≡ Some a → A
no-answer a e = absurd (true≢false (sym (ap holds e)))

-- ---- a turn of the search

module _ (catalog : ℕ → Relation) (facts : List Facts) (p : Plan) (known : IsKnown catalog facts p) (w : ℕ) (wide : w ≡ width catalog p)
    (i j : Option Input) (left : i ≡ left_input catalog p) (right : j ≡ right_input catalog p) (s : Columns) where
  to-left : (b d : Bool) (old new : Columns) (last next : Option Columns) → b ≡ d → Asked catalog w i b old new last next
      → Asked catalog (width catalog p) (left_input catalog p) d old new last next
  to-left b d old new last next flag h = asked-at catalog w (width catalog p) i (left_input catalog p) b d old new last next wide left flag h

  to-right : (b d : Bool) (old new : Columns) (last next : Option Columns) → b ≡ d → Asked catalog w j b old new last next
      → Asked catalog (width catalog p) (right_input catalog p) d old new last next
  to-right b d old new last next flag h = asked-at catalog w (width catalog p) j (right_input catalog p) b d old new last next wide right flag h

  pub smaller-left : (b : Bool) (old new : Columns) (lefts next rights others : Option Columns) → b ≡ true → Searching catalog p s old lefts rights → others ≡ rights
      → Asked catalog w i b old new lefts next → room next + room others < room lefts + room rights
  smaller-left b old new lefts next rights others flag at same h =
      let less = asked-room catalog facts (width catalog p) (left_input catalog p) old new lefts next (known-left catalog facts p known) (to-left b true old new lefts next flag h) at.left in
      let rest = ap room same in
      omega (arith, less, rest)

  pub smaller-right : (b d : Bool) (old mid new : Columns) (lefts others rights next : Option Columns) → b ≡ false → d ≡ true → Searching catalog p s old lefts rights
      → Asked catalog w i b old mid lefts others → Asked catalog w j d mid new rights next → room others + room next < room lefts + room rights
  smaller-right b d old mid new lefts others rights next off on at g h =
      let none = not-asked catalog (width catalog p) (left_input catalog p) old mid lefts others (to-left b false old mid lefts others off g) in
      let asked = asked-from catalog (width catalog p) (right_input catalog p) true mid old new rights next none.0 (to-right d true mid new rights next on h) in
      let less = asked-room catalog facts (width catalog p) (right_input catalog p) old new rights next (known-right catalog facts p known) asked at.right in
      let rest = ap room none.1 in
      omega (arith, less, rest)

  pub kept-left : (b : Bool) (old new found : Columns) (lefts next rights others : Option Columns) → b ≡ true → Searching catalog p s old lefts rights → others ≡ rights
      → Asked catalog w i b old new lefts next → IsClosed (width catalog p) (equal_at catalog p) (fixed_at catalog p) (claim p).keys new found
      → Searching catalog p s found next others
  kept-left b old new found lefts next rights others flag at same h k =
      let P : Option Columns → Type 0 = λ o. Searching catalog p s found next o in
      subst P (sym same) (goes-left catalog facts p known s old new found lefts rights next at (to-left b true old new lefts next flag h) k)

  pub kept-right : (b d : Bool) (old mid new found : Columns) (lefts others rights next : Option Columns) → b ≡ false → d ≡ true → Searching catalog p s old lefts rights
      → Asked catalog w i b old mid lefts others → Asked catalog w j d mid new rights next
      → IsClosed (width catalog p) (equal_at catalog p) (fixed_at catalog p) (claim p).keys new found → Searching catalog p s found others next
  kept-right b d old mid new found lefts others rights next off on at g h k =
      let none = not-asked catalog (width catalog p) (left_input catalog p) old mid lefts others (to-left b false old mid lefts others off g) in
      let asked = asked-from catalog (width catalog p) (right_input catalog p) true mid old new rights next none.0 (to-right d true mid new rights next on h) in
      let P : Option Columns → Type 0 = λ o. Searching catalog p s found o next in
      subst P (sym none.1) (goes-right catalog facts p known s old new found lefts rights next at asked k)

  pub finished : (b d : Bool) (old mid new : Columns) (lefts others rights next : Option Columns) → b ≡ false → d ≡ false → Searching catalog p s old lefts rights
      → Asked catalog w i b old mid lefts others → Asked catalog w j d mid new rights next
      → (c : ℕ) → new c ≡ (nat_lt c (width catalog p) && determined catalog p s c)
  finished b d old mid new lefts others rights next off out at g h c =
      let l = to-left b false old mid lefts others off g in
      let r = to-right d false mid new rights next out h in
      let none = not-asked catalog (width catalog p) (left_input catalog p) old mid lefts others l in
      let never = not-asked catalog (width catalog p) (right_input catalog p) mid new rights next r in
      let P : Columns → Type 0 = λ x. Asked catalog (width catalog p) (left_input catalog p) false old x lefts others in
      let Q : Option Columns → Type 0 = λ o. Asked catalog (width catalog p) (left_input catalog p) false old old lefts o in
      let R : Columns → Type 0 = λ x. Asked catalog (width catalog p) (right_input catalog p) false mid x rights next in
      let S : Option Columns → Type 0 = λ o. Asked catalog (width catalog p) (right_input catalog p) false mid mid rights o in
      let T : Columns → Type 0 = λ x. Asked catalog (width catalog p) (right_input catalog p) false x x rights rights in
      ap (λ x. x c) (never.0 ∙ none.0)
      ∙ ends catalog facts p known s old lefts rights at (subst Q none.1 (subst P none.0 l)) (subst T none.0 (subst S never.1 (subst R never.0 r))) c
