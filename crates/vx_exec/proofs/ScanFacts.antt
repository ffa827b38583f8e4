-- The spans of scans, by the scans' numbers.
use Rattle.std.proofs.Common.{◌≡◌, ℕ, zero, suc, ◌+◌, ◌<◌, ◌==◌, ◌&&◌, ◌⊎◌, inl, inr, true, cond, List, [], ◌∷◌, ◌++◌, length, Some, slice_get, get_or, refl, sym, ap, ◌∙◌, subst, arith, ne_eqb}
use Rattle.std.proofs.lemmas.Bool.{le-ltb, lt-ltb, ltb-true}
use Rattle.std.proofs.lemmas.Option.{slice_get-get_or}
use Rattle.vx_catalog_relations.specs.Relation.{Relation}
use Rattle.vx_plan_nodes.specs.Plan.{Plan, scan, unary, binary, exchange, number, size}
use Rattle.vx_plan_nodes.specs.Numbering.{nodes, is_numbered, relation_in}
use Rattle.vx_plan_nodes.specs.Streams.{workers}
use Rattle.vx_plan_nodes.specs.Typed.{Scope, typed}
use Rattle.vx_plan_nodes.specs.Types.{types_of}
use Rattle.vx_plan_nodes.specs.Workers.{workers_below}
use Rattle.vx_exec_laws.proofs.Bags.{and-left, and-right}
use Rattle.vx_exec_laws.proofs.Layouts.{number-is}
use Rattle.vx_exec_layout.specs.Layout.{spans_of}
use Rattle.vx_exec_layout.proofs.Spans.{spans-count}
use Rattle.vx_exec_layout.specs.declared.span.NodeSpan.{NodeSpan}
use Rattle.vx_exec_layout.specs.declared.span.NodeSpan.TheVariants.{Scan}
use Rattle.vx_exec_layout.specs.declared.span.ScanSpan.{ScanSpan}
use Rattle.vx_exec.specs.LeafTypes.{leaf_types}

-- the scan with this number reads this relation of the catalog
pub record IsReadAt (catalog : ℕ → Relation) (s : Scope) (p : Plan) (n r : ℕ) : Type 0 where
  pub relation : relation_in p n ≡ r
  pub types : leaf_types catalog p n ≡ (catalog r).types
  pub there : r < length s.catalog

-- what stands in one list behind another stands in the first or in the second
get-split : {A : Type 0} (xs ys : List A) (k : ℕ) (x : A) → slice_get (xs ++ ys) k ≡ Some x
    → ((k < length xs) × (slice_get xs k ≡ Some x)) ⊎ ((m : ℕ) × (k ≡ length xs + m) × (slice_get ys m ≡ Some x))
get-split [] ys k x h = let e : k ≡ 0 + k = omega arith in inr (k, e, h)
get-split (y ∷ xs) ys zero x h = inl (omega arith, h)
get-split (y ∷ xs) ys (suc k) x h = elim (get-split xs ys k x h) [
  | inl a ↦ inl (omega (arith, a.0), a.1)
  | inr b ↦ let e : suc k ≡ suc (length xs) + b.0 = omega (arith, b.1) in inr (b.0, e, b.2)
]

module _ (catalog : ℕ → Relation) (s : Scope) (sizes : ℕ → ℕ) (z : ScanSpan) where
  pub span-read : (p : Plan) (i top next k : ℕ) → is_numbered i p ≡ true → typed s p ≡ true → slice_get (spans_of sizes p top next) k ≡ Some (Scan z) → IsReadAt catalog s p (i + k) z.relation
  span-read (scan n c r m w) i top next zero h t e =
      let same : r ≡ z.relation = cc in
      subst (λ v. IsReadAt catalog s (scan n c r m w) (i + zero) v) same (record { relation = refl; types = refl; there = ltb-true r (length s.catalog) (and-left _ _ t) })
  span-read (scan n c r m w) i top next (suc k) h t e = absurd (cc)
  span-read (unary n c op p) i top next zero h t e = absurd (cc)
  span-read (unary n c op p) i top next (suc k) h t e =
      let at = span-read p (suc i) top next k (and-right (n == i) (is_numbered (suc i) p) h) (and-left (typed s p) _ t) e in
      let same : suc i + k ≡ i + suc k = omega arith in
      subst (λ v. IsReadAt catalog s (unary n c op p) v z.relation) same (record { relation = at.relation; types = at.types; there = at.there })
  span-read (binary n c op p q) i top next zero h t e = absurd (cc)
  span-read (binary n c op p q) i top next (suc k) h t e =
      let both = and-right (n == i) (is_numbered (suc i) p && is_numbered (suc i + nodes p) q) h in
      let hp = and-left (is_numbered (suc i) p) (is_numbered (suc i + nodes p) q) both in
      let hq = and-right (is_numbered (suc i) p) (is_numbered (suc i + nodes p) q) both in
      let at : number q ≡ suc i + nodes p = number-is (suc i + nodes p) q hq in
      let count = spans-count sizes p top next in
      elim (get-split (spans_of sizes p top next) (spans_of sizes q top (next + workers_below sizes p)) k (Scan z) e) [
        | inl l ↦
            let there = span-read p (suc i) top next k hp (and-left (typed s p) _ t) l.1 in
            let same : suc i + k ≡ i + suc k = omega arith in
            let left = lt-ltb (i + suc k) (number q) (omega (arith, at, count, l.0)) in
            record {
              relation = ap (λ b. cond b (relation_in p (i + suc k)) (relation_in q (i + suc k))) left ∙ ap (relation_in p) (sym same) ∙ there.relation;
              types = ap (λ b. cond b (leaf_types catalog p (i + suc k)) (leaf_types catalog q (i + suc k))) left ∙ ap (leaf_types catalog p) (sym same) ∙ there.types;
              there = there.there;
            }
        | inr r ↦
            let there = span-read q (suc i + nodes p) top (next + workers_below sizes p) r.0 hq (and-left (typed s q) _ (and-right (typed s p) _ t)) r.2 in
            let same : suc i + nodes p + r.0 ≡ i + suc k = omega (arith, count, r.1) in
            let right = le-ltb (i + suc k) (number q) (omega (arith, at, same)) in
            record {
              relation = ap (λ b. cond b (relation_in p (i + suc k)) (relation_in q (i + suc k))) right ∙ ap (relation_in q) (sym same) ∙ there.relation;
              types = ap (λ b. cond b (leaf_types catalog p (i + suc k)) (leaf_types catalog q (i + suc k))) right ∙ ap (leaf_types catalog q) (sym same) ∙ there.types;
              there = there.there;
            }
      ]
  span-read (exchange n c x m p) i top next zero h t e = absurd (cc)
  span-read (exchange n c x m p) i top next (suc k) h t e =
      let own : n ≡ i = number-is i (exchange n c x m p) h in
      let at = span-read p (suc i) next (next + workers sizes (size p)) k (and-right (n == i) (is_numbered (suc i) p) h) (and-left (typed s p) _ t) e in
      let same : suc i + k ≡ i + suc k = omega arith in
      let other = ne_eqb (i + suc k) n (λ g. omega (arith, own, g)) in
      record {
        relation = ap (relation_in p) (sym same) ∙ at.relation;
        types = ap (λ b. cond b (types_of catalog p) (leaf_types catalog p (i + suc k))) other ∙ ap (leaf_types catalog p) (sym same) ∙ at.types;
        there = at.there;
      }

-- what a list that is the layout's spans says of a number
pub span-at : (catalog : ℕ → Relation) (s : Scope) (sizes : ℕ → ℕ) (p : Plan) (lent : List NodeSpan) (o : NodeSpan) (z : ScanSpan) (n : ℕ) → is_numbered 0 p ≡ true → typed s p ≡ true
    → lent ≡ spans_of sizes p 0 1 → n < length lent → o ≡ get_or lent n o → o ≡ Scan z → IsReadAt catalog s p n z.relation
span-at catalog s sizes p lent o z n h t same within is e =
    let there : slice_get lent n ≡ Some (Scan z) = slice_get-get_or lent n o within ∙ ap (λ (v : NodeSpan). Some v) (sym is ∙ e) in
    let at : 0 + n ≡ n = omega arith in
    subst (λ k. IsReadAt catalog s p k z.relation) at (span-read catalog s sizes z p 0 0 1 n h t (subst (λ (xs : List NodeSpan). slice_get xs n ≡ Some (Scan z)) same there))
