-- The part of joined rows tells each part that is shown of them.
use Rattle.std.proofs.Common.{◌≡◌, ◌∙◌, ℕ, ◌+◌, ◌-◌, ◌<◌, ◌≤◌, ◌==◌, nat_lt, nat_le, Bool, true, false, cond, not, ◌&&◌, ◌||◌, ⊎_elim, List, [], ◌∷◌, ◌++◌, Option, Some, None, refl, ap, ap₂, sym, subst, arith, true≢false}
use Rattle.std.specs.List.{list_any, list_all}
use Rattle.std.proofs.Math.Bool.{and-false}
use Rattle.std.proofs.lemmas.Bool.{eqb-true}
use Rattle.std.proofs.lemmas.Bool.Decides.{nat_tests}
use Rattle.std.proofs.lemmas.List.Folds.{list_any-append}
use Rattle.vx_rows_values.proofs.Booleans.{and-left, and-right, and-both}
use Rattle.vx_catalog_relations.specs.Catalog.{all_below}
use Rattle.vx_plan_nodes.specs.Plan.{Part, one, any, all, routed}
use Rattle.vx_plan_nodes.specs.Types.{part_columns}
use Rattle.vx_plan_nodes.specs.Describe.{Copying, whole_rows, left_of, right_of, paired_on, source}
use Rattle.vx_plan_facts.specs.Equal.{Equality}
use Rattle.vx_plan_facts.specs.Determined.{column_in}
use Rattle.vx_plan_facts.proofs.Tests.{or-cases, any-first, any-more}
use Rattle.vx_plan_facts.proofs.ColumnSets.{any-at}
use Rattle.vx_check_rules.specs.Rules.{numbers_eq, route_eq, part_gives, if_some, has_pair, all_pairs, routed_alike, cons_both}
use Rattle.vx_check_rules.specs.Behaviour.{sources, Way, way, if_so, gives, ways_over}
use Rattle.vx_check_rules.specs.Derived.{has_pair_equally, all_pairs_equally, routed_alike_equally, stands_for, stand_for, routed_as, is_any}
use Rattle.vx_check_shown.specs.ShownPart.{part_carried, part_of_join, is_all}
use Rattle.vx_check_shown.specs.PartLaws.{told}
use Rattle.vx_check_shown.proofs.Equivalent.{IsEquivalence}
use Rattle.vx_check_shown.proofs.StandFacts.{is-below, Lifts, copied}
use Rattle.vx_check_shown.proofs.ToldParts.{numbers-are, route-joins, carried-any, carried-tells, gives-as, way-tells, whole-gives}

-- ---- columns of either side

pub left-source : (v a : ℕ) → a < v → source (left_of v) a ≡ Some a
left-source v a l = ap (λ b. cond b (Some a) None) (below a v l)
  where
    below : (a v : ℕ) → a < v → nat_lt a v ≡ true
    below a v l = grind (arith, nat_tests)

pub right-source : (v b : ℕ) → source (right_of v) (v + b) ≡ Some b
right-source v b = ap (λ t. cond t (Some (v + b - v)) None) (behind v b) ∙ ap Some (back v b)
  where
    behind : (v b : ℕ) → nat_le v (v + b) ≡ true
    behind v b = grind (arith, nat_tests)

    back : (v b : ℕ) → v + b - v ≡ b
    back v b = omega arith

left-sources : (v : ℕ) (ds : List ℕ) → all_below v ds ≡ true → sources (left_of v) ds ≡ Some ds
left-sources v [] l = refl
left-sources v (d ∷ ds) l =
    ap₂ cons_both (left-source v d (is-below d v (and-left (nat_lt d v) (all_below v ds) l))) (left-sources v ds (and-right (nat_lt d v) (all_below v ds) l))

source-of : (f : Equality) (o : Option ℕ) (x : ℕ) → column_in (λ y. f y x) o ≡ true → (y : ℕ) × (o ≡ Some y) × (f y x ≡ true)
source-of f None x h = cc
source-of f (Some y) x h = (y, refl, h)

-- ---- inputs that are routed alike

module _ (e f : Equality) (is : IsEquivalence e) (it : IsEquivalence f) (on : List (ℕ × ℕ)) where
  pair-more : (a b : ℕ) → has_pair on a b ≡ true → has_pair_equally e f on a b ≡ true
  pair-more a b h =
      any-more (λ p. (p.0 == a) && (p.1 == b)) (λ p. e a p.0 && f b p.1)
      (λ p k. and-both (e a p.0) (f b p.1)
      (subst (λ x. e a x ≡ true) (sym (eqb-true p.0 a (and-left (p.0 == a) (p.1 == b) k))) (is.itself a))
      (subst (λ x. f b x ≡ true) (sym (eqb-true p.1 b (and-right (p.0 == a) (p.1 == b) k))) (it.itself b))) on h

  pairs-more : (ls rs : List ℕ) → all_pairs on ls rs ≡ true → all_pairs_equally e f on ls rs ≡ true
  pairs-more [] [] h = refl
  pairs-more [] (b ∷ bs) h = cc
  pairs-more (a ∷ as') [] h = cc
  pairs-more (a ∷ as') (b ∷ bs) h =
      and-both (has_pair_equally e f on a b) (all_pairs_equally e f on as' bs) (pair-more a b (and-left (has_pair on a b) (all_pairs on as' bs) h))
      (pairs-more as' bs (and-right (has_pair on a b) (all_pairs on as' bs) h))

  pub alike-more : (x y : Part) → routed_alike on x y ≡ true → routed_alike_equally e f on x y ≡ true
  alike-more one y h = cc
  alike-more any y h = cc
  alike-more all y h = cc
  alike-more (routed r ls) one h = cc
  alike-more (routed r ls) any h = cc
  alike-more (routed r ls) all h = cc
  alike-more (routed r ls) (routed s rs) h =
      and-both (route_eq r s) (all_pairs_equally e f on ls rs) (and-left (route_eq r s) (all_pairs on ls rs) h) (pairs-more ls rs (and-right (route_eq r s) (all_pairs on ls rs) h))

module _ (v w : ℕ) (wide : v ≤ w) (e f g : Equality) (is : IsEquivalence e) (it : IsEquivalence f) (out : IsEquivalence g)
    (left : Lifts (left_of v) e g) (right : Lifts (right_of v) f g) (on : List (ℕ × ℕ)) (joined : list_all (λ p. nat_lt p.0 v && g p.0 (v + p.1)) on ≡ true) where
  record Paired (a b : ℕ) : Type 0 where
    first : ℕ
    second : ℕ
    left_equal : e a first ≡ true
    right_equal : f b second ≡ true
    there : first < v
    equal : g first (v + second) ≡ true

  pair-of : (a b : ℕ) (ps : List (ℕ × ℕ)) → list_any (λ p. e a p.0 && f b p.1) ps ≡ true → list_all (λ p. nat_lt p.0 v && g p.0 (v + p.1)) ps ≡ true → Paired a b
  pair-of a b [] h k = cc
  pair-of a b (p ∷ ps) h k =
      let here = and-left (nat_lt p.0 v && g p.0 (v + p.1)) (list_all (λ q. nat_lt q.0 v && g q.0 (v + q.1)) ps) k in
      ⊎_elim
      (λ l. record {
        first = p.0;
        second = p.1;
        left_equal = and-left (e a p.0) (f b p.1) l;
        right_equal = and-right (e a p.0) (f b p.1) l;
        there = is-below p.0 v (and-left (nat_lt p.0 v) (g p.0 (v + p.1)) here);
        equal = and-right (nat_lt p.0 v) (g p.0 (v + p.1)) here;
      })
      (λ r. pair-of a b ps r (and-right (nat_lt p.0 v && g p.0 (v + p.1)) (list_all (λ q. nat_lt q.0 v && g q.0 (v + q.1)) ps) k))
      (or-cases (e a p.0 && f b p.1) (list_any (λ q. e a q.0 && f b q.1) ps) h)

  -- what stands for a right column stands for the left one that it is joined with
  cross-one : (a b d : ℕ) → a < v → has_pair_equally e f on a b ≡ true → stands_for w (right_of v) f g d b ≡ true → stands_for w (left_of v) e g d a ≡ true
  cross-one a b d l h s =
      let u = any-first (λ x. g x d && copied (right_of v) f b x) w s in
      let y = source-of f (source (right_of v) u.0) b (and-right (g u.0 d) (copied (right_of v) f b u.0) u.2) in
      let p = pair-of a b on h joined in
      let near : g a p.first ≡ true = left a p.first a p.first (left-source v a l) (left-source v p.first p.there) p.left_equal in
      let far : g u.0 (v + p.second) ≡ true = right u.0 (v + p.second) y.0 p.second y.1 (right-source v p.second) (it.chain y.0 b p.second y.2 p.right_equal) in
      let over : g a u.0 ≡ true = out.chain a (v + p.second) u.0 (out.chain a p.first (v + p.second) near p.equal) (out.swap u.0 (v + p.second) far) in
      any-at (λ x. g x d && copied (left_of v) e a x) w a (omega (arith, l, wide))
      (and-both (g a d) (copied (left_of v) e a a) (out.chain a u.0 d over (and-left (g u.0 d) (copied (right_of v) f b u.0) u.2))
      (ap (column_in (λ z. e z a)) (left-source v a l) ∙ is.itself a))

  cross-list : (ls rs ds : List ℕ) → all_below v ls ≡ true → all_pairs_equally e f on ls rs ≡ true → stand_for w (right_of v) f g ds rs ≡ true → stand_for w (left_of v) e g ds ls ≡ true
  cross-list [] [] ds l h s = go ds s
    where
      go : (ds : List ℕ) → stand_for w (right_of v) f g ds [] ≡ true → stand_for w (left_of v) e g ds [] ≡ true
      go [] s = refl
      go (d ∷ ds) s = cc
  cross-list [] (b ∷ bs) ds l h s = cc
  cross-list (a ∷ as') [] ds l h s = cc
  cross-list (a ∷ as') (b ∷ bs) [] l h s = cc
  cross-list (a ∷ as') (b ∷ bs) (d ∷ ds) l h s =
      and-both (stands_for w (left_of v) e g d a) (stand_for w (left_of v) e g ds as')
      (cross-one a b d (is-below a v (and-left (nat_lt a v) (all_below v as') l)) (and-left (has_pair_equally e f on a b) (all_pairs_equally e f on as' bs) h)
      (and-left (stands_for w (right_of v) f g d b) (stand_for w (right_of v) f g ds bs) s))
      (cross-list as' bs ds (and-right (nat_lt a v) (all_below v as') l) (and-right (has_pair_equally e f on a b) (all_pairs_equally e f on as' bs) h)
      (and-right (stands_for w (right_of v) f g d b) (stand_for w (right_of v) f g ds bs) s))

  cross : (x y q : Part) → all_below v (part_columns x) ≡ true → routed_alike_equally e f on x y ≡ true → routed_as w (right_of v) f g y q ≡ true → routed_as w (left_of v) e g x q ≡ true
  cross one y q l h s = cc
  cross any y q l h s = cc
  cross all y q l h s = cc
  cross (routed r ls) one q l h s = cc
  cross (routed r ls) any q l h s = cc
  cross (routed r ls) all q l h s = cc
  cross (routed r ls) (routed s rs) one l h t = cc
  cross (routed r ls) (routed s rs) any l h t = cc
  cross (routed r ls) (routed s rs) all l h t = cc
  cross (routed r ls) (routed s rs) (routed t ds) l h k =
      and-both (route_eq r t) (stand_for w (left_of v) e g ds ls)
      (route-joins r s t (and-left (route_eq r s) (all_pairs_equally e f on ls rs) h) (and-left (route_eq s t) (stand_for w (right_of v) f g ds rs) k))
      (cross-list ls rs ds l (and-right (route_eq r s) (all_pairs_equally e f on ls rs) h) (and-right (route_eq s t) (stand_for w (right_of v) f g ds rs) k))

  -- ---- the part of the join

  abbrev joint : Part → Part → Part
  joint x y = part_of_join w (left_of v) (right_of v) e f x y

  pub pick-left : (x y q : Part) → (is_all x && not (is_all y)) ≡ false → told g (part_carried w (left_of v) e x) q ≡ true → told g (joint x y) q ≡ true
  pick-left x y q h t = subst (λ b. told g (cond b (part_carried w (right_of v) f y) (part_carried w (left_of v) e x)) q ≡ true) (sym h) t

  pub pick-right : (x y q : Part) → (is_all x && not (is_all y)) ≡ true → told g (part_carried w (right_of v) f y) q ≡ true → told g (joint x y) q ≡ true
  pick-right x y q h t = subst (λ b. told g (cond b (part_carried w (right_of v) f y) (part_carried w (left_of v) e x)) q ≡ true) (sym h) t

  alike-some : (x y : Part) → routed_alike_equally e f on x y ≡ true → (is_all x && not (is_all y)) ≡ false
  alike-some one y h = cc
  alike-some any y h = cc
  alike-some all y h = cc
  alike-some (routed r ls) y h = refl

  alike-any : (x y : Part) → routed_alike_equally e f on x y ≡ true → part_gives x any ≡ true
  alike-any one y h = cc
  alike-any any y h = cc
  alike-any all y h = cc
  alike-any (routed r ls) y h = refl

  as-some : (x q : Part) (k : Copying) (d : Equality) → routed_as w k d g x q ≡ true → is_all x ≡ false
  as-some one q k d h = cc
  as-some any q k d h = cc
  as-some all q k d h = cc
  as-some (routed r ls) q k d h = refl

  gives-all : (x : Part) → part_gives x all ≡ true → is_all x ≡ true
  gives-all one h = cc
  gives-all any h = cc
  gives-all all h = refl
  gives-all (routed r ls) h = cc

  -- a left input's own part
  whole-left : (x q : Part) → all_below v (part_columns x) ≡ true → gives (way whole_rows ((false, x) ∷ [])) q ≡ true → gives (way (left_of v) ((false, x) ∷ [])) q ≡ true
  whole-left x one l h = cc
  whole-left x any l h = h
  whole-left x all l h = h
  whole-left one (routed s ds) l h = absurd (true≢false (sym (whole-gives ((false, one) ∷ []) (routed s ds) h)))
  whole-left any (routed s ds) l h = absurd (true≢false (sym (whole-gives ((false, any) ∷ []) (routed s ds) h)))
  whole-left all (routed s ds) l h = absurd (true≢false (sym (whole-gives ((false, all) ∷ []) (routed s ds) h)))
  whole-left (routed r ls) (routed s ds) l h =
      let u = whole-gives ((false, routed r ls) ∷ []) (routed s ds) h in
      let there : ls ≡ ds = numbers-are ls ds (and-right (route_eq r s) (numbers_eq ls ds) (and-left (route_eq r s && numbers_eq ls ds) true u)) in
      ap (λ o. if_some o (λ cs. (route_eq r s && numbers_eq ls cs) && true)) (left-sources v ds (subst (λ c. all_below v c ≡ true) there l)) ∙ u

  by-alike : (x y q : Part) → all_below v (part_columns x) ≡ true → routed_alike_equally e f on x y ≡ true → gives (way (right_of v) ((false, y) ∷ [])) q ≡ true → all_below w (part_columns q) ≡ true
      → told g (joint x y) q ≡ true
  by-alike x y one l h k m = cc
  by-alike x y any l h k m = pick-left x y any (alike-some x y h) (carried-any w (left_of v) e g is out left x (alike-any x y h))
  by-alike one y all l h k m = cc
  by-alike any y all l h k m = cc
  by-alike all y all l h k m = cc
  by-alike (routed r ls) one all l h k m = cc
  by-alike (routed r ls) any all l h k m = cc
  by-alike (routed r ls) all all l h k m = cc
  by-alike (routed r ls) (routed s rs) all l h k m = cc
  by-alike x y (routed t ds) l h k m =
      pick-left x y (routed t ds) (alike-some x y h)
      (carried-tells w (left_of v) e g is out left x (routed t ds) (cross x y (routed t ds) l h (gives-as w (right_of v) f g it out right y t ds k m)))

  -- where the left input has all rows
  by-right : (x y q : Part) → part_gives x all ≡ true → gives (way (right_of v) ((false, y) ∷ [])) q ≡ true → all_below w (part_columns q) ≡ true → told g (joint x y) q ≡ true
  by-right x y q h k m = go (is_all y) refl
    where
      all-is : (x : Part) → is_all x ≡ true → x ≡ all
      all-is one h = cc
      all-is any h = cc
      all-is all h = refl
      all-is (routed r ls) h = cc

      both-all : (q : Part) → gives (way (right_of v) ((false, all) ∷ [])) q ≡ true → told g all q ≡ true
      both-all one h = cc
      both-all any h = cc
      both-all all h = refl
      both-all (routed t ds) h = absurd (none (sources (right_of v) ds) h)
        where
          none : (o : Option (List ℕ)) → if_some o (λ cs. false && true) ≡ true → ⊥
          none None h = true≢false (sym h)
          none (Some cs) h = true≢false (sym h)

      go : (b : Bool) → is_all y ≡ b → told g (joint x y) q ≡ true
      go false t = pick-right x y q (and-both (is_all x) (not (is_all y)) (gives-all x h) (ap not t)) (way-tells w (right_of v) f g it out right y q k m)
      go true t =
          let y_is : y ≡ all = all-is y t in
          let x_is : x ≡ all = all-is x (gives-all x h) in
          subst (λ a. told g (joint a y) q ≡ true) (sym x_is) (subst (λ b. told g (joint all b) q ≡ true) (sym y_is) (both-all q (subst (λ b. gives (way (right_of v) ((false, b) ∷ [])) q ≡ true) y_is k)))

  by-left : (x y q : Part) → part_gives y all ≡ true → gives (way (left_of v) ((false, x) ∷ [])) q ≡ true → all_below w (part_columns q) ≡ true → told g (joint x y) q ≡ true
  by-left x y q h k m =
      pick-left x y q (ap (λ b. is_all x && not b) (gives-all y h) ∙ and-false (is_all x)) (way-tells w (left_of v) e g is out left x q k m)

  any-so : (b : Bool) (test : Way → Bool) (ways : List Way) → list_any test (if_so b ways) ≡ true → (b ≡ true) × (list_any test ways ≡ true)
  any-so true test ways h = (refl, h)
  any-so false test ways h = cc

  or-end : (a : Bool) → (a || false) ≡ true → a ≡ true
  or-end true h = refl
  or-end false h = cc

  -- by the ways of the first table
  pub ways-tell : (x y q : Part) → all_below v (part_columns x) ≡ true → all_below w (part_columns q) ≡ true
      → list_any (λ i. gives i q) (ways_over (paired_on on) (record { left = left_of v; right = right_of v; meeting = paired_on on }) (false, x) (false, y)) ≡ true → told g (joint x y) q ≡ true
  ways-tell x y q l m h =
      let test : Way → Bool = λ i. gives i q in
      let a : List Way = if_so (routed_alike on x y) (way whole_rows ((false, x) ∷ []) ∷ way (right_of v) ((false, y) ∷ []) ∷ []) in
      let b : List Way = if_so (part_gives y all) (way (left_of v) ((false, x) ∷ []) ∷ []) in
      let c : List Way = if_so (part_gives x all) (way (right_of v) ((false, y) ∷ []) ∷ []) in
      ⊎_elim
      (λ u. let t = any-so (routed_alike on x y) test (way whole_rows ((false, x) ∷ []) ∷ way (right_of v) ((false, y) ∷ []) ∷ []) u in
      let alike = alike-more e f is it on x y t.0 in
      ⊎_elim
      (λ i. pick-left x y q (alike-some x y alike) (way-tells w (left_of v) e g is out left x q (whole-left x q l i) m))
      (λ i. by-alike x y q l alike (or-end (gives (way (right_of v) ((false, y) ∷ [])) q) i) m)
      (or-cases (gives (way whole_rows ((false, x) ∷ [])) q) (gives (way (right_of v) ((false, y) ∷ [])) q || false) t.1))
      (λ u. ⊎_elim
      (λ i. let t = any-so (part_gives y all) test (way (left_of v) ((false, x) ∷ []) ∷ []) i in by-left x y q t.0 (or-end (gives (way (left_of v) ((false, x) ∷ [])) q) t.1) m)
      (λ i. let t = any-so (part_gives x all) test (way (right_of v) ((false, y) ∷ []) ∷ []) i in by-right x y q t.0 (or-end (gives (way (right_of v) ((false, y) ∷ [])) q) t.1) m)
      (or-cases (list_any test b) (list_any test c) (sym (list_any-append test b c) ∙ u)))
      (or-cases (list_any test a) (list_any test (b ++ c)) (sym (list_any-append test a (b ++ c)) ∙ h))

  -- and by equal columns
  pub alike-tells : (x y q : Part) → (is_any q && routed_alike_equally e f on x y) ≡ true → told g (joint x y) q ≡ true
  alike-tells x y one h = cc
  alike-tells x y any h = pick-left x y any (alike-some x y h) (carried-any w (left_of v) e g is out left x (alike-any x y h))
  alike-tells x y all h = cc
  alike-tells x y (routed t ds) h = cc

  pub left-tells : (x y q : Part) → routed_as w (left_of v) e g x q ≡ true → told g (joint x y) q ≡ true
  left-tells x y q h = pick-left x y q (ap (λ b. b && not (is_all y)) (as-some x q (left_of v) e h)) (carried-tells w (left_of v) e g is out left x q h)

  pub right-tells : (x y q : Part) → part_gives x all ≡ true → routed_as w (right_of v) f g y q ≡ true → told g (joint x y) q ≡ true
  right-tells x y q h k =
      pick-right x y q (and-both (is_all x) (not (is_all y)) (gives-all x h) (ap not (as-some y q (right_of v) f k))) (carried-tells w (right_of v) f g it out right y q k)

  pub cross-tells : (x y q : Part) → all_below v (part_columns x) ≡ true → routed_alike_equally e f on x y ≡ true → routed_as w (right_of v) f g y q ≡ true → told g (joint x y) q ≡ true
  cross-tells x y q l h k = left-tells x y q (cross x y q l h k)
