-- The part that a node shows passes the test of its part.
use Rattle.std.proofs.Common.{◌≡◌, ◌∙◌, ℕ, ◌+◌, Bool, true, false, cond, not, ◌&&◌, ◌||◌, ◌⊎◌, inl, inr, ⊎_elim, List, [], ◌∷◌, Option, Some, None, refl, ap, ap₂, sym, subst, true≢false}
use Rattle.std.specs.List.{list_any}
use Rattle.vx_rows_values.specs.declared.order.OrderEntry.{OrderEntry}
use Rattle.vx_rows_values.proofs.Booleans.{and-left, and-right, and-both}
use Rattle.vx_catalog_relations.specs.Relation.{Relation}
use Rattle.vx_catalog_relations.specs.Catalog.{relation_at}
use Rattle.vx_plan_nodes.specs.Plan.{Route, Part, one, any, all, routed, Claim, claim, Condition, Unary, JoinMethod, union, join, semi_join, ExchangeKind, route_to, round, broadcast, gather, concat, Plan, scan, unary, binary, exchange, size, is_one, target}
use Rattle.vx_plan_nodes.specs.Parts.{kind_part}
use Rattle.vx_plan_nodes.specs.Types.{width}
use Rattle.vx_plan_nodes.specs.Describe.{Copying, whole_rows, left_of, right_of, described}
use Rattle.vx_plan_facts.specs.Equal.{Equality, equal_at}
use Rattle.vx_plan_facts.specs.Following.{equal_lists}
use Rattle.vx_plan_facts.proofs.Tests.{or-cases, or-left, or-right}
use Rattle.vx_check_rules.specs.Rules.{route_eq, part_gives, sizes_match, inputs_match, shows, unless_one, has, routed_alike}
use Rattle.vx_check_rules.specs.Behaviour.{routed_at, way, own, gives, ways_if_fit}
use Rattle.vx_check_rules.specs.Derived.{part_matches, stand_for, routed_as, routed_alike_equally, inputs_match_derived, part_derived}
use Rattle.vx_check_options.proofs.Telling.{route-self}
use Rattle.vx_check_shown.specs.ShownPart.{stand_ins, part_carried, common_columns, is_all, routed_in_common, apart, part_apart, part_over}
use Rattle.vx_check_shown.specs.PartLaws.{left_part, right_part, is_of_one, inputs_spread, passes, PartShown}
use Rattle.vx_check_shown.proofs.Equivalent.{IsEquivalence, equal-equivalence}
use Rattle.vx_check_shown.proofs.StandFacts.{ins-stand, stand-equally, commons-equal}
use Rattle.vx_check_shown.proofs.Apart.{apart-is}
use Rattle.vx_check_shown.proofs.ToldParts.{route-is, lists-chain, lists-within}
use Rattle.vx_check_shown.proofs.JoinedParts.{alike-more}
use Rattle.vx_check_shown.proofs.NodeParts.{both-several}
use Rattle.vx_check_shown.proofs.MostParts.{shown-ways}

-- what holds of any part, and of a route on columns that are equal to these, holds of the route on these set apart
apart-made : (w : ℕ) (g : Equality) → IsEquivalence g → (P : Part → Type 0) (r : Route) (cs : List ℕ) → P any → ((ts : List ℕ) → equal_lists g cs ts ≡ true → P (routed r ts))
    → (o : Option (List ℕ)) → apart w g [] cs ≡ o → P (routed_at r o)
apart-made w g is P r cs here there None h = here
apart-made w g is P r cs here there (Some ts) h =
    let m = apart-is w g is cs [] ts h in
    there ts (subst (λ v. equal_lists g cs v ≡ true) (sym m.is_made) m.alike)

apart-cases : (w : ℕ) (g : Equality) → IsEquivalence g → (P : Part → Type 0) (r : Route) (o : Option (List ℕ)) → P any
    → ((cs ts : List ℕ) → o ≡ Some cs → equal_lists g cs ts ≡ true → P (routed r ts)) → P (part_apart w g (routed_at r o))
apart-cases w g is P r None here there = here
apart-cases w g is P r (Some cs) here there = apart-made w g is P r cs here (λ ts h. there cs ts refl h) (apart w g [] cs) refl

-- a part that is carried up, by what holds of its kinds
carried-cases : (w : ℕ) (k : Copying) (e g : Equality) → IsEquivalence e → IsEquivalence g → (P : Part → Type 0) (x : Part) → is_of_one x ≡ false
    → (part_gives x any ≡ true → P any) → (part_gives x all ≡ true → P all) → ((r : Route) (ts : List ℕ) → routed_as w k e g x (routed r ts) ≡ true → P (routed r ts))
    → P (part_apart w g (part_carried w k e x))
carried-cases w k e g is out P one spread some every there = absurd (true≢false spread)
carried-cases w k e g is out P any spread some every there = some refl
carried-cases w k e g is out P all spread some every there = every refl
carried-cases w k e g is out P (routed r xs) spread some every there =
    apart-cases w g out P r (stand_ins w k e xs) (some refl)
    (λ cs ts h near. there r ts (and-both (route_eq r r) (stand_for w k e g ts xs) (route-self r) (stand-equally w k e is g out cs ts xs (ins-stand w k e is g out xs cs h) near)))

not-true : (b : Bool) → not b ≡ true → b ≡ false
not-true true h = absurd (true≢false (sym h))
not-true false h = refl

or-alone : (b u : Bool) → b ≡ false → (b || u) ≡ true → u ≡ true
or-alone true u s h = absurd (true≢false s)
or-alone false u s h = h

-- ---- each node

-- a way gives any part, or all
alone-gives : (k : Copying) (b : Bool) (x : Part) → (part_gives x any ≡ true → gives (way k ((b, x) ∷ [])) any ≡ true) × (part_gives x all ≡ true → gives (way k ((b, x) ∷ [])) all ≡ true)
alone-gives k b x = (
  λ h. and-both (b || part_gives x any) true (or-right b (part_gives x any) h) refl,
  λ h. and-both (b || part_gives x all) true (or-right b (part_gives x all) h) refl,
)

module _ (catalog : List Relation) (n : ℕ) (c : Claim) where
  abbrev at : ℕ → Relation
  at = relation_at catalog

  by-way : (top : Plan) (q : Part) → is_one (size top) ≡ false → list_any (λ w. gives w q) (ways_if_fit at top) ≡ true → passes at top q ≡ true
  by-way top q several h = or-left (unless_one (shows at top) q) (part_derived at top q) (shown-ways at top q several ∙ h)

  by-equal : (top : Plan) (q : Part) → part_derived at top q ≡ true → passes at top q ≡ true
  by-equal top q h = or-right (unless_one (shows at top) q) (part_derived at top q) h

  unary-shown : (op : Unary) (p : Plan) → is_one (size p) ≡ false → is_of_one (claim p).part ≡ false
      → passes at (unary n c op p) (part_apart (width at (unary n c op p)) (equal_at at (unary n c op p)) (part_over at (unary n c op p) (claim p).part any)) ≡ true
  unary-shown op p several spread =
      let top : Plan = unary n c op p in
      let k = (described op).copying in
      let x = (claim p).part in
      let g = alone-gives k (is_one (size p)) x in
      carried-cases (width at top) k (equal_at at p) (equal_at at top) (equal-equivalence at p) (equal-equivalence at top) (λ z. passes at top z ≡ true) x spread
      (λ h. by-way top any several (or-left (gives (way k (own p ∷ [])) any) false (g.0 h)))
      (λ h. by-way top all several (or-left (gives (way k (own p ∷ [])) all) false (g.1 h)))
      (λ r ts h. by-equal top (routed r ts) h)

  -- ---- rows side by side

  abbrev beside-any : Plan → Plan → Bool
  beside-any p q = has p any && has q any

  abbrev beside-all : Plan → Plan → Bool
  beside-all p q = has p all && has q all

  union-any : (p q : Plan) → is_one (size p) ≡ false → beside-any p q ≡ true → passes at (binary n c union p q) any ≡ true
  union-any p q several h =
      by-way (binary n c union p q) any several
      (or-left (has p any && (has q any && true)) false
      (and-both (has p any) (has q any && true) (and-left (has p any) (has q any) h) (and-both (has q any) true (and-right (has p any) (has q any) h) refl)))

  union-all : (p q : Plan) → is_one (size p) ≡ false → beside-all p q ≡ true → passes at (binary n c union p q) all ≡ true
  union-all p q several h =
      by-way (binary n c union p q) all several
      (or-left (has p all && (has q all && true)) false
      (and-both (has p all) (has q all && true) (and-left (has p all) (has q all) h) (and-both (has q all) true (and-right (has p all) (has q all) h) refl)))

  -- two routed parts are any
  side-by-side : (w : ℕ) (e f : Equality) → IsEquivalence e → IsEquivalence f → (P : Part → Type 0) (x y : Part) → P any
      → ((ts : List ℕ) (r : Route) → part_matches e x (routed r ts) ≡ true → part_matches f y (routed r ts) ≡ true → P (routed r ts))
      → P (part_apart w (λ a b. e a b && f a b) (routed_in_common w e f x y))
  side-by-side w e f is it P one y here there = here
  side-by-side w e f is it P any y here there = here
  side-by-side w e f is it P all y here there = here
  side-by-side w e f is it P (routed r as') one here there = here
  side-by-side w e f is it P (routed r as') any here there = here
  side-by-side w e f is it P (routed r as') all here there = here
  side-by-side w e f is it P (routed r as') (routed s bs) here there = go (route_eq r s) refl
    where
      g : Equality
      g a b = e a b && f a b

      out : IsEquivalence g
      out = record {
        itself = λ a. and-both (e a a) (f a a) (is.itself a) (it.itself a);
        swap = λ a b h. and-both (e b a) (f b a) (is.swap a b (and-left (e a b) (f a b) h)) (it.swap a b (and-right (e a b) (f a b) h));
        chain = λ a b d h k. and-both (e a d) (f a d) (is.chain a b d (and-left (e a b) (f a b) h) (and-left (e b d) (f b d) k))
            (it.chain a b d (and-right (e a b) (f a b) h) (and-right (e b d) (f b d) k));
      }

      go : (b : Bool) → route_eq r s ≡ b → P (part_apart w (λ a b. e a b && f a b) (cond b (routed_at r (common_columns w e f as' bs)) any))
      go false t = here
      go true t =
          apart-cases w (λ a b. e a b && f a b) out P r (common_columns w e f as' bs) here
          (λ cs ts h near.
          let u = commons-equal w e f is it as' bs cs h in
          let left = lists-within (λ a b. e a b && f a b) e (λ a b k. and-left (e a b) (f a b) k) cs ts near in
          let right = lists-within (λ a b. e a b && f a b) f (λ a b k. and-right (e a b) (f a b) k) cs ts near in
          there ts r (and-both (route_eq r r) (equal_lists e as' ts) (route-self r) (lists-chain e is as' cs ts u.0 left))
          (and-both (route_eq s r) (equal_lists f bs ts) (subst (λ v. route_eq v r ≡ true) (route-is r s t) (route-self r)) (lists-chain f it bs cs ts u.1 right)))

  all-is : (x : Part) → part_gives x all ≡ true → x ≡ all
  all-is one h = cc
  all-is any h = cc
  all-is all h = refl
  all-is (routed r cols) h = cc

  gives-all : (x : Part) → is_all x ≡ true → part_gives x all ≡ true
  gives-all one h = cc
  gives-all any h = cc
  gives-all all h = refl
  gives-all (routed r cols) h = cc

  union-shown : (p q : Plan) → is_one (size p) ≡ false → is_one (size q) ≡ false → inputs_match_derived at (binary n c union p q) ≡ true
      → passes at (binary n c union p q) (part_apart (width at p) (equal_at at (binary n c union p q)) (part_over at (binary n c union p q) (claim p).part (claim q).part)) ≡ true
  union-shown p q several beside h = go (is_all (claim p).part && is_all (claim q).part) refl
    where
      top : Plan
      top = binary n c union p q

      match : (beside-any p q || beside-all p q) ≡ true
      match = or-alone (is_one (size p)) (beside-any p q || beside-all p q) several (⊎_elim (λ l. l) (λ r. absurd (true≢false (sym r))) (or-cases (inputs_match (binary n c union p q)) false h))

      every : (is_all (claim p).part && is_all (claim q).part) ≡ true → beside-all p q ≡ true
      every t =
          and-both (has p all) (has q all) (or-right (is_one (size p)) (part_gives (claim p).part all) (gives-all (claim p).part (and-left (is_all (claim p).part) (is_all (claim q).part) t)))
          (or-right (is_one (size q)) (part_gives (claim q).part all) (gives-all (claim q).part (and-right (is_all (claim p).part) (is_all (claim q).part) t)))

      some : (is_all (claim p).part && is_all (claim q).part) ≡ false → beside-any p q ≡ true
      some t = ⊎_elim (λ l. l)
          (λ r. let x_is = all-is (claim p).part (or-alone (is_one (size p)) (part_gives (claim p).part all) several (and-left (has p all) (has q all) r)) in
          let y_is = all-is (claim q).part (or-alone (is_one (size q)) (part_gives (claim q).part all) beside (and-right (has p all) (has q all) r)) in
          absurd (true≢false (sym (ap₂ (λ a b. is_all a && is_all b) x_is y_is) ∙ t)))
          (or-cases (beside-any p q) (beside-all p q) match)

      go : (b : Bool) → (is_all (claim p).part && is_all (claim q).part) ≡ b
          → passes at (binary n c union p q) (part_apart (width at p) (equal_at at (binary n c union p q)) (cond b all (routed_in_common (width at p) (equal_at at p) (equal_at at q) (claim p).part (claim q).part))) ≡ true
      go true t = union-all p q several (every t)
      go false t =
          side-by-side (width at p) (equal_at at p) (equal_at at q) (equal-equivalence at p) (equal-equivalence at q) (λ z. passes at (binary n c union p q) z ≡ true) (claim p).part (claim q).part
          (union-any p q several (some t))
          (λ ts r l m. by-equal (binary n c union p q) (routed r ts) (and-both (part_matches (equal_at at p) (claim p).part (routed r ts)) (part_matches (equal_at at q) (claim q).part (routed r ts)) l m))

  -- ---- joined rows

  is-all : (x : Part) → part_gives x all ≡ true → is_all x ≡ true
  is-all one h = cc
  is-all any h = cc
  is-all all h = refl
  is-all (routed r cols) h = cc

  alike-any : (e f : Equality) (on : List (ℕ × ℕ)) (x y : Part) → routed_alike_equally e f on x y ≡ true → is_all x ≡ false
  alike-any e f on one y h = cc
  alike-any e f on any y h = cc
  alike-any e f on all y h = cc
  alike-any e f on (routed r cols) y h = refl

  module _ (m : JoinMethod) (on : List (ℕ × ℕ)) (p q : Plan) (several : is_one (size p) ≡ false) (beside : is_one (size q) ≡ false)
      (left_spread : is_of_one (claim p).part ≡ false) (right_spread : is_of_one (claim q).part ≡ false) where
    abbrev top : Plan
    top = binary n c (join m on) p q

    abbrev alike : Bool
    alike = routed_alike_equally (equal_at at p) (equal_at at q) on (claim p).part (claim q).part

    abbrev w : ℕ
    w = width at p + width at q

    by-shows : (z : Part) → unless_one (shows at top) z ≡ true → passes at top z ≡ true
    by-shows z h = or-left (unless_one (shows at top) z) (part_derived at top z) h

    has-of : (r : Plan) (z : Part) → part_gives (claim r).part z ≡ true → has r z ≡ true
    has-of r z h = or-right (is_one (size r)) (part_gives (claim r).part z) h

    -- of the left input, where the right one has all rows, or both are routed alike
    left-any : (part_gives (claim q).part all ≡ true) ⊎ (alike ≡ true) → part_gives (claim p).part any ≡ true → passes at top any ≡ true
    left-any (inl h) k =
        by-shows any (or-left ((routed_alike on (claim p).part (claim q).part && true) || (has q all && has p any)) (has p all && has q any)
        (or-right (routed_alike on (claim p).part (claim q).part && true) (has q all && has p any) (and-both (has q all) (has p any) (has-of q all h) (has-of p any k))))
    left-any (inr h) k =
        by-equal top any
        (or-left alike
        (((has q all || alike) && routed_as w (left_of (width at p)) (equal_at at p) (equal_at at top) (claim p).part any)
        || ((has p all || alike) && routed_as w (right_of (width at p)) (equal_at at q) (equal_at at top) (claim q).part any)) h)

    left-all : (part_gives (claim q).part all ≡ true) ⊎ (alike ≡ true) → part_gives (claim p).part all ≡ true → passes at top all ≡ true
    left-all (inl h) k =
        by-shows all (or-left ((routed_alike on (claim p).part (claim q).part && false) || (has q all && has p all)) (has p all && has q all)
        (or-right (routed_alike on (claim p).part (claim q).part && false) (has q all && has p all) (and-both (has q all) (has p all) (has-of q all h) (has-of p all k))))
    left-all (inr h) k = absurd (true≢false (sym (is-all (claim p).part k) ∙ alike-any (equal_at at p) (equal_at at q) on (claim p).part (claim q).part h))

    either-way : (part_gives (claim q).part all ≡ true) ⊎ (alike ≡ true) → (has q all || alike) ≡ true
    either-way (inl h) = or-left (has q all) alike (has-of q all h)
    either-way (inr h) = or-right (has q all) alike h

    on-left : (part_gives (claim q).part all ≡ true) ⊎ (alike ≡ true) → passes at top (part_apart w (equal_at at top) (part_carried w (left_of (width at p)) (equal_at at p) (claim p).part)) ≡ true
    on-left h =
        carried-cases w (left_of (width at p)) (equal_at at p) (equal_at at top) (equal-equivalence at p) (equal-equivalence at top) (λ z. passes at top z ≡ true) (claim p).part left_spread
        (left-any h) (left-all h)
        (λ r ts k. by-equal top (routed r ts)
        (or-left ((has q all || alike) && routed_as w (left_of (width at p)) (equal_at at p) (equal_at at top) (claim p).part (routed r ts))
        ((has p all || alike) && routed_as w (right_of (width at p)) (equal_at at q) (equal_at at top) (claim q).part (routed r ts))
        (and-both (has q all || alike) (routed_as w (left_of (width at p)) (equal_at at p) (equal_at at top) (claim p).part (routed r ts)) (either-way h) k)))

    -- of the right one, where the left one alone has all rows
    on-right : part_gives (claim p).part all ≡ true → is_all (claim q).part ≡ false
        → passes at top (part_apart w (equal_at at top) (part_carried w (right_of (width at p)) (equal_at at q) (claim q).part)) ≡ true
    on-right h other =
        carried-cases w (right_of (width at p)) (equal_at at q) (equal_at at top) (equal-equivalence at q) (equal-equivalence at top) (λ z. passes at top z ≡ true) (claim q).part right_spread
        (λ k. by-shows any (or-right ((routed_alike on (claim p).part (claim q).part && true) || (has q all && has p any)) (has p all && has q any)
        (and-both (has p all) (has q any) (has-of p all h) (has-of q any k))))
        (λ k. absurd (true≢false (sym (is-all (claim q).part k) ∙ other)))
        (λ r ts k. by-equal top (routed r ts)
        (or-right ((has q all || alike) && routed_as w (left_of (width at p)) (equal_at at p) (equal_at at top) (claim p).part (routed r ts))
        ((has p all || alike) && routed_as w (right_of (width at p)) (equal_at at q) (equal_at at top) (claim q).part (routed r ts))
        (and-both (has p all || alike) (routed_as w (right_of (width at p)) (equal_at at q) (equal_at at top) (claim q).part (routed r ts)) (or-left (has p all) alike (has-of p all h)) k)))

    -- the inputs match by one of three ways
    matched : inputs_match_derived at top ≡ true → (alike ≡ true) ⊎ ((part_gives (claim q).part all ≡ true) ⊎ (part_gives (claim p).part all ≡ true))
    matched h =
        ⊎_elim
        (λ l. ⊎_elim
        (λ a. ⊎_elim
        (λ i. inl (alike-more (equal_at at p) (equal_at at q) (equal-equivalence at p) (equal-equivalence at q) on (claim p).part (claim q).part i))
        (λ i. inr (inl (or-alone (is_one (size q)) (part_gives (claim q).part all) beside i)))
        (or-cases (routed_alike on (claim p).part (claim q).part) (has q all) a))
        (λ j. inr (inr (or-alone (is_one (size p)) (part_gives (claim p).part all) several j)))
        (or-cases (routed_alike on (claim p).part (claim q).part || has q all) (has p all)
        (or-alone (is_one (size p)) ((routed_alike on (claim p).part (claim q).part || has q all) || has p all) several l)))
        (λ r. inl r)
        (or-cases (inputs_match top) alike h)

    by-match : (b : Bool) → (is_all (claim p).part && not (is_all (claim q).part)) ≡ b → (alike ≡ true) ⊎ ((part_gives (claim q).part all ≡ true) ⊎ (part_gives (claim p).part all ≡ true))
        → passes at top (part_apart w (equal_at at top) (cond b (part_carried w (right_of (width at p)) (equal_at at q) (claim q).part) (part_carried w (left_of (width at p)) (equal_at at p) (claim p).part))) ≡ true
    by-match true t h = on-right (gives-all (claim p).part (and-left (is_all (claim p).part) (not (is_all (claim q).part)) t)) (not-true (is_all (claim q).part) (and-right (is_all (claim p).part) (not (is_all (claim q).part)) t))
    by-match false t (inl h) = on-left (inr h)
    by-match false t (inr (inl h)) = on-left (inl h)
    by-match false t (inr (inr h)) = go (is_all (claim q).part) refl
      where
        go : (b : Bool) → is_all (claim q).part ≡ b
            → passes at top (part_apart w (equal_at at top) (part_carried w (left_of (width at p)) (equal_at at p) (claim p).part)) ≡ true
        go true s = on-left (inl (gives-all (claim q).part s))
        go false s = absurd (true≢false (sym (and-both (is_all (claim p).part) (not (is_all (claim q).part)) (is-all (claim p).part h) (ap not s)) ∙ t))

    join-shown : inputs_match_derived at top ≡ true → passes at top (part_apart w (equal_at at top) (part_over at top (claim p).part (claim q).part)) ≡ true
    join-shown h = by-match (is_all (claim p).part && not (is_all (claim q).part)) refl (matched h)

  -- ---- left rows that are kept where they are matched

  module _ (matched : Bool) (on : List (ℕ × ℕ)) (cs : List Condition) (p q : Plan) (several : is_one (size p) ≡ false) (spread : is_of_one (claim p).part ≡ false) where
    abbrev kept : Plan
    kept = binary n c (semi_join matched on cs) p q

    abbrev meet : Bool
    meet = routed_alike_equally (equal_at at p) (equal_at at q) on (claim p).part (claim q).part

    -- a part that the left input has is shown where the right one has all rows
    over-all : has q all ≡ true → (z : Part) → (unless_one (shows at kept) z ≡ ((routed_alike on (claim p).part (claim q).part && part_gives (claim p).part z) || (has q all && has p z)))
        → part_gives (claim p).part z ≡ true → passes at kept z ≡ true
    over-all h z is k =
        or-left (unless_one (shows at kept) z) (part_derived at kept z)
        (is ∙ or-right (routed_alike on (claim p).part (claim q).part && part_gives (claim p).part z) (has q all && has p z)
        (and-both (has q all) (has p z) h (or-right (is_one (size p)) (part_gives (claim p).part z) k)))

    kept-any : (has q all ≡ true) ⊎ (meet ≡ true) → part_gives (claim p).part any ≡ true → passes at kept any ≡ true
    kept-any (inl h) k = over-all h any refl k
    kept-any (inr h) k =
        by-equal kept any (or-left meet ((has q all || meet) && routed_as (width at p) whole_rows (equal_at at p) (equal_at at p) (claim p).part any) h)

    kept-all : (has q all ≡ true) ⊎ (meet ≡ true) → part_gives (claim p).part all ≡ true → passes at kept all ≡ true
    kept-all (inl h) k = over-all h all refl k
    kept-all (inr h) k = absurd (true≢false (sym (is-all (claim p).part k) ∙ alike-any (equal_at at p) (equal_at at q) on (claim p).part (claim q).part h))

    meets-so : (has q all ≡ true) ⊎ (meet ≡ true) → (has q all || meet) ≡ true
    meets-so (inl h) = or-left (has q all) meet h
    meets-so (inr h) = or-right (has q all) meet h

    -- the inputs match by one of two ways
    fitting : inputs_match_derived at kept ≡ true → (has q all ≡ true) ⊎ (meet ≡ true)
    fitting h =
        ⊎_elim
        (λ l. ⊎_elim (λ i. inr (alike-more (equal_at at p) (equal_at at q) (equal-equivalence at p) (equal-equivalence at q) on (claim p).part (claim q).part i)) (λ i. inl i)
        (or-cases (routed_alike on (claim p).part (claim q).part) (has q all) (or-alone (is_one (size p)) (routed_alike on (claim p).part (claim q).part || has q all) several l)))
        (λ r. inr r)
        (or-cases (inputs_match kept) meet h)

    by-fit : (has q all ≡ true) ⊎ (meet ≡ true) → passes at kept (part_apart (width at p) (equal_at at p) (part_carried (width at p) whole_rows (equal_at at p) (claim p).part)) ≡ true
    by-fit h =
        carried-cases (width at p) whole_rows (equal_at at p) (equal_at at p) (equal-equivalence at p) (equal-equivalence at p) (λ z. passes at kept z ≡ true) (claim p).part spread
        (kept-any h) (kept-all h)
        (λ r ts k. by-equal kept (routed r ts)
        (and-both (has q all || meet) (routed_as (width at p) whole_rows (equal_at at p) (equal_at at p) (claim p).part (routed r ts)) (meets-so h) k))

    semi-shown : inputs_match_derived at kept ≡ true → passes at kept (part_apart (width at p) (equal_at at p) (part_over at kept (claim p).part (claim q).part)) ≡ true
    semi-shown h = by-fit (fitting h)

  -- ---- exchanges and scans

  sent-shown : (k : ExchangeKind) (o : List OrderEntry) (p : Plan) → is_one (target k) ≡ false
      → passes at (exchange n c k o p) (part_apart (width at p) (equal_at at p) (kind_part k)) ≡ true
  sent-shown (route_to z r cols) o p several =
      apart-made (width at p) (equal_at at p) (equal-equivalence at p) (λ x. passes at (exchange n c (route_to z r cols) o p) x ≡ true) r cols
      (by-way (exchange n c (route_to z r cols) o p) any several refl)
      (λ ts near. by-equal (exchange n c (route_to z r cols) o p) (routed r ts) (and-both (route_eq r r) (equal_lists (equal_at at p) cols ts) (route-self r) near))
      (apart (width at p) (equal_at at p) [] cols) refl
  sent-shown (round z) o p several = by-way (exchange n c (round z) o p) any several refl
  sent-shown (broadcast z) o p several = by-way (exchange n c (broadcast z) o p) all several refl
  sent-shown gather o p several = absurd (true≢false several)
  sent-shown concat o p several = absurd (true≢false several)

over-shown : (catalog : List Relation) (p : Plan) → is_one (size p) ≡ false → sizes_match p ≡ true → inputs_match_derived (relation_at catalog) p ≡ true → inputs_spread p ≡ true
    → passes (relation_at catalog) p (part_apart (width (relation_at catalog) p) (equal_at (relation_at catalog) p) (part_over (relation_at catalog) p (left_part p) (right_part p))) ≡ true
over-shown catalog (scan n c r true z) several sizes match spread = by-way catalog n c (scan n c r true z) any several refl
over-shown catalog (scan n c r false z) several sizes match spread = by-way catalog n c (scan n c r false z) all several refl
over-shown catalog (unary n c op p) several sizes match spread = unary-shown catalog n c op p several (not-true (is_of_one (claim p).part) spread)
over-shown catalog (binary n c union p q) several sizes match spread = union-shown catalog n c p q several (both-several (size p) (size q) sizes several) match
over-shown catalog (binary n c (join m on) p q) several sizes match spread =
    join-shown catalog n c m on p q several (both-several (size p) (size q) sizes several)
    (not-true (is_of_one (claim p).part) (and-left (not (is_of_one (claim p).part)) (not (is_of_one (claim q).part)) spread))
    (not-true (is_of_one (claim q).part) (and-right (not (is_of_one (claim p).part)) (not (is_of_one (claim q).part)) spread)) match
over-shown catalog (binary n c (semi_join matched on cs) p q) several sizes match spread =
    semi-shown catalog n c matched on cs p q several (not-true (is_of_one (claim p).part) (and-left (not (is_of_one (claim p).part)) (not (is_of_one (claim q).part)) spread)) match
over-shown catalog (exchange n c k m p) several sizes match spread = sent-shown catalog n c k m p several

pub part-shown : PartShown
part-shown catalog p typed_x several sizes match spread =
    let at : ℕ → Relation = relation_at catalog in
    subst (λ b. passes at p (cond b one (part_apart (width at p) (equal_at at p) (part_over at p (left_part p) (right_part p)))) ≡ true) (sym several) (over-shown catalog p several sizes match spread)
