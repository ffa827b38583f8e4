-- The part that a node shows tells each part that passes its test.
use Rattle.std.proofs.Common.{◌≡◌, ◌∙◌, ℕ, ◌+◌, ◌≤◌, Bool, true, false, cond, ◌&&◌, ◌||◌, ⊎_elim, List, [], ◌∷◌, ◌++◌, Some, refl, sym, subst, arith, true≢false}
use Rattle.std.specs.List.{list_any}
use Rattle.vx_rows_values.specs.declared.order.OrderEntry.{OrderEntry}
use Rattle.vx_rows_values.proofs.Booleans.{and-left, and-right}
use Rattle.vx_catalog_relations.specs.Relation.{Relation}
use Rattle.vx_catalog_relations.specs.Catalog.{relation_at, all_below, are_distinct}
use Rattle.vx_plan_nodes.specs.Plan.{Part, one, any, all, routed, Claim, claim, Condition, Unary, JoinMethod, union, join, semi_join, ExchangeKind, Plan, scan, unary, binary, exchange, size, is_one, Size}
use Rattle.vx_plan_nodes.specs.Parts.{kind_part}
use Rattle.vx_plan_nodes.specs.Types.{width, part_columns}
use Rattle.vx_plan_nodes.specs.Describe.{whole_rows, left_of, right_of, no_columns, paired_on, matched_on, described}
use Rattle.vx_plan_facts.specs.Equal.{Equality, equal_at}
use Rattle.vx_plan_facts.specs.Naming.{IsTypedOver}
use Rattle.vx_plan_facts.proofs.Tests.{or-cases}
use Rattle.vx_plan_facts.proofs.NamedColumns.{typed-both}
use Rattle.vx_check_rules.specs.Rules.{part_gives, sizes_match, shows, unless_one, has, routed_alike}
use Rattle.vx_check_rules.specs.Behaviour.{Way, way, own, if_so, gives, ways_if_fit, ways_over}
use Rattle.vx_check_rules.specs.Derived.{part_matches, routed_as, routed_alike_equally, is_any, part_derived}
use Rattle.vx_check_rules.proofs.Exact.{parts-if-fit}
use Rattle.vx_check_shown.specs.ShownPart.{part_carried, part_over, part_apart}
use Rattle.vx_check_shown.specs.PartLaws.{left_part, right_part, passes, told, PartTellsTheMost}
use Rattle.vx_check_shown.proofs.Equivalent.{IsEquivalence, equal-equivalence}
use Rattle.vx_check_shown.proofs.ToldParts.{told-gives, told-matches, apart-tells, way-tells, carried-any, carried-tells, whole-gives, beside-tells, union-tells}
use Rattle.vx_check_shown.proofs.JoinedParts.{ways-tell, alike-tells, left-tells, right-tells, cross-tells}
use Rattle.vx_check_shown.proofs.NodeParts.{part-named, both-several, whole-lifts, unary-lifts, left-lifts, right-lifts, joined-equal}

or-end : (a : Bool) → (a || false) ≡ true → a ≡ true
or-end true h = refl
or-end false h = cc

-- a part that is shown by the first table is given by a way
by-several : (b u l : Bool) → b ≡ false → (b || u) ≡ (b || l) → u ≡ l
by-several true u l h e = cc
by-several false u l h e = e

pub shown-ways : (catalog : ℕ → Relation) (p : Plan) (q : Part) → is_one (size p) ≡ false → unless_one (shows catalog p) q ≡ list_any (λ w. gives w q) (ways_if_fit catalog p)
shown-ways catalog p q several = by-several (is_one (size p)) (unless_one (shows catalog p) q) (list_any (λ w. gives w q) (ways_if_fit catalog p)) several (parts-if-fit catalog p q)

-- ---- each node

has-alone : (b : Bool) (x q : Part) → b ≡ false → (b || part_gives x q) ≡ true → part_gives x q ≡ true
has-alone true x q s h = cc
has-alone false x q s h = h

made-tells : (catalog : ℕ → Relation) (g : Equality) (z q : Part) → list_any (λ w. gives w q) (way whole_rows ((false, z) ∷ []) ∷ []) ≡ true → told g z q ≡ true
made-tells catalog g z one h = cc
made-tells catalog g z any h = told-gives g z any (and-left (part_gives z any) true (or-end (part_gives z any && true) h))
made-tells catalog g z all h = told-gives g z all (and-left (part_gives z all) true (or-end (part_gives z all && true) h))
made-tells catalog g z (routed s ds) h =
    told-gives g z (routed s ds) (and-left (part_gives z (routed s ds)) true (whole-gives ((false, z) ∷ []) (routed s ds) (or-end (gives (way whole_rows ((false, z) ∷ [])) (routed s ds)) h)))

-- ---- of left rows that are kept where they are matched

-- a way that is there once or twice
one-way : (b : Bool) (i : Way) (z : Part) → list_any (λ w. gives w z) (if_so b (i ∷ [])) ≡ true → gives i z ≡ true
one-way true i z h = or-end (gives i z) h
one-way false i z h = cc

two-ways : (a b : Bool) (i : Way) (z : Part) → list_any (λ w. gives w z) (if_so a (i ∷ []) ++ if_so b (i ∷ [])) ≡ true → gives i z ≡ true
two-ways true b i z h = ⊎_elim (λ l. l) (λ r. one-way b i z r) (or-cases (gives i z) (list_any (λ w. gives w z) (if_so b (i ∷ []))) h)
two-ways false b i z h = one-way b i z h

-- of inputs that are routed alike the left one has each row once
alike-any : (e f : Equality) (on : List (ℕ × ℕ)) (x y : Part) → routed_alike_equally e f on x y ≡ true → part_gives x any ≡ true
alike-any e f on one y h = cc
alike-any e f on any y h = cc
alike-any e f on all y h = cc
alike-any e f on (routed r ls) y h = refl

any-tells : (w : ℕ) (e f : Equality) → IsEquivalence e → (on : List (ℕ × ℕ)) (x y z : Part) → (is_any z && routed_alike_equally e f on x y) ≡ true
    → told e (part_carried w whole_rows e x) z ≡ true
any-tells w e f is on x y one h = cc
any-tells w e f is on x y any h = carried-any w whole_rows e e is is (whole-lifts e) x (alike-any e f on x y h)
any-tells w e f is on x y all h = cc
any-tells w e f is on x y (routed s ds) h = cc

module _ (catalog : List Relation) (n : ℕ) (c : Claim) where
  abbrev at : ℕ → Relation
  at = relation_at catalog

  unary-most : (op : Unary) (p : Plan) (q : Part) → is_one (size p) ≡ false → all_below (width at (unary n c op p)) (part_columns q) ≡ true
      → passes at (unary n c op p) q ≡ true → told (equal_at at (unary n c op p)) (part_over at (unary n c op p) (claim p).part any) q ≡ true
  unary-most op p q several low h =
      let top : Plan = unary n c op p in
      let w = width at top in
      let k = (described op).copying in
      let e = equal_at at p in
      let g = equal_at at top in
      let x = (claim p).part in
      ⊎_elim
      (λ s. let u = or-end (gives (way k (own p ∷ [])) q) (sym (shown-ways at top q several) ∙ s) in
      way-tells w k e g (equal-equivalence at p) (equal-equivalence at top) (unary-lifts op e) x q (subst (λ b. gives (way k ((b, x) ∷ [])) q ≡ true) several u) low)
      (λ s. carried-tells w k e g (equal-equivalence at p) (equal-equivalence at top) (unary-lifts op e) x q s)
      (or-cases (unless_one (shows at top) q) (part_derived at top q) h)

  union-most : (p q : Plan) (z : Part) → is_one (size p) ≡ false → is_one (size q) ≡ false → all_below (width at p) (part_columns z) ≡ true
      → passes at (binary n c union p q) z ≡ true → told (equal_at at (binary n c union p q)) (part_over at (binary n c union p q) (claim p).part (claim q).part) z ≡ true
  union-most p q z several beside low h =
      let top : Plan = binary n c union p q in
      let e = equal_at at p in
      let f = equal_at at q in
      let x = (claim p).part in
      let y = (claim q).part in
      ⊎_elim
      (λ s. let u = or-end (gives (way whole_rows (own p ∷ own q ∷ [])) z) (sym (shown-ways at top z several) ∙ s) in
      beside-tells (width at p) e f (equal-equivalence at p) (equal-equivalence at q) x y z
      (subst (λ b. gives (way whole_rows ((false, x) ∷ (b, y) ∷ [])) z ≡ true) beside (subst (λ b. gives (way whole_rows ((b, x) ∷ own q ∷ [])) z ≡ true) several u)) low)
      (λ s. union-tells (width at p) e f (equal-equivalence at p) (equal-equivalence at q) x y z (and-left (part_matches e x z) (part_matches f y z) s) (and-right (part_matches e x z) (part_matches f y z) s) low)
      (or-cases (unless_one (shows at top) z) (part_derived at top z) h)

  join-most : (m : JoinMethod) (on : List (ℕ × ℕ)) (p q : Plan) (z : Part) → IsTypedOver catalog (binary n c (join m on) p q) → is_one (size p) ≡ false → is_one (size q) ≡ false
      → all_below (width at p + width at q) (part_columns z) ≡ true → passes at (binary n c (join m on) p q) z ≡ true
      → told (equal_at at (binary n c (join m on) p q)) (part_over at (binary n c (join m on) p q) (claim p).part (claim q).part) z ≡ true
  join-most m on p q z typed_x several beside low h =
      let top : Plan = binary n c (join m on) p q in
      let v = width at p in
      let w = v + width at q in
      let e = equal_at at p in
      let f = equal_at at q in
      let g = equal_at at top in
      let x = (claim p).part in
      let y = (claim q).part in
      let both = typed-both catalog top n c (join m on) p q refl typed_x in
      let is = equal-equivalence at p in
      let it = equal-equivalence at q in
      let out = equal-equivalence at top in
      let wide : v ≤ w = omega arith in
      let left = left-lifts v m on e f in
      let right = right-lifts v m on e f in
      let joined = joined-equal v (width at q) m on e f is.itself both.2 in
      let named = part-named catalog p both.0 in
      let alike = routed_alike_equally e f on x y in
      ⊎_elim
      (λ s. let u = sym (shown-ways at top z several) ∙ s in
      ways-tell v w wide e f g is it out left right on joined x y z named low
      (subst (λ b. list_any (λ i. gives i z) (ways_over (paired_on on) (record { left = left_of v; right = right_of v; meeting = paired_on on }) (false, x) (b, y)) ≡ true) beside
      (subst (λ b. list_any (λ i. gives i z) (ways_over (paired_on on) (record { left = left_of v; right = right_of v; meeting = paired_on on }) (b, x) (own q)) ≡ true) several u)))
      (λ s. ⊎_elim
      (λ t. alike-tells v w wide e f g is it out left right on joined x y z t)
      (λ t. ⊎_elim
      (λ i. left-tells v w wide e f g is it out left right on joined x y z (and-right (has q all || alike) (routed_as w (left_of v) e g x z) i))
      (λ i. let r = and-right (has p all || alike) (routed_as w (right_of v) f g y z) i in
      ⊎_elim
      (λ j. right-tells v w wide e f g is it out left right on joined x y z (has-alone (is_one (size p)) x all several j) r)
      (λ j. cross-tells v w wide e f g is it out left right on joined x y z named j r)
      (or-cases (has p all) alike (and-left (has p all || alike) (routed_as w (right_of v) f g y z) i)))
      (or-cases ((has q all || alike) && routed_as w (left_of v) e g x z) ((has p all || alike) && routed_as w (right_of v) f g y z) t))
      (or-cases (is_any z && alike) (((has q all || alike) && routed_as w (left_of v) e g x z) || ((has p all || alike) && routed_as w (right_of v) f g y z)) s))
      (or-cases (unless_one (shows at top) z) (part_derived at top z) h)

  semi-most : (matched : Bool) (on : List (ℕ × ℕ)) (cs : List Condition) (p q : Plan) (z : Part) → is_one (size p) ≡ false
      → all_below (width at p) (part_columns z) ≡ true → passes at (binary n c (semi_join matched on cs) p q) z ≡ true
      → told (equal_at at p) (part_over at (binary n c (semi_join matched on cs) p q) (claim p).part (claim q).part) z ≡ true
  semi-most matched on cs p q z several low h =
      let top : Plan = binary n c (semi_join matched on cs) p q in
      let w = width at p in
      let e = equal_at at p in
      let f = equal_at at q in
      let x = (claim p).part in
      let y = (claim q).part in
      let is = equal-equivalence at p in
      let alike = routed_alike_equally e f on x y in
      let by_ways = ways_over (matched_on on) (record { left = whole_rows; right = no_columns; meeting = matched_on on }) in
      ⊎_elim
      (λ s. let u = sym (shown-ways at top z several) ∙ s in
      way-tells w whole_rows e e is is (whole-lifts e) x z
      (two-ways (routed_alike on x y) (has q all) (way whole_rows ((false, x) ∷ [])) z (subst (λ b. list_any (λ i. gives i z) (by_ways (b, x) (own q)) ≡ true) several u)) low)
      (λ s. ⊎_elim (λ t. any-tells w e f is on x y z t)
      (λ t. carried-tells w whole_rows e e is is (whole-lifts e) x z (and-right (has q all || alike) (routed_as w whole_rows e e x z) t))
      (or-cases (is_any z && alike) ((has q all || alike) && routed_as w whole_rows e e x z) s))
      (or-cases (unless_one (shows at top) z) (part_derived at top z) h)

  sent-most : (k : ExchangeKind) (m : List OrderEntry) (p : Plan) (q : Part) → is_one (size (exchange n c k m p)) ≡ false → passes at (exchange n c k m p) q ≡ true
      → told (equal_at at p) (kind_part k) q ≡ true
  sent-most k m p q several h =
      let top : Plan = exchange n c k m p in
      ⊎_elim (λ s. made-tells at (equal_at at p) (kind_part k) q (sym (shown-ways at top q several) ∙ s)) (λ s. told-matches (equal_at at p) (kind_part k) q s)
      (or-cases (unless_one (shows at top) q) (part_derived at top q) h)

  scan-most : (r : ℕ) (m : Bool) (z : Size) (q : Part) → is_one z ≡ false → passes at (scan n c r m z) q ≡ true → told (equal_at at (scan n c r m z)) (cond m any all) q ≡ true
  scan-most r m z q several h =
      let top : Plan = scan n c r m z in
      ⊎_elim (λ s. made-tells at (equal_at at top) (cond m any all) q (sym (shown-ways at top q several) ∙ s)) (λ s. absurd (true≢false (sym s)))
      (or-cases (unless_one (shows at top) q) (part_derived at top q) h)

over-most : (catalog : List Relation) (p : Plan) → IsTypedOver catalog p → is_one (size p) ≡ false → sizes_match p ≡ true
    → (q : Part) → all_below (width (relation_at catalog) p) (part_columns q) ≡ true → passes (relation_at catalog) p q ≡ true
    → told (equal_at (relation_at catalog) p) (part_over (relation_at catalog) p (left_part p) (right_part p)) q ≡ true
over-most catalog (scan n c r m z) typed_x several sizes q low h = scan-most catalog n c r m z q several h
over-most catalog (unary n c op p) typed_x several sizes q low h = unary-most catalog n c op p q several low h
over-most catalog (binary n c union p q) typed_x several sizes z low h = union-most catalog n c p q z several (both-several (size p) (size q) sizes several) low h
over-most catalog (binary n c (join m on) p q) typed_x several sizes z low h = join-most catalog n c m on p q z typed_x several (both-several (size p) (size q) sizes several) low h
over-most catalog (binary n c (semi_join matched on cs) p q) typed_x several sizes z low h = semi-most catalog n c matched on cs p q z several low h
over-most catalog (exchange n c k m p) typed_x several sizes q low h = sent-most catalog n c k m p q several h

pub tells-the-most : PartTellsTheMost
tells-the-most catalog p typed_x several sizes q named h =
    let at : ℕ → Relation = relation_at catalog in
    let w : ℕ = width at p in
    let low = and-left (all_below w (part_columns q)) (are_distinct (part_columns q)) named in
    subst (λ b. told (equal_at at p) (cond b one (part_apart w (equal_at at p) (part_over at p (left_part p) (right_part p)))) q ≡ true) (sym several)
    (apart-tells w (equal_at at p) (equal-equivalence at p) (part_over at p (left_part p) (right_part p)) q (over-most catalog p typed_x several sizes q low h) low
    (and-right (all_below w (part_columns q)) (are_distinct (part_columns q)) named))
