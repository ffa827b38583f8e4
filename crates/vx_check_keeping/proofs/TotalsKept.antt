-- An order stays total where orders and keys tell at least as much: so the rows of which a limit takes the first ones stay known.
use Rattle.std.proofs.Common.{◌≡◌, ℕ, zero, suc, ◌<◌, ◌==◌, nat_lt, Bool, true, false, cond, ◌||◌, ◌⊎◌, ⊎_elim, List, [], ◌∷◌, refl, sym, ap, ◌∙◌, subst, arith, true≢false, ltb-true, eqb-true, eq-eqb}
use Rattle.std.specs.List.{list_all, list_any}
use Rattle.std.proofs.lemmas.Bool.{cases_lt}
use Rattle.vx_rows_values.specs.declared.order.OrderEntry.{OrderEntry}
use Rattle.vx_rows_values.specs.Order.{order_columns}
use Rattle.vx_rows_values.proofs.Booleans.{and-left, and-right, and-both}
use Rattle.vx_catalog_relations.specs.Relation.{Relation}
use Rattle.vx_catalog_relations.specs.Catalog.{relation_at, all_below}
use Rattle.vx_plan_nodes.specs.Plan.{Claim, claim, size, is_one, Unary, select, project, distinct, sort, group, limit, Plan, unary}
use Rattle.vx_plan_nodes.specs.Phases.{first_columns}
use Rattle.vx_plan_nodes.specs.Types.{width}
use Rattle.vx_plan_facts.specs.Equal.{Equality, equal_at}
use Rattle.vx_plan_facts.specs.Determined.{Columns, determined}
use Rattle.vx_plan_facts.specs.DeterminedFacts.{WithinFirst}
use Rattle.vx_plan_facts.specs.Following.{set_of, equal_entries, begins_equally, short, order_follows, key_follows, total_follows}
use Rattle.vx_plan_facts.proofs.Tests.{or-cases, or-left, or-right, or-more, all-more, all-more-of, any-more-of}
use Rattle.vx_check_rules.specs.Rules.{contains, within, numbers_below, covers, is_total_order}
use Rattle.vx_check_rules.specs.Derived.{is_total_derived, first_rows_known_derived}
use Rattle.vx_check_rules.proofs.Shortening.{Closes, with_one, short_past}
use Rattle.vx_check_shown.proofs.Entries.{one_way}
use Rattle.vx_check_keeping.specs.Keeping.{keys_tell}
use Rattle.vx_check_keeping.specs.Laws.{IsEquivalence}
use Rattle.vx_check_keeping.proofs.EqualLaws.{equal-is}
use Rattle.vx_check_keeping.proofs.SameFacts.{with_claims, width-same, size-same}
use Rattle.vx_check_keeping.proofs.NodeFacts.{formed-over, claim-named, keys-named, closes-at}
use Rattle.vx_check_keeping.proofs.MoreDetermined.{first-below, covers-in, keys-hold, more-over}
use Rattle.vx_check_keeping.proofs.OrdersFollow.{none, column-below, rest-below, past-below, short-is}
use Rattle.vx_check_keeping.proofs.OrdersKept.{Under, order-below}
use Rattle.vx_check_keeping.proofs.TellsItself.{all-among}

moved : (a b c : Bool) → ((a || b) || c) ≡ true → (a || (b || c)) ≡ true
moved true b c h = refl
moved false b c h = h

-- each number below is among these columns
below-in : (n : ℕ) (cols : List ℕ) → within (numbers_below n) cols ≡ true → (x : ℕ) → x < n → set_of cols x ≡ true
below-in zero cols h x l = absurd (omega arith)
below-in (suc n) cols h x l =
    ⊎_elim
    (λ k. below-in n cols (and-right (contains cols n) (within (numbers_below n) cols) h) x k)
    (λ k. let is : n ≡ x = omega (arith, k, l) in subst (λ (z : ℕ). set_of cols z ≡ true) is (and-left (contains cols n) (within (numbers_below n) cols) h))
    (cases_lt x n)

module _ (w : ℕ) (e : Equality) (det : Columns → Columns) (closes : Closes w e det) where
  -- ---- columns of orders

  -- a set with the columns of a list
  abbrev with_all : Columns → List ℕ → Columns
  with_all s xs x = s x || set_of xs x

  -- what is left out of an order is determined by what was passed and what is left in
  past-tells : (s : Columns) (order : List OrderEntry) → all_below w (order_columns order) ≡ true
      → WithinFirst w (set_of (order_columns order)) (det (with_all s (order_columns (short_past det s order))))
  past-tells s [] l x n h = absurd (true≢false (sym h))
  past-tells s (c ∷ order) l x n h =
      go (det s c.column) refl (past-tells s order (rest-below w c order l) x n) (past-tells (with_one s c.column) order (rest-below w c order l) x n)
      (or-cases (x == c.column) (set_of (order_columns order) x) h)
    where
      go : (b : Bool) → det s c.column ≡ b → (set_of (order_columns order) x ≡ true → det (with_all s (order_columns (short_past det s order))) x ≡ true)
          → (set_of (order_columns order) x ≡ true → det (with_all (with_one s c.column) (order_columns (short_past det (with_one s c.column) order))) x ≡ true)
          → ((x == c.column) ≡ true) ⊎ (set_of (order_columns order) x ≡ true)
          → det (with_all s (order_columns (cond b (short_past det s order) (c ∷ short_past det (with_one s c.column) order)))) x ≡ true
      go true is same more at =
          let xs : List ℕ = order_columns (short_past det s order) in
          ⊎_elim
          (λ (i : (x == c.column) ≡ true). closes.again s (with_all s xs) (λ y m k. closes.holds (with_all s xs) y m (or-left (s y) (set_of xs y) k)) x n
          (subst (λ (z : ℕ). det s z ≡ true) (sym (eqb-true x c.column i)) is))
          same at
      go false is same more at =
          let d : ℕ = c.column in
          let xs : List ℕ = order_columns (short_past det (with_one s d) order) in
          let all : Columns = with_all s (d ∷ xs) in
          ⊎_elim
          (λ (i : (x == d) ≡ true). closes.holds all x n (or-right (s x) (set_of (d ∷ xs) x) (or-left (x == d) (set_of xs x) i)))
          (λ i. closes.again (with_all (with_one s d) xs) all (λ y m k. closes.holds all y m (moved (s y) (y == d) (set_of xs y) k)) x n (more i)) at

  -- what is left in are columns of the order
  past-among : (s : Columns) (order : List OrderEntry) (x : ℕ) → set_of (order_columns (short_past det s order)) x ≡ true → set_of (order_columns order) x ≡ true
  past-among s [] x h = h
  past-among s (c ∷ order) x h = go (det s c.column) (past-among s order x) (past-among (with_one s c.column) order x) h
    where
      go : (b : Bool) → (set_of (order_columns (short_past det s order)) x ≡ true → set_of (order_columns order) x ≡ true)
          → (set_of (order_columns (short_past det (with_one s c.column) order)) x ≡ true → set_of (order_columns order) x ≡ true)
          → set_of (order_columns (cond b (short_past det s order) (c ∷ short_past det (with_one s c.column) order))) x ≡ true → set_of (order_columns (c ∷ order)) x ≡ true
      go true f g h = or-right (x == c.column) (set_of (order_columns order) x) (f h)
      go false f g h =
          or-more (x == c.column) (set_of (order_columns (short_past det (with_one s c.column) order)) x) (x == c.column) (set_of (order_columns order) x) (λ i. i) g h

  -- an order that begins another one up to equal columns is determined where that is
  begins-in : (s : Columns) (cs ds : List OrderEntry) → all_below w (order_columns cs) ≡ true → all_below w (order_columns ds) ≡ true → begins_equally e cs ds ≡ true
      → WithinFirst w (set_of (order_columns ds)) (det s) → WithinFirst w (set_of (order_columns cs)) (det s)
  begins-in s [] ds l m h k x n i = absurd (true≢false (sym i))
  begins-in s (c ∷ cs) [] l m h k x n i = absurd (true≢false (sym h))
  begins-in s (c ∷ cs) (d ∷ ds) l m h k x n i =
      let a : ℕ = c.column in
      let b : ℕ = d.column in
      let lc = column-below w c cs l in
      let ld = column-below w d ds m in
      let same : e a b ≡ true = and-left (e a b) (one_way c.falling d.falling) (and-left (equal_entries e c d) (begins_equally e cs ds) h) in
      ⊎_elim
      (λ (j : (x == a) ≡ true). subst (λ (z : ℕ). det s z ≡ true) (sym (eqb-true x a j))
      (closes.equal s b a ld lc (closes.swap a b lc ld same) (k b ld (or-left (b == b) (set_of (order_columns ds) b) (eq-eqb b b refl)))))
      (λ j. begins-in s cs ds (rest-below w c cs l) (rest-below w d ds m) (and-right (equal_entries e c d) (begins_equally e cs ds) h)
      (λ y o u. k y o (or-right (y == b) (set_of (order_columns ds) y) u)) x n j)
      (or-cases (x == a) (set_of (order_columns cs) x) i)

  -- the columns of an order that follows are determined by those of the order from which it does
  order-in : (given order : List OrderEntry) → all_below w (order_columns given) ≡ true → all_below w (order_columns order) ≡ true → order_follows e det given order ≡ true
      → WithinFirst w (set_of (order_columns order)) (det (set_of (order_columns given)))
  order-in given order l m h =
      let t : Columns = set_of (order_columns given) in
      let gs : List OrderEntry = short_past det none given in
      let os : List OrderEntry = short_past det none order in
      let begun : begins_equally e os gs ≡ true =
      subst (λ (xs : List OrderEntry). begins_equally e xs gs ≡ true) (short-is w e det closes order m)
      (subst (λ (ys : List OrderEntry). begins_equally e (short det order) ys ≡ true) (short-is w e det closes given l) h) in
      let left : WithinFirst w (set_of (order_columns os)) (det t) =
      begins-in t os gs (past-below w det none order m) (past-below w det none given l) begun (λ x n i. closes.holds t x n (past-among none given x i)) in
      λ x n i. closes.again (set_of (order_columns os)) t left x n (past-tells none order m x n i)

  -- ---- totals

  -- over an order and keys that tell others, by what determines more
  module _ (is : IsEquivalence e) (given order : List OrderEntry) (l : all_below w (order_columns given) ≡ true) (m : all_below w (order_columns order) ≡ true)
      (follows : order_follows e det given order ≡ true)
      (keys others : List (List ℕ)) (named : list_all (all_below w) others ≡ true) (tells : keys_tell w e keys others ≡ true)
      (under : Columns → Columns) (more : (s : Columns) → WithinFirst w (under s) (det s)) where
    abbrev columns : List ℕ
    columns = order_columns order

    abbrev givens : List ℕ
    givens = order_columns given

    abbrev told : Columns
    told = det (set_of givens)

    keyed : list_any (list_all told) others ≡ true → list_any (list_all told) keys ≡ true
    keyed h = keys-hold w e is.same is.swap told (closes.equal (set_of givens)) keys others named tells h

    order-told : WithinFirst w (set_of columns) told
    order-told = order-in given order l m follows

    under-told : (x : ℕ) → nat_lt x w ≡ true → under (set_of columns) x ≡ true → told x ≡ true
    under-told x n h = closes.again (set_of columns) (set_of givens) order-told x (ltb-true x w n) (more (set_of columns) x (ltb-true x w n) h)

    key-told : key_follows under others columns ≡ true → key_follows det keys givens ≡ true
    key-told h =
        keyed (any-more-of (all_below w) (list_all (under (set_of columns))) (list_all told)
        (λ k b. all-more-of (λ d. nat_lt d w) (under (set_of columns)) told under-told k b) others named h)

    all-told : list_all (under (set_of columns)) (first_columns w) ≡ true → list_all told (first_columns w) ≡ true
    all-told h = all-more-of (λ d. nat_lt d w) (under (set_of columns)) told under-told (first_columns w) (first-below w 0 w (omega arith)) h

    -- by the first table
    covers-told : covers others columns ≡ true → key_follows det keys givens ≡ true
    covers-told h =
        keyed (covers-in told others columns
        (all-more-of (λ d. nat_lt d w) (set_of columns) told (λ x n. order-told x (ltb-true x w n)) columns m (all-among columns columns (λ c i. i))) h)

    numbers-told : within (numbers_below w) columns ≡ true → list_all told (first_columns w) ≡ true
    numbers-told h =
        all-more (λ d. nat_lt d w) told (λ x n. order-told x (ltb-true x w n) (below-in w columns h x (ltb-true x w n))) (first_columns w) (first-below w 0 w (omega arith))

    pub total-told : ((covers others columns || within (numbers_below w) columns) || total_follows w under others columns) ≡ true → total_follows w det keys givens ≡ true
    total-told h =
        let keyed_so : Bool = key_follows det keys givens in
        let all_so : Bool = list_all told (first_columns w) in
        ⊎_elim
        (λ i. or-more (covers others columns) (within (numbers_below w) columns) keyed_so all_so covers-told numbers-told i)
        (λ i. or-more (key_follows under others columns) (list_all (under (set_of columns)) (first_columns w)) keyed_so all_so key-told all-told i)
        (or-cases (covers others columns || within (numbers_below w) columns) (total_follows w under others columns) h)

-- ---- nodes

pub total-kept : (catalog : List Relation) (p g : Plan) → Under catalog p g → is_total_derived (relation_at catalog) p ≡ true → is_total_derived (relation_at catalog) (with_claims p g) ≡ true
total-kept catalog p g u h =
    let C : ℕ → Relation = relation_at catalog in
    let s : Plan = with_claims p g in
    let w : ℕ = width C s in
    let order : List OrderEntry = (claim p).order in
    let cols : List ℕ = order_columns order in
    let keys : List (List ℕ) = (claim p).keys in
    let wide : width C p ≡ w = sym (width-same C p g) in
    let named = keys-named (width C p) (claim p) (claim-named C p (formed-over catalog p u.both.typed)) in
    or-right (is_total_order C s) (total_follows w (determined C s) (claim s).keys (order_columns (claim s).order))
    (total-told w (equal_at C s) (determined C s) (closes-at C s (formed-over catalog s u.both.also)) (equal-is C s) (claim s).order order (order-below catalog s u.both.also)
    (subst (λ (x : ℕ). all_below x cols ≡ true) wide (order-below catalog p u.both.typed)) u.tells.order (claim s).keys keys
    (subst (λ (x : ℕ). list_all (all_below x) keys ≡ true) wide named) u.tells.keys (determined C p)
    (subst (λ (x : ℕ). (t : Columns) → WithinFirst x (determined C p t) (determined C s t)) wide (more-over catalog p g u.both.typed u.both.also u.both.keys))
    (subst (λ (x : ℕ). ((covers keys cols || within (numbers_below x) cols) || total_follows x (determined C p) keys cols) ≡ true) wide h))

pub first-kept : (catalog : List Relation) (n i : ℕ) (c d : Claim) (op : Unary) (p g : Plan) → Under catalog p g → first_rows_known_derived (relation_at catalog) (unary n c op p) ≡ true
    → first_rows_known_derived (relation_at catalog) (unary i d op (with_claims p g)) ≡ true
first-kept catalog n i c d (select fs) p g u h = refl
first-kept catalog n i c d (project es) p g u h = refl
first-kept catalog n i c d (distinct cols) p g u h = refl
first-kept catalog n i c d (sort of_parts order) p g u h = refl
first-kept catalog n i c d (group phase by aggregates) p g u h = refl
first-kept catalog n i c d (limit m) p g u h =
    let C : ℕ → Relation = relation_at catalog in
    and-both (is_one (size (with_claims p g))) (is_total_derived C (with_claims p g)) (ap is_one (size-same p g) ∙ and-left (is_one (size p)) (is_total_derived C p) h)
    (total-kept catalog p g u (and-right (is_one (size p)) (is_total_derived C p) h))
