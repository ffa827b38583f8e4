-- The steps of a comparison of two orders, as the program takes them.
use Rattle.std.proofs.Common.{◌≡◌, ℕ, zero, suc, ◌+◌, ◌<◌, ◌≤◌, ◌==◌, nat_lt, Bool, true, false, cond, not, ◌&&◌, ◌||◌, ⊎_elim, List, [], ◌∷◌, ◌++◌, append_assoc, length, length-append, drop, Option, Some, None, slice_get, refl, sym, ap, ◌∙◌, subst, arith, add-one, ltb-true, true≢false}
use Rattle.std.proofs.lemmas.List.{drop_all, append-nil}
use Rattle.std.proofs.lemmas.Option.{slice_get_within, slice_get-get_or, slice_get_read}
use Rattle.std.proofs.lemmas.Bool.{cases_lt}
use Rattle.std.proofs.lemmas.List.Elements.{filter-append}
use Rattle.std.specs.List.{filter}
use Rattle.vx_plan_nodes.specs.Phases.{first_columns}
use Rattle.vx_check_rules.proofs.ColumnFacts.{first_push}
use Rattle.std.proofs.lemmas.Bool.Decides.{nat_tests}
use Rattle.vx_rows_values.specs.declared.order.OrderEntry.{OrderEntry}
use Rattle.vx_rows_values.specs.Limits.{max_columns}
use Rattle.vx_rows_values.specs.Order.{order_columns}
use Rattle.vx_rows_values.proofs.Booleans.{and-left, and-right, and-both}
use Rattle.vx_catalog_relations.specs.Relation.{Relation}
use Rattle.vx_catalog_relations.specs.Catalog.{all_below}
use Rattle.vx_plan_nodes.specs.Plan.{Plan}
use Rattle.vx_plan_nodes.specs.Types.{width}
use Rattle.vx_plan_facts.specs.Determined.{Columns, determined}
use Rattle.vx_plan_facts.specs.Equal.{Equality, equal_at}
use Rattle.vx_plan_facts.specs.Following.{set_of, equal_entries, begins_equally, short_after, short}
use Rattle.vx_plan_facts.proofs.Tests.{or-left, or-right}
use Rattle.vx_plan_facts.proofs.Least.{members, members-same, members-small}
use Rattle.vx_plan_facts.specs.DeterminedFacts.{WithinFirst}
use Rattle.vx_plan_facts.proofs.Searching.{wide-enough}
use Rattle.vx_plan_facts.proofs.ClosingFacts.{is-below}
use Rattle.vx_plan_facts.specs.declared.known.KnownColumns as rust_known
use Rattle.vx_check_rules.specs.KnownNode.{AreOrdersOf}
use Rattle.vx_check_rules.specs.Passed.{past, first_passes}
use Rattle.vx_check_rules.proofs.KnownClosing.{known-closes}
use Rattle.vx_check_rules.proofs.Shortening.{Closes, drop-at, short_past, with_one, walk-starts, walk-passes, walk-fails, walk-goes, walk-ends, short-starts, alike-same, short-same}

-- past the columns of a set
pub past-none : (s : Columns) (order : List OrderEntry) (i : ℕ) → length order ≤ i → past s (drop i order) ≡ []
past-none s order i h = ap (past s) (drop_all i order h)

pub past-in : (s : Columns) (order : List OrderEntry) (i : ℕ) (x : OrderEntry) → slice_get order i ≡ Some x → s x.column ≡ true
    → past s (drop i order) ≡ past s (drop (i + 1) order)
past-in s order i x h is = rw add-one (ap (past s) (drop-at order i x h) ∙ ap (λ b. cond b (past s (drop (suc i) order)) (x ∷ drop (suc i) order)) is)

pub past-out : (s : Columns) (order : List OrderEntry) (i : ℕ) (x : OrderEntry) → slice_get order i ≡ Some x → s x.column ≡ false → past s (drop i order) ≡ drop i order
past-out s order i x h is =
    ap (past s) (drop-at order i x h) ∙ ap (λ b. cond b (past s (drop (suc i) order)) (x ∷ drop (suc i) order)) is ∙ sym (drop-at order i x h)

-- the column of an entry
pub drop-below : (w : ℕ) (order : List OrderEntry) → all_below w (order_columns order) ≡ true → (i : ℕ) → all_below w (order_columns (drop i order)) ≡ true
drop-below w order l zero = l
drop-below w [] l (suc i) = refl
drop-below w (c ∷ order) l (suc i) = drop-below w order (and-right (nat_lt c.column w) (all_below w (order_columns order)) l) i

pub entry-at : (w : ℕ) (order : List OrderEntry) (i : ℕ) (x : OrderEntry) → all_below w (order_columns order) ≡ true → slice_get order i ≡ Some x → x.column < w
entry-at w order i x l h =
    let rest : List OrderEntry = drop (suc i) order in
    let P : List OrderEntry → Type 0 = λ xs. all_below w (order_columns xs) ≡ true in
    ltb-true x.column w (and-left (nat_lt x.column w) (all_below w (order_columns rest)) (subst P (drop-at order i x h) (drop-below w order l i)))

-- the next entry of an order passes a test
pub next-passes : (test : OrderEntry → Bool) (order : List OrderEntry) (i : ℕ) (x : OrderEntry) → slice_get order i ≡ Some x → first_passes test (drop i order) ≡ test x
next-passes test order i x h = ap (first_passes test) (drop-at order i x h)

pub none-passes : (test : OrderEntry → Bool) (order : List OrderEntry) (i : ℕ) → length order ≤ i → first_passes test (drop i order) ≡ false
none-passes test order i h = ap (first_passes test) (drop_all i order h)

pub passes-at : (test : OrderEntry → Bool) (order : List OrderEntry) (i : ℕ) → first_passes test (drop i order) ≡ true
    → (x : OrderEntry) × (slice_get order i ≡ Some x) × (test x ≡ true)
passes-at test [] zero h = absurd (true≢false (sym h))
passes-at test [] (suc i) h = absurd (true≢false (sym h))
passes-at test (c ∷ order) zero h = (c, refl, h)
passes-at test (c ∷ order) (suc i) h = passes-at test order i h

same-number : (n : ℕ) → (n == n) ≡ true
same-number n = grind (arith, nat_tests)

-- ---- two orders of a node

-- the set is what these columns determine
abbrev pub IsFound : (ℕ → Relation) → Plan → (passed found : Columns) → Type 0
IsFound catalog p s t = (c : ℕ) → t c ≡ (nat_lt c (width catalog p) && determined catalog p s c)

-- from these places on, past the columns of a set, the orders compare as they do from their fronts
pub record Walking (catalog : ℕ → Relation) (p : Plan) (given order : List OrderEntry) (i j : ℕ) (s t : Columns) : Type 0 where
  pub found : IsFound catalog p s t
  pub walks : begins_equally (equal_at catalog p) (short (determined catalog p) order) (short (determined catalog p) given)
      ≡ begins_equally (equal_at catalog p) (short_past (determined catalog p) s (drop i order)) (short_past (determined catalog p) s (drop j given))

pub found-is : (catalog : ℕ → Relation) (p : Plan) (s t : Columns) → IsFound catalog p s t → (c : ℕ) → c < width catalog p → t c ≡ determined catalog p s c
found-is catalog p s t h c l = h c ∙ ap (λ b. b && determined catalog p s c) (is-below c (width catalog p) l)

module _ (catalog : ℕ → Relation) (k : rust_known.KnownColumns) (p : Plan) (given order : List OrderEntry) (orders : AreOrdersOf catalog k p given order) where
  pub walking-starts : (s t : Columns) → ((c : ℕ) → s c ≡ false) → IsFound catalog p s t → Walking catalog p given order 0 0 s t
  walking-starts s t none answer = record {
    found = answer;
    walks = walk-starts (width catalog p) (equal_at catalog p) (determined catalog p) (known-closes catalog k p orders.known) order given orders.order_below orders.given_below s none;
  }

  pub walking-passes : (i j : ℕ) (s t : Columns) → Walking catalog p given order i j s t → (c : OrderEntry) → slice_get order i ≡ Some c → t c.column ≡ true
      → Walking catalog p given order (i + 1) j s t
  walking-passes i j s t at c h is = record {
    found = at.found;
    walks = walk-passes (width catalog p) (equal_at catalog p) (determined catalog p) (known-closes catalog k p orders.known) order given orders.order_below orders.given_below
        i j s at.walks c h (sym (found-is catalog p s t at.found c.column (entry-at (width catalog p) order i c orders.order_below h)) ∙ is);
  }

  pub walking-fails : (i j : ℕ) (s t : Columns) → Walking catalog p given order i j s t → (c : OrderEntry) → slice_get order i ≡ Some c → t c.column ≡ false
      → (n : ℕ) → drop n given ≡ past t (drop j given) → first_passes (equal_entries (equal_at catalog p) c) (drop n given) ≡ false
      → begins_equally (equal_at catalog p) (short (determined catalog p) order) (short (determined catalog p) given) ≡ false
  walking-fails i j s t at c h is n there none =
      walk-fails (width catalog p) (equal_at catalog p) (determined catalog p) (known-closes catalog k p orders.known) order given orders.order_below orders.given_below
      i j s t at.walks c h (found-is catalog p s t at.found)
      (sym (found-is catalog p s t at.found c.column (entry-at (width catalog p) order i c orders.order_below h)) ∙ is) n there none

  -- the next column of the given order is determined, so that it may be looked at again
  again : (i n : ℕ) (s t : Columns) (d : OrderEntry) → slice_get given n ≡ Some d → determined catalog p s d.column ≡ true → Walking catalog p given order i (n + 1) s t
      → Walking catalog p given order i n s t
  again i n s t d h is at =
      let det : Columns → Columns = determined catalog p in
      let rest : List OrderEntry = drop (suc n) given in
      let more : n + 1 ≡ suc n = omega arith in
      record {
        found = at.found;
        walks = at.walks ∙ ap (λ m. begins_equally (equal_at catalog p) (short_past det s (drop i order)) (short_past det s (drop m given))) more
            ∙ ap (λ b. begins_equally (equal_at catalog p) (short_past det s (drop i order)) (cond b (short_past det s rest) (d ∷ short_past det (with_one s d.column) rest))) (sym is)
            ∙ ap (λ xs. begins_equally (equal_at catalog p) (short_past det s (drop i order)) (short_past det s xs)) (sym (drop-at given n d h));
      }

  pub walking-goes : (i j : ℕ) (s t : Columns) → Walking catalog p given order i j s t → (c : OrderEntry) → slice_get order i ≡ Some c → t c.column ≡ false
      → (n : ℕ) → drop n given ≡ past t (drop j given) → first_passes (equal_entries (equal_at catalog p) c) (drop n given) ≡ true
      → (more all : Columns) → ((x : ℕ) → x < max_columns → more x ≡ (s x || (x == c.column))) → IsFound catalog p more all
      → Walking catalog p given order (i + 1) n more all
  walking-goes i j s t at c h is n there goes-on more all put answer =
      let w : ℕ = width catalog p in
      let e : Equality = equal_at catalog p in
      let det : Columns → Columns = determined catalog p in
      let closes : Closes w e det = known-closes catalog k p orders.known in
      let few : w ≤ max_columns = wide-enough catalog p orders.known.known.within in
      let next = passes-at (equal_entries e c) given n goes-on in
      let d : OrderEntry = next.0 in
      let x : ℕ = c.column in
      let y : ℕ = d.column in
      let below : x < w = entry-at w order i c orders.order_below h in
      let last : y < w = entry-at w given n d orders.given_below next.1 in
      let same : e x y ≡ true = and-left (e x y) (cond c.falling d.falling (not d.falling)) next.2 in
      let self : more x ≡ true = put x (omega (arith, below, few)) ∙ or-right (s x) (x == x) (same-number x) in
      let there-too : det more y ≡ true = closes.equal more x y below last same (closes.holds more x below self) in
      again (i + 1) n more all d next.1 there-too (record {
        found = answer;
        walks = walk-goes w e det closes order given orders.order_below orders.given_below i j s more t at.walks c h (found-is catalog p s t at.found)
            (sym (found-is catalog p s t at.found x below) ∙ is) n there goes-on (λ z l. put z (omega (arith, l, few)));
      })

  pub walking-ends : (i j : ℕ) (s t : Columns) → Walking catalog p given order i j s t → length order ≤ i
      → begins_equally (equal_at catalog p) (short (determined catalog p) order) (short (determined catalog p) given) ≡ true
  walking-ends i j s t at h =
      walk-ends (width catalog p) (equal_at catalog p) (determined catalog p) (known-closes catalog k p orders.known) order given orders.order_below orders.given_below i j s at.walks h

-- ---- an order alone

-- what of an order is left past a set stands behind what was kept of it
pub record Keeping (catalog : ℕ → Relation) (p : Plan) (order kept : List OrderEntry) (i : ℕ) (s t : Columns) : Type 0 where
  pub found : IsFound catalog p s t
  pub keeps : short (determined catalog p) order ≡ kept ++ short_past (determined catalog p) s (drop i order)

module _ (catalog : ℕ → Relation) (k : rust_known.KnownColumns) (p : Plan) (order : List OrderEntry) (orders : AreOrdersOf catalog k p order order) where
  pub keeping-starts : (s t : Columns) → ((c : ℕ) → s c ≡ false) → IsFound catalog p s t → Keeping catalog p order [] 0 s t
  keeping-starts s t none answer = record {
    found = answer;
    keeps = short-starts (width catalog p) (equal_at catalog p) (determined catalog p) (known-closes catalog k p orders.known) s order none orders.order_below;
  }

  pub keeping-passes : (kept : List OrderEntry) (i : ℕ) (s t : Columns) → Keeping catalog p order kept i s t → (c : OrderEntry) → slice_get order i ≡ Some c → t c.column ≡ true
      → Keeping catalog p order kept (i + 1) s t
  keeping-passes kept i s t at c h is =
      let det : Columns → Columns = determined catalog p in
      let rest : List OrderEntry = drop (suc i) order in
      let x : ℕ = c.column in
      let has : det s x ≡ true = sym (found-is catalog p s t at.found x (entry-at (width catalog p) order i c orders.order_below h)) ∙ is in
      let next : suc i ≡ i + 1 = omega arith in
      record {
        found = at.found;
        keeps = at.keeps ∙ ap (λ xs. kept ++ short_past det s xs) (drop-at order i c h)
            ∙ ap (λ b. kept ++ cond b (short_past det s rest) (c ∷ short_past det (with_one s x) rest)) has ∙ ap (λ m. kept ++ short_past det s (drop m order)) next;
      }

  pub keeping-goes : (kept : List OrderEntry) (i : ℕ) (s t : Columns) → Keeping catalog p order kept i s t → (c : OrderEntry) → slice_get order i ≡ Some c → t c.column ≡ false
      → (more all : Columns) → ((x : ℕ) → x < max_columns → more x ≡ (s x || (x == c.column))) → IsFound catalog p more all
      → Keeping catalog p order (kept ++ c ∷ []) (i + 1) more all
  keeping-goes kept i s t at c h is more all put answer =
      let w : ℕ = width catalog p in
      let det : Columns → Columns = determined catalog p in
      let closes : Closes w (equal_at catalog p) det = known-closes catalog k p orders.known in
      let few : w ≤ max_columns = wide-enough catalog p orders.known.known.within in
      let rest : List OrderEntry = drop (suc i) order in
      let x : ℕ = c.column in
      let has : det s x ≡ false = sym (found-is catalog p s t at.found x (entry-at w order i c orders.order_below h)) ∙ is in
      let next : suc i ≡ i + 1 = omega arith in
      let same = short-same w (equal_at catalog p) det closes (with_one s x) more rest
      (alike-same w (equal_at catalog p) det closes (with_one s x) more (λ z l. sym (put z (omega (arith, l, few)))))
      (drop-below w order orders.order_below (suc i)) in
      record {
        found = answer;
        keeps = at.keeps ∙ ap (λ xs. kept ++ short_past det s xs) (drop-at order i c h)
            ∙ ap (λ b. kept ++ cond b (short_past det s rest) (c ∷ short_past det (with_one s x) rest)) has
            ∙ ap (λ xs. kept ++ (c ∷ xs)) same ∙ ap (λ m. kept ++ (c ∷ short_past det more (drop m order))) next
            ∙ sym (append_assoc kept (c ∷ []) (short_past det more (drop (i + 1) order)));
      }

  pub keeping-ends : (kept : List OrderEntry) (i : ℕ) (s t : Columns) → Keeping catalog p order kept i s t → length order ≤ i → kept ≡ short (determined catalog p) order
  keeping-ends kept i s t at h =
      sym (at.keeps ∙ ap (λ xs. kept ++ short_past (determined catalog p) s xs) (drop_all i order h) ∙ append-nil kept)

-- ---- how long it is

-- a column that is not in a set makes it larger
members-grow : (w : ℕ) (s t : Columns) → WithinFirst w s t → (c : ℕ) → c < w → s c ≡ false → t c ≡ true → members w s < members w t
members-grow w s t h c l none one =
    ⊎_elim (λ less. less) (λ more. absurd (true≢false (sym (members-same w s t h (omega (arith, more)) c l one) ∙ none))) (cases_lt (members w s) (members w t))

-- a short order has no more columns than the set of those passed
pub one-more : (catalog : ℕ → Relation) (k : rust_known.KnownColumns) (p : Plan) (order kept : List OrderEntry) (i : ℕ) (s t more : Columns) → AreOrdersOf catalog k p order order
    → Keeping catalog p order kept i s t → (c : OrderEntry) → slice_get order i ≡ Some c → t c.column ≡ false → length kept ≤ members max_columns s
    → ((x : ℕ) → x < max_columns → more x ≡ (s x || (x == c.column))) → length kept < members max_columns more
one-more catalog k p order kept i s t more orders at c h is few put =
    let w : ℕ = width catalog p in
    let y : ℕ = c.column in
    let below : y < w = entry-at w order i c orders.order_below h in
    let wide : w ≤ max_columns = wide-enough catalog p orders.known.known.within in
    let lc : y < max_columns = omega (arith, below, wide) in
    let closes : Closes w (equal_at catalog p) (determined catalog p) = known-closes catalog k p orders.known in
    let none : s y ≡ false = not-there (s y) (λ e. true≢false (sym (closes.holds s y below e) ∙ (sym (found-is catalog p s t at.found y below) ∙ is))) in
    let grow : members max_columns s < members max_columns more =
    members-grow max_columns s more (λ x l e. put x l ∙ or-left (s x) (x == y) e) y lc none (put y lc ∙ or-right (s y) (y == y) (same-number y)) in
    omega (arith, few, grow)
  where
    not-there : (b : Bool) → (b ≡ true → ⊥) → b ≡ false
    not-there true f = absurd (f refl)
    not-there false f = refl

-- no more entries than the set has columns
pub record Few (xs : List OrderEntry) (s : Columns) : Type 0 where
  pub few : length xs ≤ members max_columns s

none-long : (xs : List OrderEntry) → xs ≡ [] → (n : ℕ) → length xs ≤ n
none-long xs e n = let l = ap length e in omega (arith, l)

pub few-none : (xs : List OrderEntry) (s : Columns) → xs ≡ [] → Few xs s
few-none xs s e = record { few = none-long xs e (members max_columns s) }

one-longer : (xs ys : List OrderEntry) (c : OrderEntry) (n : ℕ) → ys ≡ xs ++ c ∷ [] → length xs < n → length ys ≤ n
one-longer xs ys c n e h = let l = ap length e ∙ length-append xs (c ∷ []) in omega (arith, l, h)

no-more : (m n : ℕ) → m < n → n ≤ max_columns → m < max_columns
no-more m n h l = omega (arith, h, l)

pub few-one : (catalog : ℕ → Relation) (k : rust_known.KnownColumns) (p : Plan) (order kept : List OrderEntry) (i : ℕ) (s t : Columns) → AreOrdersOf catalog k p order order
    → Keeping catalog p order kept i s t → (c : OrderEntry) → slice_get order i ≡ Some c → t c.column ≡ false → Few kept s
    → (more : Columns) → ((x : ℕ) → x < max_columns → more x ≡ (s x || (x == c.column))) → (new : List OrderEntry) → new ≡ kept ++ c ∷ [] → Few new more
few-one catalog k p order kept i s t orders at c h is few more put new e = record {
  few = one-longer kept new c (members max_columns more) e (one-more catalog k p order kept i s t more orders at c h is few.few put);
}

pub push-fits : (catalog : ℕ → Relation) (k : rust_known.KnownColumns) (p : Plan) (order kept : List OrderEntry) (i : ℕ) (s t : Columns) → AreOrdersOf catalog k p order order
    → Keeping catalog p order kept i s t → (c : OrderEntry) → slice_get order i ≡ Some c → t c.column ≡ false → Few kept s → length kept < max_columns
push-fits catalog k p order kept i s t orders at c h is few =
    let more : Columns = with_one s c.column in
    no-more (length kept) (members max_columns more) (one-more catalog k p order kept i s t more orders at c h is few.few (λ x l. refl)) (members-small max_columns more)

-- ---- copies

-- the columns of the set among one more
pub members-push : (s : Columns) (n : ℕ) → filter s (first_columns (n + 1)) ≡ filter s (first_columns n) ++ cond (s n) (n ∷ []) []
members-push s n = ap (filter s) (first_push n) ∙ filter-append s (first_columns n) (n ∷ [])

pub record SoFar (s : Columns) (n : ℕ) (list : List ℕ) : Type 0 where
  pub few : length list ≤ n
  pub so_far : list ≡ filter s (first_columns n)

pub members-in : (s : Columns) (n : ℕ) (old new : List ℕ) → SoFar s n old → s n ≡ true → new ≡ old ++ n ∷ [] → SoFar s (n + 1) new
members-in s n old new at is e = record {
  few = let l = ap length e ∙ length-append old (n ∷ []) in let m = at.few in omega (arith, l, m);
  so_far = e ∙ ap (λ xs. xs ++ n ∷ []) at.so_far ∙ ap (λ b. filter s (first_columns n) ++ cond b (n ∷ []) []) (sym is) ∙ sym (members-push s n);
}

pub members-out : (s : Columns) (n : ℕ) (old new : List ℕ) → SoFar s n old → s n ≡ false → new ≡ old → SoFar s (n + 1) new
members-out s n old new at is e = record {
  few = let l = ap length e in let m = at.few in omega (arith, l, m);
  so_far = e ∙ at.so_far ∙ sym (append-nil (filter s (first_columns n))) ∙ ap (λ b. filter s (first_columns n) ++ cond b (n ∷ []) []) (sym is) ∙ sym (members-push s n);
}

-- what is left of an order is of its columns
pub short-below : (w : ℕ) (det : Columns → Columns) (before : List ℕ) (order : List OrderEntry) → all_below w (order_columns order) ≡ true
    → all_below w (order_columns (short_after det before order)) ≡ true
short-below w det before [] l = refl
short-below w det before (c ∷ order) l =
    go (det (set_of before) c.column) (and-left (nat_lt c.column w) (all_below w (order_columns order)) l)
    (short-below w det (c.column ∷ before) order (and-right (nat_lt c.column w) (all_below w (order_columns order)) l))
  where
    go : (k : Bool) → nat_lt c.column w ≡ true → all_below w (order_columns (short_after det (c.column ∷ before) order)) ≡ true
        → all_below w (order_columns (cond k (short_after det (c.column ∷ before) order) (c ∷ short_after det (c.column ∷ before) order))) ≡ true
    go true l m = m
    go false l m = and-both (nat_lt c.column w) (all_below w (order_columns (short_after det (c.column ∷ before) order))) l m
