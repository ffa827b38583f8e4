-- A set of columns to which steps are applied, as many as a node has columns, is the least that holds it and to which no step adds a column.
use Rattle.std.proofs.Common.{◌≡◌, ℕ, zero, suc, ◌+◌, ◌<◌, ◌≤◌, ◌==◌, nat_lt, Bool, true, false, cond, ◌&&◌, ◌||◌, ⊎_elim, List, refl, sym, subst, arith, Option, Some, None, ltb-true}
use Rattle.std.specs.List.{list_any, list_all}
use Rattle.std.proofs.lemmas.Bool.{cases_lt, cases_eq}
use Rattle.vx_rows_values.specs.Order.{order_columns}
use Rattle.vx_rows_values.specs.Lists.{is_some_list}
use Rattle.vx_rows_values.proofs.Booleans.{and-left, and-right, and-both}
use Rattle.vx_catalog_relations.specs.Relation.{Relation}
use Rattle.vx_catalog_relations.specs.Catalog.{all_below}
use Rattle.vx_plan_nodes.specs.Plan.{Claim, claim, Plan, scan, unary, binary, exchange, Binary, union, join, semi_join}
use Rattle.vx_plan_nodes.specs.Phases.{first_columns, phase_fits, both_closed}
use Rattle.vx_plan_nodes.specs.Types.{width, part_columns, names_columns, well_formed}
use Rattle.vx_plan_nodes.specs.Describe.{Copying, whole_rows, left_of, right_of, source, described}
use Rattle.vx_plan_facts.specs.Equal.{Equality, equal_at}
use Rattle.vx_plan_facts.specs.Fixed.{Values, fixed_at}
use Rattle.vx_plan_facts.specs.Determined.{Columns, column_in, is_copy_of, sources_in, by_input, by_rows, repeated, closure, by_none, by_both, by_inputs, determined}
use Rattle.vx_plan_facts.specs.DeterminedFacts.{Within, WithinFirst, one_step, LeastSets, MoreFromMore}
use Rattle.vx_plan_facts.proofs.Tests.{or-left, or-more, all-more, all-more-of, any-more, any-more-of, any-more-first}

-- ---- how many of the first w columns are in a set

abbrev pub members : ℕ → Columns → ℕ
members zero s = 0
members (suc w) s = members w s + cond (s w) 1 0

flag-more : (a b : Bool) → (a ≡ true → b ≡ true) → cond a 1 0 ≤ cond b 1 0
flag-more false b h = omega arith
flag-more true b h = rw (h refl) (omega arith)

flag-same : (a b : Bool) → cond b 1 0 ≤ cond a 1 0 → b ≡ true → a ≡ true
flag-same true b h e = refl
flag-same false true h e = absurd (omega arith)
flag-same false false h e = e

flag-small : (b : Bool) → cond b 1 0 ≤ 1
flag-small true = omega arith
flag-small false = omega arith

pub members-small : (w : ℕ) (s : Columns) → members w s ≤ w
members-small zero s = omega arith
members-small (suc w) s = let a = members-small w s in let b = flag-small (s w) in omega (arith, a, b)

pub members-more : (w : ℕ) (s t : Columns) → WithinFirst w s t → members w s ≤ members w t
members-more zero s t h = omega arith
members-more (suc w) s t h =
    let a = members-more w s t (λ c l. h c (omega arith)) in
    let b = flag-more (s w) (t w) (h w (omega arith)) in
    omega (arith, a, b)

-- of two sets, the one within the other, that have as many of these columns each has those of the other
pub members-same : (w : ℕ) (s t : Columns) → WithinFirst w s t → members w t ≤ members w s → WithinFirst w t s
members-same zero s t h k c l e = absurd (omega arith)
members-same (suc w) s t h k c l e =
    let a = members-more w s t (λ d m. h d (omega arith)) in
    let b = flag-more (s w) (t w) (h w (omega arith)) in
    ⊎_elim
    (λ same.
    let P : ℕ → Type 0 = λ v. s v ≡ true in
    let Q : ℕ → Type 0 = λ v. t v ≡ true in
    subst P (sym same) (flag-same (s w) (t w) (omega (arith, a, k)) (subst Q same e)))
    (λ other. members-same w s t (λ d m. h d (omega arith)) (omega (arith, b, k)) c (below c w l other) e)
    (cases_eq c w)
  where
    below : (c w : ℕ) → c < suc w → (c ≡ w → ⊥) → c < w
    below c w l o = ⊎_elim (λ m. m) (λ g. absurd (o (omega (arith, g, l)))) (cases_lt c w)

-- one that has as many as there are has each
members-full : (w : ℕ) (s : Columns) → w ≤ members w s → (c : ℕ) → c < w → s c ≡ true
members-full w s h c l = members-same w s (λ d. true) (λ d m e. refl) (let a = members-small w (λ d. true) in omega (arith, a, h)) c l refl

-- ---- repeated steps

module _ (w : ℕ) (step : Columns → Columns) (grows : (s : Columns) → Within s (step s)) where
  pub repeated-holds : (n : ℕ) (s : Columns) → Within s (repeated n step s)
  repeated-holds zero s c e = e
  repeated-holds (suc n) s c e = repeated-holds n (step s) c (grows s c e)

  module _ (more : (s t : Columns) → WithinFirst w s t → WithinFirst w (step s) (step t)) where
    pub repeated-least : (n : ℕ) (s t : Columns) → WithinFirst w s t → WithinFirst w (step t) t → WithinFirst w (repeated n step s) t
    repeated-least zero s t h k = h
    repeated-least (suc n) s t h k = repeated-least n (step s) t (λ c l e. k c l (more s t h c l e)) k

    -- either a step adds none of the first w columns, and then no later one does, or there is one less to add
    pub repeated-closed : (n : ℕ) (s : Columns) → w ≤ n + members w s → WithinFirst w (step (repeated n step s)) (repeated n step s)
    repeated-closed zero s h = λ c l e. members-full w s (omega arith) c l
    repeated-closed (suc n) s h =
        ⊎_elim
        (λ added. repeated-closed n (step s) (omega arith))
        (λ none.
        let still : WithinFirst w (step s) s = members-same w s (step s) (λ c l e. grows s c e) none in
        let last : WithinFirst w (repeated (suc n) step s) s = repeated-least (suc n) s s (λ c l e. e) still in
        λ c l e. repeated-holds (suc n) s c (still c l (more (repeated (suc n) step s) s last c l e)))
        (cases_lt (members w s) (members w (step s)))

-- ---- one step

rows-grow : (w : ℕ) (e : Equality) (f : Values) (keys : List (List ℕ)) (inputs : Columns → Columns) (s : Columns)
    → Within s (λ c. by_rows w e f keys s c || inputs s c)
rows-grow w e f keys inputs s c h = or-left (by_rows w e f keys s c) (inputs s c) (or-left (s c) _ h)

pub rows-more-by : (w : ℕ) (e : Equality) (f : Values) (ks ls : List (List ℕ)) (s t : Columns) (c : ℕ) → (s c ≡ true → t c ≡ true) → WithinFirst w s t
    → (list_any (list_all s) ks ≡ true → list_any (list_all t) ls ≡ true) → by_rows w e f ks s c ≡ true → by_rows w e f ls t c ≡ true
rows-more-by w e f ks ls s t c here more keyed h =
    let fixed = is_some_list (f c) in
    let equals : Columns → Bool = λ u. list_any (λ d. u d && e d c) (first_columns w) in
    or-more (s c) (fixed || (equals s || list_any (list_all s) ks)) (t c) (fixed || (equals t || list_any (list_all t) ls)) here
    (or-more fixed (equals s || list_any (list_all s) ks) fixed (equals t || list_any (list_all t) ls) (λ x. x)
    (or-more (equals s) (list_any (list_all s) ks) (equals t) (list_any (list_all t) ls)
    (any-more-first (λ d. s d && e d c) (λ d. t d && e d c) w (λ d l x. and-both (t d) (e d c) (more d l (and-left (s d) (e d c) x)) (and-right (s d) (e d c) x)))
    keyed)) h

pub rows-more : (w : ℕ) (e : Equality) (f : Values) (keys : List (List ℕ)) (s t : Columns) → Within s t → Within (by_rows w e f keys s) (by_rows w e f keys t)
rows-more w e f keys s t more c h =
    rows-more-by w e f keys keys s t c (more c) (λ d l. more d) (any-more (list_all s) (list_all t) (λ k. all-more s t more k) keys) h

rows-more-first : (w : ℕ) (e : Equality) (f : Values) (keys : List (List ℕ)) → list_all (all_below w) keys ≡ true → (s t : Columns) → WithinFirst w s t
    → WithinFirst w (by_rows w e f keys s) (by_rows w e f keys t)
rows-more-first w e f keys named s t more c l h =
    rows-more-by w e f keys keys s t c (more c l) more
    (any-more-of (all_below w) (list_all s) (list_all t) (λ k b. all-more-of (λ d. nat_lt d w) s t (λ d m. more d (ltb-true d w m)) k b) keys named) h

-- ---- what inputs add

abbrev pub IsMonotone : (Columns → Columns) → Type 0
IsMonotone f = (s t : Columns) → Within s t → Within (f s) (f t)

pub column-more : (s t : Columns) → Within s t → (o : Option ℕ) → column_in s o ≡ true → column_in t o ≡ true
column-more s t h None e = e
column-more s t h (Some c) e = h c e

pub input-more : (w : ℕ) (k : Copying) (below : Columns → Columns) → IsMonotone below → (s t : Columns) → WithinFirst w s t
    → Within (by_input w k below s) (by_input w k below t)
input-more w k below mono s t more c e =
    column-more (below (sources_in w k s)) (below (sources_in w k t))
    (mono (sources_in w k s) (sources_in w k t) (λ x h.
    any-more-first (λ i. s i && is_copy_of x (source k i)) (λ i. t i && is_copy_of x (source k i)) w
    (λ i l y. and-both (t i) (is_copy_of x (source k i)) (more i l (and-left (s i) (is_copy_of x (source k i)) y)) (and-right (s i) (is_copy_of x (source k i)) y)) h))
    (source k c) e

pub both-more : (v w : ℕ) (op : Binary) (left right : Columns → Columns) → IsMonotone left → IsMonotone right → (s t : Columns) → WithinFirst w s t
    → Within (by_both v w op left right s) (by_both v w op left right t)
both-more v w union left right l r s t more c e = e
both-more v w (join m on) left right l r s t more c e =
    or-more (by_input w (left_of v) left s c) (by_input w (right_of v) right s c) (by_input w (left_of v) left t c) (by_input w (right_of v) right t c)
    (input-more w (left_of v) left l s t more c) (input-more w (right_of v) right r s t more c) e
both-more v w (semi_join matched on conditions) left right l r s t more c e = input-more w whole_rows left l s t more c e

-- ---- all nodes

pub repeated-more : (n : ℕ) (step : Columns → Columns) → IsMonotone step → IsMonotone (repeated n step)
repeated-more zero step mono s t h = h
repeated-more (suc n) step mono s t h = repeated-more n step mono (step s) (step t) (mono s t h)

closure-more : (w : ℕ) (e : Equality) (f : Values) (keys : List (List ℕ)) (inputs : Columns → Columns)
    → ((s t : Columns) → WithinFirst w s t → Within (inputs s) (inputs t)) → IsMonotone (closure w e f keys inputs)
closure-more w e f keys inputs by =
    repeated-more w (λ t c. by_rows w e f keys t c || inputs t c)
    (λ s t h c. or-more (by_rows w e f keys s c) (inputs s c) (by_rows w e f keys t c) (inputs t c) (rows-more w e f keys s t h c) (by s t (λ d l. h d) c))

pub determined-more : (catalog : ℕ → Relation) (p : Plan) → IsMonotone (determined catalog p)
determined-more catalog (scan n c r m z) =
    closure-more (width catalog (scan n c r m z)) (equal_at catalog (scan n c r m z)) (fixed_at catalog (scan n c r m z)) c.keys by_none (λ s t h d e. e)
determined-more catalog (unary n c op p) =
    let w = width catalog (unary n c op p) in
    closure-more w (equal_at catalog (unary n c op p)) (fixed_at catalog (unary n c op p)) c.keys (by_input w (described op).copying (determined catalog p))
    (input-more w (described op).copying (determined catalog p) (determined-more catalog p))
determined-more catalog (binary n c op p q) =
    let w = width catalog (binary n c op p q) in
    closure-more w (equal_at catalog (binary n c op p q)) (fixed_at catalog (binary n c op p q)) c.keys
    (by_both (width catalog p) w op (determined catalog p) (determined catalog q))
    (both-more (width catalog p) w op (determined catalog p) (determined catalog q) (determined-more catalog p) (determined-more catalog q))
determined-more catalog (exchange n c k m p) =
    let w = width catalog p in
    closure-more w (equal_at catalog p) (fixed_at catalog p) c.keys (by_input w whole_rows (determined catalog p))
    (input-more w whole_rows (determined catalog p) (determined-more catalog p))

inputs-more : (catalog : ℕ → Relation) (p : Plan) (s t : Columns) → WithinFirst (width catalog p) s t → Within (by_inputs catalog p s) (by_inputs catalog p t)
inputs-more catalog (scan n c r m z) = λ s t h d e. e
inputs-more catalog (unary n c op p) = input-more (width catalog (unary n c op p)) (described op).copying (determined catalog p) (determined-more catalog p)
inputs-more catalog (binary n c op p q) =
    both-more (width catalog p) (width catalog (binary n c op p q)) op (determined catalog p) (determined catalog q) (determined-more catalog p) (determined-more catalog q)
inputs-more catalog (exchange n c k m p) = input-more (width catalog p) whole_rows (determined catalog p) (determined-more catalog p)

-- a claim names columns of its node
claim-named : (catalog : ℕ → Relation) (p : Plan) → well_formed catalog p ≡ true → names_columns (width catalog p) (claim p) ≡ true
claim-named catalog (scan n c r m z) h = h
claim-named catalog (unary n c op p) h =
    let named = names_columns (width catalog (unary n c op p)) c in
    and-right (phase_fits op p) named (and-right (well_formed catalog p) (phase_fits op p && named) h)
claim-named catalog (binary n c union p q) h =
    let named = names_columns (width catalog p) c in
    let same = width catalog p == width catalog q in
    and-right same named (and-right (both_closed p q) (same && named)
    (and-right (well_formed catalog q) (both_closed p q && (same && named))
    (and-right (well_formed catalog p) (well_formed catalog q && (both_closed p q && (same && named))) h)))
claim-named catalog (binary n c (join m on) p q) h =
    let named = names_columns (width catalog p + width catalog q) c in
    and-right (both_closed p q) named
    (and-right (well_formed catalog q) (both_closed p q && named) (and-right (well_formed catalog p) (well_formed catalog q && (both_closed p q && named)) h))
claim-named catalog (binary n c (semi_join matched on conditions) p q) h =
    let named = names_columns (width catalog p) c in
    and-right (both_closed p q) named
    (and-right (well_formed catalog q) (both_closed p q && named) (and-right (well_formed catalog p) (well_formed catalog q && (both_closed p q && named)) h))
claim-named catalog (exchange n c k m p) h = and-right (well_formed catalog p) (names_columns (width catalog p) c) h

keys-named : (w : ℕ) (c : Claim) → names_columns w c ≡ true → list_all (all_below w) c.keys ≡ true
keys-named w c h =
    and-right (all_below w (order_columns c.order)) (list_all (all_below w) c.keys)
    (and-right (all_below w (part_columns c.part)) (all_below w (order_columns c.order) && list_all (all_below w) c.keys) h)

step-more : (catalog : ℕ → Relation) (p : Plan) → well_formed catalog p ≡ true → (s t : Columns) → WithinFirst (width catalog p) s t
    → WithinFirst (width catalog p) (one_step catalog p s) (one_step catalog p t)
step-more catalog p formed s t h c l =
    let w = width catalog p in
    let keys = (claim p).keys in
    or-more (by_rows w (equal_at catalog p) (fixed_at catalog p) keys s c) (by_inputs catalog p s c)
    (by_rows w (equal_at catalog p) (fixed_at catalog p) keys t c) (by_inputs catalog p t c)
    (rows-more-first w (equal_at catalog p) (fixed_at catalog p) keys (keys-named w (claim p) (claim-named catalog p formed)) s t h c l)
    (inputs-more catalog p s t h c)

step-grows : (catalog : ℕ → Relation) (p : Plan) (s : Columns) → Within s (one_step catalog p s)
step-grows catalog p s = rows-grow (width catalog p) (equal_at catalog p) (fixed_at catalog p) (claim p).keys (by_inputs catalog p) s

-- at each node the steps are as many as it has columns
determined-steps : (catalog : ℕ → Relation) (p : Plan) (s : Columns) → determined catalog p s ≡ repeated (width catalog p) (one_step catalog p) s
determined-steps catalog (scan n c r m z) s = refl
determined-steps catalog (unary n c op p) s = refl
determined-steps catalog (binary n c op p q) s = refl
determined-steps catalog (exchange n c k m p) s = refl

pub least-sets : LeastSets
least-sets catalog p formed s =
    let w = width catalog p in
    let step = one_step catalog p in
    let is = sym (determined-steps catalog p s) in
    let more = step-more catalog p formed in
    let Holds : Columns → Type 0 = λ d. Within s d in
    let Closed : Columns → Type 0 = λ d. WithinFirst w (step d) d in
    let Least : Columns → Type 0 = λ d. (t : Columns) → WithinFirst w s t → WithinFirst w (step t) t → WithinFirst w d t in
    record {
      holds = subst Holds is (repeated-holds w step (step-grows catalog p) w s);
      closed = subst Closed is (repeated-closed w step (step-grows catalog p) more w s (omega arith));
      least = subst Least is (repeated-least w step (step-grows catalog p) more w s);
    }

pub more-from-more : MoreFromMore
more-from-more = record {
  itself = λ catalog p s.
      let P : Columns → Type 0 = λ d. Within s d in
      subst P (sym (determined-steps catalog p s)) (repeated-holds (width catalog p) (one_step catalog p) (step-grows catalog p) (width catalog p) s);
  of_all = determined-more;
  of_first = λ catalog p formed s t h.
      let larger = least-sets catalog p formed t in
      (least-sets catalog p formed s).least (determined catalog p t) (λ c l e. larger.holds c (h c l e)) larger.closed;
}
