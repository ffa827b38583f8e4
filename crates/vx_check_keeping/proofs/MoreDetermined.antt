-- Where the keys of a plan say what those of another one say, by first equal columns, the same columns determine more.
use Rattle.std.proofs.Common.{◌≡◌, ℕ, zero, suc, ◌+◌, ◌<◌, ◌≤◌, ◌==◌, nat_lt, Bool, true, false, cond, ◌&&◌, ⊎_elim, List, [], ◌∷◌, refl, sym, subst, arith, true≢false, ltb-true, eqb-true, Option, Some, None}
use Rattle.std.specs.List.{list_any, list_all, filter}
use Rattle.std.specs.Prelude.{unwrap_or}
use Rattle.vx_rows_values.proofs.Booleans.{and-left, and-right, and-both}
use Rattle.vx_catalog_relations.specs.Relation.{Relation}
use Rattle.vx_catalog_relations.specs.Catalog.{relation_at, all_below}
use Rattle.vx_plan_nodes.specs.Plan.{Claim, claim, Binary, union, join, semi_join, Plan, scan, unary, binary, exchange}
use Rattle.vx_plan_nodes.specs.Phases.{columns_from, first_columns}
use Rattle.vx_plan_nodes.specs.Types.{width, well_formed}
use Rattle.vx_plan_nodes.specs.Describe.{Copying, whole_rows, source, left_of, right_of, described}
use Rattle.vx_plan_facts.specs.Equal.{Equality, equal_at}
use Rattle.vx_plan_facts.specs.Fixed.{Values, fixed_at}
use Rattle.vx_plan_facts.specs.Asking.{Reaches}
use Rattle.vx_plan_facts.specs.Naming.{IsTypedOver}
use Rattle.vx_plan_facts.specs.Determined.{Columns, column_in, sources_in, by_input, by_rows, by_inputs, determined}
use Rattle.vx_plan_facts.specs.DeterminedFacts.{WithinFirst}
use Rattle.vx_plan_facts.proofs.ClosingFacts.{is-below}
use Rattle.vx_plan_facts.proofs.NamedColumns.{typed-unary, typed-both, typed-sent}
use Rattle.vx_plan_facts.proofs.Least.{least-sets, rows-more-by}
use Rattle.vx_plan_facts.proofs.Tests.{or-cases, or-more, all-more, any-more}
use Rattle.vx_check_rules.specs.Rules.{contains, within, covers}
use Rattle.vx_check_rules.specs.Derived.{first_of}
use Rattle.vx_check_rules.proofs.Shortening.{Closes}
use Rattle.vx_check_shown.specs.Standing.{first_equal, named_first}
use Rattle.vx_check_keeping.specs.Laws.{MoreDetermined}
use Rattle.vx_check_keeping.specs.Keeping.{keys_tell, KeysTellHere, KeysTell}
use Rattle.vx_check_keeping.proofs.EqualLaws.{equal-is}
use Rattle.vx_check_keeping.proofs.SameFacts.{is-with, under, beside, with_claims, width-same, equal-same, fixed-same}
use Rattle.vx_check_keeping.proofs.NodeFacts.{formed-over, claim-named, keys-named, unary-reaches, whole-reaches, left-reaches, right-reaches, closes-at}

-- ---- the first equal column

-- the first that passes a test, of some that pass another one
chosen : (q p : ℕ → Bool) (xs : List ℕ) (c : ℕ) → list_all q xs ≡ true → q c ≡ true → p c ≡ true
    → (q (unwrap_or (first_of (filter p xs)) c) && p (unwrap_or (first_of (filter p xs)) c)) ≡ true
chosen q p [] c h i j = and-both (q c) (p c) i j
chosen q p (x ∷ xs) c h i j = go (p x) refl (chosen q p xs c (and-right (q x) (list_all q xs) h) i j)
  where
    go : (b : Bool) → p x ≡ b → (q (unwrap_or (first_of (filter p xs)) c) && p (unwrap_or (first_of (filter p xs)) c)) ≡ true
        → (q (unwrap_or (first_of (cond b (x ∷ filter p xs) (filter p xs))) c) && p (unwrap_or (first_of (cond b (x ∷ filter p xs) (filter p xs))) c)) ≡ true
    go true is r = and-both (q x) (p x) (and-left (q x) (list_all q xs) h) is
    go false is r = r

pub first-below : (w i n : ℕ) → i + n ≤ w → all_below w (columns_from i n) ≡ true
first-below w i zero h = refl
first-below w i (suc n) h = and-both (nat_lt i w) (all_below w (columns_from (suc i) n)) (is-below i w (omega (arith, h))) (first-below w (suc i) n (omega (arith, h)))

pub first-equal-is : (w : ℕ) (e : Equality) (c : ℕ) → c < w → e c c ≡ true → (nat_lt (first_equal w e c) w && e (first_equal w e c) c) ≡ true
first-equal-is w e c l h = chosen (λ d. nat_lt d w) (λ d. e d c) (first_columns w) c (first-below w 0 w (omega arith)) (is-below c w l) h

-- ---- sets that hold keys

contains-in : (t : Columns) (ys : List ℕ) (x : ℕ) → list_all t ys ≡ true → contains ys x ≡ true → t x ≡ true
contains-in t [] x h k = absurd (true≢false (sym k))
contains-in t (y ∷ ys) x h k =
    ⊎_elim (λ (l : (x == y) ≡ true). subst (λ z. t z ≡ true) (sym (eqb-true x y l)) (and-left (t y) (list_all t ys) h))
    (λ r. contains-in t ys x (and-right (t y) (list_all t ys) h) r) (or-cases (x == y) (contains ys x) k)

pub covers-in : (t : Columns) (keys : List (List ℕ)) (ys : List ℕ) → list_all t ys ≡ true → covers keys ys ≡ true → list_any (list_all t) keys ≡ true
covers-in t keys ys h k = any-more (λ x. within x ys) (list_all t) (λ x m. all-more (contains ys) t (λ c. contains-in t ys c h) x m) keys k

module _ (w : ℕ) (e : Equality) (same : (c : ℕ) → e c c ≡ true) (swap : (c d : ℕ) → e c d ≡ true → e d c ≡ true)
    (t : Columns) (closed : (c d : ℕ) → c < w → d < w → e c d ≡ true → t c ≡ true → t d ≡ true) where
  first-in : (c : ℕ) → nat_lt c w ≡ true → t c ≡ true → t (first_equal w e c) ≡ true
  first-in c l h =
      let d : ℕ = first_equal w e c in
      let is = first-equal-is w e c (ltb-true c w l) (same c) in
      closed c d (ltb-true c w l) (ltb-true d w (and-left (nat_lt d w) (e d c) is)) (swap d c (and-right (nat_lt d w) (e d c) is)) h

  all-first : (xs : List ℕ) → all_below w xs ≡ true → list_all t xs ≡ true → list_all t (named_first w e xs) ≡ true
  all-first [] l h = refl
  all-first (x ∷ xs) l h =
      and-both (t (first_equal w e x)) (list_all t (named_first w e xs)) (first-in x (and-left (nat_lt x w) (all_below w xs) l) (and-left (t x) (list_all t xs) h))
      (all-first xs (and-right (nat_lt x w) (all_below w xs) l) (and-right (t x) (list_all t xs) h))

  -- it holds one of the keys if it holds one of the others
  pub keys-hold : (keys others : List (List ℕ)) → list_all (all_below w) others ≡ true → keys_tell w e keys others ≡ true → list_any (list_all t) others ≡ true
      → list_any (list_all t) keys ≡ true
  keys-hold keys [] l k h = absurd (true≢false (sym h))
  keys-hold keys (x ∷ others) l k h =
      ⊎_elim
      (λ here. covers-in t keys (named_first w e x) (all-first x (and-left (all_below w x) (list_all (all_below w) others) l) here)
      (and-left (covers keys (named_first w e x)) (keys_tell w e keys others) k))
      (λ later. keys-hold keys others (and-right (all_below w x) (list_all (all_below w) others) l) (and-right (covers keys (named_first w e x)) (keys_tell w e keys others) k) later)
      (or-cases (list_all t x) (list_any (list_all t) others) h)

-- ---- one node

-- at each node, what its inputs add of the first columns
abbrev pub AddsMore : (ℕ → Relation) → Plan → Plan → Type 0
AddsMore catalog e f = (t : Columns) → WithinFirst (width catalog e) (by_inputs catalog e t) (by_inputs catalog f t)

module _ (catalog : ℕ → Relation) (e f : Plan) (formed : well_formed catalog e ≡ true) (also : well_formed catalog f ≡ true)
    (wide : width catalog f ≡ width catalog e) (equal : equal_at catalog f ≡ equal_at catalog e) (fixed : fixed_at catalog f ≡ fixed_at catalog e)
    (keys : KeysTellHere catalog f e) (inputs : AddsMore catalog e f) where
  rows-at : (t : Columns) (c : ℕ) → by_rows (width catalog e) (equal_at catalog e) (fixed_at catalog e) (claim f).keys t c ≡ true
      → by_rows (width catalog f) (equal_at catalog f) (fixed_at catalog f) (claim f).keys t c ≡ true
  rows-at t c h =
      let ls : List (List ℕ) = (claim f).keys in
      subst (λ (x : ℕ). by_rows x (equal_at catalog f) (fixed_at catalog f) ls t c ≡ true) (sym wide)
      (subst (λ (x : Equality). by_rows (width catalog e) x (fixed_at catalog f) ls t c ≡ true) (sym equal)
      (subst (λ (x : Values). by_rows (width catalog e) (equal_at catalog e) x ls t c ≡ true) (sym fixed) h))

  below-at : (c : ℕ) → c < width catalog e → c < width catalog f
  below-at c l = subst (λ (x : ℕ). c < x) (sym wide) l

  named-at : list_all (all_below (width catalog f)) (claim e).keys ≡ true
  named-at = subst (λ (x : ℕ). list_all (all_below x) (claim e).keys ≡ true) (sym wide) (keys-named (width catalog e) (claim e) (claim-named catalog e formed))

  keyed : (s : Columns) → list_any (list_all (determined catalog f s)) (claim e).keys ≡ true → list_any (list_all (determined catalog f s)) (claim f).keys ≡ true
  keyed s =
      let closes : Closes (width catalog f) (equal_at catalog f) (determined catalog f) = closes-at catalog f also in
      keys-hold (width catalog f) (equal_at catalog f) (equal-is catalog f).same (equal-is catalog f).swap (determined catalog f s) (closes.equal s) (claim f).keys (claim e).keys named-at keys

  pub node-more : (s : Columns) → WithinFirst (width catalog e) (determined catalog e s) (determined catalog f s)
  node-more s =
      let t : Columns = determined catalog f s in
      let w : ℕ = width catalog e in
      let by : List (List ℕ) → Columns → Columns = by_rows w (equal_at catalog e) (fixed_at catalog e) in
      (least-sets catalog e formed s).least t (λ c l h. (least-sets catalog f also s).holds c h)
      (λ c l h. (least-sets catalog f also s).closed c (below-at c l)
      (or-more (by (claim e).keys t c) (by_inputs catalog e t c) (by_rows (width catalog f) (equal_at catalog f) (fixed_at catalog f) (claim f).keys t c) (by_inputs catalog f t c)
      (λ k. rows-at t c (rows-more-by w (equal_at catalog e) (fixed_at catalog e) (claim e).keys (claim f).keys t t c (λ x. x) (λ d m x. x) (keyed s) k))
      (λ k. inputs t c l k) h))

-- ---- inputs

column-more-first : (u : ℕ) (s t : Columns) → WithinFirst u s t → (o : Option ℕ) → ((x : ℕ) → o ≡ Some x → x < u) → column_in s o ≡ true → column_in t o ≡ true
column-more-first u s t h None l e = e
column-more-first u s t h (Some x) l e = h x (l x refl) e

input-adds : (w v u : ℕ) (k : Copying) (below other : Columns → Columns) → v ≡ w → Reaches w k u → ((s : Columns) → WithinFirst u (below s) (other s))
    → (t : Columns) → WithinFirst w (by_input w k below t) (by_input v k other t)
input-adds w v u k below other is reach more t c l h =
    subst (λ (x : ℕ). by_input x k other t c ≡ true) (sym is)
    (column-more-first u (below (sources_in w k t)) (other (sources_in w k t)) (more (sources_in w k t)) (source k c) (λ x e. reach c x l e) h)

-- ---- all nodes

pub more-over : (catalog : List Relation) (e g : Plan) → IsTypedOver catalog e → IsTypedOver catalog (with_claims e g) → KeysTell (relation_at catalog) (with_claims e g) e
    → (s : Columns) → WithinFirst (width (relation_at catalog) e) (determined (relation_at catalog) e s) (determined (relation_at catalog) (with_claims e g) s)
more-over catalog (scan n c r m z) g h k keys =
    node-more (relation_at catalog) (scan n c r m z) (with_claims (scan n c r m z) g) (formed-over catalog (scan n c r m z) h)
    (formed-over catalog (with_claims (scan n c r m z) g) k) refl refl refl keys (λ t d l i. i)
more-over catalog (unary n c op p) g h k keys =
    let e : Plan = unary n c op p in
    let f : Plan = with_claims e g in
    let t = typed-unary catalog e n c op p refl h in
    let u = typed-unary catalog f n (claim g) op (with_claims p (under g)) refl k in
    node-more (relation_at catalog) e f (formed-over catalog e h) (formed-over catalog f k)
    (width-same (relation_at catalog) e g) (equal-same (relation_at catalog) e g) (fixed-same (relation_at catalog) e g) keys.0
    (input-adds (width (relation_at catalog) e) (width (relation_at catalog) f) (width (relation_at catalog) p) (described op).copying
    (determined (relation_at catalog) p) (determined (relation_at catalog) (with_claims p (under g))) (width-same (relation_at catalog) e g)
    (unary-reaches (width (relation_at catalog) p) op t.1) (more-over catalog p (under g) t.0 u.0 keys.1))
more-over catalog (binary n c op p q) g h k keys =
    let e : Plan = binary n c op p q in
    let f : Plan = with_claims e g in
    let x : Plan = with_claims p (under g) in
    let y : Plan = with_claims q (beside g) in
    let t = typed-both catalog e n c op p q refl h in
    let u = typed-both catalog f n (claim g) op x y refl k in
    node-more (relation_at catalog) e f (formed-over catalog e h) (formed-over catalog f k)
    (width-same (relation_at catalog) e g) (equal-same (relation_at catalog) e g) (fixed-same (relation_at catalog) e g) keys.0
    (both-add catalog n c op p q g (width-same (relation_at catalog) p (under g)) (width-same (relation_at catalog) e g) (more-over catalog p (under g) t.0 u.0 keys.1)
    (more-over catalog q (beside g) t.1 u.1 keys.2))
  where
    both-add : (catalog : List Relation) (n : ℕ) (c : Claim) (op : Binary) (p q g : Plan)
        → width (relation_at catalog) (with_claims p (under g)) ≡ width (relation_at catalog) p
        → width (relation_at catalog) (with_claims (binary n c op p q) g) ≡ width (relation_at catalog) (binary n c op p q)
        → ((s : Columns) → WithinFirst (width (relation_at catalog) p) (determined (relation_at catalog) p s) (determined (relation_at catalog) (with_claims p (under g)) s))
        → ((s : Columns) → WithinFirst (width (relation_at catalog) q) (determined (relation_at catalog) q s) (determined (relation_at catalog) (with_claims q (beside g)) s))
        → AddsMore (relation_at catalog) (binary n c op p q) (with_claims (binary n c op p q) g)
    both-add catalog n c union p q g near wide l r t d m i = i
    both-add catalog n c (join method on) p q g near wide l r t d m i =
        let v : ℕ = width (relation_at catalog) p in
        let u : ℕ = width (relation_at catalog) q in
        let x : Plan = with_claims p (under g) in
        let y : Plan = with_claims q (beside g) in
        let w : ℕ = width (relation_at catalog) (with_claims (binary n c (join method on) p q) g) in
        or-more (by_input (v + u) (left_of v) (determined (relation_at catalog) p) t d) (by_input (v + u) (right_of v) (determined (relation_at catalog) q) t d)
        (by_input w (left_of (width (relation_at catalog) x)) (determined (relation_at catalog) x) t d)
        (by_input w (right_of (width (relation_at catalog) x)) (determined (relation_at catalog) y) t d)
        (λ j. subst (λ (z : ℕ). by_input w (left_of z) (determined (relation_at catalog) x) t d ≡ true) (sym near)
        (input-adds (v + u) w v (left_of v) (determined (relation_at catalog) p) (determined (relation_at catalog) x) wide (left-reaches v u) l t d m j))
        (λ j. subst (λ (z : ℕ). by_input w (right_of z) (determined (relation_at catalog) y) t d ≡ true) (sym near)
        (input-adds (v + u) w u (right_of v) (determined (relation_at catalog) q) (determined (relation_at catalog) y) wide (right-reaches v u) r t d m j)) i
    both-add catalog n c (semi_join matched on conditions) p q g near wide l r t d m i =
        let v : ℕ = width (relation_at catalog) p in
        let x : Plan = with_claims p (under g) in
        input-adds v (width (relation_at catalog) x) v whole_rows (determined (relation_at catalog) p) (determined (relation_at catalog) x) near (whole-reaches v) l t d m i
more-over catalog (exchange n c kind m p) g h k keys =
    let e : Plan = exchange n c kind m p in
    let f : Plan = with_claims e g in
    node-more (relation_at catalog) e f (formed-over catalog e h) (formed-over catalog f k)
    (width-same (relation_at catalog) e g) (equal-same (relation_at catalog) e g) (fixed-same (relation_at catalog) e g) keys.0
    (input-adds (width (relation_at catalog) p) (width (relation_at catalog) (with_claims p (under g))) (width (relation_at catalog) p) whole_rows
    (determined (relation_at catalog) p) (determined (relation_at catalog) (with_claims p (under g))) (width-same (relation_at catalog) p (under g))
    (whole-reaches (width (relation_at catalog) p)) (more-over catalog p (under g) (typed-sent catalog e n c kind m p refl h)
    (typed-sent catalog f n (claim g) kind m (with_claims p (under g)) refl k) keys.1))

pub more-determined : MoreDetermined
more-determined catalog e f h k same keys =
    let P : Plan → Type 0 = λ x. IsTypedOver catalog x → KeysTell (relation_at catalog) x e
    → (s : Columns) → WithinFirst (width (relation_at catalog) e) (determined (relation_at catalog) e s) (determined (relation_at catalog) x s) in
    subst P (sym (is-with e f same)) (λ t u. more-over catalog e f h t u) k keys
