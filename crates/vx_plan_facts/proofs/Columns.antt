-- What copies, conditions and pairs of joins say of the columns of a row.
use Rattle.std.proofs.Common.{ℕ, zero, suc, ◌≡◌, ◌+◌, ◌-◌, ◌<◌, ◌≤◌, ◌==◌, nat_lt, nat_le, Bool, true, false, cond, ◌&&◌, ◌||◌, ◌⊎◌, inl, inr, ⊎_elim, List, [], ◌∷◌, ◌++◌, map, filter, flat_map, length, refl, sym, ap, ◌∙◌, subst, arith, true≢false, is_eq, ltb-true, leb-true, eqb-true, Option, Some, None, slice_get, append-nil}
use Rattle.std.specs.List.{list_all}
use Rattle.vx_rows_values.specs.Values.{Val, Row, val_cmp, value_at, pick}
use Rattle.vx_rows_values.proofs.Booleans.{and-left, and-right}
use Rattle.vx_rows_values.proofs.Compare.{val_cmp-same, is_eq-Equal}
use Rattle.vx_plan_nodes.specs.Plan.{Test, equal, unequal, below, at_most, above, at_least, Side, column, constant, Condition, input, value, call, Entry, copy_of, made_by}
use Rattle.vx_plan_nodes.specs.Phases.{first_columns}
use Rattle.vx_plan_nodes.specs.Describe.{Copying, whole_rows, columns_kept, entries_kept, kept_column, left_of, right_of, source}
use Rattle.vx_plan_nodes.specs.Serial.{side, answers, passes, entries_row}
use Rattle.vx_plan_facts.specs.Equal.{Equality, both_equal, lifted, with_pair, with_test, with_conditions, with_pairs}
use Rattle.vx_plan_facts.specs.Fixed.{Values, values_at, carried_values, tested_value, tested_values, constants, shared_values, has_value}
use Rattle.vx_plan_facts.specs.RowFacts.{HasEqual, HasFixed}

pub or-cases : (a b : Bool) → (a || b) ≡ true → (a ≡ true) ⊎ (b ≡ true)
or-cases true b h = inl refl
or-cases false b h = inr h

-- ---- copies

-- a row has copies of the other's values
abbrev pub HasCopies : Copying → Row → Row → Type 0
HasCopies k row out = (c d : ℕ) → source k c ≡ Some d → value_at out c ≡ value_at row d

pub whole-copies : (row : Row) → HasCopies whole_rows row row
whole-copies row c d h = let e : c ≡ d = cc in ap (λ x. value_at row x) e

kept-at : (cols : List ℕ) (row tail : Row) (c d : ℕ) → slice_get cols c ≡ Some d → value_at (pick cols row ++ tail) c ≡ value_at row d
kept-at [] row tail c d h = cc
kept-at (k ∷ cols) row tail zero d h = let e : k ≡ d = cc in ap (λ x. value_at row x) e
kept-at (k ∷ cols) row tail (suc c) d h = kept-at cols row tail c d h

pub kept-copies : (cols : List ℕ) (row tail : Row) → HasCopies (columns_kept cols) row (pick cols row ++ tail)
kept-copies cols row tail c d h = kept-at cols row tail c d h

pub kept-alone : (cols : List ℕ) (row : Row) → HasCopies (columns_kept cols) row (pick cols row)
kept-alone cols row c d h = ap (λ r. value_at r c) (sym (append-nil (pick cols row))) ∙ kept-copies cols row [] c d h

pub entry-at : (es : List Entry) (row : Row) (c d : ℕ) → source (entries_kept (map kept_column es)) c ≡ Some d → value_at (entries_row es row) c ≡ value_at row d
entry-at [] row c d h = cc
entry-at (copy_of k ∷ es) row zero d h = let e : k ≡ d = cc in ap (λ x. value_at row x) e
entry-at (made_by e ∷ es) row zero d h = cc
entry-at (e ∷ es) row (suc c) d h = entry-at es row c d h

pub entry-copies : (es : List Entry) (row : Row) → HasCopies (entries_kept (map kept_column es)) row (entries_row es row)
entry-copies es row c d h = entry-at es row c d h

pub value-left : (l r : Row) (c : ℕ) → c < length l → value_at (l ++ r) c ≡ value_at l c
value-left [] r c h = absurd (omega arith)
value-left (x ∷ l) r zero h = refl
value-left (x ∷ l) r (suc c) h = value-left l r c (omega arith)

pub value-right : (l r : Row) (c d : ℕ) → c ≡ length l + d → value_at (l ++ r) c ≡ value_at r d
value-right [] r c d h = let e : c ≡ d = omega arith in ap (λ k. value_at r k) e
value-right (x ∷ l) r zero d h = absurd (omega arith)
value-right (x ∷ l) r (suc c) d h = value-right l r c d (omega arith)

some-where : (b : Bool) (c d : ℕ) → cond b (Some c) None ≡ Some d → (b ≡ true) × (c ≡ d)
some-where true c d h = (refl, cc)
some-where false c d h = cc

pub left-copies : (w : ℕ) (l r : Row) → length l ≡ w → HasCopies (left_of w) l (l ++ r)
left-copies w l r wide c d h =
    let p = some-where (nat_lt c w) c d h in
    let small : c < w = ltb-true c w p.0 in
    value-left l r c (omega arith) ∙ ap (λ x. value_at l x) p.1

pub right-copies : (w : ℕ) (l r : Row) → length l ≡ w → HasCopies (right_of w) r (l ++ r)
right-copies w l r wide c d h =
    let p = some-where (nat_le w c) (c - w) d h in
    let large : w ≤ c = leb-true w c p.0 in
    let e : c - w ≡ d = p.1 in
    value-right l r c d (omega arith)

-- ---- equal columns

pub equal-lifted : (k : Copying) (e : Equality) (row out : Row) → HasCopies k row out → HasEqual e row → HasEqual (lifted k e) out
equal-lifted k e row out has h a b t = ⊎_elim
    (λ alike. ap (λ x. value_at out x) (eqb-true a b alike))
    (λ copied. go (source k a) (source k b) refl refl copied)
    (or-cases (a == b) (both_equal e (source k a) (source k b)) t)
  where
    go : (o u : Option ℕ) → source k a ≡ o → source k b ≡ u → both_equal e o u ≡ true → value_at out a ≡ value_at out b
    go (Some c) (Some d) p q t = has a c p ∙ (h c d t ∙ sym (has b d q))
    go (Some c) None p q t = absurd (true≢false (sym t))
    go None u p q t = absurd (true≢false (sym t))

pub equal-pair : (x y : ℕ) (e : Equality) (row : Row) → value_at row x ≡ value_at row y → HasEqual e row → HasEqual (with_pair x y e) row
equal-pair x y e row alike h a b k = ⊎_elim
    (λ old. h a b old)
    (λ new. ⊎_elim
    (λ one. h a x (and-left (e a x) (e y b) one) ∙ (alike ∙ h y b (and-right (e a x) (e y b) one)))
    (λ two. h a y (and-left (e a y) (e x b) two) ∙ (sym alike ∙ h x b (and-right (e a y) (e x b) two)))
    (or-cases (e a x && e y b) (e a y && e x b) new))
    (or-cases (e a b) ((e a x && e y b) || (e a y && e x b)) k)

pub equal-either : (e f : Equality) (row : Row) → HasEqual e row → HasEqual f row → HasEqual (λ a b. e a b || f a b) row
equal-either e f row h k a b t = ⊎_elim (λ l. h a b l) (λ r. k a b r) (or-cases (e a b) (f a b) t)

-- values that compare as equal are one
same-value : (u v : Val) → is_eq (val_cmp u v) ≡ true → u ≡ v
same-value u v h = val_cmp-same u v (is_eq-Equal (val_cmp u v) h)

equal-test : (x : ℕ) (t : Test) (s : Side) (e : Equality) (row : Row) → answers t (val_cmp (value_at row x) (side s row)) ≡ true → HasEqual e row
    → HasEqual (with_test x t s e) row
equal-test x equal (column y) e row p h = equal-pair x y e row (same-value (value_at row x) (value_at row y) p) h
equal-test x equal (constant v) e row p h = h
equal-test x unequal s e row p h = h
equal-test x below s e row p h = h
equal-test x at_most s e row p h = h
equal-test x above s e row p h = h
equal-test x at_least s e row p h = h

pub equal-conditions : (cs : List Condition) (e : Equality) (row : Row) → passes cs row ≡ true → HasEqual e row → HasEqual (with_conditions cs e) row
equal-conditions [] e row p h = h
equal-conditions (c ∷ cs) e row p h =
    let here : Bool = answers c.test (val_cmp (value_at row c.left) (side c.right row)) in
    equal-test c.left c.test c.right (with_conditions cs e) row (and-left here (passes cs row) p) (equal-conditions cs e row (and-right here (passes cs row) p) h)

-- rows that match on pairs, of which the left columns are there
pub equal-pairs : (w : ℕ) (on : List (ℕ × ℕ)) (e : Equality) (l r : Row) → length l ≡ w → list_all (λ p. nat_lt p.0 w) on ≡ true
    → pick (map (λ p. p.0) on) l ≡ pick (map (λ p. p.1) on) r → HasEqual e (l ++ r) → HasEqual (with_pairs w on e) (l ++ r)
equal-pairs w [] e l r wide b p h = h
equal-pairs w (x ∷ on) e l r wide b p h =
    let small : x.0 < w = ltb-true x.0 w (and-left (nat_lt x.0 w) (list_all (λ p. nat_lt p.0 w) on) b) in
    let alike : value_at l x.0 ≡ value_at r x.1 = cc in
    let rest : pick (map (λ p. p.0) on) l ≡ pick (map (λ p. p.1) on) r = cc in
    equal-pair x.0 (w + x.1) (with_pairs w on e) (l ++ r)
    (value-left l r x.0 (omega arith) ∙ (alike ∙ sym (value-right l r (w + x.1) x.1 (omega arith))))
    (equal-pairs w on e l r wide (and-right (nat_lt x.0 w) (list_all (λ p. nat_lt p.0 w) on) b) rest h)

-- ---- fixed columns

pub has-append : (us vs : List Val) (v : Val) → has_value (us ++ vs) v ≡ true → (has_value us v ≡ true) ⊎ (has_value vs v ≡ true)
has-append [] vs v h = inr h
has-append (u ∷ us) vs v h = ⊎_elim
    (λ e. inl (left e))
    (λ e. ⊎_elim (λ k. inl (more k)) (λ k. inr k) (has-append us vs v e))
    (or-cases (is_eq (val_cmp u v)) (has_value (us ++ vs) v) h)
  where
    left : is_eq (val_cmp u v) ≡ true → has_value (u ∷ us) v ≡ true
    left e = ap (λ b. b || has_value us v) e

    or : (b : Bool) → has_value us v ≡ true → (b || has_value us v) ≡ true
    or true k = refl
    or false k = k

    more : has_value us v ≡ true → has_value (u ∷ us) v ≡ true
    more k = or (is_eq (val_cmp u v)) k

-- of values that pass a test: it is one of them, and passes
pub has-filter : (p : Val → Bool) (us : List Val) (v : Val) → has_value (filter p us) v ≡ true → (has_value us v ≡ true) × (p v ≡ true)
has-filter p [] v h = absurd (true≢false (sym h))
has-filter p (u ∷ us) v h = go (p u) refl h (λ k. has-filter p us v k)
  where
    or : (b : Bool) → has_value us v ≡ true → (b || has_value us v) ≡ true
    or true k = refl
    or false k = k

    go : (b : Bool) → p u ≡ b → has_value (cond b (u ∷ filter p us) (filter p us)) v ≡ true
        → (has_value (filter p us) v ≡ true → (has_value us v ≡ true) × (p v ≡ true)) → (has_value (u ∷ us) v ≡ true) × (p v ≡ true)
    go true e k more = ⊎_elim
        (λ here. (ap (λ b. b || has_value us v) here, subst (λ x. p x ≡ true) (same-value u v here) e))
        (λ later. let t = more later in (or (is_eq (val_cmp u v)) t.0, t.1))
        (or-cases (is_eq (val_cmp u v)) (has_value (filter p us) v) k)
    go false e k more = let t = more k in (or (is_eq (val_cmp u v)) t.0, t.1)

pub fixed-carried : (k : Copying) (f : Values) (row out : Row) → HasCopies k row out → HasFixed f row → HasFixed (carried_values k f) out
fixed-carried k f row out has h c v t = go (source k c) refl t
  where
    go : (o : Option ℕ) → source k c ≡ o → has_value (values_at f o) v ≡ true → value_at out c ≡ v
    go (Some d) e t = has c d e ∙ h d v t
    go None e t = absurd (true≢false (sym t))

-- of each column that is equal to it, of these
shared-of : (e : Equality) (f : Values) (row : Row) → HasEqual e row → HasFixed f row → (ds : List ℕ) (c : ℕ) (v : Val)
    → has_value (flat_map (λ d. cond (e c d) (f d) []) ds) v ≡ true → value_at row c ≡ v
shared-of e f row a h [] c v t = absurd (true≢false (sym t))
shared-of e f row a h (d ∷ ds) c v t = ⊎_elim
    (λ here. go (e c d) refl here)
    (λ later. shared-of e f row a h ds c v later)
    (has-append (cond (e c d) (f d) []) (flat_map (λ d. cond (e c d) (f d) []) ds) v t)
  where
    go : (b : Bool) → e c d ≡ b → has_value (cond b (f d) []) v ≡ true → value_at row c ≡ v
    go true k t = a c d k ∙ h d v t
    go false k t = absurd (true≢false (sym t))

pub fixed-shared : (w : ℕ) (e : Equality) (f : Values) (row : Row) → HasEqual e row → HasFixed f row → HasFixed (shared_values w e f) row
fixed-shared w e f row a h c v t = shared-of e f row a h (first_columns w) c v t

pub fixed-both : (f g : Values) (row : Row) → HasFixed f row → HasFixed g row → HasFixed (λ c. f c ++ g c) row
fixed-both f g row h k c v t = ⊎_elim (λ l. h c v l) (λ r. k c v r) (has-append (f c) (g c) v t)

fixed-test : (x : ℕ) (t : Test) (s : Side) (row : Row) → answers t (val_cmp (value_at row x) (side s row)) ≡ true → HasFixed (tested_value x t s) row
fixed-test x equal (constant u) row p c v h = go (x == c) refl h
  where
    go : (b : Bool) → (x == c) ≡ b → has_value (cond b (u ∷ []) []) v ≡ true → value_at row c ≡ v
    go true e k =
        let here : is_eq (val_cmp u v) ≡ true = ⊎_elim (λ l. l) (λ r. absurd (true≢false (sym r))) (or-cases (is_eq (val_cmp u v)) false k) in
        ap (λ i. value_at row i) (sym (eqb-true x c e)) ∙ (same-value (value_at row x) u p ∙ same-value u v here)
    go false e k = absurd (true≢false (sym k))
fixed-test x equal (column y) row p c v h = absurd (true≢false (sym h))
fixed-test x unequal s row p c v h = absurd (true≢false (sym h))
fixed-test x below s row p c v h = absurd (true≢false (sym h))
fixed-test x at_most s row p c v h = absurd (true≢false (sym h))
fixed-test x above s row p c v h = absurd (true≢false (sym h))
fixed-test x at_least s row p c v h = absurd (true≢false (sym h))

pub fixed-conditions : (cs : List Condition) (row : Row) → passes cs row ≡ true → HasFixed (tested_values cs) row
fixed-conditions [] row p c v h = absurd (true≢false (sym h))
fixed-conditions (d ∷ cs) row p c v h =
    let here : Bool = answers d.test (val_cmp (value_at row d.left) (side d.right row)) in
    ⊎_elim
    (λ t. fixed-test d.left d.test d.right row (and-left here (passes cs row) p) c v t)
    (λ t. fixed-conditions cs row (and-right here (passes cs row) p) c v t)
    (has-append (tested_value d.left d.test d.right c) (tested_values cs c) v h)

-- a constant is the value of its column
pub fixed-constants : (es : List Entry) (row : Row) → HasFixed (constants es) (entries_row es row)
fixed-constants [] row c v h = absurd (true≢false (sym h))
fixed-constants (copy_of k ∷ es) row zero v h = absurd (true≢false (sym h))
fixed-constants (made_by (input k) ∷ es) row zero v h = absurd (true≢false (sym h))
fixed-constants (made_by (value u) ∷ es) row zero v h =
    same-value u v (⊎_elim (λ l. l) (λ r. absurd (true≢false (sym r))) (or-cases (is_eq (val_cmp u v)) false h))
fixed-constants (made_by (call f t os) ∷ es) row zero v h = absurd (true≢false (sym h))
fixed-constants (e ∷ es) row (suc c) v h = fixed-constants es row c v h
