-- Orders: entries that are the same, rows that compare alike, and what copies columns.
use Rattle.std.proofs.Common.{◌≡◌, ℕ, ◌==◌, Bool, true, false, cond, not, List, [], ◌∷◌, ◌++◌, refl, sym, ap, ap₂, ◌∙◌, true≢false, eqb-true, eq-eqb, is_le, Option, Some, None, slice_get, append-nil}
use Rattle.std.specs.Ordering.{ordering_then}
use Rattle.vx_rows_values.specs.declared.order.OrderEntry.{OrderEntry}
use Rattle.vx_rows_values.specs.Values.{Row, value_at, pick}
use Rattle.vx_rows_values.specs.Order.{order_columns, entry_eq, compare_values, compare_on, agree}
use Rattle.vx_rows_values.proofs.Compare.{compare_on-agree}
use Rattle.vx_check_rules.specs.Rules.{is_front, entry_at, entry_both, copied, copied_order, cons_both, if_order}
use Rattle.vx_rows.proofs.SortFacts.{eq-le}
use Rattle.vx_exec_laws.proofs.Bags.{and-left, and-right, and-both}
use Rattle.vx_exec_laws.proofs.Copies.{copied-at}

-- ---- entries

-- a column that rises
abbrev pub rise : ℕ → OrderEntry
rise c = record { column = c; falling = false }

abbrev entry_of : ℕ → Bool → OrderEntry
entry_of c f = record { column = c; falling = f }

same-way : (a b : Bool) → cond a b (not b) ≡ true → a ≡ b
same-way true b h = sym h
same-way false true h = absurd (true≢false (sym h))
same-way false false h = refl

pub way-self : (a : Bool) → cond a a (not a) ≡ true
way-self true = refl
way-self false = refl

pub entry-same : (a b : OrderEntry) → entry_eq a b ≡ true → a ≡ b
entry-same a b h =
    ap₂ entry_of (eqb-true a.column b.column (and-left (a.column == b.column) (cond a.falling b.falling (not b.falling)) h))
    (same-way a.falling b.falling (and-right (a.column == b.column) (cond a.falling b.falling (not b.falling)) h))

pub entry-self : (a : OrderEntry) → entry_eq a a ≡ true
entry-self a = and-both (a.column == a.column) (cond a.falling a.falling (not a.falling)) (eq-eqb a.column a.column refl) (way-self a.falling)

pub front-self : (order : List OrderEntry) → is_front order order ≡ true
front-self [] = refl
front-self (e ∷ order) = and-both (entry_eq e e) (is_front order order) (entry-self e) (front-self order)

-- ---- rows

-- rows that agree on the columns of an order come in either order
pub agree-le : (order : List OrderEntry) (a b : Row) → agree (order_columns order) a b ≡ true → is_le (compare_on order a b) ≡ true
agree-le order a b h = eq-le (compare_on order a b) (compare_on-agree order a b ∙ h)

-- rows compare as others with the same values in the columns of the order
pub compare-pick : (order : List OrderEntry) (a b x y : Row) → pick (order_columns order) a ≡ pick (order_columns order) x → pick (order_columns order) b ≡ pick (order_columns order) y
    → compare_on order a b ≡ compare_on order x y
compare-pick [] a b x y h k = refl
compare-pick (e ∷ order) a b x y h k =
    let c : ℕ = e.column in
    let hs : value_at a c ∷ pick (order_columns order) a ≡ value_at x c ∷ pick (order_columns order) x = h in
    let ks : value_at b c ∷ pick (order_columns order) b ≡ value_at y c ∷ pick (order_columns order) y = k in
    let u : value_at a c ≡ value_at x c = cc in
    let v : value_at b c ≡ value_at y c = cc in
    let us : pick (order_columns order) a ≡ pick (order_columns order) x = cc in
    let vs : pick (order_columns order) b ≡ pick (order_columns order) y = cc in
    ap₂ ordering_then (ap₂ (compare_values e.falling) u v) (compare-pick order a b x y us vs)

-- ---- copies

-- the order is copied, and the test holds of where it comes from
pub if_order-is : (o : Option (List OrderEntry)) (test : List OrderEntry → Bool) → if_order o test ≡ true → (ds : List OrderEntry) × (o ≡ Some ds) × (test ds ≡ true)
if_order-is None test h = absurd (true≢false (sym h))
if_order-is (Some ds) test h = (ds, refl, h)

pub entry-both-is : (o : Option ℕ) (e : OrderEntry) (os : Option (List OrderEntry)) (ds : List OrderEntry) → entry_both o e os ≡ Some ds
    → (c : ℕ) × (more : List OrderEntry) × (o ≡ Some c) × (os ≡ Some more) × (ds ≡ entry_at c e ∷ more)
entry-both-is (Some c) e (Some more) ds h = (c, more, refl, refl, cc)
entry-both-is (Some c) e None ds h = cc
entry-both-is None e os ds h = cc

-- rows that begin with copies compare as those that they are copied from
pub compare-extended : (kept : List ℕ) (order ds : List OrderEntry) → copied_order kept order ≡ Some ds → (a b u v : Row)
    → compare_on order (pick kept a ++ u) (pick kept b ++ v) ≡ compare_on ds a b
compare-extended kept [] ds h a b u v = let e : [] ≡ ds = cc in ap (λ o. compare_on o a b) e
compare-extended kept (e ∷ order) ds h a b u v =
    let w = entry-both-is (slice_get kept e.column) e (copied_order kept order) ds h in
    ap₂ ordering_then (ap₂ (compare_values e.falling) (copied-at kept e.column w.0 a u w.2) (copied-at kept e.column w.0 b v w.2))
    (compare-extended kept order w.1 w.3 a b u v)
    ∙ ap (λ o. compare_on o a b) (sym w.4)

pub compare-copied : (kept : List ℕ) (order ds : List OrderEntry) → copied_order kept order ≡ Some ds → (a b : Row) → compare_on order (pick kept a) (pick kept b) ≡ compare_on ds a b
compare-copied kept order ds h a b =
    ap₂ (compare_on order) (sym (append-nil (pick kept a))) (sym (append-nil (pick kept b))) ∙ compare-extended kept order ds h a b [] []

-- the columns of a copied order are copied
pub copied-columns : (kept : List ℕ) (order ds : List OrderEntry) → copied_order kept order ≡ Some ds → copied kept (order_columns order) ≡ Some (order_columns ds)
copied-columns kept [] ds h = let e : [] ≡ ds = cc in ap (λ o. Some (order_columns o)) e
copied-columns kept (e ∷ order) ds h =
    let w = entry-both-is (slice_get kept e.column) e (copied_order kept order) ds h in
    ap₂ cons_both w.2 (copied-columns kept order w.1 w.3) ∙ ap (λ o. Some (order_columns o)) (sym w.4)
