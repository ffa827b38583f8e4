-- Rows that have the values of others in columns that are copies, and what a projection does: it keeps some columns and computes others.
use Rattle.std.proofs.Common.{◌≡◌, ℕ, ◌≤◌, ◌==◌, Bool, true, cond, List, [], ◌∷◌, map, length, refl, sym, ap, ap₂, ◌∙◌, subst, arith, eq-eqb, is_le, Option, Some, None}
use Rattle.std.specs.List.{cons_option}
use Rattle.std.specs.Ordering.{ordering_then}
use Rattle.vx_rows_values.specs.declared.order.OrderEntry.{OrderEntry}
use Rattle.vx_rows_values.specs.Values.{Row, row_eq, value_at, pick}
use Rattle.vx_rows_values.specs.Order.{compare_values, compare_on, agree, sorted}
use Rattle.vx_rows_values.specs.Bags.{count}
use Rattle.vx_rows_values.specs.Keys.{HasKey}
use Rattle.vx_rows_values.proofs.Compare.{row_eq-refl, row_eq-same, agree-both, count-witness}
use Rattle.vx_catalog_relations.specs.Relation.{KeysHold}
use Rattle.vx_plan_nodes.specs.Plan.{Entry}
use Rattle.vx_plan_nodes.specs.Describe.{Copying, entries_kept, kept_column, source}
use Rattle.vx_plan_nodes.specs.Serial.{entry_value, entries_row}
use Rattle.vx_plan_facts.proofs.Columns.{HasCopies, entry-copies}
use Rattle.vx_check_rules.specs.Rules.{cons_both, copied_among, covers}
use Rattle.vx_check_rules.specs.Behaviour.{sources, order_sources}
use Rattle.vx_exec_laws.proofs.Bags.{and-left, and-right, and-both, total-map}
use Rattle.vx_exec_laws.proofs.Parts.{list_all-weaken, list_all-always}
use Rattle.vx_exec_laws.proofs.Keys.{count-mono, covers-key}
use Rattle.vx_exec_laws.proofs.Unary.{map-all}
use Rattle.vx_exec_laws.proofs.Widths.{length-values}
use Rattle.vx_exec_laws.proofs.JoinOrder.{wide}
use Rattle.vx_exec_laws.proofs.OrderFacts.{entry-both-is}

-- ---- columns that are copies

-- columns and those that they are copies of have the same values
cons-is : (o : Option ℕ) (os : Option (List ℕ)) (ds : List ℕ) → cons_both o os ≡ Some ds → (e : ℕ) × (es : List ℕ) × (o ≡ Some e) × (os ≡ Some es) × (ds ≡ e ∷ es)
cons-is (Some e) (Some es) ds h = (e, es, refl, refl, cc)
cons-is (Some e) None ds h = cc
cons-is None os ds h = cc

pub copies-pick : (k : Copying) (x a : Row) → HasCopies k x a → (cs ds : List ℕ) → sources k cs ≡ Some ds → pick cs a ≡ pick ds x
copies-pick k x a h [] ds e = let none : [] ≡ ds = cc in ap (λ z. pick z x) none
copies-pick k x a h (c ∷ cs) ds e =
    let w = cons-is (source k c) (sources k cs) ds e in
    ap₂ (λ v vs. v ∷ vs) (h c w.0 w.2) (copies-pick k x a h cs w.1 w.3) ∙ ap (λ z. pick z x) (sym w.4)

-- rows compare as those whose values they have
compare-copies : (k : Copying) (order ds : List OrderEntry) → order_sources k order ≡ Some ds → (a b x y : Row) → HasCopies k x a → HasCopies k y b → compare_on order a b ≡ compare_on ds x y
compare-copies k [] ds h a b x y ca cb = let e : [] ≡ ds = cc in ap (λ o. compare_on o x y) e
compare-copies k (e ∷ order) ds h a b x y ca cb =
    let w = entry-both-is (source k e.column) e (order_sources k order) ds h in
    ap₂ ordering_then (ap₂ (compare_values e.falling) (ca e.column w.0 w.2) (cb e.column w.0 w.2)) (compare-copies k order w.1 w.3 a b x y ca cb)
    ∙ ap (λ o. compare_on o x y) (sym w.4)

-- and are in order where those are
pub copies-sorted : (k : Copying) (g : Row → Row) → ((row : Row) → HasCopies k row (g row)) → (order ds : List OrderEntry) → order_sources k order ≡ Some ds
    → (xs : List Row) → sorted ds xs ≡ true → sorted order (map g xs) ≡ true
copies-sorted k g copies order ds h [] up = refl
copies-sorted k g copies order ds h (x ∷ xs) up = and-both _ _
    (map-all _ g xs (list_all-weaken _ _ (λ y e. ap is_le (compare-copies k order ds h (g x) (g y) x y (copies x) (copies y)) ∙ e) xs (and-left _ _ up)))
    (copies-sorted k g copies order ds h xs (and-right _ _ up))

-- ---- a projection

-- how it copies columns
abbrev pub kept_of : List Entry → Copying
kept_of es = entries_kept (map kept_column es)

pub entries-sorted : (es : List Entry) (order ds : List OrderEntry) → order_sources (kept_of es) order ≡ Some ds → (xs : List Row) → sorted ds xs ≡ true
    → sorted order (map (entries_row es) xs) ≡ true
entries-sorted es order ds h xs up = copies-sorted (kept_of es) (entries_row es) (entry-copies es) order ds h xs up

pub entries-wide : (es : List Entry) (xs : List Row) → wide (length es) (map (entries_row es) xs) ≡ true
entries-wide es xs = map-all (λ row. length row == length es) (entries_row es) xs
    (list_all-always (λ row. length (entries_row es row) == length es) (λ row. eq-eqb _ _ (length-values (λ e. entry_value e row) es)) xs)

-- rows with the same values have them in the columns that those are copies of
pub picks-among : (es : List Entry) (x : List ℕ) (a b : Row) → pick x (entries_row es a) ≡ pick x (entries_row es b)
    → pick (copied_among (map kept_column es) x) a ≡ pick (copied_among (map kept_column es) x) b
picks-among es [] a b h = refl
picks-among es (c ∷ x) a b h =
    let first : value_at (entries_row es a) c ≡ value_at (entries_row es b) c = cc in
    let more : pick x (entries_row es a) ≡ pick x (entries_row es b) = cc in
    go (source (kept_of es) c) refl first (picks-among es x a b more)
  where
    ks : List (Option ℕ)
    ks = map kept_column es

    go : (o : Option ℕ) → source (kept_of es) c ≡ o → value_at (entries_row es a) c ≡ value_at (entries_row es b) c
        → pick (copied_among ks x) a ≡ pick (copied_among ks x) b → pick (cons_option o (copied_among ks x)) a ≡ pick (cons_option o (copied_among ks x)) b
    go None e first more = more
    go (Some d) e first more = ap₂ (λ v vs. v ∷ vs) (sym (entry-copies es a c d e) ∙ (first ∙ entry-copies es b c d e)) more

-- columns among which are copies of a key are a key
pub entries-key : (es : List Entry) (keys : List (List ℕ)) (x : List ℕ) → covers keys (copied_among (map kept_column es) x) ≡ true → (xs : List Row) → KeysHold keys xs
    → HasKey x (map (entries_row es) xs)
entries-key es keys x h xs ks row =
    let g : Row → Row = entries_row es in
    let cs : List ℕ = copied_among (map kept_column es) x in
    let p : Row → Bool = λ r. agree x row (g r) in
    let e : count (agree x row) (map g xs) ≡ count p xs = total-map (λ r. cond (agree x row r) 1 0) g xs in
    let b : count p xs ≤ 1 = count-witness p xs (λ r0 h0.
    let a : count p xs ≤ count (agree cs r0) xs = count-mono p (agree cs r0) (λ r h1. among r0 r (agree-both x row (g r0) (g r) h0 h1)) xs in
    let k : count (agree cs r0) xs ≤ 1 = covers-key keys cs h xs ks r0 in
    omega (arith, a, k)) in
    omega (arith, e, b)
  where
    among : (a b : Row) → agree x (entries_row es a) (entries_row es b) ≡ true → agree (copied_among (map kept_column es) x) a b ≡ true
    among a b t =
        let cs : List ℕ = copied_among (map kept_column es) x in
        let P : Row → Type 0 = λ r. row_eq (pick cs a) r ≡ true in
        subst P (picks-among es x a b (row_eq-same (pick x (entries_row es a)) (pick x (entries_row es b)) t)) (row_eq-refl (pick cs a))
