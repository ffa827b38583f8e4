-- Rows that pass comparisons and computed conditions.
use Rattle.std.proofs.Common.{◌≡◌, ℕ, zero, suc, ◌-◌, ◌<◌, replicate, take_all, Bool, true, false, ◌&&◌, List, [], ◌∷◌, ◌++◌, length, map, take, filter, get_or, Some, refl, sym, ap, ap₂, ◌∙◌, arith}
use Rattle.std.specs.List.{list_all}
use Rattle.std.proofs.lemmas.Simd.{splat_is_map}
use Rattle.std.proofs.lemmas.List.Folds.{list_all-append}
use Rattle.vx_rows_values.proofs.Booleans.{and-both}
use Rattle.vx_rows_values.specs.Values.{Row}
use Rattle.vx_plan_nodes.specs.Expressions.{answer, is_answered, says_yes}
use Rattle.vx_plan_nodes.specs.Plan.{Expression, Condition, Filter, comparing, computing}
use Rattle.vx_plan_nodes.specs.Serial.{compares, filter_holds, filters_hold, filter_fits, filters_fit}
use Rattle.vx_rows_views.specs.Selected.{places_of}
use Rattle.vx_rows_views.proofs.Passing.{places-map}
use Rattle.vx_ops_kernels.proofs.Conditions.{filter-both, filter-same}
use Rattle.vx_ops_computing.specs.declared.operands.Operand.{Operand}
use Rattle.vx_ops_computing.specs.Answers.{IsAnswered}
use Rattle.vx_ops_computing.specs.Computed.{comparison_holds, computed_holds, comparisons_hold, computed_hold, IsNarrowed}
use Rattle.vx_ops_computing.specs.Operands.{operand_at}
use Rattle.vx_rows_values.specs.declared.value.ColType.{ColType}

and-true : (a : Bool) → (a && true) ≡ a
and-true true = refl
and-true false = refl

-- one condition more
pub all-push : (p : Filter → Bool) (fs : List Filter) (f : Filter) → list_all p (fs ++ f ∷ []) ≡ (list_all p fs && p f)
all-push p fs f = list_all-append p fs (f ∷ []) ∙ ap (λ b. list_all p fs && b) (and-true (p f))

-- ---- masks

mask-at : (p : Row → Bool) (xs : List Row) (mask : List Bool) (k : ℕ) → mask ≡ map p xs → k < length xs → get_or mask k false ≡ p (get_or xs k [])
mask-at p [] mask k e l = absurd (omega arith)
mask-at p (x ∷ xs) mask zero e l = ap (λ (bs : List Bool). get_or bs 0 false) e
mask-at p (x ∷ xs) mask (suc k) e l = ap (λ (bs : List Bool). get_or bs (suc k) false) e ∙ mask-at p xs (map p xs) k refl (omega arith)

mask-long : (p : Row → Bool) (xs : List Row) → length (map p xs) ≡ length xs
mask-long p [] = refl
mask-long p (x ∷ xs) = ap suc (mask-long p xs)

pub mask-is : (p : Row → Bool) (xs : List Row) (mask : List Bool) → length mask ≡ length xs → ((k : ℕ) → k < length xs → get_or mask k false ≡ p (get_or xs k [])) → mask ≡ map p xs
mask-is p [] [] n h = refl
mask-is p [] (b ∷ bs) n h = absurd (omega (arith, n))
mask-is p (x ∷ xs) [] n h = absurd (omega (arith, n))
mask-is p (x ∷ xs) (b ∷ bs) n h =
    ap₂ (λ (c : Bool) (cs : List Bool). c ∷ cs) (h zero (omega arith)) (mask-is p xs bs (omega (arith, n)) (λ k l. h (suc k) (omega arith)))

mask-same : (p q : Row → Bool) (xs : List Row) → ((x : Row) → p x ≡ q x) → map p xs ≡ map q xs
mask-same p q [] h = refl
mask-same p q (x ∷ xs) h = ap₂ (λ (c : Bool) (cs : List Bool). c ∷ cs) (h x) (mask-same p q xs h)

-- a comparison leaves them
pub mask-compared : (fs : List Filter) (c : Condition) (xs : List Row) (mask : List Bool) → mask ≡ map (computed_hold fs) xs → mask ≡ map (computed_hold (fs ++ comparing c ∷ [])) xs
mask-compared fs c xs mask e =
    e ∙ mask-same (computed_hold fs) (computed_hold (fs ++ comparing c ∷ [])) xs (λ r. sym (all-push (λ f. computed_holds f r) fs (comparing c) ∙ and-true (computed_hold fs r)))

-- a computed condition narrows them
pub mask-computed : (types : List ColType) (fs : List Filter) (e : Expression) (xs : List Row) (o : Operand) (before after : List Bool) → before ≡ map (computed_hold fs) xs → IsAnswered types e xs o
    → IsNarrowed before (λ k. says_yes (Some (operand_at o k))) after → after ≡ map (computed_hold (fs ++ computing e ∷ [])) xs
mask-computed types fs e xs o before after is h g =
    let many : length before ≡ length xs = ap length is ∙ mask-long (computed_hold fs) xs in
    mask-is (computed_hold (fs ++ computing e ∷ [])) xs after (g.long ∙ many) (λ k l.
    g.each k (omega (arith, many, l))
    ∙ (ap₂ (λ a b. a && b) (mask-at (computed_hold fs) xs before k is l) (ap says_yes (sym (h.values k l)))
    ∙ sym (all-push (λ f. computed_holds f (get_or xs k [])) fs (computing e))))

pub mask-places : (p : Row → Bool) (xs : List Row) (mask : List Bool) → mask ≡ map p xs → places_of (λ b. b) mask ≡ places_of p xs
mask-places p xs mask e = ap (places_of (λ b. b)) e ∙ sym (places-map (λ b. b) p xs)

-- ---- nothing overflows

pub fits-more : (fs : List Filter) (f : Filter) (row : Row) → filters_fit fs row ≡ true → filter_fits f row ≡ true → filters_fit (fs ++ f ∷ []) row ≡ true
fits-more fs f row h g = all-push (λ f. filter_fits f row) fs f ∙ and-both (filters_fit fs row) (filter_fits f row) h g

pub answered-fits : (types : List ColType) (e : Expression) (xs : List Row) (o : Operand) → IsAnswered types e xs o → (k : ℕ) → k < length xs → filter_fits (computing e) (get_or xs k []) ≡ true
answered-fits types e xs o h k l = ap is_answered (h.values k l)

-- ---- both kinds of conditions

hold-one : (f : Filter) (row : Row) → (computed_holds f row && comparison_holds f row) ≡ filter_holds f row
hold-one (comparing c) row = refl
hold-one (computing e) row = and-true (says_yes (answer e row))

pub and-mixed : (a b c d : Bool) → ((a && b) && (c && d)) ≡ ((a && c) && (b && d))
and-mixed true true c d = refl
and-mixed true false true d = refl
and-mixed true false false d = refl
and-mixed false b c d = refl

hold-both : (fs : List Filter) (row : Row) → (computed_hold fs row && comparisons_hold fs row) ≡ filters_hold fs row
hold-both [] row = refl
hold-both (f ∷ fs) row =
    and-mixed (computed_holds f row) (computed_hold fs row) (comparison_holds f row) (comparisons_hold fs row) ∙ ap₂ (λ a b. a && b) (hold-one f row) (hold-both fs row)

pub chosen-both : (fs : List Filter) (xs : List Row) → filter (comparisons_hold fs) (filter (computed_hold fs) xs) ≡ filter (filters_hold fs) xs
chosen-both fs xs =
    filter-both (computed_hold fs) (comparisons_hold fs) xs ∙ filter-same (λ r. computed_hold fs r && comparisons_hold fs r) (filters_hold fs) xs (hold-both fs)

-- the rows that pass one comparison more
pub compared-more : (fs : List Filter) (c : Condition) (xs : List Row) → filter (compares c) (filter (comparisons_hold fs) xs) ≡ filter (comparisons_hold (fs ++ comparing c ∷ [])) xs
compared-more fs c xs =
    filter-both (comparisons_hold fs) (compares c) xs
    ∙ filter-same (λ r. comparisons_hold fs r && compares c r) (comparisons_hold (fs ++ comparing c ∷ [])) xs (λ r. sym (all-push (λ f. comparison_holds f r) fs (comparing c)))

pub compared-same : (fs : List Filter) (e : Expression) (xs : List Row) → filter (comparisons_hold fs) xs ≡ filter (comparisons_hold (fs ++ computing e ∷ [])) xs
compared-same fs e xs =
    filter-same (comparisons_hold fs) (comparisons_hold (fs ++ computing e ∷ [])) xs (λ r. sym (all-push (λ f. comparison_holds f r) fs (computing e) ∙ and-true (comparisons_hold fs r)))

-- a mask of all rows
pub initial-mask : (n m : ℕ) (old mask : List Bool) (xs : List Row) → old ≡ [] → m ≡ 0 → n ≡ length xs → mask ≡ take n old ++ replicate (n - m) true → mask ≡ map (computed_hold []) xs
initial-mask n m old mask xs none zero-is many is =
    is ∙ ap₂ (λ (a b : List Bool). a ++ b) (ap (take n) none ∙ take_all n [] (omega arith)) (splat_is_map xs (n - m) true (omega (arith, zero-is, many)))
