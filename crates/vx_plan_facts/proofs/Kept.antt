-- The facts of a node, from those of its inputs.
use Rattle.std.proofs.Common.{slice_get, ◌≡◌, ◌∙◌, ℕ, zero, suc, ◌+◌, ◌-◌, ◌<◌, ◌≤◌, ◌==◌, Bool, true, false, cond, nat_lt, nat_le, List, [], ◌∷◌, ◌++◌, map, flat_map, length, get_or, ap, sym, refl, arith, ◌&&◌, ◌||◌, not, Option, Some, None}
use Rattle.std.specs.List.{filter}
use Rattle.std.proofs.lemmas.Bool.{eqb-true, eq-eqb, ne_eqb}
use Rattle.std.proofs.lemmas.Bool.Decides.{nat_tests}
use Rattle.std.proofs.lemmas.List.{append-nil, get_or-map, length-map}
use Rattle.vx_rows_values.specs.Values.{Val}
use Rattle.vx_plan_nodes.specs.Plan.{Test, equal, unequal, below, at_most, above, at_least, Side, column, constant, Filter, comparing, computing, input, value, call, Entry, copy_of, made_by}
use Rattle.vx_plan_nodes.specs.Phases.{first_columns}
use Rattle.vx_plan_nodes.specs.Describe.{Copying, entries_kept, kept_column, source, left_of, right_of}
use Rattle.vx_plan_facts.specs.Equal.{Equality, each_itself, lifted, both_equal, with_conditions, with_pairs, comparisons}
use Rattle.vx_plan_facts.specs.Fixed.{Values, values_at, carried_values, tested_value, tested_values, constant_value, constants, shared_values, has_value}
use Rattle.vx_plan_facts.specs.Facts.{Facts, NamesFirsts, Tells, values_in, values_of, each_once, with_values, Keeps}
use Rattle.vx_plan_facts.specs.Labels.{label_eq, label_at, SameLabels, copy_label, copy_labels, both_labels, source_within}
use Rattle.vx_plan_facts.specs.Listing.{listed, of_firsts, copied, common, shared, named_value, named_values, side_by_side}
use Rattle.vx_plan_facts.proofs.ValueLists.{first-at, first-length, flat-push, values-at, values-all, values-append}
use Rattle.vx_plan_facts.proofs.Once.{Alike, alike-once, alike-append, alike-refl, alike-trans, alike-cond, alike-flat, withs-append, filter-once, filter-same, has-once}
use Rattle.vx_plan_facts.proofs.ClassFacts.{label-same, both-left, both-behind, both-length}

-- equal columns

eqb-refl : (a : ℕ) → (a == a) ≡ true
eqb-refl a = eq-eqb a a refl

eqb-swap : (a b : ℕ) → (a == b) ≡ (b == a)
eqb-swap a b = grind (arith, nat_tests)

self-equal : (e : Equality) (firsts : List ℕ) → Tells e firsts → (a : ℕ) → a < length firsts → e a a ≡ true
self-equal e firsts tells a h = sym (tells a a h h) ∙ eqb-refl (get_or firsts a 0)

not-less : (v a : ℕ) → nat_le v a ≡ not (nat_lt a v)
not-less v a = grind (arith, nat_tests)

-- ---- a scan

pub scan-named : (n : ℕ) → NamesFirsts (first_columns n)
scan-named n = record {
  before = λ c h. let e = first-at n c (omega (arith, first-length n, h)) in omega (arith, e);
  own = λ c h. ap (λ m. get_or (first_columns n) m 0) (first-at n c (omega (arith, first-length n, h)));
}

pub scan-keeps : (n : ℕ) (firsts : List ℕ) (fixed : List (ℕ × Val)) → firsts ≡ first_columns n → fixed ≡ [] → Keeps n each_itself (λ c. []) (record { firsts = firsts; fixed = fixed })
scan-keeps n firsts fixed is none = record {
  wide = ap length is ∙ first-length n;
  equal = λ a b ah bh.
      let la : a < n = omega (arith, ap length is ∙ first-length n, ah) in
      let lb : b < n = omega (arith, ap length is ∙ first-length n, bh) in
      ap (λ xs. get_or xs a 0 == get_or xs b 0) is ∙ ap (λ x. x == get_or (first_columns n) b 0) (first-at n a la) ∙ ap (λ y. a == y) (first-at n b lb);
  values = λ c h. ap (λ es. values_in es (get_or firsts c 0)) none;
}

-- ---- copies

copy-equal : (k : Copying) (e : Equality) (firsts : List ℕ) → Tells e firsts → (a b : ℕ) (s t : Option ℕ) → s ≡ source k a → t ≡ source k b → source_within (length firsts) s ≡ true → source_within (length firsts) t ≡ true
    → label_eq (copy_label firsts a s) (copy_label firsts b t) ≡ ((a == b) || both_equal e s t)
copy-equal k e firsts tells a b None None p q h j = go (a == b)
  where
    go : (x : Bool) → x ≡ (x || false)
    go true = refl
    go false = refl
copy-equal k e firsts tells a b None (Some d) p q h j = go (a == b) refl
  where
    go : (x : Bool) → x ≡ (a == b) → false ≡ (x || false)
    go true u = let s : a ≡ b = eqb-true a b (sym u) in let o : None ≡ Some d = p ∙ ap (source k) s ∙ sym q in absurd cc
    go false u = refl
copy-equal k e firsts tells a b (Some c) None p q h j = go (a == b) refl
  where
    go : (x : Bool) → x ≡ (a == b) → false ≡ (x || false)
    go true u = let s : a ≡ b = eqb-true a b (sym u) in let o : Some c ≡ None = p ∙ ap (source k) s ∙ sym q in absurd cc
    go false u = refl
copy-equal k e firsts tells a b (Some c) (Some d) p q h j =
    let lc : c < length firsts = grind (arith, nat_tests) in
    let ld : d < length firsts = grind (arith, nat_tests) in
    tells c d lc ld ∙ go (a == b) refl lc
  where
    go : (x : Bool) → x ≡ (a == b) → c < length firsts → e c d ≡ (x || e c d)
    go true u lc =
        let s : a ≡ b = eqb-true a b (sym u) in
        let o : Some c ≡ Some d = p ∙ ap (source k) s ∙ sym q in
        let m : c ≡ d = cc in
        ap (e c) (sym m) ∙ self-equal e firsts tells c lc
    go false u lc = refl

copied-same : (k : Facts) (r c : ℕ) (s t : Option ℕ) → copy_label k.firsts r s ≡ copy_label k.firsts c t → values_at (values_of k) s ≡ values_at (values_of k) t
copied-same k r c None None h = refl
copied-same k r c None (Some d) h = let e = ap (λ (x : ℕ × ℕ). x.0) h in absurd (omega (arith, e))
copied-same k r c (Some a) None h = let e = ap (λ (x : ℕ × ℕ). x.0) h in absurd (omega (arith, e))
copied-same k r c (Some a) (Some b) h = ap (values_in k.fixed) (ap (λ (x : ℕ × ℕ). x.1) h)

copied-once : (w : ℕ) (e : Equality) (f : Values) (k : Facts) → Keeps w e f k → (s : Option ℕ) → source_within w s ≡ true → values_at (values_of k) s ≡ each_once (values_at f s)
copied-once w e f k keeps None h = refl
copied-once w e f k keeps (Some c) h = keeps.values c (grind (arith, nat_tests))

label-copied : (firsts : List ℕ) (k : Copying) (w c : ℕ) → c < w → label_at (copy_labels firsts k w) c ≡ copy_label firsts c (source k c)
label-copied firsts k w c h =
    get_or-map (λ c. copy_label firsts c (source k c)) (first_columns w) c 0 (0, 0) (omega (arith, first-length w, h)) ∙ ap (λ d. copy_label firsts d (source k d)) (first-at w c h)

-- the values beside the first column of a class
first-values : (firsts : List ℕ) (f : Values) → NamesFirsts firsts → (c : ℕ) → c < length firsts → values_in (listed (length firsts) (of_firsts firsts f)) (get_or firsts c 0) ≡ f (get_or firsts c 0)
first-values firsts f named c h =
    let le = named.before c h in
    values-at (length firsts) (get_or firsts c 0) (of_firsts firsts f) (omega (arith, le, h))
    ∙ ap (λ b. cond b (f (get_or firsts c 0)) []) (eq-eqb (get_or firsts (get_or firsts c 0) 0) (get_or firsts c 0) (named.own c h))

-- the label of the first column of a class
first-label : (labels : List (ℕ × ℕ)) (firsts : List ℕ) → NamesFirsts firsts → SameLabels labels firsts → (c : ℕ) → c < length firsts → label_at labels (get_or firsts c 0) ≡ label_at labels c
first-label labels firsts named same c h =
    let le = named.before c h in
    label-same (label_at labels (get_or firsts c 0)) (label_at labels c) (sym (same (get_or firsts c 0) c (omega (arith, le, h)) h) ∙ eq-eqb (get_or firsts (get_or firsts c 0) 0) (get_or firsts c 0) (named.own c h))

pub carried-keeps : (k : Copying) (w : ℕ) (e : Equality) (f : Values) (under : Facts) (labels : List (ℕ × ℕ)) (firsts : List ℕ) (fixed : List (ℕ × Val))
    → ((c : ℕ) → source_within (length under.firsts) (source k c) ≡ true) → Keeps (length under.firsts) e f under → labels ≡ copy_labels under.firsts k w → length firsts ≡ length labels → NamesFirsts firsts
    → SameLabels labels firsts → fixed ≡ listed (length firsts) (of_firsts firsts (copied under k)) → Keeps w (lifted k e) (carried_values k f) (record { firsts = firsts; fixed = fixed })
carried-keeps k w e f under labels firsts fixed within keeps are wide named same is = record { wide = width; equal = tells; values = values }
  where
    width : length firsts ≡ w
    width = wide ∙ ap length are ∙ length-map (first_columns w) (λ c. copy_label under.firsts c (source k c)) ∙ first-length w

    label : (c : ℕ) → c < length firsts → label_at labels c ≡ copy_label under.firsts c (source k c)
    label c h = ap (λ ls. label_at ls c) are ∙ label-copied under.firsts k w c (omega (arith, width, h))

    tells : Tells (lifted k e) firsts
    tells a b ah bh =
        same a b ah bh ∙ ap (λ x. label_eq x (label_at labels b)) (label a ah) ∙ ap (λ y. label_eq (copy_label under.firsts a (source k a)) y) (label b bh)
        ∙ copy-equal k e under.firsts keeps.equal a b (source k a) (source k b) refl refl (within a) (within b)

    values : (c : ℕ) → c < w → values_in fixed (get_or firsts c 0) ≡ each_once (values_at f (source k c))
    values c h =
        let at : c < length firsts = omega (arith, width, h) in
        let le = named.before c at in
        let r : ℕ = get_or firsts c 0 in
        let rh : r < length firsts = omega (arith, le, at) in
        ap (λ es. values_in es r) is ∙ first-values firsts (copied under k) named c at
        ∙ copied-same under r c (source k r) (source k c) (sym (label r rh) ∙ first-label labels firsts named same c at ∙ label c at)
        ∙ copied-once (length under.firsts) e f under keeps (source k c) (within c)

-- ---- rows side by side

label-both : (lefts rights : List ℕ) (c : ℕ) → c < length lefts → label_at (both_labels lefts rights) c ≡ (get_or lefts c 0, get_or rights c 0)
label-both lefts rights c h =
    get_or-map (λ c. (get_or lefts c 0, get_or rights c 0)) (first_columns (length lefts)) c 0 (0, 0) (omega (arith, first-length (length lefts), h))
    ∙ ap (λ d. (get_or lefts d 0, get_or rights d 0)) (first-at (length lefts) c h)

pub both-wide : (lefts rights : List ℕ) (labels : List (ℕ × ℕ)) (firsts : List ℕ) → labels ≡ both_labels lefts rights → length firsts ≡ length labels → length firsts ≡ length lefts
both-wide lefts rights labels firsts are wide = wide ∙ ap length are ∙ length-map (first_columns (length lefts)) (λ c. (get_or lefts c 0, get_or rights c 0)) ∙ first-length (length lefts)

pub united-keeps : (d e : Equality) (f g : Values) (left right : Facts) (labels : List (ℕ × ℕ)) (firsts : List ℕ) (fixed : List (ℕ × Val)) → length right.firsts ≡ length left.firsts
    → Keeps (length left.firsts) d f left → Keeps (length right.firsts) e g right → labels ≡ both_labels left.firsts right.firsts → length firsts ≡ length labels → NamesFirsts firsts → SameLabels labels firsts
    → fixed ≡ listed (length firsts) (of_firsts firsts (common left right))
    → Keeps (length left.firsts) (λ a b. d a b && e a b) (λ c. filter (has_value (g c)) (f c)) (record { firsts = firsts; fixed = fixed })
united-keeps d e f g left right labels firsts fixed as-wide lefts rights are wide named same is = record { wide = width; equal = tells; values = values }
  where
    width : length firsts ≡ length left.firsts
    width = both-wide left.firsts right.firsts labels firsts are wide

    label : (c : ℕ) → c < length firsts → label_at labels c ≡ (get_or left.firsts c 0, get_or right.firsts c 0)
    label c h = ap (λ ls. label_at ls c) are ∙ label-both left.firsts right.firsts c (omega (arith, width, h))

    tells : Tells (λ a b. d a b && e a b) firsts
    tells a b ah bh =
        let la : a < length left.firsts = omega (arith, width, ah) in
        let lb : b < length left.firsts = omega (arith, width, bh) in
        same a b ah bh ∙ ap (λ x. label_eq x (label_at labels b)) (label a ah) ∙ ap (λ y. label_eq (get_or left.firsts a 0, get_or right.firsts a 0) y) (label b bh)
        ∙ ap (λ x. x && (get_or right.firsts a 0 == get_or right.firsts b 0)) (lefts.equal a b la lb)
        ∙ ap (λ y. d a b && y) (rights.equal a b (omega (arith, as-wide, la)) (omega (arith, as-wide, lb)))

    values : (c : ℕ) → c < length left.firsts → values_in fixed (get_or firsts c 0) ≡ each_once (filter (has_value (g c)) (f c))
    values c h =
        let at : c < length firsts = omega (arith, width, h) in
        let le = named.before c at in
        let r : ℕ = get_or firsts c 0 in
        let rh : r < length firsts = omega (arith, le, at) in
        let one : (get_or left.firsts r 0, get_or right.firsts r 0) ≡ (get_or left.firsts c 0, get_or right.firsts c 0) = sym (label r rh) ∙ first-label labels firsts named same c at ∙ label c at in
        let ls : values_of left r ≡ each_once (f c) = ap (values_in left.fixed) (ap (λ (x : ℕ × ℕ). x.0) one) ∙ lefts.values c h in
        let rs : values_of right r ≡ each_once (g c) = ap (values_in right.fixed) (ap (λ (x : ℕ × ℕ). x.1) one) ∙ rights.values c (omega (arith, as-wide, h)) in
        ap (λ es. values_in es r) is ∙ first-values firsts (common left right) named c at
        ∙ ap (λ vs. filter (has_value vs) (values_of left r)) rs ∙ ap (filter (has_value (each_once (g c)))) ls
        ∙ filter-same (has_value (each_once (g c))) (has_value (g c)) (each_once (f c)) (λ v. has-once (g c) v) ∙ sym (filter-once (has_value (g c)) (f c))

-- ---- values of equal columns

with-cond : (b : Bool) (acc vs : List Val) → cond b (with_values acc vs) acc ≡ with_values acc (cond b vs [])
with-cond true acc vs = refl
with-cond false acc vs = refl

shared-in : (firsts : List ℕ) (given : List (ℕ × Val)) (n r : ℕ) → values_in (shared firsts given n) r ≡ each_once (flat_map (λ d. cond (get_or firsts d 0 == r) (values_in given d) []) (first_columns n))
shared-in firsts given zero r = refl
shared-in firsts given (suc n) r =
    let e : n + 1 ≡ suc n = omega arith in
    let each : ℕ → List Val = λ d. cond (get_or firsts d 0 == r) (values_in given d) [] in
    values-all (shared firsts given n) (get_or firsts n 0) (values_in given n) r
    ∙ ap (λ vs. cond (get_or firsts n 0 == r) (with_values vs (values_in given n)) vs) (shared-in firsts given n r)
    ∙ with-cond (get_or firsts n 0 == r) (each_once (flat_map each (first_columns n))) (values_in given n)
    ∙ sym (withs-append [] (flat_map each (first_columns n)) (each n)) ∙ sym (ap each_once (flat-push each n)) ∙ ap (λ m. each_once (flat_map each (first_columns m))) e

shared-values : (w : ℕ) (firsts : List ℕ) (e : Equality) (given : List (ℕ × Val)) (g : Values) → length firsts ≡ w → Tells e firsts → ((d : ℕ) → d < w → Alike (values_in given d) (g d)) → (c : ℕ) → c < w
    → values_in (shared firsts given (length firsts)) (get_or firsts c 0) ≡ each_once (shared_values w e g c)
shared-values w firsts e given g wide tells alike c h =
    ap (λ n. values_in (shared firsts given n) (get_or firsts c 0)) wide ∙ shared-in firsts given w (get_or firsts c 0)
    ∙ alike-flat w (λ d. cond (get_or firsts d 0 == get_or firsts c 0) (values_in given d) []) (λ d. cond (e c d) (g d) []) (λ d k. one d k) []
  where
    one : (d : ℕ) → d < w → Alike (cond (get_or firsts d 0 == get_or firsts c 0) (values_in given d) []) (cond (e c d) (g d) [])
    one d k =
        let same = eqb-swap (get_or firsts d 0) (get_or firsts c 0) ∙ tells c d (omega (arith, wide, h)) (omega (arith, wide, k)) in
        alike-cond (get_or firsts d 0 == get_or firsts c 0) (e c d) (values_in given d) (g d) same (λ _. alike d k)

-- ---- selections

named-value : (x : ℕ) (t : Test) (s : Side) (c : ℕ) → values_in (named_value x t s) c ≡ tested_value x t s c
named-value x equal (constant v) c = go (x == c)
  where
    go : (b : Bool) → map (λ (e : ℕ × Val). e.1) (cond b ((x, v) ∷ []) []) ≡ cond b (v ∷ []) []
    go true = refl
    go false = refl
named-value x equal (column y) c = refl
named-value x unequal s c = refl
named-value x below s c = refl
named-value x at_most s c = refl
named-value x above s c = refl
named-value x at_least s c = refl

named-values : (fs : List Filter) (c : ℕ) → values_in (named_values fs) c ≡ tested_values (comparisons fs) c
named-values [] c = refl
named-values (comparing d ∷ fs) c =
    values-append (named_value d.left d.test d.right) (named_values fs) c ∙ ap (λ vs. vs ++ values_in (named_values fs) c) (named-value d.left d.test d.right c)
    ∙ ap (λ vs. tested_value d.left d.test d.right c ++ vs) (named-values fs c)
named-values (computing e ∷ fs) c = named-values fs c

pub selected-keeps : (fs : List Filter) (e : Equality) (f : Values) (under : Facts) (firsts : List ℕ) (given fixed : List (ℕ × Val)) → Keeps (length under.firsts) e f under → length firsts ≡ length under.firsts
    → Tells (with_conditions (comparisons fs) e) firsts → given ≡ named_values fs ++ listed (length under.firsts) (values_of under) → fixed ≡ shared firsts given (length firsts)
    → Keeps (length under.firsts) (with_conditions (comparisons fs) e) (shared_values (length under.firsts) (with_conditions (comparisons fs) e) (λ c. tested_values (comparisons fs) c ++ f c)) (record { firsts = firsts; fixed = fixed })
selected-keeps fs e f under firsts given fixed keeps wide tells are is = record {
  wide = wide;
  equal = tells;
  values = λ c h. ap (λ es. values_in es (get_or firsts c 0)) is ∙ shared-values (length under.firsts) firsts (with_conditions (comparisons fs) e) given (λ c. tested_values (comparisons fs) c ++ f c) wide tells alike c h;
}
  where
    alike : (d : ℕ) → d < length under.firsts → Alike (values_in given d) (tested_values (comparisons fs) d ++ f d)
    alike d h =
        let w : ℕ = length under.firsts in
        let all : values_in given d ≡ tested_values (comparisons fs) d ++ each_once (f d) =
        ap (λ es. values_in es d) are ∙ values-append (named_values fs) (listed w (values_of under)) d ∙ ap (λ vs. vs ++ values_in (listed w (values_of under)) d) (named-values fs d)
        ∙ ap (λ vs. tested_values (comparisons fs) d ++ vs) (values-at w d (values_of under) h ∙ keeps.values d h) in
        alike-trans (values_in given d) (tested_values (comparisons fs) d ++ each_once (f d)) (tested_values (comparisons fs) d ++ f d) (alike-refl (values_in given d) (tested_values (comparisons fs) d ++ each_once (f d)) all)
        (alike-append (tested_values (comparisons fs) d) (each_once (f d)) (tested_values (comparisons fs) d) (f d) (alike-refl (tested_values (comparisons fs) d) (tested_values (comparisons fs) d) refl) (alike-once (f d)))

-- ---- projections

-- an entry that is a copy is no constant
copy-alone : (es : List Entry) (c x : ℕ) → source (entries_kept (map kept_column es)) c ≡ Some x → constants es c ≡ []
copy-alone [] c x h = refl
copy-alone (copy_of k ∷ es) zero x h = refl
copy-alone (made_by k ∷ es) zero x h = cc
copy-alone (k ∷ es) (suc c) x h = copy-alone es c x h

constant-once : (o : Option Entry) → each_once (constant_value o) ≡ constant_value o
constant-once None = refl
constant-once (Some (copy_of c)) = refl
constant-once (Some (made_by (input c))) = refl
constant-once (Some (made_by (value v))) = refl
constant-once (Some (made_by (call f t os))) = refl

-- a column has the values of its copy, or its constant
behind-once : (es : List Entry) (f : Values) (c : ℕ) (o : Option ℕ) → source (entries_kept (map kept_column es)) c ≡ o
    → each_once (values_at f o) ++ constants es c ≡ each_once (values_at f o ++ constants es c)
behind-once es f c None h = sym (constant-once (slice_get es c))
behind-once es f c (Some x) h =
    let e = copy-alone es c x h in
    ap (λ vs. each_once (f x) ++ vs) e ∙ append-nil (each_once (f x)) ∙ sym (ap each_once (ap (λ vs. f x ++ vs) e ∙ append-nil (f x)))

-- equal columns have the same constants
constants-equal : (es : List Entry) (e : Equality) (a b : ℕ) → lifted (entries_kept (map kept_column es)) e a b ≡ true → constants es a ≡ constants es b
constants-equal es e a b h = go (a == b) refl h
  where
    copied-both : (o u : Option ℕ) → source (entries_kept (map kept_column es)) a ≡ o → source (entries_kept (map kept_column es)) b ≡ u → both_equal e o u ≡ true → constants es a ≡ constants es b
    copied-both (Some x) (Some y) p q t = copy-alone es a x p ∙ sym (copy-alone es b y q)
    copied-both (Some x) None p q t = absurd cc
    copied-both None u p q t = absurd cc

    go : (x : Bool) → (a == b) ≡ x → (x || both_equal e (source (entries_kept (map kept_column es)) a) (source (entries_kept (map kept_column es)) b)) ≡ true → constants es a ≡ constants es b
    go true p t = ap (constants es) (eqb-true a b p)
    go false p t = copied-both _ _ refl refl t

pub projected-keeps : (es : List Entry) (e : Equality) (f : Values) (firsts : List ℕ) (fixed all : List (ℕ × Val)) → NamesFirsts firsts
    → Keeps (length es) (lifted (entries_kept (map kept_column es)) e) (carried_values (entries_kept (map kept_column es)) f) (record { firsts = firsts; fixed = fixed })
    → all ≡ fixed ++ listed (length es) (constants es)
    → Keeps (length es) (lifted (entries_kept (map kept_column es)) e) (λ c. carried_values (entries_kept (map kept_column es)) f c ++ constants es c) (record { firsts = firsts; fixed = all })
projected-keeps es e f firsts fixed all named keeps is = record { wide = keeps.wide; equal = keeps.equal; values = values }
  where
    values : (c : ℕ) → c < length es → values_in all (get_or firsts c 0) ≡ each_once (values_at f (source (entries_kept (map kept_column es)) c) ++ constants es c)
    values c h =
        let n : ℕ = length es in
        let r : ℕ = get_or firsts c 0 in
        let wide = keeps.wide in
        let at : c < length firsts = omega (arith, wide, h) in
        let le = named.before c at in
        let rh : r < length firsts = omega (arith, le, at) in
        let same = sym (keeps.equal r c rh at) ∙ eq-eqb (get_or firsts r 0) r (named.own c at) in
        let copies : List Val = each_once (values_at f (source (entries_kept (map kept_column es)) c)) in
        ap (λ xs. values_in xs r) is ∙ values-append fixed (listed n (constants es)) r
        ∙ ap (λ vs. vs ++ values_in (listed n (constants es)) r) (keeps.values c h)
        ∙ ap (λ vs. copies ++ vs) (values-at n r (constants es) (omega (arith, le, h)) ∙ constants-equal es e r c same)
        ∙ behind-once es f c (source (entries_kept (map kept_column es)) c) refl

-- ---- joins

or-none : (b : Bool) → (b || false) ≡ b
or-none true = refl
or-none false = refl

or-self : (x y : Bool) → (x ≡ true → y ≡ true) → y ≡ ((x || y) || (x || false))
or-self true y h = h refl
or-self false y h = sym (or-none y)

or-other : (x y : Bool) → (x ≡ true → y ≡ true) → y ≡ ((x || false) || (x || y))
or-other true y h = h refl
or-other false y h = refl

module _ (d e : Equality) (lefts rights : List ℕ) (named : NamesFirsts lefts) (ltells : Tells d lefts) (rtells : Tells e rights) where
  abbrev v : ℕ
  v = length lefts

  abbrev firsts : List ℕ
  firsts = lefts ++ map (λ c. length lefts + c) rights

  -- with p and q whether the columns are left ones
  abbrev joined_by : (p q : Bool) → ℕ → ℕ → Bool
  joined_by p q a b =
      ((a == b) || both_equal d (cond p (Some a) None) (cond q (Some b) None)) || ((a == b) || both_equal e (cond (not p) (Some (a - v)) None) (cond (not q) (Some (b - v)) None))

  apart : (a b : ℕ) → a < v → v ≤ b → b - v < length rights → (get_or firsts a 0 == get_or firsts b 0) ≡ false
  apart a b ah bh bw =
      let le = named.before a ah in
      let l = both-left lefts rights a ah in
      let r = both-behind lefts rights b bh bw in
      ne_eqb (get_or firsts a 0) (get_or firsts b 0) (λ same. omega (arith, le, l, r, same, ah))

  other : (a b : ℕ) → a < v → v ≤ b → (a == b) ≡ false
  other a b ah bh = ne_eqb a b (λ same. omega (arith, same, ah, bh))

  plus-eqb : (n x y : ℕ) → (n + x == n + y) ≡ (x == y)
  plus-eqb n x y = grind (arith, nat_tests)

  tells-by : (a b : ℕ) → a < length firsts → b < length firsts → (p q : Bool) → p ≡ nat_lt a v → q ≡ nat_lt b v → (get_or firsts a 0 == get_or firsts b 0) ≡ joined_by p q a b
  tells-by a b ah bh true true ph qh =
      let la : a < v = grind (arith, nat_tests) in
      let lb : b < v = grind (arith, nat_tests) in
      ap (λ x. x == get_or firsts b 0) (both-left lefts rights a la) ∙ ap (λ y. get_or lefts a 0 == y) (both-left lefts rights b lb) ∙ ltells a b la lb
      ∙ or-self (a == b) (d a b) (λ s. ap (d a) (sym (eqb-true a b s)) ∙ self-equal d lefts ltells a la)
  tells-by a b ah bh true false ph qh =
      let la : a < v = grind (arith, nat_tests) in
      let lb : v ≤ b = grind (arith, nat_tests) in
      let n = both-length lefts rights in
      apart a b la lb (omega (arith, n, bh, lb)) ∙ ap (λ x. (x || false) || (x || false)) (sym (other a b la lb))
  tells-by a b ah bh false true ph qh =
      let la : v ≤ a = grind (arith, nat_tests) in
      let lb : b < v = grind (arith, nat_tests) in
      let n = both-length lefts rights in
      eqb-swap (get_or firsts a 0) (get_or firsts b 0) ∙ apart b a lb la (omega (arith, n, ah, la)) ∙ ap (λ x. (x || false) || (x || false)) (sym (eqb-swap a b ∙ other b a lb la))
  tells-by a b ah bh false false ph qh =
      let la : v ≤ a = grind (arith, nat_tests) in
      let lb : v ≤ b = grind (arith, nat_tests) in
      let n = both-length lefts rights in
      let wa : a - v < length rights = omega (arith, n, ah, la) in
      let wb : b - v < length rights = omega (arith, n, bh, lb) in
      ap (λ x. x == get_or firsts b 0) (both-behind lefts rights a la wa) ∙ ap (λ y. v + get_or rights (a - v) 0 == y) (both-behind lefts rights b lb wb)
      ∙ plus-eqb v (get_or rights (a - v) 0) (get_or rights (b - v) 0) ∙ rtells (a - v) (b - v) wa wb
      ∙ or-other (a == b) (e (a - v) (b - v)) (λ s. ap (λ m. e (a - v) (m - v)) (sym (eqb-true a b s)) ∙ self-equal e rights rtells (a - v) wa)

  pub both-tells : Tells (λ a b. lifted (left_of v) d a b || lifted (right_of v) e a b) firsts
  both-tells a b ah bh =
      tells-by a b ah bh (nat_lt a v) (nat_lt b v) refl refl
      ∙ ap (λ p. ((a == b) || both_equal d (source (left_of v) a) (source (left_of v) b)) || ((a == b) || both_equal e (cond p (Some (a - v)) None) (cond (not (nat_lt b v)) (Some (b - v)) None))) (sym (not-less v a))
      ∙ ap (λ q. ((a == b) || both_equal d (source (left_of v) a) (source (left_of v) b)) || ((a == b) || both_equal e (source (right_of v) a) (cond q (Some (b - v)) None))) (sym (not-less v b))

pub joined-keeps : (d e : Equality) (f g : Values) (on : List (ℕ × ℕ)) (left right : Facts) (before firsts : List ℕ) (given fixed : List (ℕ × Val)) → NamesFirsts left.firsts
    → Keeps (length left.firsts) d f left → Keeps (length right.firsts) e g right → before ≡ left.firsts ++ map (λ c. length left.firsts + c) right.firsts → length firsts ≡ length before
    → ((h : Equality) → Tells h before → Tells (with_pairs (length left.firsts) on h) firsts) → given ≡ listed (length left.firsts + length right.firsts) (side_by_side (length left.firsts) left right)
    → fixed ≡ shared firsts given (length firsts)
    → Keeps (length left.firsts + length right.firsts) (with_pairs (length left.firsts) on (λ a b. lifted (left_of (length left.firsts)) d a b || lifted (right_of (length left.firsts)) e a b))
    (shared_values (length left.firsts + length right.firsts) (with_pairs (length left.firsts) on (λ a b. lifted (left_of (length left.firsts)) d a b || lifted (right_of (length left.firsts)) e a b))
    (λ c. carried_values (left_of (length left.firsts)) f c ++ carried_values (right_of (length left.firsts)) g c))
    (record { firsts = firsts; fixed = fixed })
joined-keeps d e f g on left right before firsts given fixed named lefts rights put wide paired are is = record {
  wide = width;
  equal = tells;
  values = λ c h. ap (λ es. values_in es (get_or firsts c 0)) is ∙ shared-values (v + w) firsts (with_pairs v on both) given both_values width tells alike c h;
}
  where
    v : ℕ
    v = length left.firsts

    w : ℕ
    w = length right.firsts

    both : Equality
    both a b = lifted (left_of v) d a b || lifted (right_of v) e a b

    both_values : Values
    both_values c = carried_values (left_of v) f c ++ carried_values (right_of v) g c

    width : length firsts ≡ v + w
    width = wide ∙ ap length put ∙ both-length left.firsts right.firsts

    tells : Tells (with_pairs v on both) firsts
    tells = paired both (rw put (both-tells d e left.firsts right.firsts named lefts.equal rights.equal))

    by-side : (c : ℕ) → c < v + w → (p : Bool) → p ≡ nat_lt c v
        → Alike (cond p (values_of left c) (values_of right (c - v))) (values_at f (cond p (Some c) None) ++ values_at g (cond (not p) (Some (c - v)) None))
    by-side c h true e =
        let k : c < v = grind (arith, nat_tests) in
        alike-trans (values_of left c) (each_once (f c)) (f c ++ []) (alike-refl (values_of left c) (each_once (f c)) (lefts.values c k))
        (alike-trans (each_once (f c)) (f c) (f c ++ []) (alike-once (f c)) (alike-refl (f c) (f c ++ []) (sym (append-nil (f c)))))
    by-side c h false e =
        let k : v ≤ c = grind (arith, nat_tests) in
        let i : c - v < w = omega (arith, h, k) in
        alike-trans (values_of right (c - v)) (each_once (g (c - v))) (g (c - v)) (alike-refl (values_of right (c - v)) (each_once (g (c - v))) (rights.values (c - v) i)) (alike-once (g (c - v)))

    parted : ℕ → Bool → List Val
    parted c q = values_at f (cond (nat_lt c v) (Some c) None) ++ values_at g (cond q (Some (c - v)) None)

    alike : (c : ℕ) → c < v + w → Alike (values_in given c) (both_values c)
    alike c h =
        let side = by-side c h (nat_lt c v) refl in
        let same : parted c (not (nat_lt c v)) ≡ both_values c = sym (ap (parted c) (not-less v c)) in
        let at : values_in given c ≡ side_by_side v left right c = ap (λ es. values_in es c) are ∙ values-at (v + w) c (side_by_side v left right) h in
        alike-trans (values_in given c) (side_by_side v left right c) (both_values c) (alike-refl (values_in given c) (side_by_side v left right c) at)
        (alike-trans (side_by_side v left right c) (parted c (not (nat_lt c v))) (both_values c) side (alike-refl (parted c (not (nat_lt c v))) (both_values c) same))
