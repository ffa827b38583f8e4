-- The part that a node shows of typed parts is typed: equal columns have one type, and so have copies.
use Rattle.std.proofs.Common.{◌≡◌, ◌∙◌, ℕ, zero, suc, ◌+◌, ◌-◌, ◌<◌, ◌≤◌, ◌==◌, nat_lt, nat_le, Bool, true, false, cond, not, ◌&&◌, ◌||◌, ⊎_elim, List, [], ◌∷◌, ◌++◌, map, length, slice_get, Option, Some, None, refl, ap, sym, subst, arith, true≢false, eqb-true}
use Rattle.std.specs.Bool.{⊤}
use Rattle.std.specs.List.{list_all, filter}
use Rattle.std.proofs.lemmas.Bool.Decides.{nat_tests}
use Rattle.std.proofs.lemmas.List.{append-nil}
use Rattle.vx_rows_values.specs.declared.value.ColType.{ColType}
use Rattle.vx_rows_values.specs.declared.value.ColType.TheVariants.{Int, Text}
use Rattle.vx_rows_values.specs.Types.{type_at}
use Rattle.vx_rows_values.specs.Lists.{is_some_list}
use Rattle.vx_rows_values.proofs.Booleans.{and-left, and-right, and-both}
use Rattle.vx_catalog_relations.specs.Relation.{Relation}
use Rattle.vx_catalog_relations.specs.Catalog.{relation_at, all_below, are_distinct}
use Rattle.vx_plan_nodes.specs.Plan.{Route, by_hash, by_range, Part, one, any, all, routed, column, constant, Test, equal, unequal, below, at_most, above, at_least, Side, Condition, Entry, copy_of, made_by, Unary, select, project, distinct, sort, group, limit, plain, partial, final, Binary, union, join, semi_join, ExchangeKind, route_to, round, broadcast, gather, concat, Plan, scan, unary, binary, exchange, size, is_one}
use Rattle.vx_plan_nodes.specs.Parts.{kind_part}
use Rattle.vx_plan_nodes.specs.Describe.{Copying, whole_rows, columns_kept, entries_kept, kept_column, left_of, right_of, source, described, described_both}
use Rattle.vx_plan_nodes.specs.Types.{entry_type, unary_types, binary_types, aggregate_type, types_of, width}
use Rattle.vx_plan_nodes.specs.Typed.{Scope, type_eq, types_eq, are_columns, range_type, bounds_at, is_size, is_routed, is_part, is_side, is_condition, is_filter, is_unary, is_pair, is_binary, is_kind, typed}
use Rattle.vx_plan_nodes.specs.Phases.{phase_fits, both_closed, first_columns}
use Rattle.vx_plan_nodes.proofs.ErasedFacts.{type-right}
use Rattle.vx_plan_facts.specs.Equal.{Equality, each_itself, both_equal, lifted, with_pair, with_test, with_conditions, comparisons, with_pairs, unary_equal, binary_equal, equal_at}
use Rattle.vx_plan_facts.specs.Determined.{column_in}
use Rattle.vx_plan_facts.specs.Following.{equal_lists}
use Rattle.vx_plan_facts.proofs.Tests.{or-cases}
use Rattle.vx_plan_facts.proofs.NamedColumns.{types-width, comparisons-typed}
use Rattle.vx_check_rules.specs.Rules.{route_eq}
use Rattle.vx_check_rules.specs.Behaviour.{routed_at}
use Rattle.vx_check_shown.specs.ShownPart.{stand_in, stand_ins, part_carried, common_column, common_columns, is_all, routed_in_common, part_of_union, part_of_join, part_of_both, apart, part_apart, part_over, shown_part}
use Rattle.vx_check_shown.specs.PartLaws.{are_parts, PartIsTyped}
use Rattle.vx_check_shown.proofs.Equivalent.{IsEquivalence, equal-equivalence}
use Rattle.vx_check_shown.proofs.Finding.{Found, first-in, Consed, consed}
use Rattle.vx_check_shown.proofs.StandFacts.{copied, stand-is}
use Rattle.vx_check_shown.proofs.Apart.{Apart, apart-is}

type-same : (t u : ColType) → type_eq t u ≡ true → t ≡ u
type-same Int Int h = refl
type-same Int Text h = cc
type-same Text Int h = cc
type-same Text Text h = refl

-- ---- copies and equal columns

-- a copy has the type of what it is a copy of
abbrev Carries : Copying → List ColType → List ColType → Type 0
Carries k ts us = (c y : ℕ) → source k c ≡ Some y → type_at us c ≡ type_at ts y

-- equal columns have one type
abbrev pub EqualTypes : Equality → List ColType → Type 0
EqualTypes e ts = (a b : ℕ) → e a b ≡ true → type_at ts a ≡ type_at ts b

carries-whole : (ts : List ColType) → Carries whole_rows ts ts
carries-whole ts c y h = let s : c ≡ y = cc in ap (type_at ts) s

kept-type : (f : ℕ → ColType) (cols : List ℕ) (rest : List ColType) (c y : ℕ) → slice_get cols c ≡ Some y → type_at (map f cols ++ rest) c ≡ f y
kept-type f [] rest c y h = cc
kept-type f (x ∷ xs) rest zero y h = let s : x ≡ y = cc in ap f s
kept-type f (x ∷ xs) rest (suc c) y h = kept-type f xs rest c y h

carries-kept : (cols : List ℕ) (ts rest : List ColType) → Carries (columns_kept cols) ts (map (type_at ts) cols ++ rest)
carries-kept cols ts rest c y h = kept-type (type_at ts) cols rest c y h

carries-alone : (cols : List ℕ) (ts : List ColType) → Carries (columns_kept cols) ts (map (type_at ts) cols)
carries-alone cols ts = subst (Carries (columns_kept cols) ts) (append-nil (map (type_at ts) cols)) (carries-kept cols ts [])

entry-type : (ts : List ColType) (es : List Entry) (c y : ℕ) → source (entries_kept (map kept_column es)) c ≡ Some y → type_at (map (entry_type ts) es) c ≡ type_at ts y
entry-type ts [] c y h = cc
entry-type ts (copy_of x ∷ es) zero y h = let s : x ≡ y = cc in ap (type_at ts) s
entry-type ts (made_by m ∷ es) zero y h = cc
entry-type ts (x ∷ es) (suc c) y h = entry-type ts es c y h

carries-entries : (es : List Entry) (ts : List ColType) → Carries (entries_kept (map kept_column es)) ts (map (entry_type ts) es)
carries-entries es ts c y h = entry-type ts es c y h

type-left : (ts us : List ColType) (c : ℕ) → c < length ts → type_at (ts ++ us) c ≡ type_at ts c
type-left [] us c h = absurd (omega (arith, h))
type-left (t ∷ ts) us zero h = refl
type-left (t ∷ ts) us (suc c) h = type-left ts us c (omega (arith, h))

carries-left : (w : ℕ) (ts us : List ColType) → length ts ≡ w → Carries (left_of w) ts (ts ++ us)
carries-left w ts us wide c y h = go (nat_lt c w) refl h
  where
    less : nat_lt c w ≡ true → c < w
    less l = grind (arith, nat_tests, l)

    go : (b : Bool) → nat_lt c w ≡ b → cond b (Some c) None ≡ Some y → type_at (ts ++ us) c ≡ type_at ts y
    go true l h =
        let s : c ≡ y = cc in
        let m = less l in type-left ts us c (omega (arith, m, wide)) ∙ ap (type_at ts) s
    go false l h = cc

carries-right : (w : ℕ) (ts us : List ColType) → length ts ≡ w → Carries (right_of w) us (ts ++ us)
carries-right w ts us wide c y h = go (nat_le w c) refl h
  where
    from : nat_le w c ≡ true → w ≤ c
    from l = grind (arith, nat_tests, l)

    go : (b : Bool) → nat_le w c ≡ b → cond b (Some (c - w)) None ≡ Some y → type_at (ts ++ us) c ≡ type_at us y
    go true l h =
        let s : c - w ≡ y = cc in
        let m = from l in
        let at : c ≡ length ts + (c - w) = omega (arith, m, wide) in type-right ts us c (c - w) at ∙ ap (type_at us) s
    go false l h = cc

carries-unary : (op : Unary) (ts : List ColType) → Carries (described op).copying ts (unary_types op ts)
carries-unary (select fs) ts = carries-whole ts
carries-unary (project es) ts = carries-entries es ts
carries-unary (distinct cols) ts = carries-alone cols ts
carries-unary (sort of_parts cols) ts = carries-whole ts
carries-unary (group plain by aggregates) ts = carries-kept by ts (map (aggregate_type ts) aggregates)
carries-unary (group partial by aggregates) ts = carries-kept by ts (map (aggregate_type ts) aggregates)
carries-unary (group final by aggregates) ts = carries-kept by ts (map (aggregate_type ts) aggregates)
carries-unary (limit m) ts = carries-whole ts

-- ---- equal columns of nodes

lifted-types : (k : Copying) (e : Equality) (ts us : List ColType) → Carries k ts us → EqualTypes e ts → EqualTypes (lifted k e) us
lifted-types k e ts us carries same a b h =
    ⊎_elim (λ l. ap (type_at us) (eqb-true a b l)) (λ r. go (source k a) (source k b) refl refl r) (or-cases (a == b) (both_equal e (source k a) (source k b)) h)
  where
    go : (o p : Option ℕ) → source k a ≡ o → source k b ≡ p → both_equal e o p ≡ true → type_at us a ≡ type_at us b
    go None p m n r = cc
    go (Some y) None m n r = cc
    go (Some y) (Some z) m n r = carries a y m ∙ (same y z r ∙ sym (carries b z n))

pair-types : (x y : ℕ) (e : Equality) (ts : List ColType) → type_at ts x ≡ type_at ts y → EqualTypes e ts → EqualTypes (with_pair x y e) ts
pair-types x y e ts pair same a b h =
    ⊎_elim (λ l. same a b l)
    (λ r. ⊎_elim (λ l. same a x (and-left (e a x) (e y b) l) ∙ (pair ∙ same y b (and-right (e a x) (e y b) l)))
    (λ l. same a y (and-left (e a y) (e x b) l) ∙ (sym pair ∙ same x b (and-right (e a y) (e x b) l))) (or-cases (e a x && e y b) (e a y && e x b) r))
    (or-cases (e a b) ((e a x && e y b) || (e a y && e x b)) h)

test-types : (x : ℕ) (t : Test) (side : Side) (e : Equality) (ts : List ColType) → is_side ts (type_at ts x) side ≡ true → EqualTypes e ts → EqualTypes (with_test x t side e) ts
test-types x equal (column y) e ts h same = pair-types x y e ts (type-same (type_at ts x) (type_at ts y) (and-right (nat_lt y (length ts)) (type_eq (type_at ts x) (type_at ts y)) h)) same
test-types x equal (constant v) e ts h same = same
test-types x unequal side e ts h same = same
test-types x below side e ts h same = same
test-types x at_most side e ts h same = same
test-types x above side e ts h same = same
test-types x at_least side e ts h same = same

conditions-types : (cs : List Condition) (e : Equality) (ts : List ColType) → list_all (is_condition ts) cs ≡ true → EqualTypes e ts → EqualTypes (with_conditions cs e) ts
conditions-types [] e ts h same = same
conditions-types (c ∷ cs) e ts h same =
    test-types c.left c.test c.right (with_conditions cs e) ts (and-right (nat_lt c.left (length ts)) (is_side ts (type_at ts c.left) c.right) (and-left (is_condition ts c) (list_all (is_condition ts) cs) h))
    (conditions-types cs e ts (and-right (is_condition ts c) (list_all (is_condition ts) cs) h) same)

pairs-types : (w : ℕ) (on : List (ℕ × ℕ)) (e : Equality) (ts us : List ColType) → length ts ≡ w → list_all (is_pair ts us) on ≡ true → EqualTypes e (ts ++ us) → EqualTypes (with_pairs w on e) (ts ++ us)
pairs-types w [] e ts us wide h same = same
pairs-types w (p ∷ on) e ts us wide h same =
    let is = and-left (is_pair ts us p) (list_all (is_pair ts us) on) h in
    let rest = and-right (nat_lt p.0 (length ts)) (nat_lt p.1 (length us) && type_eq (type_at ts p.0) (type_at us p.1)) is in
    let alike = type-same (type_at ts p.0) (type_at us p.1) (and-right (nat_lt p.1 (length us)) (type_eq (type_at ts p.0) (type_at us p.1)) rest) in
    let l = less p.0 (length ts) (and-left (nat_lt p.0 (length ts)) (nat_lt p.1 (length us) && type_eq (type_at ts p.0) (type_at us p.1)) is) in
    let at : w + p.1 ≡ length ts + p.1 = ap (λ n. n + p.1) (sym wide) in
    pair-types p.0 (w + p.1) (with_pairs w on e) (ts ++ us) (type-left ts us p.0 l ∙ (alike ∙ sym (type-right ts us (w + p.1) p.1 at)))
    (pairs-types w on e ts us wide (and-right (is_pair ts us p) (list_all (is_pair ts us) on) h) same)
  where
    less : (a b : ℕ) → nat_lt a b ≡ true → a < b
    less a b l = grind (arith, nat_tests, l)

either-types : (e f : Equality) (ts : List ColType) → EqualTypes e ts → EqualTypes f ts → EqualTypes (λ a b. e a b || f a b) ts
either-types e f ts same alike a b h = ⊎_elim (λ l. same a b l) (λ r. alike a b r) (or-cases (e a b) (f a b) h)

unary-types : (op : Unary) (e : Equality) (ts : List ColType) → is_unary ts op ≡ true → EqualTypes e ts → EqualTypes (unary_equal op e) (unary_types op ts)
unary-types (select fs) e ts h same = conditions-types (comparisons fs) e ts (comparisons-typed ts fs (and-right (is_some_list fs) (list_all (is_filter ts) fs) h)) same
unary-types (project es) e ts h same = lifted-types (described (project es)).copying e ts _ (carries-unary (project es) ts) same
unary-types (distinct cols) e ts h same = lifted-types (described (distinct cols)).copying e ts _ (carries-unary (distinct cols) ts) same
unary-types (sort of_parts cols) e ts h same = lifted-types (described (sort of_parts cols)).copying e ts _ (carries-unary (sort of_parts cols) ts) same
unary-types (group phase by aggregates) e ts h same = lifted-types (described (group phase by aggregates)).copying e ts _ (carries-unary (group phase by aggregates) ts) same
unary-types (limit m) e ts h same = lifted-types (described (limit m)).copying e ts _ (carries-unary (limit m) ts) same

pub typed-equal : (s : Scope) (p : Plan) → typed s p ≡ true → EqualTypes (equal_at (relation_at s.catalog) p) (types_of (relation_at s.catalog) p)
typed-equal s (scan n c r m z) h = λ a b k. ap (type_at (types_of (relation_at s.catalog) (scan n c r m z))) (eqb-true a b k)
typed-equal s (unary n c op p) h =
    let ts = types_of (relation_at s.catalog) p in
    unary-types op (equal_at (relation_at s.catalog) p) ts (and-left (is_unary ts op) _ (and-right (phase_fits op p) _ (and-right (typed s p) _ h))) (typed-equal s p (and-left (typed s p) _ h))
typed-equal s (binary n c union p q) h =
    let e = equal_at (relation_at s.catalog) p in
    let f = equal_at (relation_at s.catalog) q in
    λ a b k. typed-equal s p (and-left (typed s p) _ h) a b (and-left (e a b) (f a b) k)
typed-equal s (binary n c (join m on) p q) h =
    let C : ℕ → Relation = relation_at s.catalog in
    let ts = types_of C p in
    let us = types_of C q in
    let w : ℕ = width C p in
    let wide : length ts ≡ w = types-width C p in
    let rest = and-right (typed s p) _ h in
    let op = and-left (is_binary ts us (join m on)) _ (and-right (both_closed p q) _ (and-right (typed s q) _ rest)) in
    let pairs = and-left (list_all (is_pair ts us) on) _ (and-right (is_some_list on) _ op) in
    pairs-types w on (λ a b. lifted (left_of w) (equal_at C p) a b || lifted (right_of w) (equal_at C q) a b) ts us wide pairs
    (either-types (lifted (left_of w) (equal_at C p)) (lifted (right_of w) (equal_at C q)) (ts ++ us)
    (lifted-types (left_of w) (equal_at C p) ts (ts ++ us) (carries-left w ts us wide) (typed-equal s p (and-left (typed s p) _ h)))
    (lifted-types (right_of w) (equal_at C q) us (ts ++ us) (carries-right w ts us wide) (typed-equal s q (and-left (typed s q) _ rest))))
typed-equal s (binary n c (semi_join matched on conditions) p q) h = typed-equal s p (and-left (typed s p) _ h)
typed-equal s (exchange n c k m p) h = typed-equal s p (and-left (typed s p) _ h)

-- ---- routes whose columns may stand twice

abbrev loose : Scope → List ColType → Route → List ℕ → Bool
loose s types (by_hash name) cols = is_some_list name && (is_some_list cols && all_below (length types) cols)
loose s types (by_range k) (c ∷ []) = nat_lt k (length s.ranges) && (nat_lt c (length types) && type_eq (type_at types c) (range_type (bounds_at s.ranges k)))
loose s types (by_range k) cols = false

abbrev loose_part : Scope → List ColType → Part → Bool
loose_part s types (routed r cols) = loose s types r cols
loose_part s types _ = true

loosened : (s : Scope) (types : List ColType) (r : Route) (cols : List ℕ) → is_routed s types r cols ≡ true → loose s types r cols ≡ true
loosened s types (by_hash name) cols h =
    let rest = and-right (is_some_list name) (is_some_list cols && are_columns (length types) cols) h in
    and-both (is_some_list name) (is_some_list cols && all_below (length types) cols) (and-left (is_some_list name) (is_some_list cols && are_columns (length types) cols) h)
    (and-both (is_some_list cols) (all_below (length types) cols) (and-left (is_some_list cols) (are_columns (length types) cols) rest)
    (and-left (all_below (length types) cols) (are_distinct cols) (and-right (is_some_list cols) (are_columns (length types) cols) rest)))
loosened s types (by_range k) [] h = cc
loosened s types (by_range k) (c ∷ []) h = h
loosened s types (by_range k) (c ∷ d ∷ cols) h = cc

tightened : (s : Scope) (types : List ColType) (r : Route) (cols : List ℕ) → loose s types r cols ≡ true → are_distinct cols ≡ true → is_routed s types r cols ≡ true
tightened s types (by_hash name) cols h d =
    let rest = and-right (is_some_list name) (is_some_list cols && all_below (length types) cols) h in
    and-both (is_some_list name) (is_some_list cols && are_columns (length types) cols) (and-left (is_some_list name) (is_some_list cols && all_below (length types) cols) h)
    (and-both (is_some_list cols) (are_columns (length types) cols) (and-left (is_some_list cols) (all_below (length types) cols) rest)
    (and-both (all_below (length types) cols) (are_distinct cols) (and-right (is_some_list cols) (all_below (length types) cols) rest) d))
tightened s types (by_range k) [] h d = cc
tightened s types (by_range k) (c ∷ []) h d = h
tightened s types (by_range k) (c ∷ e ∷ cols) h d = cc

loose-part : (s : Scope) (types : List ColType) (q : Part) → is_part s types q ≡ true → loose_part s types q ≡ true
loose-part s types one h = refl
loose-part s types any h = refl
loose-part s types all h = refl
loose-part s types (routed r cols) h = loosened s types r cols h

-- columns in the places of others, of the same types
abbrev Stand : List ColType → List ColType → List ℕ → List ℕ → Type 0
Stand ts us [] [] = ⊤
Stand ts us [] (c ∷ cs) = ⊥
Stand ts us (x ∷ xs) [] = ⊥
Stand ts us (x ∷ xs) (c ∷ cs) = (nat_lt c (length us) ≡ true) × (type_at us c ≡ type_at ts x) × Stand ts us xs cs

below-stand : (ts us : List ColType) (xs cs : List ℕ) → Stand ts us xs cs → all_below (length us) cs ≡ true
below-stand ts us [] [] h = refl
below-stand ts us [] (c ∷ cs) h = absurd h
below-stand ts us (x ∷ xs) [] h = absurd h
below-stand ts us (x ∷ xs) (c ∷ cs) h = and-both (nat_lt c (length us)) (all_below (length us) cs) h.0 (below-stand ts us xs cs h.2)

some-stand : (ts us : List ColType) (xs cs : List ℕ) → Stand ts us xs cs → is_some_list xs ≡ true → is_some_list cs ≡ true
some-stand ts us [] cs h k = cc
some-stand ts us (x ∷ xs) [] h k = absurd h
some-stand ts us (x ∷ xs) (c ∷ cs) h k = refl

loose-stand : (s : Scope) (ts us : List ColType) (r : Route) (xs cs : List ℕ) → Stand ts us xs cs → loose s ts r xs ≡ true → loose s us r cs ≡ true
loose-stand s ts us (by_hash name) xs cs h k =
    let rest = and-right (is_some_list name) (is_some_list xs && all_below (length ts) xs) k in
    and-both (is_some_list name) (is_some_list cs && all_below (length us) cs) (and-left (is_some_list name) (is_some_list xs && all_below (length ts) xs) k)
    (and-both (is_some_list cs) (all_below (length us) cs) (some-stand ts us xs cs h (and-left (is_some_list xs) (all_below (length ts) xs) rest)) (below-stand ts us xs cs h))
loose-stand s ts us (by_range k) [] cs h l = cc
loose-stand s ts us (by_range k) (x ∷ []) [] h l = absurd h
loose-stand s ts us (by_range k) (x ∷ []) (c ∷ []) h l =
    let bound = range_type (bounds_at s.ranges k) in
    let rest = and-right (nat_lt k (length s.ranges)) (nat_lt x (length ts) && type_eq (type_at ts x) bound) l in
    and-both (nat_lt k (length s.ranges)) (nat_lt c (length us) && type_eq (type_at us c) bound) (and-left (nat_lt k (length s.ranges)) (nat_lt x (length ts) && type_eq (type_at ts x) bound) l)
    (and-both (nat_lt c (length us)) (type_eq (type_at us c) bound) h.0 (ap (λ t. type_eq t bound) h.1 ∙ and-right (nat_lt x (length ts)) (type_eq (type_at ts x) bound) rest))
loose-stand s ts us (by_range k) (x ∷ []) (c ∷ d ∷ cs) h l = absurd h.2
loose-stand s ts us (by_range k) (x ∷ y ∷ xs) cs h l = cc

-- ---- what is carried

below-is : (c w : ℕ) → c < w → nat_lt c w ≡ true
below-is c w l = grind (arith, nat_tests, l)

-- a column that is equal to x by what it is a copy of
copied-type : (k : Copying) (e : Equality) (ts us : List ColType) → Carries k ts us → EqualTypes e ts → (x c : ℕ) → copied k e x c ≡ true → type_at us c ≡ type_at ts x
copied-type k e ts us carries same x c h = go (source k c) refl h
  where
    go : (o : Option ℕ) → source k c ≡ o → column_in (λ y. e y x) o ≡ true → type_at us c ≡ type_at ts x
    go None m h = cc
    go (Some y) m h = carries c y m ∙ same y x h

module _ (w : ℕ) (k : Copying) (e : Equality) (is : IsEquivalence e) (ts us : List ColType) (wide : length us ≡ w) (carries : Carries k ts us) (same : EqualTypes e ts) where
  ins-stand : (xs cs : List ℕ) → stand_ins w k e xs ≡ Some cs → Stand ts us xs cs
  ins-stand [] cs h = let s : [] ≡ cs = cc in subst (Stand ts us []) s tt
  ins-stand (x ∷ xs) cs h =
      let u = consed (stand_in w k e x) (stand_ins w k e xs) cs h in
      let f = stand-is w k e is x u.first u.first_is in
      let l = f.within in
      subst (Stand ts us (x ∷ xs)) (sym u.is)
      (below-is u.first (length us) (omega (arith, l, wide)), copied-type k e ts us carries same x u.first f.passes, ins-stand xs u.rest u.rest_is)

  carried-loose : (s : Scope) (q : Part) → loose_part s ts q ≡ true → loose_part s us (part_carried w k e q) ≡ true
  carried-loose s one h = refl
  carried-loose s any h = refl
  carried-loose s all h = refl
  carried-loose s (routed r xs) h = go (stand_ins w k e xs) refl
    where
      go : (o : Option (List ℕ)) → stand_ins w k e xs ≡ o → loose_part s us (routed_at r o) ≡ true
      go None m = refl
      go (Some cs) m = loose-stand s ts us r xs cs (ins-stand xs cs m) h

-- ---- rows side by side

module _ (w : ℕ) (e f : Equality) (ts : List ColType) (wide : length ts ≡ w) (same : EqualTypes e ts) where
  common-stand : (xs ys cs : List ℕ) → common_columns w e f xs ys ≡ Some cs → Stand ts ts xs cs
  common-stand [] [] cs h = let s : [] ≡ cs = cc in subst (Stand ts ts []) s tt
  common-stand [] (y ∷ ys) cs h = cc
  common-stand (x ∷ xs) [] cs h = cc
  common-stand (x ∷ xs) (y ∷ ys) cs h =
      let u = consed (common_column w e f x y) (common_columns w e f xs ys) cs h in
      let g = first-in (λ c. e x c && f y c) w u.first u.first_is in
      let l = g.within in
      subst (Stand ts ts (x ∷ xs)) (sym u.is)
      (below-is u.first (length ts) (omega (arith, l, wide)), sym (same x u.first (and-left (e x u.first) (f y u.first) g.passes)), common-stand xs ys u.rest u.rest_is)

  routed-loose : (s : Scope) (x y : Part) → loose_part s ts x ≡ true → loose_part s ts (routed_in_common w e f x y) ≡ true
  routed-loose s one y h = refl
  routed-loose s any y h = refl
  routed-loose s all y h = refl
  routed-loose s (routed r xs) one h = refl
  routed-loose s (routed r xs) any h = refl
  routed-loose s (routed r xs) all h = refl
  routed-loose s (routed r xs) (routed t ys) h = go (route_eq r t)
    where
      at : (o : Option (List ℕ)) → common_columns w e f xs ys ≡ o → loose_part s ts (routed_at r o) ≡ true
      at None m = refl
      at (Some cs) m = loose-stand s ts ts r xs cs (common-stand xs ys cs m) h

      go : (b : Bool) → loose_part s ts (cond b (routed_at r (common_columns w e f xs ys)) any) ≡ true
      go true = at (common_columns w e f xs ys) refl
      go false = refl

  union-loose : (s : Scope) (x y : Part) → loose_part s ts x ≡ true → loose_part s ts (part_of_union w e f x y) ≡ true
  union-loose s x y h = go (is_all x && is_all y)
    where
      go : (b : Bool) → loose_part s ts (cond b all (routed_in_common w e f x y)) ≡ true
      go true = refl
      go false = routed-loose s x y h

either-loose : (s : Scope) (ts : List ColType) (b : Bool) (x y : Part) → loose_part s ts x ≡ true → loose_part s ts y ≡ true → loose_part s ts (cond b x y) ≡ true
either-loose s ts true x y h k = h
either-loose s ts false x y h k = k

-- ---- nodes

kind-loose : (s : Scope) (ts : List ColType) (k : ExchangeKind) → is_kind s ts k ≡ true → loose_part s ts (kind_part k) ≡ true
kind-loose s ts (route_to z r cols) h = loosened s ts r cols (and-right (is_size s.sizes z) (is_routed s ts r cols) h)
kind-loose s ts (round z) h = refl
kind-loose s ts (broadcast z) h = refl
kind-loose s ts gather h = refl
kind-loose s ts concat h = refl

scan-loose : (s : Scope) (ts : List ColType) (b : Bool) → loose_part s ts (cond b any all) ≡ true
scan-loose s ts true = refl
scan-loose s ts false = refl

over-loose : (s : Scope) (p : Plan) → typed s p ≡ true → (x y : Part) → are_parts s p x y ≡ true → loose_part s (types_of (relation_at s.catalog) p) (part_over (relation_at s.catalog) p x y) ≡ true
over-loose s (scan n c r m z) h x y k = scan-loose s (types_of (relation_at s.catalog) (scan n c r m z)) m
over-loose s (unary n c op p) h x y k =
    let C : ℕ → Relation = relation_at s.catalog in
    let ts = types_of C p in
    carried-loose (width C (unary n c op p)) (described op).copying (equal_at C p) (equal-equivalence C p) ts (unary_types op ts) (types-width C (unary n c op p)) (carries-unary op ts)
    (typed-equal s p (and-left (typed s p) _ h)) s x (loose-part s ts x k)
over-loose s (binary n c union p q) h x y k =
    let C : ℕ → Relation = relation_at s.catalog in
    let ts = types_of C p in
    union-loose (width C p) (equal_at C p) (equal_at C q) ts (types-width C p) (typed-equal s p (and-left (typed s p) _ h)) s x y
    (loose-part s ts x (and-left (is_part s ts x) (is_part s (types_of C q) y) k))
over-loose s (binary n c (join m on) p q) h x y k =
    let C : ℕ → Relation = relation_at s.catalog in
    let P : Plan = binary n c (join m on) p q in
    let ts = types_of C p in
    let us = types_of C q in
    let v : ℕ = width C p in
    let w : ℕ = width C P in
    let wide : length (ts ++ us) ≡ w = types-width C P in
    let first : length ts ≡ v = types-width C p in
    either-loose s (ts ++ us) (is_all x && not (is_all y)) (part_carried w (right_of v) (equal_at C q) y) (part_carried w (left_of v) (equal_at C p) x)
    (carried-loose w (right_of v) (equal_at C q) (equal-equivalence C q) us (ts ++ us) wide (carries-right v ts us first) (typed-equal s q (and-left (typed s q) _ (and-right (typed s p) _ h))) s y
    (loose-part s us y (and-right (is_part s ts x) (is_part s us y) k)))
    (carried-loose w (left_of v) (equal_at C p) (equal-equivalence C p) ts (ts ++ us) wide (carries-left v ts us first) (typed-equal s p (and-left (typed s p) _ h)) s x
    (loose-part s ts x (and-left (is_part s ts x) (is_part s us y) k)))
over-loose s (binary n c (semi_join matched on conditions) p q) h x y k =
    let C : ℕ → Relation = relation_at s.catalog in
    let ts = types_of C p in
    carried-loose (width C p) whole_rows (equal_at C p) (equal-equivalence C p) ts ts (types-width C p) (carries-whole ts) (typed-equal s p (and-left (typed s p) _ h)) s x
    (loose-part s ts x (and-left (is_part s ts x) (is_part s (types_of C q) y) k))
over-loose s (exchange n c k m p) h x y l =
    let ts = types_of (relation_at s.catalog) p in kind-loose s ts k (and-left (is_kind s ts k) _ (and-right (typed s p) _ h))

-- equal columns stand in one another's place
equal-stand : (e : Equality) (ts : List ColType) → EqualTypes e ts → (xs cs : List ℕ) → equal_lists e xs cs ≡ true → all_below (length ts) cs ≡ true → Stand ts ts xs cs
equal-stand e ts same [] [] h l = tt
equal-stand e ts same [] (c ∷ cs) h l = cc
equal-stand e ts same (x ∷ xs) [] h l = cc
equal-stand e ts same (x ∷ xs) (c ∷ cs) h l = (
  and-left (nat_lt c (length ts)) (all_below (length ts) cs) l,
  sym (same x c (and-left (e x c) (equal_lists e xs cs) h)),
  equal-stand e ts same xs cs (and-right (e x c) (equal_lists e xs cs) h) (and-right (nat_lt c (length ts)) (all_below (length ts) cs) l),
)

loose-below : (s : Scope) (ts : List ColType) (r : Route) (cols : List ℕ) → loose s ts r cols ≡ true → all_below (length ts) cols ≡ true
loose-below s ts (by_hash name) cols h = and-right (is_some_list cols) (all_below (length ts) cols) (and-right (is_some_list name) (is_some_list cols && all_below (length ts) cols) h)
loose-below s ts (by_range k) [] h = refl
loose-below s ts (by_range k) (c ∷ []) h = and-both (nat_lt c (length ts)) true (and-left (nat_lt c (length ts)) _ (and-right (nat_lt k (length s.ranges)) _ h)) refl
loose-below s ts (by_range k) (c ∷ d ∷ cols) h = cc

apart-typed : (s : Scope) (w : ℕ) (e : Equality) (ts : List ColType) → IsEquivalence e → length ts ≡ w → EqualTypes e ts → (q : Part) → loose_part s ts q ≡ true → is_part s ts (part_apart w e q) ≡ true
apart-typed s w e ts is wide same one h = refl
apart-typed s w e ts is wide same any h = refl
apart-typed s w e ts is wide same all h = refl
apart-typed s w e ts is wide same (routed r cols) h = go (apart w e [] cols) refl
  where
    go : (o : Option (List ℕ)) → apart w e [] cols ≡ o → is_part s ts (routed_at r o) ≡ true
    go None m = refl
    go (Some new) m =
        let a = apart-is w e is cols [] new m in
        let P : ℕ → Type 0 = λ v. all_below v a.made ≡ true in
        let Q : ℕ → Type 0 = λ v. all_below v cols ≡ true in
        let made : all_below (length ts) a.made ≡ true = subst P (sym wide) (a.below (subst Q wide (loose-below s ts r cols h))) in
        subst (λ cs. is_routed s ts r cs ≡ true) (sym a.is_made) (tightened s ts r a.made (loose-stand s ts ts r cols a.made (equal-stand e ts same cols a.made a.alike made) h) a.distinct)

pub part-typed : PartIsTyped
part-typed s p h x y k = go (is_one (size p))
  where
    go : (b : Bool) → is_part s (types_of (relation_at s.catalog) p) (cond b one (part_apart (width (relation_at s.catalog) p) (equal_at (relation_at s.catalog) p) (part_over (relation_at s.catalog) p x y))) ≡ true
    go true = refl
    go false =
        let C : ℕ → Relation = relation_at s.catalog in
        apart-typed s (width C p) (equal_at C p) (types_of C p) (equal-equivalence C p) (types-width C p) (typed-equal s p h) (part_over C p x y) (over-loose s p h x y k)
