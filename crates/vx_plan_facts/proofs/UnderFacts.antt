-- What is known of columns does not depend on the functions of a plan.
use Rattle.std.proofs.Common.{◌≡◌, ℕ, nat_le, ◌&&◌, List, [], ◌∷◌, ◌++◌, map, option_map, slice_get, Option, Some, None, refl, ap, ap₂, ◌∙◌}
use Rattle.std.proofs.Math.Path.{fun_ext}
use Rattle.std.proofs.lemmas.Option.{slice_get-map}
use Rattle.vx_rows_values.specs.Limits.{max_columns}
use Rattle.vx_catalog_relations.specs.Relation.{Relation}
use Rattle.vx_plan_nodes.specs.Plan.{input, value, call, Filter, comparing, computing, Entry, copy_of, made_by, Unary, select, project, distinct, sort, group, limit, Plan, scan, unary, binary, exchange}
use Rattle.vx_plan_nodes.specs.Types.{width}
use Rattle.vx_plan_nodes.specs.Describe.{whole_rows, entries_kept, kept_column}
use Rattle.vx_plan_nodes.specs.Under.{Functions, filter_under, entry_under, unary_under, under}
use Rattle.vx_plan_nodes.proofs.UnderFacts.{map-same, all-same, kept-under, described-under, width-under}
use Rattle.vx_plan_facts.specs.Equal.{Equality, lifted, with_conditions, comparisons, unary_equal, binary_equal, equal_at}
use Rattle.vx_plan_facts.specs.Fixed.{Values, carried_values, tested_values, constant_value, constants, shared_values, unary_fixed, binary_fixed, fixed_at}
use Rattle.vx_plan_facts.specs.Determined.{closure, by_input, by_both, determined, by_inputs, determined_aside}
use Rattle.vx_plan_facts.specs.Naming.{filter_within, entry_within, names_within}
use Rattle.vx_plan_facts.specs.Asking.{is_within}
use Rattle.vx_plan_facts.specs.RowFacts.{inputs_fit, all_inputs_fit}
use Rattle.vx_plan_facts.specs.UnderLaws.{FactsStay}

-- ---- equal columns

comparisons-under : (given : Functions) (fs : List Filter) → comparisons (map (filter_under given) fs) ≡ comparisons fs
comparisons-under given [] = refl
comparisons-under given (comparing c ∷ fs) = ap (λ cs. c ∷ cs) (comparisons-under given fs)
comparisons-under given (computing e ∷ fs) = comparisons-under given fs

unary-equal-under : (given : Functions) (op : Unary) (e : Equality) → unary_equal (unary_under given op) e ≡ unary_equal op e
unary-equal-under given (select fs) e = ap (λ cs. with_conditions cs e) (comparisons-under given fs)
unary-equal-under given (project es) e = ap (λ ks. lifted (entries_kept ks) e) (map-same kept_column (entry_under given) (kept-under given) es)
unary-equal-under given (distinct cols) e = refl
unary-equal-under given (sort of_parts order) e = refl
unary-equal-under given (group phase by aggregates) e = refl
unary-equal-under given (limit n) e = refl

pub equal-under : (given : Functions) (catalog : ℕ → Relation) (p : Plan) → equal_at catalog (under given p) ≡ equal_at catalog p
equal-under given catalog (scan n c r m z) = refl
equal-under given catalog (unary n c op p) = unary-equal-under given op (equal_at catalog (under given p)) ∙ ap (unary_equal op) (equal-under given catalog p)
equal-under given catalog (binary n c op p q) = λ i. binary_equal (width-under given catalog p i) op (equal-under given catalog p i) (equal-under given catalog q i)
equal-under given catalog (exchange n c k m p) = equal-under given catalog p

-- ---- fixed columns

constant-under : (given : Functions) (o : Option Entry) → constant_value (option_map (entry_under given) o) ≡ constant_value o
constant-under given None = refl
constant-under given (Some (copy_of c)) = refl
constant-under given (Some (made_by (input c))) = refl
constant-under given (Some (made_by (value v))) = refl
constant-under given (Some (made_by (call f t es))) = refl

constants-under : (given : Functions) (es : List Entry) (c : ℕ) → constants (map (entry_under given) es) c ≡ constants es c
constants-under given es c = ap constant_value (slice_get-map (entry_under given) es c) ∙ constant-under given (slice_get es c)

unary-fixed-under : (given : Functions) (w : ℕ) (e : Equality) (op : Unary) (f : Values) → unary_fixed w e (unary_under given op) f ≡ unary_fixed w e op f
unary-fixed-under given w e (select fs) f = ap (λ cs. shared_values w e (λ c. tested_values cs c ++ f c)) (comparisons-under given fs)
unary-fixed-under given w e (project es) f =
    fun_ext (λ c. ap₂ (λ ks vs. carried_values (entries_kept ks) f c ++ vs) (map-same kept_column (entry_under given) (kept-under given) es) (constants-under given es c))
unary-fixed-under given w e (distinct cols) f = refl
unary-fixed-under given w e (sort of_parts order) f = refl
unary-fixed-under given w e (group phase by aggregates) f = refl
unary-fixed-under given w e (limit n) f = refl

unary-fixed-same : (w v : ℕ) (d e : Equality) (op : Unary) (f g : Values) → w ≡ v → d ≡ e → f ≡ g → unary_fixed w d op f ≡ unary_fixed v e op g
unary-fixed-same w v d e op f g x y z = λ i. unary_fixed (x i) (y i) op (z i)

pub fixed-under : (given : Functions) (catalog : ℕ → Relation) (p : Plan) → fixed_at catalog (under given p) ≡ fixed_at catalog p
fixed-under given catalog (scan n c r m z) = refl
fixed-under given catalog (unary n c op p) =
    unary-fixed-under given (width catalog (under given p)) (equal_at catalog (under given (unary n c op p))) op (fixed_at catalog (under given p))
    ∙ unary-fixed-same (width catalog (under given p)) (width catalog p) (equal_at catalog (under given (unary n c op p))) (equal_at catalog (unary n c op p)) op
    (fixed_at catalog (under given p)) (fixed_at catalog p) (width-under given catalog p) (equal-under given catalog (unary n c op p)) (fixed-under given catalog p)
fixed-under given catalog (binary n c op p q) =
    λ i. binary_fixed (width-under given catalog p i) (width-under given catalog (binary n c op p q) i) (equal-under given catalog (binary n c op p q) i) op
    (fixed-under given catalog p i) (fixed-under given catalog q i)
fixed-under given catalog (exchange n c k m p) = fixed-under given catalog p

-- ---- determined columns

pub determined-under : (given : Functions) (catalog : ℕ → Relation) (p : Plan) → determined catalog (under given p) ≡ determined catalog p
determined-under given catalog (scan n c r m z) = refl
determined-under given catalog (unary n c op p) =
    λ i. closure (width-under given catalog (unary n c op p) i) (equal-under given catalog (unary n c op p) i) (fixed-under given catalog (unary n c op p) i) c.keys
    (by_input (width-under given catalog (unary n c op p) i) (described-under given op i).copying (determined-under given catalog p i))
determined-under given catalog (binary n c op p q) =
    λ i. closure (width-under given catalog (binary n c op p q) i) (equal-under given catalog (binary n c op p q) i) (fixed-under given catalog (binary n c op p q) i) c.keys
    (by_both (width-under given catalog p i) (width-under given catalog (binary n c op p q) i) op (determined-under given catalog p i) (determined-under given catalog q i))
determined-under given catalog (exchange n c k m p) =
    λ i. closure (width-under given catalog p i) (equal-under given catalog p i) (fixed-under given catalog p i) c.keys
    (by_input (width-under given catalog p i) whole_rows (determined-under given catalog p i))

inputs-under : (given : Functions) (catalog : ℕ → Relation) (p : Plan) → by_inputs catalog (under given p) ≡ by_inputs catalog p
inputs-under given catalog (scan n c r m z) = refl
inputs-under given catalog (unary n c op p) =
    λ i. by_input (width-under given catalog (unary n c op p) i) (described-under given op i).copying (determined-under given catalog p i)
inputs-under given catalog (binary n c op p q) =
    λ i. by_both (width-under given catalog p i) (width-under given catalog (binary n c op p q) i) op (determined-under given catalog p i) (determined-under given catalog q i)
inputs-under given catalog (exchange n c k m p) = λ i. by_input (width-under given catalog p i) whole_rows (determined-under given catalog p i)

pub aside-under : (given : Functions) (catalog : ℕ → Relation) (p : Plan) → determined_aside catalog (under given p) ≡ determined_aside catalog p
aside-under given catalog p =
    λ i. closure (width-under given catalog p i) (equal-under given catalog p i) (fixed-under given catalog p i) [] (inputs-under given catalog p i)

-- ---- columns that are named

filter-within-under : (given : Functions) (w : ℕ) (f : Filter) → filter_within w (filter_under given f) ≡ filter_within w f
filter-within-under given w (comparing c) = refl
filter-within-under given w (computing e) = refl

entry-within-under : (given : Functions) (w : ℕ) (e : Entry) → entry_within w (entry_under given e) ≡ entry_within w e
entry-within-under given w (copy_of c) = refl
entry-within-under given w (made_by e) = refl

names-under : (given : Functions) (w : ℕ) (op : Unary) → names_within w (unary_under given op) ≡ names_within w op
names-under given w (select fs) = all-same (filter_within w) (filter_under given) (filter-within-under given w) fs
names-under given w (project es) = all-same (entry_within w) (entry_under given) (entry-within-under given w) es
names-under given w (distinct cols) = refl
names-under given w (sort of_parts order) = refl
names-under given w (group phase by aggregates) = refl
names-under given w (limit n) = refl

within-under : (given : Functions) (catalog : ℕ → Relation) (p : Plan) → is_within catalog (under given p) ≡ is_within catalog p
within-under given catalog (scan n c r m z) = refl
within-under given catalog (unary n c op p) =
    ap₂ (λ a b. a && (b && nat_le (width catalog (under given (unary n c op p))) max_columns)) (within-under given catalog p)
    (names-under given (width catalog (under given p)) op ∙ ap (λ w. names_within w op) (width-under given catalog p))
    ∙ ap (λ w. is_within catalog p && (names_within (width catalog p) op && nat_le w max_columns)) (width-under given catalog (unary n c op p))
within-under given catalog (binary n c op p q) =
    λ i. within-under given catalog p i && (within-under given catalog q i && nat_le (width-under given catalog (binary n c op p q) i) max_columns)
within-under given catalog (exchange n c k m p) = within-under given catalog p

inputs-fit-under : (given : Functions) (catalog : ℕ → Relation) (p : Plan) → all_inputs_fit catalog (under given p) ≡ all_inputs_fit catalog p
inputs-fit-under given catalog (scan n c r m z) = refl
inputs-fit-under given catalog (unary n c op p) = inputs-fit-under given catalog p
inputs-fit-under given catalog (binary n c op p q) =
    λ i. inputs-fit-under given catalog p i && (inputs-fit-under given catalog q i && inputs_fit (width-under given catalog p i) (width-under given catalog q i) op)
inputs-fit-under given catalog (exchange n c k m p) = inputs-fit-under given catalog p

pub facts-stay : FactsStay
facts-stay = record {
  equal = equal-under;
  fixed = fixed-under;
  follows = determined-under;
  follows_aside = aside-under;
  names = names-under;
  within = within-under;
  inputs = inputs-fit-under;
}
