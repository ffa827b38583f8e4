-- First columns of classes, marked where the class is fixed or has a column of a set.
use Rattle.std.proofs.Common.{◌≡◌, ◌∙◌, ℕ, zero, suc, ◌+◌, ◌<◌, ◌==◌, nat_lt, Bool, true, false, cond, ◌&&◌, ◌||◌, ⊎_elim, List, [], ◌∷◌, map, length, drop, get_or, refl, sym, ap, arith, drop-cons}
use Rattle.std.proofs.lemmas.Bool.{cases_eq}
use Rattle.std.proofs.lemmas.Bool.Decides.{nat_tests}
use Rattle.vx_rows_values.specs.Lists.{is_some_list}
use Rattle.vx_rows_values.specs.Values.{Val}
use Rattle.vx_rows_values.specs.ValueView.{val_of}
use Rattle.vx_rows_values.proofs.Booleans.{and-both}
use Rattle.vx_plan_facts.specs.declared.facts.FixedColumn as rust_fixed
use Rattle.vx_plan_facts.specs.Facts.{Facts, values_in}
use Rattle.vx_plan_facts.specs.FactsView.{fixed_of}
use Rattle.vx_plan_facts.specs.Determined.{Columns}
use Rattle.vx_plan_facts.specs.Closing.{has_first, is_reached}
use Rattle.vx_plan_facts.proofs.ColumnSets.{any-push}
use Rattle.vx_plan_facts.proofs.Tests.{or-right}
use Rattle.vx_plan_facts.proofs.ValueLists.{values-cons}

turned : (a b : ℕ) → (a == b) ≡ (b == a)
turned a b = grind (arith, nat_tests)

or-apart : (a b d : Bool) → ((a || b) || d) ≡ (a || (b || d))
or-apart true b d = refl
or-apart false b d = refl

or-none : (b : Bool) → (b || false) ≡ b
or-none true = refl
or-none false = refl

-- ---- values

some-cons : (k : ℕ) (v : Val) (es : List (ℕ × Val)) (c : ℕ) → is_some_list (values_in ((k, v) ∷ es) c) ≡ ((k == c) || is_some_list (values_in es c))
some-cons k v es c = ap is_some_list (values-cons k v es c) ∙ go (k == c) (values_in es c)
  where
    go : (b : Bool) (vs : List Val) → is_some_list (cond b (v ∷ vs) vs) ≡ (b || is_some_list vs)
    go true vs = refl
    go false vs = refl

pub put-value : (fixed : List rust_fixed.FixedColumn) (i : ℕ) (each : rust_fixed.FixedColumn) (v : ℕ) (old new all : Bool) → i < length fixed → each ≡ get_or fixed i each
    → new ≡ (old || (v == each.column)) → (old || is_some_list (values_in (map fixed_of (drop i fixed)) v)) ≡ all
    → (new || is_some_list (values_in (map fixed_of (drop (i + 1) fixed)) v)) ≡ all
put-value fixed i each v old new all l is put at =
    let rest = is_some_list (values_in (map fixed_of (drop (i + 1) fixed)) v) in
    let next : suc i ≡ i + 1 = omega arith in
    let here : drop i fixed ≡ each ∷ drop (i + 1) fixed = drop-cons fixed i each l ∙ ap (λ e. e ∷ drop (suc i) fixed) (sym is) ∙ ap (λ m. each ∷ drop m fixed) next in
    ap (λ b. b || rest) put ∙ or-apart old (v == each.column) rest
    ∙ ap (λ b. old || b)
    (ap (λ b. b || rest) (turned v each.column) ∙ sym (some-cons each.column (val_of each.value.now) (map fixed_of (drop (i + 1) fixed)) v)
    ∙ ap (λ xs. is_some_list (values_in (map fixed_of xs) v)) (sym here))
    ∙ at

-- ---- columns of the set

pub default-same : (xs : List ℕ) (n d e : ℕ) → n < length xs → get_or xs n d ≡ get_or xs n e
default-same [] n d e l = absurd (omega (arith, l))
default-same (x ∷ xs) zero d e l = refl
default-same (x ∷ xs) (suc n) d e l = default-same xs n d e (omega (arith, l))

pub first-put : (k : Facts) (s : Columns) (n v f : ℕ) (start old new : Bool) → s n ≡ true → f ≡ get_or k.firsts n 0 → old ≡ (start || has_first k s n v) → new ≡ (old || (v == f))
    → new ≡ (start || has_first k s (n + 1) v)
first-put k s n v f start old new held is at put =
    let p : ℕ → Bool = λ d. s d && (get_or k.firsts d 0 == v) in
    put ∙ ap (λ b. b || (v == f)) at ∙ or-apart start (has_first k s n v) (v == f)
    ∙ ap (λ b. start || b)
    (ap (λ b. has_first k s n v || b) (turned v f ∙ ap (λ x. x == v) is ∙ sym (ap (λ b. b && (get_or k.firsts n 0 == v)) held)) ∙ sym (any-push p n))

pub first-left : (k : Facts) (s : Columns) (n v : ℕ) (start old : Bool) → s n ≡ false → old ≡ (start || has_first k s n v) → old ≡ (start || has_first k s (n + 1) v)
first-left k s n v start old out at =
    let p : ℕ → Bool = λ d. s d && (get_or k.firsts d 0 == v) in
    at
    ∙ ap (λ b. start || b)
    (sym (or-none (has_first k s n v)) ∙ ap (λ b. has_first k s n v || b) (sym (ap (λ b. b && (get_or k.firsts n 0 == v)) out)) ∙ sym (any-push p n))

-- ---- columns whose first ones are marked

pub marked-all : (k : Facts) (s : Columns) (v : ℕ) (none mid marked : Bool) (fixed : List (ℕ × Val)) → none ≡ false → mid ≡ (none || is_some_list (values_in fixed v)) → fixed ≡ k.fixed
    → marked ≡ (mid || has_first k s (length k.firsts) v) → marked ≡ (is_some_list (values_in k.fixed v) || has_first k s (length k.firsts) v)
marked-all k s v none mid marked fixed empty first same then =
    then ∙ ap (λ b. b || has_first k s (length k.firsts) v) (first ∙ ap (λ b. b || is_some_list (values_in fixed v)) empty ∙ ap (λ es. is_some_list (values_in es v)) same)

pub reaches : (k : Facts) (s : Columns) (n f : ℕ) (marked : Bool) → f ≡ get_or k.firsts n 0 → marked ≡ (is_some_list (values_in k.fixed f) || has_first k s (length k.firsts) f)
    → marked ≡ is_reached k s n
reaches k s n f marked is at = at ∙ ap (λ v. is_some_list (values_in k.fixed v) || has_first k s (length k.firsts) v) is

pub reach-put : (r : Columns) (n v : ℕ) (old new : Bool) → r n ≡ true → old ≡ (nat_lt v n && r v) → new ≡ (old || (v == n)) → new ≡ (nat_lt v (n + 1) && r v)
reach-put r n v old new there at put =
    ⊎_elim
    (λ e. put ∙ or-right old (v == n) (is-same v n e) ∙ sym (and-both (nat_lt v (n + 1)) (r v) (is-next v n e) (ap r e ∙ there)))
    (λ e. put ∙ ap (λ b. old || b) (not-same v n e) ∙ or-none old ∙ at ∙ ap (λ b. b && r v) (no-next v n e))
    (cases_eq v n)
  where
    is-same : (v n : ℕ) → v ≡ n → (v == n) ≡ true
    is-same v n e = grind (arith, nat_tests)

    is-next : (v n : ℕ) → v ≡ n → nat_lt v (n + 1) ≡ true
    is-next v n e = grind (arith, nat_tests)

    not-same : (v n : ℕ) → (v ≡ n → ⊥) → (v == n) ≡ false
    not-same v n e = grind (arith, nat_tests)

    no-next : (v n : ℕ) → (v ≡ n → ⊥) → nat_lt v n ≡ nat_lt v (n + 1)
    no-next v n e = grind (arith, nat_tests)

pub reach-left : (r : Columns) (n v : ℕ) (old : Bool) → r n ≡ false → old ≡ (nat_lt v n && r v) → old ≡ (nat_lt v (n + 1) && r v)
reach-left r n v old there at =
    ⊎_elim
    (λ e. at ∙ ap (λ b. nat_lt v n && b) (ap r e ∙ there) ∙ and-none (nat_lt v n) ∙ sym (ap (λ b. nat_lt v (n + 1) && b) (ap r e ∙ there) ∙ and-none (nat_lt v (n + 1))))
    (λ e. at ∙ ap (λ b. b && r v) (no-next v n e))
    (cases_eq v n)
  where
    no-next : (v n : ℕ) → (v ≡ n → ⊥) → nat_lt v n ≡ nat_lt v (n + 1)
    no-next v n e = grind (arith, nat_tests)

    and-none : (b : Bool) → (b && false) ≡ false
    and-none true = refl
    and-none false = refl
