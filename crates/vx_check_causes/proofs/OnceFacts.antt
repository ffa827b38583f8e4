-- In groups each failure has its line once.
use Rattle.std.proofs.Common.{◌≡◌, ◌∙◌, ℕ, ◌+◌, ◌==◌, Bool, true, false, cond, not, ◌&&◌, List, [], ◌∷◌, ◌++◌, Option, Some, None, ap, sym, refl, append_assoc, arith, zero-add}
use Rattle.std.proofs.lemmas.Bool.Decides.{nat_tests}
use Rattle.std.specs.Prelude.{is_none}
use Rattle.std.specs.List.{list_all}
use Rattle.vx_rows_values.proofs.Booleans.{and-left, and-right}
use Rattle.vx_plan_nodes.specs.Names.{TypedPlanView}
use Rattle.vx_check_rules.specs.Refusal.{Rule}
use Rattle.vx_check_failures.specs.Grouped.{caused_line, comes_of, lines_behind, group_of, groups_of}
use Rattle.vx_check_causes.specs.Once.{Caused, caused, count_in, behind, group, in_groups, caused_lines, is_cause, has_one_cause, OnceLaw}

-- ---- the text

lines-append : (p : TypedPlanView) (xs ys : List Caused) → caused_lines p (xs ++ ys) ≡ caused_lines p xs ++ caused_lines p ys
lines-append p [] ys = refl
lines-append p (x ∷ xs) ys = ap (λ l. caused_line p x.0 x.1 ++ l) (lines-append p xs ys) ∙ sym (append_assoc (caused_line p x.0 x.1) (caused_lines p xs) (caused_lines p ys))

lines-if : (p : TypedPlanView) (b : Bool) (f : ℕ × Rule) (cause : Option ℕ) (xs : List Caused) → cond b (caused_line p f cause) [] ++ caused_lines p xs ≡ caused_lines p (cond b ((f, cause) ∷ []) [] ++ xs)
lines-if p true f cause xs = refl
lines-if p false f cause xs = refl

lines-behind : (p : TypedPlanView) (n : ℕ) (fs : List (ℕ × Rule)) (causes : List (Option ℕ)) → lines_behind p n fs causes ≡ caused_lines p (behind n (caused fs causes))
lines-behind p n [] causes = refl
lines-behind p n (f ∷ fs) [] = refl
lines-behind p n (f ∷ fs) (cause ∷ causes) =
    ap (λ l. cond (comes_of n cause) (caused_line p f cause) [] ++ l) (lines-behind p n fs causes) ∙ lines-if p (comes_of n cause) f cause (behind n (caused fs causes))

lines-group : (p : TypedPlanView) (fs : List (ℕ × Rule)) (causes : List (Option ℕ)) (f : ℕ × Rule) (cause : Option ℕ) → group_of p fs causes f cause ≡ caused_lines p (group (caused fs causes) f cause)
lines-group p fs causes f None = ap (λ l. caused_line p f None ++ l) (lines-behind p f.0 fs causes)
lines-group p fs causes f (Some m) = refl

lines-groups : (p : TypedPlanView) (all : List (ℕ × Rule)) (reasons : List (Option ℕ)) (fs : List (ℕ × Rule)) (causes : List (Option ℕ))
    → groups_of p all reasons fs causes ≡ caused_lines p (in_groups (caused all reasons) (caused fs causes))
lines-groups p all reasons [] causes = refl
lines-groups p all reasons (f ∷ fs) [] = refl
lines-groups p all reasons (f ∷ fs) (cause ∷ causes) =
    ap (λ l. l ++ groups_of p all reasons fs causes) (lines-group p all reasons f cause)
    ∙ (ap (λ l. caused_lines p (group (caused all reasons) f cause) ++ l) (lines-groups p all reasons fs causes)
    ∙ sym (lines-append p (group (caused all reasons) f cause) (in_groups (caused all reasons) (caused fs causes))))

-- ---- the count

count-append : (t : Caused → Bool) (xs ys : List Caused) → count_in t (xs ++ ys) ≡ count_in t xs + count_in t ys
count-append t [] ys = omega arith
count-append t (x ∷ xs) ys = let h = count-append t xs ys in omega (arith, h)

-- how many of these failures are the cause
abbrev times : Option ℕ → List Caused → ℕ
times None zs = 0
times (Some m) zs = count_in (is_cause m) zs

-- those of these failures that are counted, each as often as it has a cause among the others
abbrev named : (Caused → Bool) → List Caused → List Caused → ℕ
named t [] zs = 0
named t (y ∷ ys) zs = cond (t y) (times y.1 zs) 0 + named t ys zs

one-or-none : (u : Bool) → cond {A = ℕ} u 0 0 ≡ 0
one-or-none true = refl
one-or-none false = refl

times-none : (c : Option ℕ) → times c [] ≡ 0
times-none None = refl
times-none (Some m) = refl

named-none : (t : Caused → Bool) (ys : List Caused) → named t ys [] ≡ 0
named-none t [] = refl
named-none t (y ∷ ys) =
    let h = named-none t ys in
    let k : cond (t y) (times y.1 []) 0 ≡ 0 = ap (λ n. cond (t y) n 0) (times-none y.1) ∙ one-or-none (t y) in
    omega (arith, h, k)

-- a cause more is named by those that come of it
cause-step : (t : Caused → Bool) (y : Caused) (b u : Bool) (k old new : ℕ) (rest : List Caused) → t y ≡ u → new ≡ count_in t rest + old
    → cond u (cond b 1 0 + k) 0 + new ≡ count_in t (cond b (y ∷ []) [] ++ rest) + (cond u k 0 + old)
cause-step t y true true k old new rest e h = rw e (omega (arith, h))
cause-step t y true false k old new rest e h = rw e (omega (arith, h))
cause-step t y false true k old new rest e h = omega (arith, h)
cause-step t y false false k old new rest e h = omega (arith, h)

named-cause : (t : Caused → Bool) (f : ℕ × Rule) (ys zs : List Caused) → named t ys ((f, None) ∷ zs) ≡ count_in t (behind f.0 ys) + named t ys zs
named-cause t f [] zs = refl
named-cause t f (y ∷ ys) zs = by y.1 refl (named-cause t f ys zs)
  where
    by : (c : Option ℕ) → y.1 ≡ c → named t ys ((f, None) ∷ zs) ≡ count_in t (behind f.0 ys) + named t ys zs
        → cond (t y) (times c ((f, None) ∷ zs)) 0 + named t ys ((f, None) ∷ zs) ≡ count_in t (cond (comes_of f.0 c) (y ∷ []) [] ++ behind f.0 ys) + (cond (t y) (times c zs) 0 + named t ys zs)
    by None e h = let k = one-or-none (t y) in omega (arith, h, k)
    by (Some m) e h = cause-step t y (m == f.0) (t y) (count_in (is_cause m) zs) (named t ys zs) (named t ys ((f, None) ∷ zs)) (behind f.0 ys) refl h

-- and one that has a cause by none
named-other : (t : Caused → Bool) (f : ℕ × Rule) (n : ℕ) (ys zs : List Caused) → named t ys ((f, Some n) ∷ zs) ≡ named t ys zs
named-other t f n [] zs = refl
named-other t f n (y ∷ ys) zs = by y.1 (named-other t f n ys zs)
  where
    by : (c : Option ℕ) → named t ys ((f, Some n) ∷ zs) ≡ named t ys zs → cond (t y) (times c ((f, Some n) ∷ zs)) 0 + named t ys ((f, Some n) ∷ zs) ≡ cond (t y) (times c zs) 0 + named t ys zs
    by None h = ap (λ n. cond (t y) 0 0 + n) h
    by (Some m) h =
        ap (λ k. cond (t y) k 0 + named t ys ((f, Some n) ∷ zs)) (zero-add (count_in (is_cause m) zs)) ∙ ap (λ k. cond (t y) (count_in (is_cause m) zs) 0 + k) h

-- in groups there are the causes, and what names them
groups-count : (t : Caused → Bool) (ys zs : List Caused) → count_in t (in_groups ys zs) ≡ count_in (λ z. is_none z.1 && t z) zs + named t ys zs
groups-count t ys [] = let h = named-none t ys in omega (arith, h)
groups-count t ys (z ∷ zs) = by z.1 refl (groups-count t ys zs)
  where
    by : (c : Option ℕ) → z.1 ≡ c → count_in t (in_groups ys zs) ≡ count_in (λ z. is_none z.1 && t z) zs + named t ys zs
        → count_in t (group ys z.0 c ++ in_groups ys zs) ≡ (cond (is_none c && t (z.0, c)) 1 0 + count_in (λ z. is_none z.1 && t z) zs) + named t ys ((z.0, c) ∷ zs)
    by None e h =
        let all = count-append t (group ys z.0 None) (in_groups ys zs) in
        let more = named-cause t z.0 ys zs in
        omega (arith, h, all, more)
    by (Some m) e h = let more = named-other t z.0 m ys zs in omega (arith, h, more)

-- where each has one cause, those with a cause are named once
named-once : (t : Caused → Bool) (ys zs : List Caused) → list_all (λ x. has_one_cause zs x.1) ys ≡ true → named t ys zs ≡ count_in (λ y. not (is_none y.1) && t y) ys
named-once t [] zs h = refl
named-once t (y ∷ ys) zs h = by y.1 (and-left (has_one_cause zs y.1) (list_all (λ x. has_one_cause zs x.1) ys) h) (named-once t ys zs (and-right (has_one_cause zs y.1) (list_all (λ x. has_one_cause zs x.1) ys) h))
  where
    by : (c : Option ℕ) → has_one_cause zs c ≡ true → named t ys zs ≡ count_in (λ y. not (is_none y.1) && t y) ys
        → cond (t y) (times c zs) 0 + named t ys zs ≡ cond (not (is_none c) && t y) 1 0 + count_in (λ y. not (is_none y.1) && t y) ys
    by None one h = let k = one-or-none (t y) in omega (arith, h, k)
    by (Some m) one h = let is : count_in (is_cause m) zs ≡ 1 = grind (arith, nat_tests, one) in rw is (ap (λ n. cond (t y) 1 0 + n) h)

-- causes, and those that have one
with-without : (t : Caused → Bool) (xs : List Caused) → count_in (λ z. is_none z.1 && t z) xs + count_in (λ y. not (is_none y.1) && t y) xs ≡ count_in t xs
with-without t [] = refl
with-without t (x ∷ xs) = by (is_none x.1) (with-without t xs)
  where
    by : (b : Bool) → count_in (λ z. is_none z.1 && t z) xs + count_in (λ y. not (is_none y.1) && t y) xs ≡ count_in t xs
        → (cond (b && t x) 1 0 + count_in (λ z. is_none z.1 && t z) xs) + (cond (not b && t x) 1 0 + count_in (λ y. not (is_none y.1) && t y) xs) ≡ cond (t x) 1 0 + count_in t xs
    by true h = omega (arith, h)
    by false h = omega (arith, h)

pub once : OnceLaw
once p fs causes h =
    let xs = caused fs causes in
    (lines-groups p fs causes fs causes, λ t. groups-count t xs xs ∙ (ap (λ n. count_in (λ z. is_none z.1 && t z) xs + n) (named-once t xs xs h) ∙ with-without t xs))
