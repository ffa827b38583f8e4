-- The first column that passes a test, as the program finds it, and lists of such columns.
use Rattle.std.proofs.Common.{◌≡◌, ℕ, suc, ◌+◌, ◌<◌, ◌≤◌, Bool, true, false, cond, List, [], ◌∷◌, ◌++◌, append_assoc, length, drop, get_or, drop-cons, Option, Some, None, option_map, refl, sym, ap, ◌∙◌, arith}
use Rattle.std.proofs.lemmas.List.{drop_all, append-nil}
use Rattle.std.specs.List.{filter}
use Rattle.vx_plan_nodes.specs.Phases.{first_columns}
use Rattle.vx_check_rules.specs.Rules.{cons_both}
use Rattle.vx_check_rules.specs.Derived.{first_of}
use Rattle.vx_check_rules.proofs.ColumnFacts.{first_at, first_length}

-- the first one from this column on
abbrev pub first_from : ℕ → ℕ → (ℕ → Bool) → Option ℕ
first_from i w test = first_of (filter test (drop i (first_columns w)))

first-cons : (w i : ℕ) → i < w → drop i (first_columns w) ≡ i ∷ drop (i + 1) (first_columns w)
first-cons w i h =
    let wide = first_length w in
    let next : suc i ≡ i + 1 = omega arith in
    drop-cons (first_columns w) i 0 (omega (arith, h, wide)) ∙ ap (λ c. c ∷ drop (suc i) (first_columns w)) (first_at w i h) ∙ ap (λ n. i ∷ drop n (first_columns w)) next

pub first-here : (i w : ℕ) (test : ℕ → Bool) → i < w → test i ≡ true → first_from i w test ≡ Some i
first-here i w test h is =
    let rest : List ℕ = drop (i + 1) (first_columns w) in
    ap (λ cs. first_of (filter test cs)) (first-cons w i h) ∙ ap (λ b. first_of (cond b (i ∷ filter test rest) (filter test rest))) is

pub first-later : (i w : ℕ) (test : ℕ → Bool) → i < w → test i ≡ false → first_from i w test ≡ first_from (i + 1) w test
first-later i w test h is =
    let rest : List ℕ = drop (i + 1) (first_columns w) in
    ap (λ cs. first_of (filter test cs)) (first-cons w i h) ∙ ap (λ b. first_of (cond b (i ∷ filter test rest) (filter test rest))) is

pub first-none : (i w : ℕ) (test : ℕ → Bool) → w ≤ i → first_from i w test ≡ None
first-none i w test h =
    let wide = first_length w in
    ap (λ cs. first_of (filter test cs)) (drop_all i (first_columns w) (omega (arith, h, wide)))

-- ---- lists, if each column is found

-- a list behind these
abbrev pub behind : List ℕ → Option (List ℕ) → Option (List ℕ)
behind found o = option_map (λ ys. found ++ ys) o

pub behind-none : (o : Option (List ℕ)) → behind [] o ≡ o
behind-none None = refl
behind-none (Some ys) = refl

pub behind-cons : (found : List ℕ) (c : ℕ) (o : Option (List ℕ)) → behind found (cons_both (Some c) o) ≡ behind (found ++ c ∷ []) o
behind-cons found c None = refl
behind-cons found c (Some ys) = ap Some (sym (append_assoc found (c ∷ []) ys))

pub cons-none : (o : Option (List ℕ)) → cons_both None o ≡ None
cons-none None = refl
cons-none (Some ys) = refl

-- one column more of a list by a function of its columns; one that is not there ends it; and its end
module _ (one : ℕ → Option ℕ) (list : List ℕ → Option (List ℕ)) (ends : list [] ≡ Some []) (goes : (x : ℕ) (xs : List ℕ) → list (x ∷ xs) ≡ cons_both (one x) (list xs)) where
  pub each-goes : (xs found : List ℕ) (i c : ℕ) → i < length xs → one (get_or xs i 0) ≡ Some c → behind found (list (drop i xs)) ≡ list xs → behind (found ++ c ∷ []) (list (drop (i + 1) xs)) ≡ list xs
  each-goes xs found i c h is at =
      let next : suc i ≡ i + 1 = omega arith in
      ap (λ n. behind (found ++ c ∷ []) (list (drop n xs))) (sym next) ∙ sym (behind-cons found c (list (drop (suc i) xs)))
      ∙ ap (λ o. behind found (cons_both o (list (drop (suc i) xs)))) (sym is) ∙ ap (behind found) (sym (goes (get_or xs i 0) (drop (suc i) xs)))
      ∙ ap (λ ys. behind found (list ys)) (sym (drop-cons xs i 0 h)) ∙ at

  pub each-stops : (xs found : List ℕ) (i : ℕ) → i < length xs → one (get_or xs i 0) ≡ None → behind found (list (drop i xs)) ≡ list xs → None ≡ list xs
  each-stops xs found i h is at =
      sym (ap (λ ys. behind found (list ys)) (drop-cons xs i 0 h) ∙ ap (behind found) (goes (get_or xs i 0) (drop (suc i) xs))
      ∙ ap (λ o. behind found (cons_both o (list (drop (suc i) xs)))) is ∙ ap (behind found) (cons-none (list (drop (suc i) xs))))
      ∙ at

  pub each-ends : (xs found : List ℕ) (i : ℕ) → length xs ≤ i → behind found (list (drop i xs)) ≡ list xs → Some found ≡ list xs
  each-ends xs found i h at =
      ap Some (sym (append-nil found)) ∙ ap (behind found) (sym ends) ∙ ap (λ ys. behind found (list ys)) (sym (drop_all i xs h)) ∙ at
