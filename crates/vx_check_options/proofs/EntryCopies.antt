-- Copies of columns among the entries of a projection.
use Rattle.std.proofs.Common.{◌≡◌, ℕ, zero, suc, ◌+◌, ◌-◌, ◌≤◌, ◌==◌, Bool, true, false, cond, ◌||◌, List, [], ◌∷◌, Option, Some, None, refl, sym, ap, subst, ◌∙◌, true≢false, eqb-true, arith}
use Rattle.std.proofs.lemmas.Bool.Decides.{nat_tests}
use Rattle.vx_rows_values.specs.Lists.{is_some_list}
use Rattle.vx_plan_nodes.specs.Describe.{entries_kept, is_column, source}
use Rattle.vx_check_rules.specs.Rules.{contains}
use Rattle.vx_check_rules.proofs.Bools.{or-left, or-right}
use Rattle.vx_check_options.specs.Options.{entries_from}

-- an entry that is this column
column-is : (c : ℕ) (o : Option ℕ) → is_column c o ≡ true → o ≡ Some c
column-is c None h = absurd (true≢false (sym h))
column-is c (Some k) h = ap Some (sym (eqb-true c k h))

itself : (c : ℕ) → (c == c) ≡ true
itself c = grind (arith, nat_tests)

-- where an entry stands that keeps a column, it is a copy of this one
kept-from : (n : ℕ) (ks : List (Option ℕ)) (x c : ℕ) → contains (entries_from n ks x) c ≡ true → (n ≤ c) × (source (entries_kept ks) (c - n) ≡ Some x)
kept-from n [] x c h = absurd (true≢false (sym h))
kept-from n (k ∷ ks) x c h = by (is_column x k) refl (kept-from (suc n) ks x c) h
  where
    later : (m : ℕ) → suc m ≡ c - n → source (entries_kept ks) (c - suc n) ≡ Some x → source (entries_kept (k ∷ ks)) (c - n) ≡ Some x
    later m e s = let d : m ≡ c - suc n = omega arith in sym (ap (source (entries_kept (k ∷ ks))) e) ∙ ap (source (entries_kept ks)) d ∙ s

    behind : (suc n ≤ c) × (source (entries_kept ks) (c - suc n) ≡ Some x) → (n ≤ c) × (source (entries_kept (k ∷ ks)) (c - n) ≡ Some x)
    behind s = let l : suc n ≤ c = s.0 in (omega arith, later (c - suc n) (omega arith) s.1)

    here : is_column x k ≡ true → c ≡ n → (n ≤ c) × (source (entries_kept (k ∷ ks)) (c - n) ≡ Some x)
    here e d = let z : c - n ≡ 0 = omega arith in (omega arith, ap (source (entries_kept (k ∷ ks))) z ∙ column-is x k e)

    first : (b : Bool) → (c == n) ≡ b → is_column x k ≡ true → (contains (entries_from (suc n) ks x) c ≡ true → (suc n ≤ c) × (source (entries_kept ks) (c - suc n) ≡ Some x))
        → (b || contains (entries_from (suc n) ks x) c) ≡ true → (n ≤ c) × (source (entries_kept (k ∷ ks)) (c - n) ≡ Some x)
    first true d e more l = here e (eqb-true c n d)
    first false d e more l = behind (more l)

    by : (b : Bool) → is_column x k ≡ b → (contains (entries_from (suc n) ks x) c ≡ true → (suc n ≤ c) × (source (entries_kept ks) (c - suc n) ≡ Some x))
        → contains (cond b (n ∷ entries_from (suc n) ks x) (entries_from (suc n) ks x)) c ≡ true → (n ≤ c) × (source (entries_kept (k ∷ ks)) (c - n) ≡ Some x)
    by true e more l = first (c == n) refl e more l
    by false e more l = behind (more l)

pub entry-source : (ks : List (Option ℕ)) (x c : ℕ) → contains (entries_from 0 ks x) c ≡ true → source (entries_kept ks) c ≡ Some x
entry-source ks x c h = let e : c - 0 ≡ c = omega arith in sym (ap (source (entries_kept ks)) e) ∙ (kept-from 0 ks x c h).1

copy-from : (n : ℕ) (ks : List (Option ℕ)) (c d : ℕ) → source (entries_kept ks) d ≡ Some c → contains (entries_from n ks c) (n + d) ≡ true
copy-from n [] c d e = cc
copy-from n (k ∷ ks) c zero e =
    let is : k ≡ Some c = e in
    let z : n ≡ n + 0 = omega arith in
    rw (is, itself c) (subst (λ v. contains (n ∷ entries_from (suc n) ks c) v ≡ true) z (or-left (n == n) (contains (entries_from (suc n) ks c) n) (itself n)))
copy-from n (k ∷ ks) c (suc d) e =
    let s : n + suc d ≡ suc n + d = omega arith in
    rw s (by (is_column c k) (copy-from (suc n) ks c d e))
  where
    by : (t : Bool) → contains (entries_from (suc n) ks c) (suc n + d) ≡ true → contains (cond t (n ∷ entries_from (suc n) ks c) (entries_from (suc n) ks c)) (suc n + d) ≡ true
    by true h = or-right (suc n + d == n) (contains (entries_from (suc n) ks c) (suc n + d)) h
    by false h = h

-- an entry that keeps a column is among its copies
pub entry-found : (ks : List (Option ℕ)) (c d : ℕ) → source (entries_kept ks) d ≡ Some c → contains (entries_from 0 ks c) d ≡ true
entry-found ks c d e = let z : 0 + d ≡ d = omega arith in subst (λ v. contains (entries_from 0 ks c) v ≡ true) z (copy-from 0 ks c d e)

-- so there are some
pub entry-some : (ks : List (Option ℕ)) (c d : ℕ) → source (entries_kept ks) d ≡ Some c → is_some_list (entries_from 0 ks c) ≡ true
entry-some ks c d e = by (entries_from 0 ks c) (entry-found ks c d e)
  where
    by : (xs : List ℕ) → contains xs d ≡ true → is_some_list xs ≡ true
    by [] h = h
    by (x ∷ xs) h = refl
