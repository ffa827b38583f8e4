-- The first column that passes a test, and lists of columns that are found.
use Rattle.std.proofs.Common.{◌≡◌, ◌∙◌, ℕ, zero, suc, ◌+◌, ◌<◌, ◌≤◌, Bool, true, false, cond, ⊎_elim, List, ◌∷◌, Option, Some, None, refl, sym, subst, arith, true≢false}
use Rattle.std.specs.List.{filter}
use Rattle.std.proofs.lemmas.Bool.{cases_lt}
use Rattle.vx_plan_nodes.specs.Phases.{columns_from, first_columns}
use Rattle.vx_check_rules.specs.Rules.{cons_both}
use Rattle.vx_check_rules.specs.Derived.{first_of}

-- one that is found passes, and is one of the columns
pub record Found (test : ℕ → Bool) (w c : ℕ) : Type 0 where
  pub within : c < w
  pub passes : test c ≡ true

from-in : (test : ℕ → Bool) (i n c : ℕ) → first_of (filter test (columns_from i n)) ≡ Some c → Found test (i + n) c
from-in test i zero c e = cc
from-in test i (suc n) c e = go (test i) refl e (λ f. from-in test (suc i) n c f)
  where
    go : (b : Bool) → test i ≡ b → first_of (cond b (i ∷ filter test (columns_from (suc i) n)) (filter test (columns_from (suc i) n))) ≡ Some c
        → (first_of (filter test (columns_from (suc i) n)) ≡ Some c → Found test (suc i + n) c) → Found test (i + suc n) c
    go true is f more = let s : i ≡ c = cc in record { within = omega (arith, s); passes = subst (λ v. test v ≡ true) s is }
    go false is f more = let r = more f in let l = r.within in record { within = omega (arith, l); passes = r.passes }

pub first-in : (test : ℕ → Bool) (w c : ℕ) → first_of (filter test (first_columns w)) ≡ Some c → Found test w c
first-in test w c e = let r = from-in test 0 w c e in let l = r.within in record { within = omega (arith, l); passes = r.passes }

-- where one passes, one is found
from-some : (test : ℕ → Bool) (i n d : ℕ) → i ≤ d → d < i + n → test d ≡ true → (c : ℕ) × (first_of (filter test (columns_from i n)) ≡ Some c)
from-some test i zero d l m h = absurd (omega arith)
from-some test i (suc n) d l m h = go (test i) refl (λ k. from-some test (suc i) n d k (omega (arith, m)) h)
  where
    other : (a b : ℕ) → a ≤ b → (a ≡ b → ⊥) → suc a ≤ b
    other a b l o = ⊎_elim (λ m. omega (arith, m)) (λ g. absurd (o (omega (arith, g, l)))) (cases_lt a b)

    go : (b : Bool) → test i ≡ b → (suc i ≤ d → (c : ℕ) × (first_of (filter test (columns_from (suc i) n)) ≡ Some c))
        → (c : ℕ) × (first_of (cond b (i ∷ filter test (columns_from (suc i) n)) (filter test (columns_from (suc i) n))) ≡ Some c)
    go true is more = (i, refl)
    go false is more = more (other i d l (λ s. true≢false (sym (subst (λ v. test v ≡ true) (sym s) h) ∙ is)))

pub first-some : (test : ℕ → Bool) (w d : ℕ) → d < w → test d ≡ true → (c : ℕ) × (first_of (filter test (first_columns w)) ≡ Some c)
first-some test w d l h = from-some test 0 w d (omega arith) (omega (arith, l)) h

-- what a list is that is there
pub record Consed (o : Option ℕ) (p : Option (List ℕ)) (cs : List ℕ) : Type 0 where
  pub first : ℕ
  pub rest : List ℕ
  pub first_is : o ≡ Some first
  pub rest_is : p ≡ Some rest
  pub is : cs ≡ first ∷ rest

pub consed : (o : Option ℕ) (p : Option (List ℕ)) (cs : List ℕ) → cons_both o p ≡ Some cs → Consed o p cs
consed None None cs e = cc
consed None (Some ds) cs e = cc
consed (Some c) None cs e = cc
consed (Some c) (Some ds) cs e = record { first = c; rest = ds; first_is = refl; rest_is = refl; is = cc }
