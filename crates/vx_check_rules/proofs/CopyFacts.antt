-- Copies of columns, one by one.
use Rattle.std.proofs.Common.{◌≡◌, ℕ, suc, ◌+◌, ◌<◌, ◌≤◌, Bool, true, false, List, [], ◌∷◌, length, drop, get_or, ◌==◌, ◌&&◌, Option, Some, None, is_some, refl, sym, ap, ◌∙◌, arith, add-one, drop-cons, not, eqb}
use Rattle.std.specs.List.{list_all}
use Rattle.std.specs.Option.{option_eq}
use Rattle.std.proofs.lemmas.List.{drop_all}
use Rattle.std.proofs.lemmas.Bool.Decides.{nat_tests}
use Rattle.std.proofs.Math.Bool.{and-false}
use Rattle.vx_plan_nodes.specs.Describe.{Copying, source}
use Rattle.vx_check_rules.specs.Rules.{numbers_eq, cons_both, if_some}
use Rattle.vx_check_rules.specs.Behaviour.{sources}

all_cons : (o : Option ℕ) (os : Option (List ℕ)) → if_some (cons_both o os) (λ cs. true) ≡ (is_some o && if_some os (λ cs. true))
all_cons None os = refl
all_cons (Some c) None = refl
all_cons (Some c) (Some cs) = refl

pub copies-all : (k : Copying) (cols : List ℕ) → list_all (λ c. is_some (source k c)) cols ≡ if_some (sources k cols) (λ cs. true)
copies-all k [] = refl
copies-all k (c ∷ cs) = ap (λ b. is_some (source k c) && b) (copies-all k cs) ∙ sym (all_cons (source k c) (sources k cs))

-- the columns are copies of just these, in order
abbrev pub stands : Copying → List ℕ → List ℕ → Bool
stands k cols inputs = if_some (sources k cols) (numbers_eq inputs)

stands_some : (o : Option (List ℕ)) (c x : ℕ) (xs : List ℕ) → if_some (cons_both (Some c) o) (numbers_eq (x ∷ xs)) ≡ ((x == c) && if_some o (numbers_eq xs))
stands_some None c x xs = sym (and-false (x == c))
stands_some (Some cs) c x xs = refl

-- equality of numbers is symmetric
pub eq_swap : (x c : ℕ) → (x == c) ≡ (c == x)
eq_swap x c = grind (arith, nat_tests)

stands_option : (o : Option ℕ) (os : Option (List ℕ)) (x : ℕ) (xs : List ℕ) → if_some (cons_both o os) (numbers_eq (x ∷ xs)) ≡ (option_eq eqb o (Some x) && if_some os (numbers_eq xs))
stands_option None os x xs = refl
stands_option (Some d) os x xs = stands_some os d x xs ∙ ap (λ b. b && if_some os (numbers_eq xs)) (eq_swap x d)

-- this column, and those behind it
pub stands-here : (k : Copying) (cols inputs : List ℕ) (i : ℕ) → i < length cols → i < length inputs
    → stands k (drop i cols) (drop i inputs) ≡ (option_eq eqb (source k (get_or cols i 0)) (Some (get_or inputs i 0)) && stands k (drop (i + 1) cols) (drop (i + 1) inputs))
stands-here k cols inputs i h l = rw (drop-cons cols i 0, drop-cons inputs i 0, add-one) (stands_option (source k (get_or cols i 0)) (sources k (drop (suc i) cols)) (get_or inputs i 0) (drop (suc i) inputs))

pub stands-done : (k : Copying) (cols inputs : List ℕ) (i : ℕ) → length cols ≤ i → length inputs ≤ i → stands k (drop i cols) (drop i inputs) ≡ true
stands-done k cols inputs i h l = rw (drop_all i cols h, drop_all i inputs l) refl

pub not-not : (b c : Bool) → b ≡ not c → b ≡ true → c ≡ false
not-not b true e h = cc
not-not b false e h = refl

-- as many columns
pub stands-length : (k : Copying) (cols inputs : List ℕ) → (length cols ≡ length inputs → ⊥) → stands k cols inputs ≡ false
stands-length k [] [] other = absurd (other refl)
stands-length k [] (x ∷ xs) other = refl
stands-length k (c ∷ cs) [] other = short (source k c) (sources k cs)
  where
    short : (o : Option ℕ) (os : Option (List ℕ)) → if_some (cons_both o os) (numbers_eq []) ≡ false
    short None os = refl
    short (Some c) None = refl
    short (Some c) (Some cs) = refl
stands-length k (c ∷ cs) (x ∷ xs) other = longer (source k c) (sources k cs) (stands-length k cs xs (λ e. other (ap suc e)))
  where
    longer : (o : Option ℕ) (os : Option (List ℕ)) → if_some os (numbers_eq xs) ≡ false → if_some (cons_both o os) (numbers_eq (x ∷ xs)) ≡ false
    longer None os h = refl
    longer (Some c) None h = refl
    longer (Some c) (Some cs) h = rw h (and-false (x == c))
