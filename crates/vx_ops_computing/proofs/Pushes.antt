-- Lists that grow by one element, which has what the others have.
use Rattle.std.proofs.Common.{◌≡◌, ℕ, ℤ, pos, ◌+◌, ◌<◌, List, [], ◌∷◌, ◌++◌, length, get_or, Option, Some, refl, sym, subst, arith, inl, inr}
use Rattle.std.proofs.lemmas.Bool.{cases_lt}
use Rattle.std.proofs.lemmas.List.{get_or_append_left, get_or_push, length_push}
use Rattle.vx_rows_values.specs.Values.{Val, num}
use Rattle.vx_ops_computing.specs.declared.operands.Operand.{Operand}
use Rattle.vx_ops_computing.specs.Applied.{AreNumbersOf}
use Rattle.vx_ops_computing.specs.Operands.{values_at}

pub each-push : {X : Type 0} (P : ℕ → X → Type 0) (xs : List X) (x d : X) (n : ℕ) → length xs ≡ n → ((j : ℕ) → j < n → P j (get_or xs j d)) → P n x → (j : ℕ) → j < n + 1 → P j (get_or (xs ++ x ∷ []) j d)
each-push P xs x d n long h here j l = elim (cases_lt j n) [
  | inl less ↦ subst (P j) (sym (get_or_append_left xs (x ∷ []) d j (omega (arith, long, less)))) (h j less)
  | inr ge ↦
      let e : j ≡ n = omega (arith, l, ge) in
      subst (λ i. P i (get_or (xs ++ x ∷ []) i d)) (sym e) (subst (P n) (sym (get_or_push xs x d n long)) here)
]

pub numbers-push : (says : List Val → Option Val) (os : List Operand) (k : ℕ) (xs ys : List ℤ) (y z : ℤ) → AreNumbersOf says os k xs → says (values_at os k) ≡ Some (num z) → ys ≡ xs ++ y ∷ [] → y ≡ z → AreNumbersOf says os (k + 1) ys
numbers-push says os k xs ys y z h here pushed same =
    let P : ℕ → ℤ → Type 0 = λ j x. says (values_at os j) ≡ Some (num x) in
    let Q : List ℤ → Type 0 = λ zs. AreNumbersOf says os (k + 1) zs in
    let R : ℤ → Type 0 = λ x. P k x in
    let long = h.long in
    let more = length_push xs y in
    subst Q (sym pushed) (record { long = omega (arith, long, more); values = each-push P xs y (pos 0) k long h.values (subst R (sym same) here) })

pub numbers-none : (says : List Val → Option Val) (os : List Operand) → AreNumbersOf says os 0 []
numbers-none says os = record { long = refl; values = λ k l. absurd (omega arith) }
