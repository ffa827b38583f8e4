-- The first clash of rows on some columns, from what is known of all pairs of positions.
use Rattle.std.proofs.Common.{◌≡◌, ℕ, ◌<◌, ◌≤◌, Bool, true, false, List, [], ◌∷◌, ◌++◌, length, get_or, Some, None, refl, sym, ap, ◌∙◌, subst, arith, inl, inr, length-append, append_assoc}
use Rattle.std.specs.Prelude.{position}
use Rattle.std.proofs.lemmas.List.{get_or_append_left, length_push}
use Rattle.std.proofs.lemmas.List.Sums.{position_or_len_is}
use Rattle.std.proofs.Math.Seq.{get_or-append_seam}
use Rattle.std.proofs.lemmas.Bool.{cases_eq}
use Rattle.vx_rows_values.specs.Values.{Row, pick}
use Rattle.vx_rows_values.specs.Order.{agree}
use Rattle.vx_rows_values.specs.Keys.{clash_or, clash_from}
use Rattle.vx_rows_values.proofs.Compare.{row_eq-laws}

-- the first position that passes, or that none does
pub position-is : {X : Type 0} (p : X → Bool) (xs : List X) (i : ℕ) (d : X) → i < length xs → ((k : ℕ) → k < i → p (get_or xs k d) ≡ false) → p (get_or xs i d) ≡ true → position p xs ≡ Some i
position-is p xs i d h before at =
    let e = position_or_len_is p xs i d (omega arith) before (λ _. at) in
    rw e (grind (arith, h))

pub position-none : {X : Type 0} (p : X → Bool) (xs : List X) (d : X) → ((k : ℕ) → k < length xs → p (get_or xs k d) ≡ false) → position p xs ≡ None
position-none p xs d none =
    let e = position_or_len_is p xs (length xs) d (omega arith) none (λ h. absurd (omega arith)) in
    rw e (grind arith)

-- the rows at two positions agree
abbrev pub meet : List ℕ → List Row → ℕ → ℕ → Bool
meet cols rows i j = agree cols (get_or rows i []) (get_or rows j [])

pub agree-sym : (cols : List ℕ) (a b : Row) → agree cols a b ≡ agree cols b a
agree-sym cols a b = row_eq-laws.symm (pick cols a) (pick cols b)

-- of two positions below n the later agrees with no earlier one
abbrev pub Apart : List ℕ → List Row → ℕ → Type 0
Apart cols rows n = (i j : ℕ) → i < j → j < n → meet cols rows j i ≡ false

-- this is the first clash: no earlier second, and no earlier first for it
pub record IsFirst (cols : List ℕ) (rows : List Row) (first second : ℕ) : Type 0 where
  pub order : first < second
  pub there : second < length rows
  pub agrees : meet cols rows second first ≡ true
  pub before : Apart cols rows second
  pub least : (i : ℕ) → i < first → meet cols rows second i ≡ false

-- a row behind those that are seen
at-seen : (seen rest : List Row) (k : ℕ) → k < length seen → get_or seen k [] ≡ get_or (seen ++ rest) k []
at-seen seen rest k h = sym (get_or_append_left seen rest [] k h)

pub clash-none : (cols : List ℕ) (seen rest : List Row) → Apart cols (seen ++ rest) (length (seen ++ rest)) → clash_from cols seen rest ≡ None
clash-none cols seen [] h = refl
clash-none cols seen (row ∷ rest) h =
    let rows = seen ++ row ∷ rest in
    let n = length-append seen (row ∷ rest) in
    let here : get_or rows (length seen) [] ≡ row = get_or-append_seam seen row rest [] in
    let none = position-none (agree cols row) seen [] (λ k l.
    ap (λ r. agree cols r (get_or seen k [])) (sym here) ∙ (ap (λ r. agree cols (get_or rows (length seen) []) r) (at-seen seen (row ∷ rest) k l) ∙ h k (length seen) l (omega (arith, n)))) in
    let again : (seen ++ row ∷ []) ++ rest ≡ rows = append_assoc seen (row ∷ []) rest in
    ap (λ o. clash_or (length seen) o (clash_from cols (seen ++ row ∷ []) rest)) none ∙ clash-none cols (seen ++ row ∷ []) rest (subst (λ (l : List Row). Apart cols l (length l)) (sym again) h)

pub clash-some : (cols : List ℕ) (seen rest : List Row) (first second : ℕ) → IsFirst cols (seen ++ rest) first second → length seen ≤ second → clash_from cols seen rest ≡ Some (first, second)
clash-some cols seen [] first second f h = let n = length-append seen [] in let t = f.there in absurd (omega (arith, n, t))
clash-some cols seen (row ∷ rest) first second f h =
    let rows = seen ++ row ∷ rest in
    let n = length-append seen (row ∷ rest) in
    let there = f.there in
    let order = f.order in
    let here : get_or rows (length seen) [] ≡ row = get_or-append_seam seen row rest [] in
    let seen_at : (k : ℕ) → k < length seen → agree cols row (get_or seen k []) ≡ meet cols rows (length seen) k = λ k l.
    ap (λ r. agree cols r (get_or seen k [])) (sym here) ∙ ap (λ r. agree cols (get_or rows (length seen) []) r) (at-seen seen (row ∷ rest) k l) in
    elim (cases_eq (length seen) second) [
      | inl e ↦
          let is = position-is (agree cols row) seen first [] (omega arith)
          (λ k l. seen_at k (omega arith) ∙ (ap (λ j. meet cols rows j k) e ∙ f.least k l))
          (seen_at first (omega arith) ∙ (ap (λ j. meet cols rows j first) e ∙ f.agrees)) in
          ap (λ o. clash_or (length seen) o (clash_from cols (seen ++ row ∷ []) rest)) is ∙ ap (λ j. Some (first, j)) e
      | inr ne ↦
          let none = position-none (agree cols row) seen [] (λ k l. seen_at k l ∙ f.before k (length seen) l (omega arith)) in
          let again : (seen ++ row ∷ []) ++ rest ≡ rows = append_assoc seen (row ∷ []) rest in
          let m = length_push seen row in
          ap (λ o. clash_or (length seen) o (clash_from cols (seen ++ row ∷ []) rest)) none
          ∙ clash-some cols (seen ++ row ∷ []) rest first second (subst (λ (l : List Row). IsFirst cols l first second) (sym again) f) (omega (arith, m))
    ]
