-- Keys that are numbers from 0 on, found by a table.
use Rattle.std.proofs.Common.{◌≡◌, ◌≢◌, ℕ, ℤ, pos, suc, zero, ◌+◌, ◌<◌, Bool, true, false, List, [], ◌∷◌, ◌++◌, map, length, get_or, set, refl, sym, ap, ◌∙◌, subst, arith, inl, inr, Some, None}
use Rattle.std.specs.Prelude.{position}
use Rattle.std.specs.List.{IsDistinct}
use Rattle.std.specs.Ordering.{int_eq}
use Rattle.std.proofs.lemmas.Bool.{cases_eq, cases_lt}
use Rattle.std.proofs.lemmas.Bool.Decides.{Decides-int_eq}
use Rattle.std.proofs.lemmas.List.{length-map, get_or-map, get_or_past, get_or_append_left, get_or-set_same, get_or-set_other, length_push}
use Rattle.std.proofs.Math.Seq.{get_or-append_seam}
use Rattle.std.proofs.lemmas.Map.Keys.{IsDistinct-from_apart}
use Rattle.vx_rows_values.specs.Values.{row_eq}
use Rattle.vx_rows_values.proofs.ClashFacts.{position-none, position-is}
use Rattle.vx_match_keys.specs.Columns.{number_key}
use Rattle.vx_match_keys.specs.Direct.{direct_key, IsTable}
use Rattle.vx_match_keys.proofs.MadeFacts.{numbers-same}

-- a number that is a key, and one that is another
same-key : (z : ℤ) (k : ℕ) → z ≡ pos k → row_eq (number_key z) (direct_key k) ≡ true
same-key z k e = numbers-same z (pos k) ∙ (Decides-int_eq z (pos k)).1 e

other-key : (z : ℤ) (k : ℕ) → z ≢ pos k → row_eq (number_key z) (direct_key k) ≡ false
other-key z k ne = numbers-same z (pos k) ∙ by (int_eq z (pos k)) refl
  where
    by : (b : Bool) → int_eq z (pos k) ≡ b → int_eq z (pos k) ≡ false
    by true e = absurd (ne ((Decides-int_eq z (pos k)).0 e))
    by false e = e

-- no key is this number
absent-number : (keys : List ℕ) (z : ℤ) → ((k : ℕ) → k < length keys → z ≢ pos (get_or keys k 0)) → position (row_eq (number_key z)) (map direct_key keys) ≡ None
absent-number keys z none =
    position-none (row_eq (number_key z)) (map direct_key keys) [] (λ k near.
    let here : k < length keys = subst (λ n. k < n) (length-map keys direct_key) near in
    ap (row_eq (number_key z)) (get_or-map direct_key keys k 0 [] here) ∙ other-key z (get_or keys k 0) (none k here))

same-place : (z : ℤ) (a b : ℕ) → z ≡ pos a → z ≡ pos b → a ≡ b
same-place z a b p q = cc

-- what a table says of a number
module _ (keys table : List ℕ) (is : IsTable keys table) where
  within : (k : ℕ) → k < length keys → get_or keys k 0 < length table
  within k near =
      let mark = is.marked k near in
      elim (cases_lt (get_or keys k 0) (length table)) [
        | inl before ↦ before
        | inr past ↦ let none = get_or_past table (get_or keys k 0) 0 past in absurd (omega (arith, none, mark))
      ]

  -- it is past the table's end
  pub beyond-number : (z : ℤ) → ((v : ℕ) → v < length table → z ≢ pos v) → position (row_eq (number_key z)) (map direct_key keys) ≡ None
  beyond-number z none = absent-number keys z (λ k near. none (get_or keys k 0) (within k near))

  -- it has 0 there
  pub zero-number : (z : ℤ) (v : ℕ) → z ≡ pos v → get_or table v 0 ≡ 0 → position (row_eq (number_key z)) (map direct_key keys) ≡ None
  zero-number z v at none =
      absent-number keys z (λ k near same.
      let mark : get_or table v 0 ≡ k + 1 = ap (λ u. get_or table u 0) (same-place z v (get_or keys k 0) at same) ∙ is.marked k near in
      omega (arith, mark, none))

  -- it has a mark there
  pub marked-number : (z : ℤ) (v n : ℕ) → z ≡ pos v → get_or table v 0 ≡ n + 1 → position (row_eq (number_key z)) (map direct_key keys) ≡ Some n
  marked-number z v n at mark =
      let there = is.only v n mark in
      let long = length-map keys direct_key in
      let near : n < length keys = there.0 in
      position-is (row_eq (number_key z)) (map direct_key keys) n [] (subst (λ m. n < m) (sym long) near) (λ k before.
      let here : k < length keys = omega (arith, near, before) in
      ap (row_eq (number_key z)) (get_or-map direct_key keys k 0 [] here)
      ∙ other-key z (get_or keys k 0) (λ same.
      let other : get_or table v 0 ≡ k + 1 = ap (λ u. get_or table u 0) (same-place z v (get_or keys k 0) at same) ∙ is.marked k here in
      omega (arith, other, mark, before)))
      (ap (row_eq (number_key z)) (get_or-map direct_key keys n 0 [] near) ∙ same-key z (get_or keys n 0) (at ∙ ap pos (sym there.1)))

  -- so a number that is no key has 0
  pub new-number : (z : ℤ) (v : ℕ) → z ≡ pos v → position (row_eq (number_key z)) (map direct_key keys) ≡ None → get_or table v 0 ≡ 0
  new-number z v at none = by (get_or table v 0) refl
    where
      by : (m : ℕ) → get_or table v 0 ≡ m → get_or table v 0 ≡ 0
      by zero e = e
      by (suc n) e = let some = marked-number z v n at (e ∙ omega arith) in cc

  -- keys that a table tells apart are apart
  pub table-apart : IsDistinct row_eq (map direct_key keys)
  table-apart =
      IsDistinct-from_apart row_eq (map direct_key keys) (λ i j d before near.
      let far : j < length keys = subst (λ n. j < n) (length-map keys direct_key) near in
      let here : i < length keys = omega (arith, before, far) in
      (λ t. row_eq (get_or-map direct_key keys i 0 d here t) (get_or-map direct_key keys j 0 d far t))
      ∙ other-key (pos (get_or keys i 0)) (get_or keys j 0) (λ same.
      let mark : get_or table (get_or keys i 0) 0 ≡ j + 1 = ap (λ u. get_or table u 0) (same-place (pos (get_or keys i 0)) (get_or keys i 0) (get_or keys j 0) refl same) ∙ is.marked j far in
      let own = is.marked i here in
      omega (arith, mark, own, before)))

  -- the table of one key more
  pub next-table : (v : ℕ) → v < length table → get_or table v 0 ≡ 0 → IsTable (keys ++ v ∷ []) (set table v (length keys + 1))
  next-table v near none = record { marked = marked; only = only }
    where
      keys' : List ℕ
      keys' = keys ++ v ∷ []

      mark : ℕ → ℕ
      mark u = get_or (set table v (length keys + 1)) u 0

      old : (n : ℕ) → n < length keys → mark (get_or keys' n 0) ≡ n + 1
      old n here =
          let own = is.marked n here in
          let other : get_or keys n 0 ≢ v = λ same. let e = ap (λ u. get_or table u 0) same in omega (arith, own, e, none) in
          ap mark (get_or_append_left keys (v ∷ []) 0 n here) ∙ (get_or-set_other table v (get_or keys n 0) (length keys + 1) 0 other ∙ own)

      new : mark (get_or keys' (length keys) 0) ≡ length keys + 1
      new = ap mark (get_or-append_seam keys v [] 0) ∙ get_or-set_same table v (length keys + 1) 0 near

      marked : (n : ℕ) → n < length keys' → mark (get_or keys' n 0) ≡ n + 1
      marked n here =
          elim (cases_eq n (length keys)) [
            | inl e ↦ ap (λ m. mark (get_or keys' m 0)) e ∙ (new ∙ ap (λ m. m + 1) (sym e))
            | inr ne ↦ old n (let long = length_push keys v in omega (arith, here, long, ne))
          ]

      only : (u n : ℕ) → mark u ≡ n + 1 → (n < length keys') × (get_or keys' n 0 ≡ u)
      only u n at =
          let long = length_push keys v in
          elim (cases_eq u v) [
            | inl e ↦ let both : n + 1 ≡ length keys + 1 = sym at ∙ (ap mark e ∙ get_or-set_same table v (length keys + 1) 0 near) in
                let count : n ≡ length keys = omega (arith, both) in
                (omega (arith, count, long), ap (λ m. get_or keys' m 0) count ∙ (get_or-append_seam keys v [] 0 ∙ sym e))
            | inr ne ↦ let there = is.only u n (sym (get_or-set_other table v u (length keys + 1) 0 ne) ∙ at) in
                let far : n < length keys = there.0 in
                (omega (arith, far, long), get_or_append_left keys (v ∷ []) 0 n far ∙ there.1)
          ]

  -- a table that says the same
  pub same-table : (other : List ℕ) → ((v : ℕ) → get_or other v 0 ≡ get_or table v 0) → IsTable keys other
  same-table other same = record {
    marked = λ n near. same (get_or keys n 0) ∙ is.marked n near;
    only = λ v n at. is.only v n (sym (same v) ∙ at);
  }
