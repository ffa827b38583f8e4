-- One more place at which a text is cut.
use Rattle.std.proofs.Common.{◌≡◌, ℕ, ◌+◌, ◌-◌, ◌<◌, ◌≤◌, List, [], ◌∷◌, ◌++◌, true, sym, ap, subst, ◌∙◌, arith, length, drop, get_or, inl, inr}
use Rattle.std.proofs.lemmas.List.{length_push, get_or_append_left, get_or_push, drop_all}
use Rattle.std.proofs.lemmas.Bool.{cases_lt}
use Rattle.vx_catalog_loading.specs.Pieces.{may_cut_before, AreCuts}

module _ (text cuts : List ℕ) (last next : ℕ) where
  before : (i : ℕ) → i < length cuts → get_or (cuts ++ next ∷ []) i 0 ≡ get_or cuts i 0
  before i h = get_or_append_left cuts (next ∷ []) 0 i h

  here : (i : ℕ) → i ≡ length cuts → get_or (cuts ++ next ∷ []) i 0 ≡ next
  here i e = get_or_push cuts next 0 i (sym e)

  pub more_cuts : AreCuts text cuts last → last ≤ next → next ≤ length text → may_cut_before (drop next text) ≡ true → AreCuts text (cuts ++ next ∷ []) next
  more_cuts a up near cut =
      let n = length_push cuts next in
      let some = a.some in
      record {
        some = omega (arith, n);
        start = before 0 some ∙ a.start;
        rise = λ i h. elim (cases_lt (i + 1) (length cuts)) [
          | inl l ↦ let r = a.rise i l in let x = before i (omega (arith, l)) in let y = before (i + 1) l in omega (arith, r, x, y)
          | inr g ↦
              let x = before i (omega (arith, n, h)) in
              let y = here (i + 1) (omega (arith, n, h, g)) in
              let e : i ≡ length cuts - 1 = omega (arith, n, h, g) in
              let z : get_or cuts i 0 ≡ last = ap (λ k. get_or cuts k 0) e ∙ a.last in
              omega (arith, x, y, z, up)
        ];
        within = λ i h. elim (cases_lt i (length cuts)) [
          | inl l ↦ let w = a.within i l in let x = before i l in omega (arith, w, x)
          | inr g ↦ let x = here i (omega (arith, n, h, g)) in omega (arith, x, near)
        ];
        cut = λ i p h. elim (cases_lt i (length cuts)) [
          | inl l ↦ subst (λ k. may_cut_before (drop k text) ≡ true) (sym (before i l)) (a.cut i p l)
          | inr g ↦ subst (λ k. may_cut_before (drop k text) ≡ true) (sym (here i (omega (arith, n, h, g)))) cut
        ];
        last = here (length (cuts ++ next ∷ []) - 1) (omega (arith, n));
      }

-- at its end a text may be cut
pub end_cut : (text : List ℕ) (n : ℕ) → n ≡ length text → may_cut_before (drop n text) ≡ true
end_cut text n e = ap may_cut_before (drop_all n text (omega (arith, e)))
