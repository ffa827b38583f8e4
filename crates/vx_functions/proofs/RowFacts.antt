-- Rows: what is known of a text from each of its characters on.
use Rattle.std.proofs.Common.{◌≡◌, ℕ, zero, suc, ◌+◌, ◌-◌, ◌<◌, ◌≤◌, Bool, true, false, ◌&&◌, ◌||◌, List, [], ◌∷◌, ◌++◌, length, length-append, drop, replicate, refl, sym, ap, ap₂, ◌∙◌, arith, ◌≢◌, ◌⊎◌, inl, inr, slice_set, drop-cons}
use Rattle.std.specs.Prelude.{slice_index_or}
use Rattle.std.proofs.lemmas.Bool.{cases_lt}
use Rattle.std.proofs.lemmas.List.{get_or-set_same, get_or-set_other}
use Rattle.vx_functions.specs.declared.patterns.Part.{Part}
use Rattle.vx_functions.specs.Like.{is_end, anywhere, behind_one}
use Rattle.vx_functions.specs.Rows.{IsRow}

length-replicate : (n : ℕ) → length (replicate n false) ≡ n
length-replicate zero = refl
length-replicate (suc n) = ap suc (length-replicate n)

-- ---- the end

end-each : (cs : List ℕ) (i : ℕ) → i ≤ length cs → slice_index_or (replicate (length cs) false ++ true ∷ []) i false ≡ is_end (drop i cs)
end-each [] zero l = refl
end-each [] (suc i) l = absurd (omega (arith, l))
end-each (c ∷ cs) zero l = refl
end-each (c ∷ cs) (suc i) l = end-each cs i (omega (arith, l))

pub end-row : (cs : List ℕ) (n : ℕ) (row : List Bool) → length cs ≡ n → row ≡ replicate n false ++ true ∷ [] → IsRow is_end cs row
end-row cs n row l is =
    let here : row ≡ replicate (length cs) false ++ true ∷ [] = is ∙ ap (λ m. replicate m false ++ true ∷ []) (sym l) in
    record {
      long = ap length here ∙ (length-append (replicate (length cs) false) (true ∷ []) ∙ (ap (λ m. m + 1) (length-replicate (length cs)) ∙ omega arith));
      each = λ i k. ap (λ r. slice_index_or r i false) here ∙ end-each cs i k;
    }

-- ---- one place

-- past its end nothing is behind a character
pub behind-end : (test : ℕ → Bool) (f : List ℕ → Bool) (cs : List ℕ) (i : ℕ) → length cs ≤ i → behind_one test f (drop i cs) ≡ false
behind-end test f [] zero l = refl
behind-end test f [] (suc i) l = refl
behind-end test f (c ∷ cs) zero l = absurd (omega (arith, l))
behind-end test f (c ∷ cs) (suc i) l = behind-end test f cs i (omega (arith, l))

pub behind-here : (test : ℕ → Bool) (f : List ℕ → Bool) (cs : List ℕ) (i : ℕ) → i < length cs → behind_one test f (drop i cs) ≡ (test (slice_index_or cs i 0) && f (drop (suc i) cs))
behind-here test f [] i l = absurd (omega (arith, l))
behind-here test f (c ∷ cs) zero l = refl
behind-here test f (c ∷ cs) (suc i) l = behind-here test f cs i (omega (arith, l))

pub anywhere-end : (f : List ℕ → Bool) (cs : List ℕ) (i : ℕ) → i ≡ length cs → anywhere f (drop i cs) ≡ f (drop i cs)
anywhere-end f [] zero l = refl
anywhere-end f [] (suc i) l = refl
anywhere-end f (c ∷ cs) zero l = absurd (omega (arith, l))
anywhere-end f (c ∷ cs) (suc i) l = anywhere-end f cs i (omega (arith, l))

pub anywhere-here : (f : List ℕ → Bool) (cs : List ℕ) (i : ℕ) → i < length cs → anywhere f (drop i cs) ≡ (f (drop i cs) || anywhere f (drop (suc i) cs))
anywhere-here f [] i l = absurd (omega (arith, l))
anywhere-here f (c ∷ cs) zero l = refl
anywhere-here f (c ∷ cs) (suc i) l = anywhere-here f cs i (omega (arith, l))

-- ---- a row on the way

module _ (f : List ℕ → Bool) (cs : List ℕ) where
  -- the next place before those that are done
  pub anywhere-goes : (old row : List Bool) (last back place : ℕ) (holds : Bool) → IsRow f cs old → length row ≡ length old → last ≡ length old - 1 → back < last → place ≡ last - 1 - back
      → holds ≡ (slice_index_or row place false || slice_index_or row (place + 1) false)
      → ((i : ℕ) → i ≤ length cs → length cs ≤ i + back → slice_index_or row i false ≡ anywhere f (drop i cs))
      → ((i : ℕ) → i + back < last → slice_index_or row i false ≡ slice_index_or old i false)
      → (i : ℕ) → i ≤ length cs → length cs ≤ i + (back + 1) → slice_index_or (slice_set row place holds) i false ≡ anywhere f (drop i cs)
  anywhere-goes old row last back place holds is long ends more at said done left i a b = by (cases_lt (i + back) (length cs))
    where
      by : ((i + back < length cs) ⊎ (length cs ≤ i + back)) → slice_index_or (slice_set row place holds) i false ≡ anywhere f (drop i cs)
      by (inr k) =
          let l = is.long in
          let other : i ≢ place = λ e. absurd (omega (arith, l, ends, more, at, k, e)) in
          get_or-set_other row place i holds false other ∙ done i a k
      by (inl k) =
          let l = is.long in
          let here : i ≡ place = omega (arith, l, ends, more, at, k, b) in
          let within : i < length cs = omega (arith, k) in
          let inside : place < length row = omega (arith, l, long, ends, more, at) in
          let first : slice_index_or row place false ≡ f (drop i cs) =
          ap (λ j. slice_index_or row j false) (sym here) ∙ (left i (omega (arith, l, ends, k)) ∙ is.each i a) in
          let second : slice_index_or row (place + 1) false ≡ anywhere f (drop (suc i) cs) =
          let next : place + 1 ≡ suc i = omega (arith, here) in ap (λ j. slice_index_or row j false) next ∙ done (suc i) (omega (arith, within)) (omega (arith, b)) in
          ap (λ j. slice_index_or (slice_set row place holds) j false) here
          ∙ (get_or-set_same row place holds false inside ∙ (said ∙ (ap₂ (λ x y. x || y) first second ∙ sym (anywhere-here f cs i within))))

-- the parts from one place on are the part there and those from the next one on
pub parts-from : (parts : List Part) (back : ℕ) (d : Part) → back < length parts → drop (length parts - (back + 1)) parts ≡ slice_index_or parts (length parts - 1 - back) d ∷ drop (length parts - back) parts
parts-from parts back d l =
    let i : ℕ = length parts - 1 - back in
    let here : length parts - (back + 1) ≡ i = omega (arith, l) in
    let next : suc i ≡ length parts - back = omega (arith, l) in
    let within : i < length parts = omega (arith, l) in
    ap (λ n. drop n parts) here ∙ (drop-cons parts i d within ∙ ap (λ n. slice_index_or parts i d ∷ drop n parts) next)
