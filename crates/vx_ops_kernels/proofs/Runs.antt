-- A list that is filtered by copying its runs.
use Rattle.std.proofs.Common.{◌≡◌, ℕ, suc, ◌+◌, ◌-◌, ◌<◌, ◌≤◌, List, [], ◌∷◌, ◌++◌, length, take, drop, get_or, ap, ◌∙◌, arith}
use Rattle.std.specs.List.{slice_range}
use Rattle.std.proofs.Math.Seq.{take-suc}
use Rattle.std.proofs.lemmas.List.{get_or-drop, length-drop}

-- one element more at the end of a run
pub longer-run : {X : Type 0} (xs : List X) (start i : ℕ) (d : X) → start ≤ i → i < length xs → slice_range xs start (i + 1) ≡ slice_range xs start i ++ get_or xs i d ∷ []
longer-run xs start i d s l =
    let n : i + 1 - start ≡ suc (i - start) = omega (arith, s) in
    let m : length (drop start xs) ≡ length xs - start = length-drop start xs in
    let at : start + (i - start) ≡ i = omega (arith, s) in
    ap (λ k. take k (drop start xs)) n
    ∙ take-suc (drop start xs) (i - start) d (omega (arith, m, s, l))
    ∙ ap (λ x. take (i - start) (drop start xs) ++ x ∷ []) (get_or-drop start xs (i - start) d ∙ ap (λ k. get_or xs k d) at)
