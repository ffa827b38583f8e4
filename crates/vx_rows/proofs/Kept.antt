-- Numbers that stay where others are added behind them.
use Rattle.std.proofs.Common.{◌≡◌, ◌∙◌, ◌++◌, List, ℤ, pos, length, slice_index_or, ap, arith}
use Rattle.std.proofs.lemmas.List.{length-append}
use Rattle.std.proofs.Math.ListN.{get_or-append}
use Rattle.vx_rows.specs.Numbers.{KeepsNumbers}

pub keeps-more : (xs ys zs : List ℤ) → zs ≡ xs ++ ys → KeepsNumbers xs zs
keeps-more xs ys zs e =
    let long = ap length e ∙ length-append xs ys in
    record {
      long = omega (arith, long);
      kept = λ k near. ap (λ l. slice_index_or l k (pos 0)) e ∙ get_or-append xs ys (pos 0) k near;
    }
