-- What a merge has still to go through of the rows at hand, from call to call.
use Rattle.std.proofs.Common.{◌≡◌, ◌-◌, ◌≤◌, length, ap, arith}
use Rattle.std.proofs.lemmas.Nat.{mul-le}
use Rattle.vx_match_merging.specs.Merged.{MergeView, HasSameInputs}
use Rattle.vx_match_merging.specs.AtHand.{pairs_at_hand}

-- as many left rows, and right rows
pub same-lefts : (a b : MergeView) → HasSameInputs a b → length b.left.rows ≡ length a.left.rows
same-lefts a b i = ap (λ t. length t.rows) i.left

pub same-rights : (a b : MergeView) → HasSameInputs a b → length b.right.rows ≡ length a.right.rows
same-rights a b i = ap (λ t. length t.rows) i.right

-- left rows were joined, or passed over
pub pairs-left : (a b : MergeView) → HasSameInputs a b → a.next ≤ b.next → pairs_at_hand b ≤ pairs_at_hand a
pairs-left a b i on =
    rw (same-lefts a b i, same-rights a b i) (mul-le (length a.left.rows - b.next) (length a.right.rows) (length a.left.rows - a.next) (length a.right.rows) (omega (arith, on)) (omega arith))
