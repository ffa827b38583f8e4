-- What a merge join to which nothing came has to do at most.
use Rattle.std.proofs.Common.{◌≡◌, ℕ, Bool, false, List, [], ◌++◌, length, ap, arith}
use Rattle.std.proofs.lemmas.List.{length-append}
use Rattle.vx_rows_values.specs.Values.{Row}
use Rattle.vx_plan_nodes.specs.Plan.{join, by_merging}
use Rattle.vx_match_merging.specs.Merged.{MergeView, HasJoined}
use Rattle.vx_match_merging.specs.AtHand.{lefts_at_hand}
use Rattle.vx_ops.specs.Ledger.{two_op}
use Rattle.vx_ops.specs.Starts.{StartsWithin}
use Rattle.vx_match.specs.MergeJoin.{may_join, may_idle}

none-behind : (xs ys : List Row) → xs ++ ys ≡ [] → length ys ≡ 0
none-behind xs ys e = let k = ap length e in omega (arith, length-append xs ys, k)

pub merge-starts : (n : ℕ) (falls : List Bool) (on : List (ℕ × ℕ)) (k : MergeView) → k.next ≡ length k.left.rows → k.left_ended ≡ false → k.right_ended ≡ false → HasJoined k [] [] []
    → StartsWithin (two_op n (join (by_merging falls) on)) (may_join k) (may_idle k)
merge-starts n falls on k next left right h =
    let lefts : lefts_at_hand k ≡ 0 = omega (arith, next) in
    let rights = none-behind h.passed k.right.rows h.right_is in
    record {
      rows = λ c. rw (lefts, rights) (omega arith);
      turns = λ c. rw (left, right) (omega (arith, lefts, rights));
    }
