-- The rows at hand that a merge has still to go through: each call that can go on leaves fewer of them.
use Rattle.std.specs.Prelude.{ℕ, ◌+◌, ◌-◌, ◌*◌, length}
use Rattle.vx_match_merging.specs.Merged.{MergeView}

-- the left rows at hand that were not joined yet
abbrev pub lefts_at_hand : MergeView → ℕ
lefts_at_hand s = length s.left.rows - s.next

-- the right rows at hand behind the run, which were not compared with a left row yet
abbrev pub rights_at_hand : MergeView → ℕ
rights_at_hand s = length s.right.rows - s.end

-- both
abbrev pub rows_at_hand : MergeView → ℕ
rows_at_hand s = lefts_at_hand s + rights_at_hand s

-- the rows that the left rows at hand can still make with the right rows at hand
abbrev pub pairs_at_hand : MergeView → ℕ
pairs_at_hand s = lefts_at_hand s * length s.right.rows
