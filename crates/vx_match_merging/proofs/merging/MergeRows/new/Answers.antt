use Rattle.std.proofs.Common.{refl}
use Rattle.vx_match_merging.proofs.MergeCalls.{none-joined}
use Rattle.vx_match_merging.proofs.merging.MergeRows.new.Goals as goal

pub returns-clause-nothing : goal.returns-clause-nothing
returns-clause-nothing c = none-joined _ c.requires.alike c.in_ok-left.ensures.rows c.in_ok-right.ensures.rows refl refl
