use Rattle.std.proofs.Common.{length}
use Rattle.vx_check_annotate.proofs.staying.+are_same_lists.Given as goal

abbrev pub decreases-are_same_lists : goal.decreases-are_same_lists
decreases-are_same_lists l = length l.keys.now
