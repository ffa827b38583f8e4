use Rattle.std.proofs.Common.{length}
use Rattle.vx_check_options.proofs.copies.+copied_lists.Given as goal

abbrev pub decreases-copied_lists : goal.decreases-copied_lists
decreases-copied_lists l = length l.columns.now
