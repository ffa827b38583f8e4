use Rattle.std.proofs.Common.{length}
use Rattle.vx_check_annotate.proofs.possible.+put_falls.Given as goal

abbrev pub decreases-put_falls : goal.decreases-put_falls
decreases-put_falls l = length l.on.now
