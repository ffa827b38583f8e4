use Rattle.std.proofs.Common.{length}
use Rattle.vx_plan.proofs.fits.+rises.Given as goal

abbrev pub decreases-rises : goal.decreases-rises
decreases-rises l = length l.bounds.now
