use Rattle.vx_check_rules.proofs.Exact.{fits-exactly}
use Rattle.vx_check_rules.proofs.laws.fits_exactly.Goals as goal

pub returns : goal.returns
returns c = fits-exactly
