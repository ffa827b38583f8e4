use Rattle.vx_check_shown.proofs.Claimless.{part-claimless}
use Rattle.vx_check_shown.proofs.MostParts.{tells-the-most}
use Rattle.vx_check_shown.proofs.ShownParts.{part-shown}
use Rattle.vx_check_shown.proofs.TypedShown.{part-typed}
use Rattle.vx_check_shown.proofs.part_laws.shown_part_tells_the_most.Goals as goal

pub returns-clause-shown : goal.returns-clause-shown
returns-clause-shown c = part-shown

pub returns-clause-most : goal.returns-clause-most
returns-clause-most c = tells-the-most

pub returns-clause-claimless : goal.returns-clause-claimless
returns-clause-claimless c = part-claimless

pub returns-clause-typed : goal.returns-clause-typed
returns-clause-typed c = part-typed
