use Rattle.std.proofs.Common.{sym}
use Rattle.vx_check_rules.specs.DerivedView.{equality_of}
use Rattle.vx_check_rules.proofs.EqualFacts.{pairs-length}
use Rattle.vx_check_rules.proofs.equal.are_pairs_equally.Goals as goal

pub returns-then-lefts-rights : goal.returns-then-lefts-rights
returns-then-lefts-rights c =
    sym (pairs-length (equality_of c.args.left.now) (equality_of c.args.right.now) c.args.on.now c.args.lefts.now c.args.rights.now c.if-lefts-rights.true)
