use Rattle.std.proofs.Common.{sym}
use Rattle.vx_check_rules.proofs.PairFacts.{pairs-length}
use Rattle.vx_check_rules.proofs.pairs.are_pairs.Goals as goal

pub returns-then-lefts-rights : goal.returns-then-lefts-rights
returns-then-lefts-rights c = sym (pairs-length c.args.on.now c.args.lefts.now c.args.rights.now c.if-lefts-rights.true)
