use Rattle.std.proofs.Common.{◌∙◌, sym}
use Rattle.vx_match.proofs.MergeJoins.{join-ends}
use Rattle.vx_match.proofs.merge_join.MergeJoin.conclude.Goals as goal

pub returns-in-End-clause-stands : goal.returns-in-End-clause-stands
returns-in-End-clause-stands c l h =
    let s = c.args.self.now in
    join-ends s.node s.falls.items s.on.items s.kernel s.kernel l s.over c.requires.running h (sym c.needs.ensures ∙ c.in-End.is)
