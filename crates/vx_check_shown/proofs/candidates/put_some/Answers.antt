use Rattle.std.proofs.lemmas.Result.{on_ok_weaker}
use Rattle.vx_check_shown.proofs.Gathering.{gathers-some, gathers-absent}
use Rattle.vx_check_shown.proofs.candidates.put_some.Goals as goal

pub returns-in-Some : goal.returns-in-Some
returns-in-Some c = on_ok_weaker _ (λ g. gathers-some c.args.keyed c.in-Some.keyed c.args.width _ _ c.in-Some.is g) c.put_keyed.ensures

pub returns-in-None : goal.returns-in-None
returns-in-None c = gathers-absent c.args.keyed c.args.width _ c.in-None.is
