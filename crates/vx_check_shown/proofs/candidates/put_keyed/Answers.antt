use Rattle.std.proofs.lemmas.Result.{on_ok_weaker}
use Rattle.vx_check_shown.proofs.Gathering.{gathers-keyed}
use Rattle.vx_check_shown.proofs.candidates.put_keyed.Goals as goal

pub returns : goal.returns
returns c = on_ok_weaker _ (λ g. gathers-keyed c.args.keyed c.other_keys.result c.args.width _ _ c.other_keys.ensures.gives c.other_keys.ensures.copies g) c.put_all.ensures
