use Rattle.std.proofs.Common.{refl}
use Rattle.vx_rows.proofs.Splice.{no_pieces}
use Rattle.vx_rows.proofs.texts.Texts.new.Goals as goal

pub returns : goal.returns
returns c = no_pieces c.new.result.items c.push.new.self.items (rw (c.in_ok-push.ensures.items, c.new-cuts.ensures.items) refl)
