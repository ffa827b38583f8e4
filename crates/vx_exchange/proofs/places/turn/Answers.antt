use Rattle.std.proofs.Math.Nat.{add-mod-mod}
use Rattle.vx_exchange.proofs.places.turn.Goals as goal

pub returns : goal.returns
returns c = add-mod-mod c.args.next c.args.behind c.args.n
