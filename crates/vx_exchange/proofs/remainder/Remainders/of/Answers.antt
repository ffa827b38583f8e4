use Rattle.std.proofs.Common.{◌^◌, refl, arith}
use Rattle.vx_exchange.proofs.RemainderFacts.{remainder-found}
use Rattle.vx_exchange.proofs.remainder.Remainders.of.Goals as goal

pub returns : goal.returns
returns c =
    let s = c.args.self.now in
    remainder-found (2 ^ 32) (2 ^ 64) s.by c.args.number s.scale refl s.some (omega arith) (omega arith) s.scaled
