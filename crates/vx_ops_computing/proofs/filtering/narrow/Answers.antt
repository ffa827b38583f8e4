use Rattle.vx_ops_computing.proofs.Choosing.{mask-computed}
use Rattle.vx_ops_computing.proofs.filtering.narrow.Goals as goal

pub returns-in_ok-operand-in-Computed-clause-mask : goal.returns-in_ok-operand-in-Computed-clause-mask
returns-in_ok-operand-in-Computed-clause-mask g c fs is =
    let answers = rw c.deref.ensures at c.in_ok-operand-in-Computed.ensures.answers in
    rw c.in-Computed.is (mask-computed c.args.chunk.now.types fs _ c.args.chunk.now.rows c.in_ok-operand-in-Computed.operand c.args.mask.now c.leave.new.mask is answers c.leave.ensures)
