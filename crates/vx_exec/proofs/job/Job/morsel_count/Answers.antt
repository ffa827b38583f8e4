use Rattle.std.proofs.Common.{arith}
use Rattle.std.proofs.Math.Nat.{div-le_of_le-mul}
use Rattle.vx_exec.proofs.job.Job.morsel_count.Goals as goal

pub overflow_add-result : goal.overflow_add-result
overflow_add-result g c = let few = c.rows.ensures.few in let some = c.args.self.now.within.morsel in omega (arith, few, some, c.len-rows.ensures)

pub returns-clause-few : goal.returns-clause-few
returns-clause-few g c =
    let few = c.rows.ensures.few in let some = c.args.self.now.within.morsel in
    div-le_of_le-mul c.args.self.now.morsel (omega (arith, few, some, c.len-rows.ensures))
