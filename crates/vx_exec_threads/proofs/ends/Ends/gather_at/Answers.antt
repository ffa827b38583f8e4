use Rattle.std.proofs.Common.{rules, ◌≡◌, Some, slice_get}
use Rattle.std.proofs.lemmas.Option.{slice_get_read}
use Rattle.vx_exec_threads.specs.Carrying.{hold_of}
use Rattle.vx_exec_threads.proofs.Bearing.{carries-idle, carries-gather}
use Rattle.vx_exec_threads.proofs.Queues.{stays-self, stays-taken, filled-set}
use Rattle.vx_exec_threads.proofs.ends.Ends.gather_at.Goals as goal

pub returns-then-place-len-clause-does : goal.returns-then-place-len-clause-does
returns-then-place-len-clause-does c = carries-idle (hold_of c.args.self.now)

pub returns-clause-does : goal.returns-clause-does
returns-clause-does c =
    let e = c.index_mut.result.now in
    let ins = c.args.self.now.ins in
    let at : slice_get ins.items c.args.place ≡ Some e = slice_get_read ins.items ins.len c.args.place e (search rules) (search rules) c.index_mut.ensures.value in
    carries-gather (hold_of c.args.self.now) c.args.place e c.gather.new.self at c.gather.ensures.keeps

pub returns-then-place-len-clause-still : goal.returns-then-place-len-clause-still
returns-then-place-len-clause-still c = λ e. stays-self c.args.self.now.ins.items

pub returns-clause-still : goal.returns-clause-still
returns-clause-still c =
    let e = c.index_mut.result.now in
    let ins = c.args.self.now.ins in
    let at : slice_get ins.items c.args.place ≡ Some e = slice_get_read ins.items ins.len c.args.place e (search rules) (search rules) c.index_mut.ensures.value in
    stays-taken ins.items c.args.place e c.gather.new.self c.gather.result at c.gather.ensures.still

pub returns-clause-filled : goal.returns-clause-filled
returns-clause-filled c =
    let e = c.index_mut.result.now in
    let ins = c.args.self.now.ins in
    let at : slice_get ins.items c.args.place ≡ Some e = slice_get_read ins.items ins.len c.args.place e (search rules) (search rules) c.index_mut.ensures.value in
    filled-set ins.items c.args.place e c.gather.new.self c.gather.result at c.gather.ensures.filled
