use Rattle.std.proofs.Common.{rules, ◌≡◌, Some, slice_get, subst, sym, true}
use Rattle.std.proofs.lemmas.Option.{slice_get_read}
use Rattle.vx_exec_threads.specs.Inlets.{is_way}
use Rattle.vx_exec_threads.specs.Carrying.{hold_of}
use Rattle.vx_exec_threads.proofs.Bearing.{carries-stranger, carries-taken}
use Rattle.vx_exec_threads.proofs.ends.Ends.take.Goals as goal

pub returns-in-None-clause-does : goal.returns-in-None-clause-does
returns-in-None-clause-does c = carries-stranger (hold_of c.args.self.now) c.args.exchange c.args.from c.in-None.ensures.none

pub returns-in-Some-clause-does : goal.returns-in-Some-clause-does
returns-in-Some-clause-does c =
    let e = c.index_mut.result.now in
    let k = c.in-Some.k in
    let ins = c.args.self.now.ins in
    let at : slice_get ins.items k ≡ Some e = slice_get_read ins.items ins.len k e (search rules) (search rules) c.index_mut.ensures.value in
    let way : is_way e c.args.exchange c.args.from ≡ true = subst (λ z. is_way z c.args.exchange c.args.from ≡ true) (sym c.index_mut.ensures.value) (c.in-Some.ensures.some.1 e) in
    carries-taken (hold_of c.args.self.now) k c.args.exchange c.args.from c.take.result e c.take.new.self at way c.take.ensures.some c.take.ensures.none
