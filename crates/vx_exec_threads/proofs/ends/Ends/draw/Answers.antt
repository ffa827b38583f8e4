use Rattle.std.proofs.Common.{rules, ◌≡◌, Some, slice_get, ap, ◌∙◌}
use Rattle.std.proofs.lemmas.Option.{slice_get_read}
use Rattle.vx_exec_threads.specs.declared.drawer.Drawer.{Drawer}
use Rattle.vx_exec_threads.specs.Carrying.{hold_of}
use Rattle.vx_exec_threads.proofs.Bearing.{carries-draw, carries-no-scan}
use Rattle.vx_exec_threads.proofs.ends.Ends.draw.Goals as goal

pub returns-in-Some-clause-does : goal.returns-in-Some-clause-does
returns-in-Some-clause-does c =
    let e = c.index_mut.result.now in
    let k = c.in-Some.k in
    let draws = c.args.self.now.draws in
    let at : slice_get draws.items k ≡ Some e = slice_get_read draws.items draws.len k e (search rules) (search rules) c.index_mut.ensures.value in
    let scan : e.scan ≡ c.args.scan = ap (λ (z : Drawer). z.scan) c.index_mut.ensures.value ∙ c.in-Some.ensures.some.1 e in
    carries-draw (hold_of c.args.self.now) k c.args.scan c.draw.result e c.draw.new.self at scan c.draw.ensures

pub returns-in-None-clause-does : goal.returns-in-None-clause-does
returns-in-None-clause-does c = carries-no-scan (hold_of c.args.self.now) c.args.scan c.in-None.ensures.none
