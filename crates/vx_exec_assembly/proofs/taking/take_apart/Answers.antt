use Rattle.std.proofs.Common.{rules, ◌≡◌, ◌∷◌, map, refl}
use Rattle.std.specs.Vec.Iter.{into_iter_items}
use Rattle.vx_exec_assembly.specs.Parts.{worker_in, outs_in, ins_in, drawers_in}
use Rattle.vx_exec_assembly.proofs.Lists.{moves}
use Rattle.vx_exec_assembly.proofs.taking.take_apart.Goals as goal

pub loop-one-preserved : goal.loop-one-preserved
loop-one-preserved g c =
    let was = c.loop-one.invariant in
    let left = into_iter_items c.loop-one.one-iterator in
    let rest = into_iter_items c.next.new.self in
    let one = c.in-Some.one in
    let next : left ≡ one ∷ rest = search rules in
    let old = c.loop-one.parts in
    let new = c.add_one.new.parts in
    let all = c.args.joined.items in
    let done = c.in_ok-add_one.ensures in (
      tt,
      tt,
      moves worker_in old.workers.items new.workers.items one (worker_in one) left rest (map worker_in all) done.workers refl next was.2,
      moves outs_in old.outs.items new.outs.items one (outs_in one) left rest (map outs_in all) done.outs refl next was.3,
      moves ins_in old.ins.items new.ins.items one (ins_in one) left rest (map ins_in all) done.ins refl next was.4,
      moves drawers_in old.draws.items new.draws.items one (drawers_in one) left rest (map drawers_in all) done.draws refl next was.5,
    )
