use Rattle.std.proofs.Common.{◌≡◌, ◌++◌, map}
use Rattle.std.specs.Vec.Iter.{into_iter_items}
use Rattle.vx_exec_assembly.specs.Parts.{worker_in, outs_in, ins_in, drawers_in}
use Rattle.vx_exec_assembly.proofs.taking.take_apart.Given as goal

abbrev pub invariant-loop-one : goal.invariant-loop-one
invariant-loop-one g l =
    (goal.iterator-loop-one g).can_next l.one-iterator
    × (goal.iterator-loop-one g).is_finite l.one-iterator
    × (l.parts.workers.items ++ map worker_in (into_iter_items l.one-iterator) ≡ map worker_in l.fn.joined.items)
    × (l.parts.outs.items ++ map outs_in (into_iter_items l.one-iterator) ≡ map outs_in l.fn.joined.items)
    × (l.parts.ins.items ++ map ins_in (into_iter_items l.one-iterator) ≡ map ins_in l.fn.joined.items)
    × (l.parts.draws.items ++ map drawers_in (into_iter_items l.one-iterator) ≡ map drawers_in l.fn.joined.items)
