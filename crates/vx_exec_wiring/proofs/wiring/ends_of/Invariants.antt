use Rattle.std.proofs.Common.{◌≡◌, ◌++◌, map}
use Rattle.std.specs.Vec.Iter.{into_iter_items}
use Rattle.vx_exec_threads.specs.Carrying.{hold_of}
use Rattle.vx_exec_wiring.specs.Giving.{holds_of}
use Rattle.vx_exec_wiring.proofs.wiring.ends_of.Given as goal

abbrev pub invariant-loop-share : goal.invariant-loop-share
invariant-loop-share l = record {
  next : (goal.iterator-loop-share).can_next l.share-iterator;
  finite : (goal.iterator-loop-share).is_finite l.share-iterator;
  held : map hold_of l.ends.items ++ holds_of (into_iter_items l.share-iterator) ≡ holds_of l.fn.shares.items;
}
