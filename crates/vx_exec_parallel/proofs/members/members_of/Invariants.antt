use Rattle.std.proofs.Common.{◌≡◌, ◌++◌, map, drop, length}
use Rattle.std.specs.Vec.Iter.{into_iter_items}
use Rattle.vx_rows.specs.Lists.{each_below}
use Rattle.vx_exec_parallel.specs.Places.{place_in}
use Rattle.vx_exec_parallel.specs.Members.{worker_of, ends_of, number_of, seat_of}
use Rattle.vx_exec_parallel.proofs.members.members_of.Given as goal

abbrev pub invariant-loop-worker : goal.invariant-loop-worker
invariant-loop-worker g l = record {
  next : (goal.iterator-loop-worker g).can_next l.worker-iterator;
  finite : (goal.iterator-loop-worker g).is_finite l.worker-iterator;
  count : length l.members.items ≡ l.number;
  workers : map worker_of l.members.items ++ into_iter_items l.worker-iterator ≡ l.fn.workers.items;
  ends : map ends_of l.members.items ++ into_iter_items l.rest ≡ l.fn.ends.items;
  places : map seat_of l.members.items ++ drop l.number (map place_in l.places) ≡ map place_in l.places;
  numbers : map number_of l.members.items ≡ each_below l.number (λ i. i);
}
