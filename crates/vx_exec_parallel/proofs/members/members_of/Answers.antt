use Rattle.std.proofs.Common.{rules, ◌≡◌, ℕ, ◌+◌, ◌<◌, [], ◌++◌, length, map, drop, get_or, refl, sym, ap, ◌∙◌, arith}
use Rattle.std.specs.Vec.Iter.{into_iter_items}
use Rattle.std.proofs.lemmas.List.{length_push, length-map, get_or-map, drop_all}
use Rattle.vx_exec_spawn.specs.declared.member.CrewMember.{CrewMember}
use Rattle.vx_exec_parallel.specs.declared.places.FragmentPlace.{FragmentPlace}
use Rattle.vx_exec_parallel.specs.Places.{place_in}
use Rattle.vx_exec_parallel.specs.Members.{worker_of, ends_of, number_of, seat_of}
use Rattle.vx_exec.proofs.Each.{each-begun, each-mapped}
use Rattle.vx_exec_parallel.proofs.Lists.{moved, all-moved, next-at, some-left, none-left, below-all, taken-all}
use Rattle.vx_exec_parallel.proofs.members.members_of.Goals as goal

pub loop-worker-init : goal.loop-worker-init
loop-worker-init g c =
    let none = c.in_ok-members.ensures.items in
    record {
      next = tt;
      finite = tt;
      count = ap length none;
      workers = ap (λ z. map worker_of z ++ into_iter_items c.into_iter-worker-iterator.result) none ∙ search rules;
      ends = ap (λ z. map ends_of z ++ into_iter_items c.into_iter-rest.result) none ∙ search rules;
      places = ap (λ z. map seat_of z ++ map place_in c.args.places.now) none;
      numbers = ap (λ z. map number_of z) none ∙ each-begun (λ (i : ℕ). i) [];
    }

pub unreachable-requires : goal.unreachable-requires
unreachable-requires g c =
    let inv = c.loop-worker.invariant in
    let none : length (into_iter_items c.loop-worker.rest) ≡ 0 = search rules in
    some-left worker_of ends_of c.loop-worker.members.items (into_iter_items c.loop-worker.worker-iterator) (into_iter_items c.next.new.self) c.args.workers.items c.in-Some.worker
    (into_iter_items c.loop-worker.rest) c.args.ends.items c.in-Some.ensures.steps.0 none inv.workers inv.ends c.requires.ends

pub offset_bounds-places-number : goal.offset_bounds-places-number
offset_bounds-places-number g c =
    let inv = c.loop-worker.invariant in
    let below = below-all worker_of c.loop-worker.members.items (into_iter_items c.loop-worker.worker-iterator) (into_iter_items c.next.new.self) c.args.workers.items c.in-Some.worker
    c.in-Some.ensures.steps.0 inv.workers in
    let count = inv.count in
    let few = c.requires.few in
    let places = c.requires.places in
    omega (arith, below, count, few, places)

pub loop-worker-preserved : goal.loop-worker-preserved
loop-worker-preserved g c =
    let inv = c.loop-worker.invariant in
    let ms = c.loop-worker.members.items in
    let new = c.push.new.self.items in
    let k = c.loop-worker.number in
    let seats = map place_in c.args.places.now in
    let zero : FragmentPlace = record { fragment = 0; place = 0 } in
    let at : FragmentPlace = get_or c.args.places.now k zero in
    let worker = c.in-Some.worker in
    let ends = c.in-Some-next.ends in
    let m : CrewMember g.row.O.Denot g.row.S.Denot = record { number = k; fragment = at.fragment; place = at.place; worker = worker; ends = ends } in
    let more = c.in_ok-push.ensures.items in
    let below = below-all worker_of ms (into_iter_items c.loop-worker.worker-iterator) (into_iter_items c.next.new.self) c.args.workers.items worker c.in-Some.ensures.steps.0 inv.workers in
    let count = inv.count in
    let places = c.requires.places in
    let lt : k < length c.args.places.now = omega (arith, below, count, places) in
    let long = length-map c.args.places.now place_in in
    record {
      next = tt;
      finite = tt;
      count = ap length more ∙ length_push ms m ∙ ap (λ z. z + 1) count;
      workers = moved worker_of ms new m (into_iter_items c.loop-worker.worker-iterator) (into_iter_items c.next.new.self) c.args.workers.items worker more c.in-Some.ensures.steps.0 refl inv.workers;
      ends = moved ends_of ms new m (into_iter_items c.loop-worker.rest) (into_iter_items c.next-in-loop-worker.new.self) c.args.ends.items ends more c.in-Some-next.ensures.items refl inv.ends;
      places = moved seat_of ms new m (drop k seats) (drop (k + 1) seats) seats (place_in at) more
          (next-at seats k (place_in at) (omega (arith, lt, long)) (sym (get_or-map place_in c.args.places.now k zero (place_in at) lt))) refl inv.places;
      numbers = each-mapped number_of (λ i. i) k [] ms new m more refl inv.numbers;
    }

pub returns-clause-ends : goal.returns-clause-ends
returns-clause-ends g c =
    let inv = c.loop-worker.invariant in
    let none : length (into_iter_items c.loop-worker.worker-iterator) ≡ 0 = search rules in
    all-moved ends_of c.loop-worker.members.items (into_iter_items c.loop-worker.rest) c.args.ends.items
    (none-left worker_of ends_of c.loop-worker.members.items (into_iter_items c.loop-worker.worker-iterator) c.args.workers.items (into_iter_items c.loop-worker.rest) c.args.ends.items
    none inv.workers inv.ends c.requires.ends)
    inv.ends

pub returns-clause-places : goal.returns-clause-places
returns-clause-places g c =
    let inv = c.loop-worker.invariant in
    let none : length (into_iter_items c.loop-worker.worker-iterator) ≡ 0 = search rules in
    let seats = map place_in c.args.places.now in
    let all = taken-all worker_of c.loop-worker.members.items (into_iter_items c.loop-worker.worker-iterator) c.args.workers.items none inv.workers in
    let count = inv.count in
    let places = c.requires.places in
    let long = length-map c.args.places.now place_in in
    all-moved seat_of c.loop-worker.members.items (drop c.loop-worker.number seats) seats (drop_all c.loop-worker.number seats (omega (arith, all, count, places, long))) inv.places
