-- What an event of a worker does to what its thread holds (our own).
use Rattle.std.specs.Prelude.{◌≡◌, ℕ, ◌⊎◌, true, [], Some, None, slice_get}
use Rattle.vx_ports.specs.Packets.{is_closed}
use Rattle.vx_worker.specs.Trace.{Trace, Event, idle, drew_one, took_one, put_one, added}
use Rattle.vx_ports_rings.specs.Ends.{put_to, room_of, seen_by}
use Rattle.vx_ports_rings.specs.declared.ring.RingOut.{RingOut}
use Rattle.vx_exec_threads.specs.Holds.{Hold, IsApart, Bears, SameEnds}
use Rattle.vx_exec_threads.specs.declared.inlet.Inlet.{Inlet}
use Rattle.vx_exec_threads.specs.declared.ends.Ends.{Ends}

-- what these ends are, as plain data
abbrev pub hold_of : Ends → Hold
hold_of e = record { outs = e.outs.items; ins = e.ins.items; draws = e.draws.items }

-- no packet of this producer waits: none in the queue, and none in the ring as this thread saw it
abbrev pub NoneWaits : Hold → (exchange from : ℕ) → Type 0
NoneWaits h x i =
    IsApart h → (k : ℕ) (e : Inlet) → slice_get h.ins k ≡ Some e → e.exchange ≡ x → e.from ≡ i → (e.queue.items ≡ []) × (seen_by e.ring ≡ [])

-- what an event found: a take that found nothing was at a producer of which no packet waits
abbrev pub Finds : Event → Hold → Type 0
Finds idle h = Unit {0}
Finds (drew_one n d) h = Unit {0}
Finds (took_one x i None) h = NoneWaits h x i
Finds (took_one x i (Some p)) h = Unit {0}
Finds (put_one j p) h = Unit {0}

-- the ends stay the same ones, and what carried a trace carries it with the event
pub record Carries (a : Hold) (e : Event) (b : Hold) : Type 0 where
  pub same : SameEnds a b
  pub bears : (t : Trace) → Bears a t → Bears b (added t e)
  pub finds : Finds e b

abbrev pub Does : Ends → Event → Ends → Type 0
Does a e b = Carries (hold_of a) e (hold_of b)

-- the ring to this consumer, if there is one, was closed, or has no place that this thread knows to be free
abbrev pub IsFullAt : Ends → ℕ → Type 0
IsFullAt e to = (o : RingOut) → slice_get e.outs.items to ≡ Some o → (is_closed (put_to o) ≡ true) ⊎ (room_of o ≡ 0)
