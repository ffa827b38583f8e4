-- What a thread holds of what is shared: the ends of its rings, and what its seats and hands dealt out (our own).
use Rattle.std.specs.Prelude.{◌≡◌, ℕ, List, ◌++◌, Some, slice_get}
use Rattle.vx_worker.specs.Trace.{Trace}
use Rattle.vx_ports_rings.specs.Ends.{put_to, taken_from, SameOut}
use Rattle.vx_ports_rings.specs.declared.ring.RingOut.{RingOut}
use Rattle.vx_exec_threads.specs.declared.inlet.Inlet.{Inlet}
use Rattle.vx_exec_threads.specs.declared.drawer.Drawer.{Drawer}
use Rattle.vx_exec_threads.specs.declared.drawer.Dealer.{Dealer}
use Rattle.vx_exec_threads.specs.Inlets.{SameInlet}
use Rattle.vx_exec_threads.specs.Drawers.{DealsAs, SameDrawer}

-- the ends of the rings to each consumer, by place, and from each producer; and what gives it the morsels of each scan
pub record Hold : Type 0 where
  pub outs : List RingOut
  pub ins : List Inlet
  pub draws : List Drawer

-- each producer of an exchange, and each scan, has one place
pub record IsApart (h : Hold) : Type 0 where
  pub ins : (k l : ℕ) (e f : Inlet) → slice_get h.ins k ≡ Some e → slice_get h.ins l ≡ Some f → e.exchange ≡ f.exchange → e.from ≡ f.from → k ≡ l
  pub draws : (k l : ℕ) (x y : Drawer) → slice_get h.draws k ≡ Some x → slice_get h.draws l ≡ Some y → x.scan ≡ y.scan → k ≡ l

-- the same ends, seats and hands, at two moments
pub record SameEnds (a b : Hold) : Type 0 where
  pub outs : (j : ℕ) (o : RingOut) → slice_get a.outs j ≡ Some o → (x : RingOut) × (slice_get b.outs j ≡ Some x) × SameOut o x
  pub ins : (k : ℕ) (e : Inlet) → slice_get a.ins k ≡ Some e → (x : Inlet) × (slice_get b.ins k ≡ Some x) × SameInlet e x
  pub draws : (k : ℕ) (e : Drawer) → slice_get a.draws k ≡ Some e → (x : Drawer) × (slice_get b.draws k ≡ Some x) × SameDrawer e x

-- what it holds carried what the trace says; what lies in a queue of its own was given by the ring and taken by no step
pub record Bears (h : Hold) (t : Trace) : Type 0 where
  pub apart : IsApart h
  pub outs : (j : ℕ) (o : RingOut) → slice_get h.outs j ≡ Some o → put_to o ≡ t.sent j
  pub ins : (k : ℕ) (e : Inlet) → slice_get h.ins k ≡ Some e → taken_from e.ring ≡ t.came e.exchange e.from ++ e.queue.items
  pub draws : (k : ℕ) (x : Drawer) → slice_get h.draws k ≡ Some x → DealsAs x.dealer (t.drew x.scan)

-- worker a holds the end to consumer j
pub record OutAt (hs : List Hold) (a j : ℕ) (o : RingOut) : Type 0 where
  pub hold : Hold
  pub worker : slice_get hs a ≡ Some hold
  pub place : slice_get hold.outs j ≡ Some o

-- worker b holds the inlet from producer i of exchange n
pub record InAt (hs : List Hold) (b n i : ℕ) (e : Inlet) : Type 0 where
  pub hold : Hold
  pub worker : slice_get hs b ≡ Some hold
  pub k : ℕ
  pub place : slice_get hold.ins k ≡ Some e
  pub exchange : e.exchange ≡ n
  pub from : e.from ≡ i

-- worker a holds what gives it the morsels of scan n
pub record DrawAt (hs : List Hold) (a n : ℕ) (d : Dealer) : Type 0 where
  pub hold : Hold
  pub worker : slice_get hs a ≡ Some hold
  pub k : ℕ
  pub x : Drawer
  pub place : slice_get hold.draws k ≡ Some x
  pub scan : x.scan ≡ n
  pub dealer : x.dealer ≡ d
