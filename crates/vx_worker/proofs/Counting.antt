-- What is said of a worker does not depend on what it counted.
use Rattle.std.proofs.Common.{ℕ, ◌≡◌, List, Bool, refl}
use Rattle.vx_rows_values.specs.Values.{Row}
use Rattle.vx_rows_values.specs.declared.value.ColType.{ColType}
use Rattle.vx_plan_nodes.specs.Routes.{Routing}
use Rattle.vx_ports.specs.Packets.{PacketView}
use Rattle.vx_ops.specs.Ledger.{Stream, Ledger, Op}
use Rattle.vx_ops.specs.Turn.{Shape}
use Rattle.vx_ops.specs.declared.turn.Want.{Want}
use Rattle.vx_exchange_ends.specs.Tasks.{Task, Post}
use Rattle.vx_worker.specs.Trace.{Event, idle, drew_one, took_one, put_one, Trace}
use Rattle.vx_worker.specs.Answering.{Waits, none_came, none_drains, is_full, no_memory}
use Rattle.vx_worker.specs.Counts.{with_event}
use Rattle.vx_worker.specs.Intake.{IsRead, IsTake}
use Rattle.vx_worker.specs.Worker.{IsReady, IsReadyIn, StandsIn, WorkerStands}
use Rattle.vx_exec_setup.specs.declared.counts.StepCounts.{StepCounts}
use Rattle.vx_worker.specs.declared.intake.Intake.{Intake}
use Rattle.vx_worker.specs.declared.tree.Tree.{Tree}
use Rattle.vx_worker.specs.declared.worker.Worker.{Worker}
use Rattle.vx_worker.specs.declared.worker.WorkerState.{WorkerState}
use Rattle.vx_worker.specs.declared.worker.WorkerState.TheVariants.{Running, Failing, Draining, Well, Failed}

module _ {O S : Type 0} (w : Worker O S) (n : StepCounts) where
  ready-in : (post : S → Post) (is_open has_closed : S → Bool) (x : WorkerState) → IsReadyIn post is_open has_closed x w → IsReadyIn post is_open has_closed x (record w { counts = n })
  ready-in post is_open has_closed Running h = record { opens = h.opens; closing = h.closing; pending = h.pending }
  ready-in post is_open has_closed (Failing f) h = record { closing = h.closing; pending = h.pending }
  ready-in post is_open has_closed (Draining f) h = h
  ready-in post is_open has_closed Well h = h
  ready-in post is_open has_closed (Failed f) h = h

  pub ready-counted : (types : O → Shape) (post : S → Post) (is_open has_closed : S → Bool) (m : ℕ → List ColType)
      → IsReady types post is_open has_closed m w → IsReady types post is_open has_closed m (record w { counts = n })
  ready-counted types post is_open has_closed m h = record { typed = h.typed; sends = h.sends; phase = ready-in post is_open has_closed w.phase h.phase }

  pub waits-counted : (want : O → Want) (refuses : ℕ → Type 0) (lacks : Type 0) (phase : WorkerState) (tree : Tree O) (intake : Intake) (e : Event)
      → Waits want refuses lacks phase tree intake w e → Waits want refuses lacks phase tree intake (record w { counts = n }) e
  waits-counted want refuses lacks phase tree intake e (none_came x i p q r) = none_came x i p q r
  waits-counted want refuses lacks phase tree intake e (none_drains f x i p q r) = none_drains f x i p q r
  waits-counted want refuses lacks phase tree intake e (is_full to packet s p q r) = is_full to packet s p q r
  waits-counted want refuses lacks phase tree intake e (no_memory f p q r) = no_memory f p q r

  module _ (OS : O → Ledger → Type 0) (op : O → Op) (SS : S → Routing → Stream → (ℕ → List PacketView) → Type 0) (task : S → Task) (goes : Routing) (m : ℕ → ℕ → List Row) (t : Trace) where
    stands-in : (x : WorkerState) → StandsIn OS op SS task goes m x w t → StandsIn OS op SS task goes m x (record w { counts = n }) t
    stands-in Running h = record {
      reads = h.reads;
      reads_are = h.reads_are;
      ended = h.ended;
      low = h.low;
      high = h.high;
      numbered = h.numbered;
      out = h.out;
      tree = h.tree;
      sender = h.sender;
      is_over = h.is_over;
    }
    stands-in (Failing f) h = h
    stands-in (Draining f) h = h
    stands-in Well h = h
    stands-in (Failed f) h = h

    pub stands-counted : WorkerStands OS op SS task goes m w t → WorkerStands OS op SS task goes m (record w { counts = n }) t
    stands-counted h = (h.0, stands-in w.phase h.1)

-- a draw or a take is not counted as a put
pub read-counted : (k : Intake) (c : StepCounts) (e : Event) → IsRead k e → c ≡ with_event c e
read-counted k c idle h = refl
read-counted k c (drew_one n d) h = refl
read-counted k c (took_one x i o) h = refl
read-counted k c (put_one j p) h = absurd h

pub take-counted : (c : StepCounts) (e : Event) → IsTake e → c ≡ with_event c e
take-counted c idle h = refl
take-counted c (drew_one n d) h = refl
take-counted c (took_one x i o) h = refl
take-counted c (put_one j p) h = absurd h
