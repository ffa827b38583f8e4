-- What a thread promises of what it gives back, in terms of what it was given (our own).
use Rattle.std.specs.Prelude.{ℕ, List, IsSome}
use Rattle.vx_rows_values.specs.Values.{Val, Row}
use Rattle.vx_plan_nodes.specs.Routes.{Routing}
use Rattle.vx_ports.specs.Packets.{PacketView}
use Rattle.vx_ops.specs.Ledger.{Stream, Ledger, Op}
use Rattle.vx_exchange_ends.specs.Tasks.{Task, Post}
use Rattle.vx_worker.specs.Worker.{outcome_of}
use Rattle.vx_exec_threads.specs.Carrying.{hold_of}
use Rattle.vx_exec_threads.specs.Ran.{Ran}
use Rattle.vx_exec_spawn.specs.declared.member.CrewMember.{CrewMember}
use Rattle.vx_exec_spawn.specs.declared.member.Joined.{Joined}

module _ {O S : Type 0} (OS : O → Ledger → Type 0) (op : O → Op) (SS : S → Routing → Stream → (ℕ → List PacketView) → Type 0) (task : S → Task) (post : S → Post) (bounds : S → List Val)
    (hash : List ℕ → Row → ℕ → ℕ) (m : ℕ → ℕ → List Row) where
  -- the worker has ended, by steps that what its thread held carried
  pub record IsHonest (p : CrewMember O S) (j : Joined O S) : Type 0 where
    pub ended : IsSome (outcome_of j.worker)
    pub ran : Ran OS op SS task post bounds hash m p.worker (hold_of p.ends) j.worker (hold_of j.ends)
