-- A worked run that is well and one that fails: so what the laws ask of traces can be met.
use Rattle.std.specs.Prelude.{◌≡◌, ℕ, zero, suc, true, false, pos, List, [], ◌∷◌}
use Rattle.vx_rows_values.specs.Values.{num, Row}
use Rattle.vx_rows_values.specs.declared.value.ColType.TheVariants.{Int}
use Rattle.vx_plan_nodes.specs.Plan.{one_worker, group_of, one, any, sum, group, plain, gather, Plan, scan, unary, exchange}
use Rattle.vx_ports.specs.Packets.{brings, last, PacketView}
use Rattle.vx_worker.specs.Fragment.{RunModel, fragment}
use Rattle.vx_worker.specs.Trace.{Trace, IsWell, failed, Ends}
use Rattle.vx_exchange_ends.specs.Tasks.{keep}
use Rattle.vx_ops.specs.declared.fault.Code.TheVariants.{Overflow}
use Rattle.vx_ops.specs.declared.fault.Fault.TheVariants.{Own}
use Rattle.vx_exec_laws.specs.RunOf.{RunOf}

abbrev pub row : ℕ → Row
row zero = num (pos 1) ∷ []
row (suc i) = num (pos 2) ∷ []

abbrev pub setting : RunModel
setting = record {
  catalog = λ r. record { name = []; names = []; types = Int ∷ []; keys = []; order = [] };
  db = λ r. row 0 ∷ row 1 ∷ [];
  relation_of = λ k. 0;
  sizes = λ k. 2;
  hash = λ name key n. 0;
  bounds = λ k. [];
  packet = 1;
  morsel = 1;
}

abbrev pub plan : Plan
plan = exchange 0 (record { part = one; order = []; keys = [] }) gather [] (scan 1 (record { part = any; order = []; keys = [] }) 0 true (group_of 0))

-- one row and Last to consumer 0
abbrev pub put : ℕ → ℕ → List PacketView
put i zero = record { exchange = 0; from = i; to = 0; types = Int ∷ []; content = brings (row i ∷ []) } ∷ record { exchange = 0; from = i; to = 0; types = Int ∷ []; content = last } ∷ []
put i (suc j) = []

abbrev pub producer : ℕ → Trace
producer i = record { drew = λ n. record { numbers = i ∷ []; met_end = true }; came = λ n j. []; sent = put i }

abbrev pub consumer : Trace
consumer = record { drew = λ n. record { numbers = []; met_end = false }; came = λ n i. put i 0; sent = λ j. [] }

-- these traces are those of a run
abbrev pub SampleRun : Type 0
SampleRun = IsWell setting (fragment setting 0 plan) (keep (row 1 ∷ row 0 ∷ [])) consumer × RunOf setting (IsWell setting) plan (λ _. consumer)

-- a run that fails: one worker groups two rows whose sum leaves 64 bits
abbrev pub large : RunModel
large = record {
  catalog = λ r. record { name = []; names = []; types = Int ∷ []; keys = []; order = [] };
  db = λ r. (num (pos 9223372036854775807) ∷ []) ∷ (num (pos 1) ∷ []) ∷ [];
  relation_of = λ k. 0;
  sizes = λ k. 2;
  hash = λ name key n. 0;
  bounds = λ k. [];
  packet = 1;
  morsel = 2;
}

abbrev pub summing : Plan
summing =
    unary 0 (record { part = one; order = []; keys = [] }) (group plain [] (sum 0 ∷ []))
    (scan 1 (record { part = one; order = []; keys = [] }) 0 false one_worker)

abbrev pub summer : Trace
summer = record { drew = λ n. record { numbers = 0 ∷ []; met_end = true }; came = λ n i. []; sent = λ j. [] }

abbrev pub FailedRun : Type 0
FailedRun = (root : Ends large (fragment large 0 summing) (keep []) summer) × RunOf large (Ends large) summing (λ _. summer) × (root.0 ≡ failed (Own Overflow 0))
