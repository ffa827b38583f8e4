-- No worker of a plan that the rule table with what is known of columns allows ends with rows that fall, or with a packet that isn't its own.
use Rattle.std.proofs.Common.{◌≡◌, ◌⊎◌, ℕ, ◌+◌, true, List}
use Rattle.vx_rows_values.specs.Values.{Row}
use Rattle.vx_plan_nodes.specs.Plan.{Plan, size, is_one}
use Rattle.vx_ops.specs.declared.fault.Fault.{Fault}
use Rattle.vx_exchange_ends.specs.Tasks.{keep}
use Rattle.vx_worker.specs.Fragment.{RunModel, IsSet, fragment}
use Rattle.vx_worker.specs.Trace.{Trace, failed, Ends}
use Rattle.vx_exec_laws.specs.RunOf.{RunOf}
use Rattle.vx_exec_laws.specs.Faults.{FailsBelow, IsOrderFault}
use Rattle.vx_exec_laws.specs.DerivedFaults.{NoOrderFaultDerived, NumberedOrdersDerived}
use Rattle.vx_exec_laws.proofs.Settings.{set-given}
use Rattle.vx_exec_laws.proofs.Layouts.{flat-to-run}
use Rattle.vx_exec_laws.proofs.Numbered.{fails-so}
use Rattle.vx_exec_laws.proofs.CutPlaces.{Fine}
use Rattle.vx_exec_laws.proofs.CutLaws.{meeting, fine}
use Rattle.vx_exec_laws.proofs.NeededOrders.{no-order-fault-by}
use Rattle.vx_exec_laws.proofs.CutOrders.{needed-so-far}

-- all workers ended, and one of them with an order fault
pub no-order-fault-derived-of-run : (S : RunModel) → IsSet S → (p : Plan) → Fine S p → is_one (size p) ≡ true
    → (ts : ℕ → Trace) (kept : List Row) (root : Ends S (fragment S 0 p) (keep kept) (ts 0)) (run : RunOf S (Ends S) p ts)
    → (f : Fault) → IsOrderFault f → (root.0 ≡ failed f) ⊎ FailsBelow S f p ts run → ⊥
no-order-fault-derived-of-run S set p fine_is single ts kept root run f o h =
    no-order-fault-by S (set-given S set) p fine_is.fit single ts kept root run
    (needed-so-far S (set-given S set) set.some_morsel (meeting S set) p fine_is ts run) f o h

pub no-order-fault-derived : NoOrderFaultDerived
no-order-fault-derived S set p fit wf inputs ok single t kept root run f o h =
    no-order-fault-derived-of-run S set p (fine S p fit wf inputs ok) single (λ _. t) kept root run f o h

pub numbered-orders-derived : NumberedOrdersDerived
numbered-orders-derived S set p fit wf inputs ok single ts f o h =
    no-order-fault-derived-of-run S set p (fine S p fit wf inputs ok) single (λ w. ts (0 + w)) h.kept h.root (flat-to-run S (Ends S) ts p 0 1 h.below) f o
    (fails-so S p ts f h)
