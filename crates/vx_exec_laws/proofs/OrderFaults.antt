-- No worker of an allowed plan ends with rows that fall, or with a packet that isn't its own.
use Rattle.std.proofs.Common.{◌≡◌, ◌⊎◌, ℕ, Bool, true, ◌&&◌, List}
use Rattle.vx_rows_values.specs.declared.order.OrderEntry.{OrderEntry}
use Rattle.vx_rows_values.specs.Values.{Row}
use Rattle.vx_plan_nodes.specs.Plan.{by_hashing, by_merging, Claim, Binary, union, join, Plan, scan, unary, binary, exchange, size, claim, is_one, semi_join, left_order, right_order}
use Rattle.vx_check_rules.specs.Rules.{is_front, order_given, allowed, allowed_here}
use Rattle.vx_check_rules.specs.Claims.{Given}
use Rattle.vx_worker.specs.Fragment.{goes, RunModel, fragment}
use Rattle.vx_worker.specs.Trace.{Trace, failed, Ends}
use Rattle.vx_exchange_ends.specs.Tasks.{keep}
use Rattle.vx_ops.specs.declared.fault.Fault.{Fault}
use Rattle.vx_exec_laws.specs.RunOf.{RunOf}
use Rattle.vx_exec_laws.specs.Faults.{FailsBelow, IsOrderFault, NoOrderFault}
use Rattle.vx_exec_laws.proofs.Settings.{set-given}
use Rattle.vx_exec_laws.proofs.Bags.{and-left, and-right}
use Rattle.vx_exec_laws.proofs.Orders.{sorted-front}
use Rattle.vx_exec_laws.proofs.OneInput.{tests}
use Rattle.vx_exec_laws.proofs.Inherited.{IsAllowed, first-inherited}
use Rattle.vx_exec_laws.proofs.Tidy.{tidy}
use Rattle.vx_exec_laws.proofs.Received.{SortedSoFar}
use Rattle.vx_exec_laws.proofs.NeededOrders.{NeededOf, NeededSoFar, no-order-fault-by}

module _ (S : RunModel) (giv : Given S.catalog S.db S.sizes (goes S)) where
  -- what a worker of an allowed plan has given so far is sorted on each list that begins the claimed order
  rising : (p : Plan) → IsAllowed S p → (ts : ℕ → Trace) → RunOf S (Ends S) p ts → (order : List OrderEntry) → is_front order (claim p).order ≡ true → SortedSoFar S p ts order
  rising p ok ts run order begins x =
      sorted-front order (claim p).order begins x.out.rows (tidy S giv p ok.0 ok.1.0 ok.1.1 ts run x.place x.below x.reads x.begins x.out x.abides).0.1

  both-asked : (n : ℕ) (c : Claim) (op : Binary) (p q : Plan) → IsAllowed S p → IsAllowed S q → order_given (binary n c op p q) ≡ true
      → (ts : ℕ → Trace) → RunOf S (Ends S) p ts → RunOf S (Ends S) q ts → NeededOf S op p q ts
  both-asked n c union p q okp okq t ts run more = tt
  both-asked n c (join by_hashing on) p q okp okq t ts run more = tt
  both-asked n c (semi_join matched on conditions) p q okp okq t ts run more = tt
  both-asked n c (join (by_merging falls) on) p q okp okq t ts run more =
      let lefts : List OrderEntry = left_order falls on in
      let rights : List OrderEntry = right_order falls on in
      let left : Bool = is_front lefts (claim p).order in
      let right : Bool = is_front rights (claim q).order in
      (rising p okp ts run lefts (and-left left right t), rising q okq ts more rights (and-right left right t))

  -- what each node has been given so far is in the order that it asks for
  needed : (p : Plan) → IsAllowed S p → (ts : ℕ → Trace) (run : RunOf S (Ends S) p ts) → NeededSoFar S p ts run
  needed (scan n c r m z) ok ts run = tt
  needed (unary n c op p) ok ts run = needed p ((first-inherited S).input n c op p ok) ts run
  needed (binary n c op p q) ok ts run =
      let okp = (first-inherited S).left n c op p q ok in
      let okq = (first-inherited S).right n c op p q ok in
      let here : Bool = allowed_here S.catalog (binary n c op p q) in
      let t = tests S.catalog (binary n c op p q) (and-right (allowed S.catalog q) here (and-right (allowed S.catalog p) (allowed S.catalog q && here) ok.1.1)) in
      (both-asked n c op p q okp okq t.3 ts run.0 run.1, needed p okp ts run.0, needed q okq ts run.1)
  needed (exchange n c k merge p) ok ts run =
      let okp = (first-inherited S).sent n c k merge p ok in
      let t = tests S.catalog (exchange n c k merge p) (and-right (allowed S.catalog p) (allowed_here S.catalog (exchange n c k merge p)) ok.1.1) in
      (rising p okp run.0 run.1 merge t.3, needed p okp run.0 run.1)

  -- all workers ended, and one of them with an order fault
  pub no-order-fault-of-run : (p : Plan) → IsAllowed S p → is_one (size p) ≡ true → (ts : ℕ → Trace) (kept : List Row) (root : Ends S (fragment S 0 p) (keep kept) (ts 0)) (run : RunOf S (Ends S) p ts)
      → (f : Fault) → IsOrderFault f → (root.0 ≡ failed f) ⊎ FailsBelow S f p ts run → ⊥
  no-order-fault-of-run p ok single ts kept root run f o h = no-order-fault-by S giv p ok.0 single ts kept root run (needed p ok ts run) f o h

pub no-order-fault : NoOrderFault
no-order-fault S set p fit wf ok single t kept root run f o h =
    no-order-fault-of-run S (set-given S set) p (fit, (wf, ok)) single (λ _. t) kept root run f o h
