-- No worker ends with rows that fall, where what each node has been given so far is in the order that it asks for.
use Rattle.std.proofs.Common.{◌≡◌, ◌⊎◌, ⊎_elim, ℕ, ◌<◌, true, List, subst, arith, refl, sym, ap, ◌∙◌, true≢false}
use Rattle.vx_rows_values.specs.Values.{Row}
use Rattle.vx_rows_values.specs.Order.{sorted}
use Rattle.vx_plan_nodes.specs.Plan.{by_hashing, by_merging, Unary, select, project, distinct, sort, group, limit, Binary, union, join, semi_join, Plan, scan, unary, binary, exchange, size, is_one, left_order, right_order}
use Rattle.vx_plan_nodes.specs.Streams.{workers}
use Rattle.vx_plan_nodes.specs.Numbering.{is_fit}
use Rattle.vx_check_rules.specs.Claims.{Given}
use Rattle.vx_ops.specs.Ledger.{Stream, Ledger, one_op, two_op, OwnBlame}
use Rattle.vx_ops.specs.declared.fault.Code.TheVariants.{Overflow, NoMemory, Unsorted, Stranger}
use Rattle.vx_ops.specs.declared.fault.Fault.{Fault}
use Rattle.vx_ops.specs.declared.fault.Fault.TheVariants.{Own, Passed}
use Rattle.vx_exchange_ends.specs.Tasks.{keep}
use Rattle.vx_worker.specs.Fragment.{RunModel, goes, fragment}
use Rattle.vx_worker.specs.Trace.{Trace, failed, IsNoMemory, Ends}
use Rattle.vx_exec_laws.specs.RunOf.{RunOf}
use Rattle.vx_exec_laws.specs.Faults.{FailsBelow, IsOrderFault}
use Rattle.vx_exec_laws.specs.CutRows.{Output}
use Rattle.vx_exec_laws.proofs.Parts.{one-worker}
use Rattle.vx_exec_laws.proofs.Strangers.{stranger-blameless}
use Rattle.vx_exec_laws.proofs.Received.{SortedSoFar, came-sorted}
use Rattle.vx_exec_laws.proofs.CutOrigins.{on-left, on-right, same-size, fit-left, fit-right}
use Rattle.vx_exec_laws.proofs.Blameless.{Blameless, ends-without, below-without}

-- a merge join asks for both inputs in the order of the columns that it pairs, in its directions
abbrev pub NeededOf : (S : RunModel) → Binary → (p q : Plan) → (ℕ → Trace) → Type 0
NeededOf S union p q ts = Unit {0}
NeededOf S (join by_hashing on) p q ts = Unit {0}
NeededOf S (semi_join matched on conditions) p q ts = Unit {0}
NeededOf S (join (by_merging falls) on) p q ts = SortedSoFar S p ts (left_order falls on) × SortedSoFar S q ts (right_order falls on)

-- and a merging exchange for what each producer gives in the order that it merges on
abbrev pub NeededSoFar : (S : RunModel) (p : Plan) (ts : ℕ → Trace) → RunOf S (Ends S) p ts → Type 0
NeededSoFar S (scan n c r m z) ts run = Unit {0}
NeededSoFar S (unary n c op p) ts run = NeededSoFar S p ts run
NeededSoFar S (binary n c op p q) ts run = NeededOf S op p q ts × NeededSoFar S p ts run.0 × NeededSoFar S q ts run.1
NeededSoFar S (exchange n c k merge p) ts run = SortedSoFar S p run.0 merge × NeededSoFar S p run.0 run.1

one-sorted : (n node : ℕ) (op : Unary) (h : Ledger) → OwnBlame (one_op n op) h (Own Unsorted node) → ⊥
one-sorted n node (select fs) h b = b
one-sorted n node (project es) h b = b
one-sorted n node (distinct cols) h b = b
one-sorted n node (sort of_parts order) h b = b
one-sorted n node (group phase by aggregates) h b = b
one-sorted n node (limit m) h b = b

two-sorted : (S : RunModel) (n node : ℕ) (op : Binary) (p q : Plan) (ts : ℕ → Trace) → NeededOf S op p q ts → (x : Output S p ts) (y : Output S q ts) (h : Ledger) → x.out ≡ h.left → y.out ≡ h.right
    → OwnBlame (two_op n op) h (Own Unsorted node) → ⊥
two-sorted S n node union p q ts need x y h left right b = b
two-sorted S n node (join by_hashing on) p q ts need x y h left right b = b
two-sorted S n node (semi_join matched on conditions) p q ts need x y h left right b = b
two-sorted S n node (join (by_merging falls) on) p q ts need x y h left right b = ⊎_elim
    (λ f. true≢false (sym (need.0 x) ∙ (ap (λ (s : Stream). sorted (left_order falls on) s.rows) left ∙ f)))
    (λ f. true≢false (sym (need.1 y) ∙ (ap (λ (s : Stream). sorted (right_order falls on) s.rows) right ∙ f)))
    b.1

module _ (S : RunModel) (giv : Given S.catalog S.db S.sizes (goes S)) where
  pub sorted-blameless : (node : ℕ) (p : Plan) → is_fit S.relation_of p ≡ true → (ts : ℕ → Trace) (run : RunOf S (Ends S) p ts) → NeededSoFar S p ts run → Blameless S (Own Unsorted node) p ts run
  sorted-blameless node (scan n c r m z) fit ts run need = λ x b. b
  sorted-blameless node (unary n c op p) fit ts run need = ((λ x. one-sorted n node op x.abides.0), sorted-blameless node p fit ts run need)
  sorted-blameless node (binary n c op p q) fit ts run need = (
    (λ x. two-sorted S n node op p q ts need.0 (on-left S n c op p q ts x) (on-right S n c op p q ts (same-size S n c op p q fit) x) x.abides.0 refl refl),
    sorted-blameless node p (fit-left S n c op p q fit) ts run.0 need.1,
    sorted-blameless node q (fit-right S n c op p q fit) ts run.1 need.2,
  )
  sorted-blameless node (exchange n c k merge p) fit ts run need = (
    (λ x b. true≢false (sym (came-sorted S giv n c k merge p ts run x merge need.0 b.1.0 b.1.1) ∙ b.1.2)),
    sorted-blameless node p fit run.0 run.1 need.1,
  )

  -- all workers ended, and one of them with rows that fall, or with a packet that isn't its own
  pub no-order-fault-by : (p : Plan) → is_fit S.relation_of p ≡ true → is_one (size p) ≡ true
      → (ts : ℕ → Trace) (kept : List Row) (root : Ends S (fragment S 0 p) (keep kept) (ts 0)) (run : RunOf S (Ends S) p ts) → NeededSoFar S p ts run
      → (f : Fault) → IsOrderFault f → (root.0 ≡ failed f) ⊎ FailsBelow S f p ts run → ⊥
  no-order-fault-by p fit single ts kept root run need f o h =
      let P : ℕ → Type 0 = λ m. 0 < m in
      let first : 0 < workers S.sizes (size p) = subst P (sym (one-worker S.sizes (size p) single)) (omega arith) in
      let blameless = none f o in
      ⊎_elim (ends-without S f blameless.0 p fit ts run blameless.1 0 first (keep kept) root) (below-without S f blameless.0 p fit ts run blameless.1) h
    where
      none : (f : Fault) → IsOrderFault f → (IsNoMemory f → ⊥) × Blameless S f p ts run
      none (Own Overflow node) o = absurd o
      none (Own NoMemory node) o = absurd o
      none (Own Unsorted node) o = ((λ m. m), sorted-blameless node p fit ts run need)
      none (Own Stranger node) o = ((λ m. m), stranger-blameless S node p ts run)
      none Passed o = absurd o
