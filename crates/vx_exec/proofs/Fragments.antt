-- The tree of a fragment, by the node at its top.
use Rattle.std.proofs.Common.{Box, Global, Result, Ok, Err, ◌≡◌, ℕ, suc, ◌+◌, ◌≤◌, ◌<◌, ◌==◌, ◌&&◌, true, Bool, List, length, refl, sym, ap, ◌∙◌, arith, eqb-true}
use Rattle.std.specs.Prelude.{IfOk}
use Rattle.vx_rows_values.specs.declared.value.ColType.{ColType}
use Rattle.vx_rows_values.specs.declared.order.OrderEntry.{OrderEntry}
use Rattle.vx_rows_values.specs.Order.{order_columns}
use Rattle.vx_rows.specs.View.{AreColumns}
use Rattle.vx_catalog_relations.specs.Catalog.{relation_at, all_below, are_distinct}
use Rattle.vx_plan_nodes.specs.Plan.{Plan, Claim, Size, Unary, Binary, ExchangeKind, scan, unary, binary, exchange, size}
use Rattle.vx_plan_nodes.specs.Numbering.{is_numbered, nodes}
use Rattle.vx_plan_nodes.specs.Runs.{is_concat}
use Rattle.vx_plan_nodes.specs.Streams.{workers}
use Rattle.vx_plan_nodes.specs.Types.{types_of, unary_types}
use Rattle.vx_plan_nodes.specs.Under.{unary_under, under}
use Rattle.vx_plan_nodes.specs.Typed.{Scope, typed, is_kind, are_columns, may_merge, is_output}
use Rattle.vx_plan_nodes.proofs.UnderFacts.{size-under, types-under}
use Rattle.vx_ops_kernels.proofs.ColumnFacts.{columns-below}
use Rattle.vx_check_rules.specs.Checked.{relations}
use Rattle.vx_exec_laws.proofs.Bags.{and-left, and-right}
use Rattle.vx_ops.specs.Ledger.{Op, one_op, two_op, receive}
use Rattle.vx_ops.specs.Starts.{StartsWithin}
use Rattle.vx_ops.specs.Turn.{Shape, fresh_ledger}
use Rattle.vx_ops.specs.Scan.{scan_types}
use Rattle.vx_ops.specs.declared.scan.Scan.{Scan}
use Rattle.vx_worker.specs.Fragment.{alone, above, both, fragment}
use Rattle.vx_exec_operators.specs.Operator.{OperatorStands, operator_op, operator_types, operator_most, operator_idle}
use Rattle.vx_worker.specs.Trees.{shape as tree_shape}
use Rattle.vx_worker.specs.Wishes.{Numbered}
use Rattle.vx_exec_operators.specs.declared.operator.Operator.{Operator}
use Rattle.vx_exec_operators.specs.Kind.{kind_op, kind_types}
use Rattle.vx_exec_operators.specs.declared.kind.OperatorKind.TheVariants as of_kind
use Rattle.vx_worker.specs.declared.tree.Tree.{Tree, One, Two, Leaf, One', Two'}
use Rattle.vx_plan_nodes.specs.Workers.{worker_group_at}
use Rattle.vx_plan_nodes.specs.declared.functions.PlanFunctions.{Ghosts}
use Rattle.vx_exec.specs.Crew.{IsOperatorOf, IsTreeOf}
use Rattle.vx_exec.specs.Job.{model_of}
use Rattle.vx_exec.specs.declared.job.Job.{Job}

-- numbers of a range are numbers of a wider one
widened : {O : Type 0} (t : Tree O) (low high lower higher : ℕ) → lower ≤ low → high ≤ higher → Numbered low high t → Numbered lower higher t
widened (Leaf k o) low high lower higher a b h = let l = h.0 in let r = h.1 in (omega (arith, l, a), omega (arith, r, b))
widened (One' o p c) low high lower higher a b h = widened c low high lower higher a b h
widened (Two' o p a q b) low high lower higher l r h = (h.0, widened a low h.0 lower h.0 l (omega arith) h.1, widened b h.0 high h.0 higher (omega arith) r h.2)

-- a leaf that has the number of its node
leaf-numbered : (n i : ℕ) (count : ℕ) → 1 ≤ count → n ≡ i → (i ≤ n) × (n < i + count)
leaf-numbered n i count some e = (omega (arith, e), omega (arith, e, some))

pub scan-tree : {F : Type 0} (given : Ghosts F) (j : Job F) (place n : ℕ) (c : Claim) (r : ℕ) (shared : Bool) (z : Size) (o : Operator F given)
    → IsOperatorOf given j place (scan n c r shared z) o → IsTreeOf given j place (scan n c r shared z) (Leaf n o)
scan-tree given j place n c r shared z o h = record {
  shape_is = λ hash. ap (λ x. alone n x) (h.op_is hash);
  gives = h.gives;
  stands = (fresh_ledger, h.stands, record { scanned = refl; came = refl }, refl);
  starts = h.starts;
  numbered = λ i k. leaf-numbered n i 1 (omega arith) (eqb-true n i k);
  typed = λ leaves fit. h.takes ∙ fit;
}

pub exchange-tree : {F : Type 0} (given : Ghosts F) (j : Job F) (place n : ℕ) (c : Claim) (kind : ExchangeKind) (merge : List OrderEntry) (p : Plan) (o : Operator F given)
    → IsOperatorOf given j place (exchange n c kind merge p) o → IsTreeOf given j place (exchange n c kind merge p) (Leaf n o)
exchange-tree given j place n c kind merge p o h = record {
  shape_is = λ hash. ap (λ x. alone n x) (h.op_is hash);
  gives = h.gives;
  stands = (fresh_ledger, h.stands, record { scanned = refl; came = refl }, refl);
  starts = h.starts;
  numbered = λ i k. leaf-numbered n i (suc (nodes p)) (omega arith) (eqb-true n i (and-left (n == i) (is_numbered (suc i) p) k));
  typed = λ leaves fit. h.takes ∙ fit.0;
}

pub unary-tree : {F : Type 0} (given : Ghosts F) (j : Job F) (place n : ℕ) (c : Claim) (op : Unary) (p : Plan) (o : Operator F given) (b : Box (Tree (Operator F given)) Global)
    → IsOperatorOf given j place (unary n c op p) o → IsTreeOf given j place p b.value → IsTreeOf given j place (unary n c op p) (One o b)
unary-tree given j place n c op p o b h below = record {
  shape_is = λ hash. ap (λ x. above x (tree_shape (operator_op given) b.value)) (h.op_is hash) ∙ ap (λ x. above (one_op n (unary_under (given.functions j.functions) op)) x) (below.shape_is hash);
  gives = h.gives;
  stands = (fresh_ledger, h.stands, below.stands, refl);
  starts = (h.starts, below.starts);
  numbered = λ i k. widened b.value (suc i) (suc i + nodes p) i (i + suc (nodes p)) (omega arith) (omega arith) (below.numbered (suc i) (and-right (n == i) (is_numbered (suc i) p) k));
  typed = λ leaves fit. (h.takes ∙ sym below.gives, below.typed leaves fit);
}

pub binary-tree : {F : Type 0} (given : Ghosts F) (j : Job F) (place n : ℕ) (c : Claim) (op : Binary) (p q : Plan) (o : Operator F given) (a b : Box (Tree (Operator F given)) Global)
    → IsOperatorOf given j place (binary n c op p q) o → IsTreeOf given j place p a.value → IsTreeOf given j place q b.value → IsTreeOf given j place (binary n c op p q) (Two o a b)
binary-tree given j place n c op p q o a b h left right = record {
  shape_is = λ hash.
      ap (λ x. both x (tree_shape (operator_op given) a.value) (tree_shape (operator_op given) b.value)) (h.op_is hash)
      ∙ ap (λ x. both (two_op n op) x (tree_shape (operator_op given) b.value)) (left.shape_is hash)
      ∙ ap (λ x. both (two_op n op) (fragment (model_of hash j) place (under (given.functions j.functions) p)) x) (right.shape_is hash);
  gives = h.gives;
  stands = (fresh_ledger, h.stands, left.stands, right.stands, refl);
  starts = (h.starts, left.starts, right.starts);
  numbered = λ i k.
      let inputs = and-right (n == i) (is_numbered (suc i) p && is_numbered (suc i + nodes p) q) k in (
        suc i + nodes p,
        widened a.value (suc i) (suc i + nodes p) i (suc i + nodes p) (omega arith) (omega arith) (left.numbered (suc i) (and-left (is_numbered (suc i) p) (is_numbered (suc i + nodes p) q) inputs)),
        widened b.value (suc i + nodes p) (suc i + nodes p + nodes q) (suc i + nodes p) (i + suc (nodes p + nodes q)) (omega arith) (omega arith)
            (right.numbered (suc i + nodes p) (and-right (is_numbered (suc i) p) (is_numbered (suc i + nodes p) q) inputs)),
      );
  typed = λ leaves fit. (h.takes.0 ∙ sym left.gives, h.takes.1 ∙ sym right.gives, left.typed leaves fit.0, right.typed leaves fit.1);
}

pub scan-operator : {F : Type 0} (given : Ghosts F) (j : Job F) (place n : ℕ) (c : Claim) (r : ℕ) (shared : Bool) (z : Size) (s : Scan) (o : Operator F given) (types : List ColType)
    → o.kind ≡ of_kind.Scan s → OperatorStands given o fresh_ledger → StartsWithin (operator_op given o) (operator_most given o) (operator_idle given o)
    → scan_types s ≡ record { left = types; right = types; out = types }
    → types ≡ types_of (relations j.plan.now) (scan n c r shared z) → IsOperatorOf given j place (scan n c r shared z) o
scan-operator given j place n c r shared z s o types is stands starts shape e = record {
  op_is = λ hash. ap (kind_op given) is;
  stands = stands;
  starts = starts;
  takes = ap (λ k. (kind_types given k).left) is ∙ ap (λ (x : Shape). x.left) shape ∙ e;
  gives = ap (λ k. (kind_types given k).out) is ∙ ap (λ (x : Shape). x.out) shape ∙ e;
}

-- one that was made for an operator over one input, by the job's functions
pub unary-made : {F E : Type 0} (given : Ghosts F) (j : Job F) (place n : ℕ) (c : Claim) (op : Unary) (p : Plan) (functions : F) (types : List ColType) (made : Result (Operator F given) E)
    → IfOk made (λ o. operator_op given o ≡ one_op n (unary_under (given.functions functions) op))
    → IfOk made (λ o. OperatorStands given o fresh_ledger) → IfOk made (λ o. StartsWithin (operator_op given o) (operator_most given o) (operator_idle given o))
    → IfOk made (λ o. (operator_types given o).left ≡ types) → IfOk made (λ o. (operator_types given o).out ≡ unary_types op types)
    → functions ≡ j.functions → types ≡ types_of (relations j.plan.now) p → IfOk made (IsOperatorOf given j place (unary n c op p))
unary-made given j place n c op p functions types (Ok o) does stands starts reads returns same e = record {
  op_is = λ hash. does ∙ ap (λ z. one_op n (unary_under (given.functions z) op)) same;
  stands = stands;
  starts = starts;
  takes = reads ∙ e;
  gives = returns ∙ ap (λ z. unary_types op z) e;
}
unary-made given j place n c op p functions types (Err x) does stands starts reads returns same e = tt

-- the columns on which an exchange merges are columns of its rows
pub exchange-columns : (s : Scope) (n : ℕ) (c : Claim) (kind : ExchangeKind) (merge : List OrderEntry) (p : Plan) → typed s (exchange n c kind merge p) ≡ true
    → AreColumns (length (types_of (relation_at s.catalog) p)) (order_columns merge)
exchange-columns s n c kind merge p h =
    let w = length (types_of (relation_at s.catalog) p) in
    let cols = order_columns merge in
    let merges = and-right (is_kind s (types_of (relation_at s.catalog) p) kind) (are_columns w cols && (may_merge kind merge && is_output s (types_of (relation_at s.catalog) p) c))
    (and-right (typed s p) (is_kind s (types_of (relation_at s.catalog) p) kind && (are_columns w cols && (may_merge kind merge && is_output s (types_of (relation_at s.catalog) p) c))) h) in
    columns-below w cols (and-left (all_below w cols) (are_distinct cols) (and-left (are_columns w cols) (may_merge kind merge && is_output s (types_of (relation_at s.catalog) p) c) merges))

-- the consumer end of an exchange
abbrev consumes : (number place producers : ℕ) → List ColType → List OrderEntry → Bool → Op
consumes number place producers types merge in_order = receive (record { exchange = number; place = place; producers = producers; types = types; merge = merge; in_order = in_order })

-- one that was made for an exchange
pub consumer-made : {F E : Type 0} (given : Ghosts F) (j : Job F) (place n : ℕ) (c : Claim) (kind : ExchangeKind) (merge : List OrderEntry) (p : Plan) (types : List ColType) (producers : ℕ) (made : Result (Operator F given) E)
    → IfOk made (λ o. operator_op given o ≡ consumes n place producers types merge (is_concat kind))
    → IfOk made (λ o. OperatorStands given o fresh_ledger) → IfOk made (λ o. StartsWithin (operator_op given o) (operator_most given o) (operator_idle given o))
    → IfOk made (λ o. (operator_types given o).left ≡ types) → IfOk made (λ o. (operator_types given o).out ≡ types)
    → producers ≡ workers (worker_group_at j.layout.worker_groups.items) (size p) → types ≡ types_of (relations j.plan.now) p → IfOk made (IsOperatorOf given j place (exchange n c kind merge p))
consumer-made given j place n c kind merge p types producers (Ok o) op stands starts reads returns many e = record {
  op_is = λ hash.
      let sizes = worker_group_at j.layout.worker_groups.items in
      let functions = given.functions j.functions in
      op ∙ ap (λ z. consumes n place z types merge (is_concat kind)) many ∙ ap (λ z. consumes n place (workers sizes (size p)) z merge (is_concat kind)) e
      ∙ ap (λ z. consumes n place (workers sizes z) (types_of (relations j.plan.now) p) merge (is_concat kind)) (sym (size-under functions p))
      ∙ ap (λ z. consumes n place (workers sizes (size (under functions p))) z merge (is_concat kind)) (sym (types-under functions (relations j.plan.now) p));
  stands = stands;
  starts = starts;
  takes = reads ∙ e;
  gives = returns ∙ e;
}
consumer-made given j place n c kind merge p types producers (Err x) op stands starts reads returns many e = tt
