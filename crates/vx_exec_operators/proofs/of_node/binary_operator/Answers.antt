use Rattle.std.proofs.Common.{◌≡◌, ℕ, Bool, true, false, length, List, map, ap, subst, sym, ◌∙◌}
use Rattle.vx_rows.specs.View.{AreColumns}
use Rattle.vx_plan_nodes.specs.Conditions.{conditions_of}
use Rattle.vx_plan_nodes.specs.Plan.{by_hashing, by_merging}
use Rattle.vx_plan_nodes.specs.Outline.{binary_of}
use Rattle.vx_plan_nodes.specs.Typed.{is_binary}
use Rattle.vx_ops_kernels.proofs.ColumnFacts.{join-left-columns, join-right-columns, union-types}
use Rattle.vx_match_join.proofs.SemiColumns.{semi-left-columns, semi-right-columns}
use Rattle.vx_ops.specs.Turn.{Shape}
use Rattle.vx_exec_operators.specs.Kind.{kind_types}
use Rattle.vx_exec_operators.proofs.Directions.{join-directions}
use Rattle.vx_exec_operators.proofs.of_node.binary_operator.Goals as goal

pub source-requires-clause-left : goal.source-requires-clause-left
source-requires-clause-left g c =
    subst (λ (on : List (ℕ × ℕ)). AreColumns (length c.args.left.now) (map (λ (p : ℕ × ℕ). p.0) on)) (sym (c.in_ok-on-in-HashJoin.ensures.items ∙ c.as_slice.ensures.value))
    (join-left-columns c.args.left.now c.args.right.now by_hashing c.in-HashJoin.on.items
    (subst (λ z. is_binary c.args.left.now c.args.right.now (binary_of z) ≡ true) c.in-HashJoin.is c.requires))

pub source-requires-clause-right : goal.source-requires-clause-right
source-requires-clause-right g c =
    subst (λ (on : List (ℕ × ℕ)). AreColumns (length c.args.right.now) (map (λ (p : ℕ × ℕ). p.1) on)) (sym (c.in_ok-on-in-HashJoin.ensures.items ∙ c.as_slice.ensures.value))
    (join-right-columns c.args.left.now c.args.right.now by_hashing c.in-HashJoin.on.items
    (subst (λ z. is_binary c.args.left.now c.args.right.now (binary_of z) ≡ true) c.in-HashJoin.is c.requires))

pub new-requires-clause-left : goal.new-requires-clause-left
new-requires-clause-left g c =
    subst (λ (on : List (ℕ × ℕ)). AreColumns (length c.args.left.now) (map (λ (p : ℕ × ℕ). p.0) on)) (sym c.as_slice-in-MergeJoin.ensures.value)
    (join-left-columns c.args.left.now c.args.right.now (by_merging c.in-MergeJoin.falls.items) c.in-MergeJoin.on.items
    (subst (λ z. is_binary c.args.left.now c.args.right.now (binary_of z) ≡ true) c.in-MergeJoin.is c.requires))

pub new-requires-clause-right : goal.new-requires-clause-right
new-requires-clause-right g c =
    subst (λ (on : List (ℕ × ℕ)). AreColumns (length c.args.right.now) (map (λ (p : ℕ × ℕ). p.1) on)) (sym c.as_slice-in-MergeJoin.ensures.value)
    (join-right-columns c.args.left.now c.args.right.now (by_merging c.in-MergeJoin.falls.items) c.in-MergeJoin.on.items
    (subst (λ z. is_binary c.args.left.now c.args.right.now (binary_of z) ≡ true) c.in-MergeJoin.is c.requires))

pub new-requires-clause-falls : goal.new-requires-clause-falls
new-requires-clause-falls g c =
    ap (λ (falls : List Bool). length falls) c.as_slice-falls.ensures.value
    ∙ (join-directions c.args.left.now c.args.right.now c.in-MergeJoin.falls.items c.in-MergeJoin.on.items
    (subst (λ z. is_binary c.args.left.now c.args.right.now (binary_of z) ≡ true) c.in-MergeJoin.is c.requires)
    ∙ sym (ap (λ (on : List (ℕ × ℕ)). length on) c.as_slice-in-MergeJoin.ensures.value))

pub returns-in_ok-types-in-Union-clause-right : goal.returns-in_ok-types-in-Union-clause-right
returns-in_ok-types-in-Union-clause-right g c =
    ap (λ k. (kind_types g.F.PlanFunctions k).right) c.of.ensures.kind ∙ ap (λ (x : Shape). x.right) c.new-union.ensures.types ∙ c.in_ok-types-in-Union.ensures.items
    ∙ sym (union-types c.args.left.now c.args.right.now (subst (λ z. is_binary c.args.left.now c.args.right.now (binary_of z) ≡ true) c.in-Union.is c.requires))

pub semi_join_operator-requires-clause-left : goal.semi_join_operator-requires-clause-left
semi_join_operator-requires-clause-left g c =
    subst (λ (on : List (ℕ × ℕ)). AreColumns (length c.args.left.now) (map (λ (p : ℕ × ℕ). p.0) on)) (sym (c.in_ok-matching-in-SemiJoin.ensures.on ∙ c.as_slice-in-SemiJoin.ensures.value))
    (semi-left-columns c.args.left.now c.args.right.now true c.in-SemiJoin.on.items (conditions_of c.in-SemiJoin.conditions.items)
    (subst (λ z. is_binary c.args.left.now c.args.right.now (binary_of z) ≡ true) c.in-SemiJoin.is c.requires))

pub semi_join_operator-requires-clause-right : goal.semi_join_operator-requires-clause-right
semi_join_operator-requires-clause-right g c =
    subst (λ (on : List (ℕ × ℕ)). AreColumns (length c.args.right.now) (map (λ (p : ℕ × ℕ). p.1) on)) (sym (c.in_ok-matching-in-SemiJoin.ensures.on ∙ c.as_slice-in-SemiJoin.ensures.value))
    (semi-right-columns c.args.left.now c.args.right.now true c.in-SemiJoin.on.items (conditions_of c.in-SemiJoin.conditions.items)
    (subst (λ z. is_binary c.args.left.now c.args.right.now (binary_of z) ≡ true) c.in-SemiJoin.is c.requires))

pub semi_join_operator-requires-in-AntiJoin-clause-left : goal.semi_join_operator-requires-in-AntiJoin-clause-left
semi_join_operator-requires-in-AntiJoin-clause-left g c =
    subst (λ (on : List (ℕ × ℕ)). AreColumns (length c.args.left.now) (map (λ (p : ℕ × ℕ). p.0) on)) (sym (c.in_ok-matching-in-AntiJoin.ensures.on ∙ c.as_slice-in-AntiJoin.ensures.value))
    (semi-left-columns c.args.left.now c.args.right.now false c.in-AntiJoin.on.items (conditions_of c.in-AntiJoin.conditions.items)
    (subst (λ z. is_binary c.args.left.now c.args.right.now (binary_of z) ≡ true) c.in-AntiJoin.is c.requires))

pub semi_join_operator-requires-in-AntiJoin-clause-right : goal.semi_join_operator-requires-in-AntiJoin-clause-right
semi_join_operator-requires-in-AntiJoin-clause-right g c =
    subst (λ (on : List (ℕ × ℕ)). AreColumns (length c.args.right.now) (map (λ (p : ℕ × ℕ). p.1) on)) (sym (c.in_ok-matching-in-AntiJoin.ensures.on ∙ c.as_slice-in-AntiJoin.ensures.value))
    (semi-right-columns c.args.left.now c.args.right.now false c.in-AntiJoin.on.items (conditions_of c.in-AntiJoin.conditions.items)
    (subst (λ z. is_binary c.args.left.now c.args.right.now (binary_of z) ≡ true) c.in-AntiJoin.is c.requires))
