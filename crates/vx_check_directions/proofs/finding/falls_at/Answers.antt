use Rattle.std.proofs.Common.{◌≡◌, ◌∙◌, ℕ, List, Bool, map, IfOk, sym, ap, ap₂, subst}
use Rattle.vx_catalog_relations.specs.Catalog.{relation_at}
use Rattle.vx_plan_nodes.specs.Outline.{binary_of, plan_of}
use Rattle.vx_plan_nodes.specs.Plan.{Binary, Plan}
use Rattle.vx_check_rules.specs.declared.table.Table.{Table}
use Rattle.vx_check_rules.specs.TableView.{derives}
use Rattle.vx_check_directions.specs.Turned.{falls_at}
use Rattle.vx_check_directions.specs.Directed.{asks, agreed, falls_of}
use Rattle.vx_check_directions.specs.Finding.{AreMerged}
use Rattle.vx_check_directions.proofs.AskingSteps.{left-asked, right-asked}
use Rattle.vx_check_directions.proofs.finding.falls_at.Goals as goal

pub asks-requires : goal.asks-requires
asks-requires c =
    let p : Plan = plan_of c.args.left.now in
    let q : Plan = plan_of c.args.right.now in
    let P : Binary → Type 0 = λ o. AreMerged c.requires.0 c.args.table.now o p q in
    rw c.as_slice-on.ensures.value (c.requires.0, left-asked c.requires.0 c.args.table.now _ c.in-MergeJoin.on.items p q (subst P (ap binary_of c.in-MergeJoin.is) c.requires.1))

pub asks-requires-in-MergeJoin : goal.asks-requires-in-MergeJoin
asks-requires-in-MergeJoin c =
    let p : Plan = plan_of c.args.left.now in
    let q : Plan = plan_of c.args.right.now in
    let P : Binary → Type 0 = λ o. AreMerged c.requires.0 c.args.table.now o p q in
    rw c.as_slice-on.ensures.value (c.requires.0, right-asked c.requires.0 c.args.table.now c.asks.new.table _ c.in-MergeJoin.on.items p q (subst P (ap binary_of c.in-MergeJoin.is) c.requires.1) c.in_ok-lefts-in-MergeJoin.ensures.stays)

pub returns-in_ok-rights-in-MergeJoin-clause-falls : goal.returns-in_ok-rights-in-MergeJoin-clause-falls
returns-in_ok-rights-in-MergeJoin-clause-falls c = λ catalog h.
    let C = relation_at catalog in
    let p : Plan = plan_of c.args.left.now in
    let q : Plan = plan_of c.args.right.now in
    let old : Table = c.args.table.now in
    let mid : Table = c.asks.new.table in
    let on : List (ℕ × ℕ) = c.in-MergeJoin.on.items in
    let P : Binary → Type 0 = λ o. AreMerged catalog old o p q in
    let merged = subst P (ap binary_of c.in-MergeJoin.is) h in
    let one : c.in_ok-lefts-in-MergeJoin.lefts.items ≡ asks (derives old) C p (map (λ x. x.0) on) =
    (rw c.as_slice-on.ensures.value at c.in_ok-lefts-in-MergeJoin.ensures.asks) catalog (left-asked catalog old _ on p q merged) in
    let two : c.in_ok-rights-in-MergeJoin.rights.items ≡ asks (derives mid) C q (map (λ x. x.1) on) =
    (rw c.as_slice-on.ensures.value at c.in_ok-rights-in-MergeJoin.ensures.asks) catalog (right-asked catalog old mid _ on p q merged c.in_ok-lefts-in-MergeJoin.ensures.stays) in
    let same : asks (derives mid) C q (map (λ x. x.1) on) ≡ asks (derives old) C q (map (λ x. x.1) on) = ap (λ b. asks b C q (map (λ x. x.1) on)) c.in_ok-lefts-in-MergeJoin.ensures.stays.same in
    let all : agreed c.as_slice.result.now c.as_slice-in-MergeJoin.result.now ≡ falls_at (falls_of (derives old) C) (binary_of c.args.operator.now) p q =
    ap₂ agreed (c.as_slice.ensures.value ∙ one) (c.as_slice-in-MergeJoin.ensures.value ∙ (two ∙ same)) ∙ sym (ap (λ o. falls_at (falls_of (derives old) C) o p q) (ap binary_of c.in-MergeJoin.is)) in
    let R : List Bool → Type 0 = λ falls. IfOk c.agreed.result (λ v. v.items ≡ falls) in
    subst R all c.agreed.ensures
