-- A node that is found in a typed plan says of its output what the plan gives it, its claimed keys name its columns, and a table that judges the plan judges it.
use Rattle.std.proofs.Common.{◌≡◌, ℕ, ◌==◌, Bool, true, false, cond, List, Option, Some, None, option_map, Bor, sym}
use Rattle.std.specs.Prelude.{IfSome}
use Rattle.vx_catalog_relations.specs.Relation.{Relation}
use Rattle.vx_catalog_relations.specs.Catalog.{relation_at}
use Rattle.vx_plan_nodes.specs.declared.typed.TypedNode.{TypedNode}
use Rattle.vx_plan_nodes.specs.Outline.{Outline, scan, unary, binary, exchange, top, outline_of, plan_in}
use Rattle.vx_plan_nodes.specs.Outputs.{HasOutputs}
use Rattle.vx_plan_nodes.specs.Plan.{Plan}
use Rattle.vx_plan_nodes.specs.Typed.{typed}
use Rattle.vx_plan_nodes.specs.TypedView.{names_in, plan, scope}
use Rattle.vx_plan_nodes.specs.declared.typed_plan.TypedPlan.{TypedPlan}
use Rattle.vx_check_rules.specs.Exactly.{KeysNameColumns}
use Rattle.vx_check_rules.specs.Refusal.{or_else}
use Rattle.vx_check_rules.specs.declared.table.Table.{Table}
use Rattle.vx_check_rules.specs.TableView.{Judges}
use Rattle.vx_check_rules.proofs.NamedKeys.{typed-keys}
use Rattle.vx_check_rules.proofs.TableFacts.{judges-under, judges-sent, judges-both}
use Rattle.vx_check_failures.specs.FailureView.{IsNodeOf}
use Rattle.vx_check_failures.specs.Lines.{if_numbered, node_numbered}

-- so it is of each outline that is found
abbrev Stands : List Relation → Plan → Outline → Type 0
Stands catalog whole o =
    HasOutputs (relation_at catalog) o × KeysNameColumns (relation_at catalog) (plan_in o) × ((table : Table) → Judges catalog table whole → Judges catalog table (plan_in o))

or-found : {X : Type 0} (P : X → Type 0) (o u : Option X) (x : X) → ((y : X) → o ≡ Some y → P y) → ((y : X) → u ≡ Some y → P y) → or_else o u ≡ Some x → P x
or-found P None u x first second h = second x h
or-found P (Some y) u x first second h = first x h

module _ (catalog : List Relation) (whole : Plan) where
  here-stands : (n : ℕ) (o x : Outline) → Stands catalog whole o → if_numbered n o ≡ Some x → Stands catalog whole x
  here-stands n o x has h = by ((top o).number == n) h
    where
      by : (b : Bool) → cond b (Some o) None ≡ Some x → Stands catalog whole x
      by true h = let is : x ≡ o = cc in rw is has
      by false h = cc

  found-stands : (n : ℕ) (o x : Outline) → Stands catalog whole o → node_numbered n o ≡ Some x → Stands catalog whole x
  found-stands n (scan h r m z p) x has e = here-stands n (scan h r m z p) x has e
  found-stands n (unary h op flags t) x has e =
      let under : Stands catalog whole t = (has.0.1, has.1.1, λ table j. judges-under catalog table h.number h.claim op (plan_in t) (has.2 table j)) in
      or-found (Stands catalog whole) (if_numbered n (unary h op flags t)) (node_numbered n t) x
      (λ y k. here-stands n (unary h op flags t) y has k) (λ y k. found-stands n t y under k) e
  found-stands n (binary h op t u) x has e =
      let left : Stands catalog whole t = (has.0.1, has.1.1, λ table j. (judges-both catalog table h.number h.claim op (plan_in t) (plan_in u) (has.2 table j)).0) in
      let right : Stands catalog whole u = (has.0.2, has.1.2, λ table j. (judges-both catalog table h.number h.claim op (plan_in t) (plan_in u) (has.2 table j)).1) in
      or-found (Stands catalog whole) (if_numbered n (binary h op t u)) (or_else (node_numbered n t) (node_numbered n u)) x
      (λ y k. here-stands n (binary h op t u) y has k)
      (λ y k. or-found (Stands catalog whole) (node_numbered n t) (node_numbered n u) y (λ z l. found-stands n t z left l) (λ z l. found-stands n u z right l) k) e
  found-stands n (exchange h k m t) x has e =
      let under : Stands catalog whole t = (has.0.1, has.1.1, λ table j. judges-sent catalog table h.number h.claim k m (plan_in t) (has.2 table j)) in
      or-found (Stands catalog whole) (if_numbered n (exchange h k m t)) (node_numbered n t) x
      (λ y l. here-stands n (exchange h k m t) y has l) (λ y l. found-stands n t y under l) e

-- the root of a typed plan, and what is found below it
root-stands : (p : TypedPlan) → HasOutputs (relation_at (names_in p).catalog) (outline_of p.root) → typed (scope p) (plan p) ≡ true → Stands (names_in p).catalog (plan p) (outline_of p.root)
root-stands p outputs typed = (outputs, typed-keys (scope p) (plan p) typed, λ table h. h)

pub found-node : (p : TypedPlan) (n : ℕ) (r : Option (Bor TypedNode)) → HasOutputs (relation_at (names_in p).catalog) (outline_of p.root) → typed (scope p) (plan p) ≡ true
    → option_map (λ x. outline_of x.now) r ≡ node_numbered n (outline_of p.root) → IfSome r (λ x. IsNodeOf p x.now)
found-node p n None outputs typed e = tt
found-node p n (Some x) outputs typed e =
    let is = found-stands (names_in p).catalog (plan p) n (outline_of p.root) (outline_of x.now) (root-stands p outputs typed) (sym e) in
    record { outputs = is.0; keys = is.1; judged = is.2 }
