use Rattle.std.proofs.Common.{rules, ◌≡◌, ◌∙◌, sym, ap, subst, true}
use Rattle.vx_catalog_relations.specs.Catalog.{relation_at}
use Rattle.vx_plan_nodes.specs.Functions.{Functions}
use Rattle.vx_plan_nodes.specs.Known.{unary_known}
use Rattle.vx_plan_nodes.specs.Outline.{unary_of, binary_of, plan_of}
use Rattle.vx_plan_nodes.specs.Plan.{Unary, Binary}
use Rattle.vx_plan_nodes.specs.Typed.{is_unary, is_binary}
use Rattle.vx_plan_nodes.specs.Types.{types_of}
use Rattle.vx_plan_nodes.specs.Under.{unary_under, under}
use Rattle.vx_plan_nodes.proofs.UnderFacts.{types-stay, types-under}
use Rattle.vx_serial.proofs.evaluation.+eval_node.Goals as goal

pub unary_rows-requires-clause-typed : goal.unary_rows-requires-clause-typed
unary_rows-requires-clause-typed g t c =
    let given : Functions = g.F.PlanFunctions.functions c.args.functions.now in
    let catalog = relation_at c.args.database.now.catalog in
    let p = plan_of c.in-Unary.input.value in
    let op : Unary = unary_of c.in-Unary.unary in
    let types : c.in_ok-rows-in-Unary.rows.types ≡ types_of catalog p = search rules in
    let fit = rw c.in-Unary.is at c.requires in
    subst (λ ts. is_unary ts op ≡ true) (sym types)
    (sym (types-stay.operators given (types_of catalog p) op) ∙ (ap (λ ts. is_unary ts (unary_under given op)) (sym (types-under given catalog p)) ∙ fit.1))

pub unary_rows-requires-clause-known : goal.unary_rows-requires-clause-known
unary_rows-requires-clause-known g t c =
    let given : Functions = g.F.PlanFunctions.functions c.args.functions.now in
    let catalog = relation_at c.args.database.now.catalog in
    let p = plan_of c.in-Unary.input.value in
    let op : Unary = unary_under given (unary_of c.in-Unary.unary) in
    let types : c.in_ok-rows-in-Unary.rows.types ≡ types_of catalog p = search rules in
    let fit = rw c.in-Unary.is at c.requires in
    subst (λ ts. unary_known ts op ≡ true) (types-under given catalog p ∙ sym types) fit.2

pub binary_rows-requires : goal.binary_rows-requires
binary_rows-requires g t c =
    let given : Functions = g.F.PlanFunctions.functions c.args.functions.now in
    let catalog = relation_at c.args.database.now.catalog in
    let p = plan_of c.in-Binary.left.value in
    let q = plan_of c.in-Binary.right.value in
    let op : Binary = binary_of c.in-Binary.binary in
    let left : c.in_ok-first-in-Binary.first.types ≡ types_of catalog p = search rules in
    let right : c.in_ok-second-in-Binary.second.types ≡ types_of catalog q = search rules in
    let fit = rw c.in-Binary.is at c.requires in
    subst (λ ts. is_binary ts c.in_ok-second-in-Binary.second.types op ≡ true) (types-under given catalog p ∙ sym left)
    (subst (λ ts. is_binary (types_of catalog (under given p)) ts op ≡ true) (types-under given catalog q ∙ sym right) fit.2)
