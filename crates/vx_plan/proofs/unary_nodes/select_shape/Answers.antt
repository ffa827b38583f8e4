use Rattle.std.proofs.Common.{◌≡◌, ◌∙◌, sym, ap, subst, List, [], map, Result, Ok}
use Rattle.std.specs.List.{list_all}
use Rattle.std.specs.Arc.{arc_value}
use Rattle.std.proofs.lemmas.Result.{err_from_is_err_and}
use Rattle.vx_plan_nodes.specs.Plan as plan
use Rattle.vx_plan_nodes.specs.Outline.{Columns, filter_of, columns_of}
use Rattle.vx_plan_json.specs.Document.{filter_form}
use Rattle.vx_plan_json.specs.Fault.{Refusal, ◌>>=◌, Fails}
use Rattle.vx_plan_json.proofs.NodeFacts.{fails_then}
use Rattle.vx_plan.specs.Lookup.{test_match}
use Rattle.vx_plan.specs.Resolve.{Shape, filter_fits}
use Rattle.vx_plan.proofs.EntryShapes.{select-found}
use Rattle.vx_plan.proofs.unary_nodes.select_shape.Goals as goal

pub returns-in_err-test_match : goal.returns-in_err-test_match
returns-in_err-test_match c =
    let cols : Columns = columns_of (arc_value c.args.input.now) in
    let ks = map filter_of c.in_ok-found.found.items in
    let found = rw (c.as_slice.ensures.value, c.deref.ensures) at c.in_ok-found.ensures in
    let failed = rw (c.are_filters.ensures, c.as_slice-2.ensures.value, c.deref-2.ensures, c.as_slice-3.ensures.value) at c.in_err-test_match.ensures in
    let p = err_from_is_err_and c.from_residual-in_err-test_match.result c.from_residual-in_err-test_match.ensures.1 in
    let P : Result Shape Refusal → Type 0 = λ r. Fails c.in_err-test_match.field-0.0 r in
    rw (p.1, p.2) (subst P (sym (select-found c.args.node cols (map filter_form c.args.filters.now) ks found)) (fails_then c.in_err-test_match.field-0.0 (test_match c.args.node (list_all (filter_fits cols.types) ks)) _ failed))

pub returns : goal.returns
returns c =
    let cols : Columns = columns_of (arc_value c.args.input.now) in
    let ks = map filter_of c.in_ok-found.found.items in
    let found = rw (c.as_slice.ensures.value, c.deref.ensures) at c.in_ok-found.ensures in
    let tested = rw (c.are_filters.ensures, c.as_slice-2.ensures.value, c.deref-2.ensures, c.as_slice-3.ensures.value) at c.in_ok-test_match.ensures in
    let given : Columns → Result Shape Refusal = λ own. Ok (record { op = plan.select ks; renamed = []; columns = own }) in
    select-found c.args.node cols (map filter_form c.args.filters.now) ks found ∙ (ap (λ r. r >>= λ u. given cols) tested ∙ ap (λ a. given (columns_of a)) (sym c.in_ok-columns.ensures))
