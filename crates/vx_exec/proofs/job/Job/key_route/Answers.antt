use Rattle.std.proofs.Common.{◌≡◌, true, List, map, ap, subst, sym, ◌∙◌}
use Rattle.vx_rows_values.specs.Values.{Val}
use Rattle.vx_rows_values.specs.ValueView.{val_of}
use Rattle.vx_plan_nodes.specs.Outline.{route_of}
use Rattle.vx_plan_nodes.specs.Typed.{is_routed, rises}
use Rattle.vx_plan_nodes.specs.TypedView.{scope, names_in}
use Rattle.vx_exec.specs.Bounds.{route_bounds}
use Rattle.vx_exec.proofs.Dealing.{range-there, declared-bounds, declared-rise}
use Rattle.vx_exec.proofs.job.Job.key_route.Goals as goal

pub new-requires : goal.new-requires
new-requires g c =
    let p = c.args.self.now.plan.now in
    let k = c.in-Range.number in
    let there = range-there (scope p) c.args.types.now k c.args.columns.now (subst (λ z. is_routed (scope p) c.args.types.now (route_of z) c.args.columns.now ≡ true) c.in-Range.is c.requires) in
    let are = c.ranges-in-Range.ensures ∙ ap (λ z. (names_in z).ranges) c.plan.ensures.same in
    let same = declared-bounds (names_in p).ranges c.ranges-in-Range.result.now k c.index-ranges-number.result are there c.index-ranges-number.is in
    subst (λ (z : List Val). rises z ≡ true) (sym (c.in_ok-bounds-in-Range.ensures ∙ ap (map val_of) c.as_slice.ensures.value ∙ same))
    (declared-rise (scope p).ranges k p.ranges_are there)

pub returns-in_ok-bounds-in-Range-clause-bounds : goal.returns-in_ok-bounds-in-Range-clause-bounds
returns-in_ok-bounds-in-Range-clause-bounds g c =
    let p = c.args.self.now.plan.now in
    let k = c.in-Range.number in
    let there = range-there (scope p) c.args.types.now k c.args.columns.now (subst (λ z. is_routed (scope p) c.args.types.now (route_of z) c.args.columns.now ≡ true) c.in-Range.is c.requires) in
    let are = c.ranges-in-Range.ensures ∙ ap (λ z. (names_in z).ranges) c.plan.ensures.same in
    let same = declared-bounds (names_in p).ranges c.ranges-in-Range.result.now k c.index-ranges-number.result are there c.index-ranges-number.is in
    subst (λ z. c.new.result ≡ route_bounds (scope p).ranges (route_of z)) (sym c.in-Range.is)
    (c.new.ensures ∙ c.in_ok-bounds-in-Range.ensures ∙ ap (map val_of) c.as_slice.ensures.value ∙ same)
